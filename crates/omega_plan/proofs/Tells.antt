-- What an index tells, when machines are changed and when it is told.
use Rattle.std.proofs.Common.{◌≡◌, ℕ, zero, suc, append_assoc, slice_get, ◌+◌, ◌<◌, Bool, true, false, ◌||◌, ◌&&◌, nat_eq, List, [], ◌∷◌, ◌++◌, map, set, length, take, drop, append-nil, position, Option, Some, None, not, refl, sym, ap, ap₂, ◌∙◌, subst, arith, if◌then◌else◌, ◌==◌}
use Rattle.std.specs.List.{filter, zip, position_or_len, IsDistinct, AllByRecursion as Each}
use Rattle.std.proofs.lemmas.Bool.{both_ways, eq-eqb, eqb-true, le-leb, ltb-true}
use Rattle.std.proofs.lemmas.List.{drop_all, length-map, take_all}
use Rattle.std.proofs.lemmas.Option.{cond_some, none-some, same_Some}
use Rattle.std.proofs.lemmas.Map.Keys.{IsDistinct-head, IsDistinct-tail}
use Rattle.omega_model.specs.Cell.{Cell, is_on, total, use_on}
use Rattle.omega_model.specs.Machines.{numbers_of, is_listed}
use Rattle.omega_model.specs.Need.{minus}
use Rattle.omega_model.specs.Touches.{is_commit, is_placed, is_claimed}
use Rattle.omega_model.specs.declared.cells.Machine.{Machine}
use Rattle.omega_model.specs.declared.cells.Need.{Need}
use Rattle.omega_model.specs.declared.cells.Task.{Task}
use Rattle.omega_model.specs.declared.claims.Claim.{Claim}
use Rattle.omega_model.specs.declared.claims.Judgement.{Judgement}
use Rattle.omega_model.specs.declared.claims.Txn.{Txn}
use Rattle.omega_model.specs.declared.entries.Entry.{Entry}
use Rattle.omega_model.specs.declared.entries.Entry.TheVariants.{Round, MachineAdd, MachineUpdate, MachineRemove, AttrSet, AttrDelete, End, Commit}
use Rattle.omega_machines.specs.declared.MachineState.{MachineState}
use Rattle.omega_machines.specs.Table.{machines_of, free_at, free_if_up}
use Rattle.omega_running.specs.Staying.{stays_against}
use Rattle.omega_board.specs.Board.{IsCounted}
use Rattle.omega_board.proofs.Boards.{recounted-same}
use Rattle.omega_board.proofs.Numbered.{differ_back, others_behind, unlisted_behind}
use Rattle.omega_board.proofs.Places.{each_get}
use Rattle.omega_plan.specs.Telling.{TellsBut, TellsOf, free_on, freed_of, freed_on, frees_of, is_this_or, placed}
use Rattle.omega_model.proofs.Lists.{by_answer, each_of, filter_every}

-- what could be freed on a machine depends on the tasks on it alone
pub freed_same : (prec : ℕ) (m : Machine) (old now : List Task) → filter (is_on m.id) now ≡ filter (is_on m.id) old → freed_on prec old m ≡ freed_on prec now m
freed_same prec m old now same =
    ap (λ ts. if m.up then Some (minus m.cap (total (filter (stays_against prec) ts))) else None) (sym same)

-- no task is of a lower precedence than the least
freed_least : (tasks : List Task) (m : Machine) → freed_on 0 tasks m ≡ free_on tasks m
freed_least tasks m =
    ap (λ ts. if m.up then Some (minus m.cap (total ts)) else None)
    (filter_every (stays_against 0) (filter (is_on m.id) tasks) (each_of (λ (t : Task). stays_against 0 t ≡ true) (λ t. le-leb 0 t.spec.prec (omega arith)) (filter (is_on m.id) tasks)))

-- so for the least one that is what is free
pub frees_least : (cell : Cell) → freed_of 0 cell ≡ frees_of cell
frees_least cell = each cell.machines
  where
    each : (ms : List Machine) → map (freed_on 0 cell.tasks) ms ≡ map (free_on cell.tasks) ms
    each [] = refl
    each (m ∷ ms) = ap₂ (λ (x : Option Need) xs. x ∷ xs) (freed_least cell.tasks m) (each ms)

-- an index has a place for each machine
pub told_length : (stale : ℕ → Bool) (prec : ℕ) (tasks : List Task) (frees : List (Option Need)) (ms : List Machine) → TellsBut stale prec tasks frees ms → length frees ≡ length ms
told_length stale prec tasks [] [] told = refl
told_length stale prec tasks [] (m ∷ ms) told = absurd told
told_length stale prec tasks (f ∷ fs) [] told = absurd told
told_length stale prec tasks (f ∷ fs) (m ∷ ms) told = ap suc (told_length stale prec tasks fs ms told.1)

-- it tells all where no machine is left out
pub told_all : (prec : ℕ) (tasks : List Task) (frees : List (Option Need)) (ms : List Machine) → TellsBut (λ id. false) prec tasks frees ms → frees ≡ map (freed_on prec tasks) ms
told_all prec tasks [] [] told = refl
told_all prec tasks [] (m ∷ ms) told = absurd told
told_all prec tasks (f ∷ fs) [] told = absurd told
told_all prec tasks (f ∷ fs) (m ∷ ms) told = ap₂ (λ (x : Option Need) xs. x ∷ xs) (told.0 refl) (told_all prec tasks fs ms told.1)

-- while other tasks run that are the same on some machines, it tells of those
pub tells_while : (stale : ℕ → Bool) (prec : ℕ) (old now : List Task) → ((id : ℕ) → stale id ≡ false → filter (is_on id) now ≡ filter (is_on id) old) → (ms : List Machine)
    → TellsBut stale prec now (map (freed_on prec old) ms) ms
tells_while stale prec old now same [] = tt
tells_while stale prec old now same (m ∷ ms) = (λ fresh. freed_same prec m old now (same m.id fresh), tells_while stale prec old now same ms)

-- a machine that isn't listed needn't be left out
pub tells_unlisted : (stale : ℕ → Bool) (prec : ℕ) (tasks : List Task) (id : ℕ) (frees : List (Option Need)) (ms : List Machine) → is_listed id ms ≡ false
    → TellsBut (λ n. id == n || stale n) prec tasks frees ms → TellsBut stale prec tasks frees ms
tells_unlisted stale prec tasks id [] [] absent told = tt
tells_unlisted stale prec tasks id [] (m ∷ ms) absent told = absurd told
tells_unlisted stale prec tasks id (f ∷ fs) [] absent told = absurd told
tells_unlisted stale prec tasks id (f ∷ fs) (m ∷ ms) absent told =
    by_answer (m.id == id)
    (λ t. absurd (both_ways true (rw t at absent) refl))
    (λ other.
    let differ : (id == m.id) ≡ false = differ_back m.id id other in (
      λ fresh. told.0 (rw (differ, fresh) refl),
      tells_unlisted stale prec tasks id fs ms (rw other at absent) told.1,
    ))

-- a machine that is counted has so much free
counted_free : (tasks : List Task) (s : MachineState) → IsCounted tasks s → free_if_up s ≡ free_on tasks s.machine
counted_free tasks s counted =
    let free : s.free ≡ minus s.machine.cap (use_on tasks s.machine.id) = ap (λ (x : MachineState). x.free) (sym (recounted-same tasks s counted)) in
    ap (λ (n : Need). if s.machine.up then Some n else None) free

free_there : (tasks : List Task) (table : List MachineState) (place : ℕ) (m : Machine) → IsDistinct nat_eq (numbers_of (machines_of table)) → Each (IsCounted tasks) table
    → slice_get (machines_of table) place ≡ Some m → free_at table m.id ≡ free_on tasks m
free_there tasks [] place m distinct counted at = absurd (none-some m at)
free_there tasks (s ∷ ss) zero m distinct counted at =
    let same : s.machine ≡ m = same_Some s.machine m at in
    subst (λ (k : Machine). free_at (s ∷ ss) k.id ≡ free_on tasks k) same
    (let here : (s.machine.id == s.machine.id) ≡ true = eq-eqb _ _ refl in
    rw here (counted_free tasks s counted.0))
free_there tasks (s ∷ ss) (suc place) m distinct counted at =
    let other : (s.machine.id == m.id) ≡ false =
    differ_back m.id s.machine.id (each_get (λ (r : Machine). (r.id == s.machine.id) ≡ false) (machines_of ss) place m (others_behind s.machine (machines_of ss) distinct) at) in
    rw other (free_there tasks ss place m (IsDistinct-tail nat_eq s.machine.id (numbers_of (machines_of ss)) distinct) counted.1 at)

-- what is free at a place is what could be freed for the least precedence
pub least_there : (tasks : List Task) (table : List MachineState) (place : ℕ) (m : Machine) → IsDistinct nat_eq (numbers_of (machines_of table)) → Each (IsCounted tasks) table
    → slice_get (machines_of table) place ≡ Some m → free_at table m.id ≡ freed_on 0 tasks m
least_there tasks table place m distinct counted at = free_there tasks table place m distinct counted at ∙ sym (freed_least tasks m)

-- a machine that is told of at its place is left out no more
pub tells_put : (stale : ℕ → Bool) (prec : ℕ) (tasks : List Task) (id : ℕ) (ms : List Machine) (frees : List (Option Need)) (place : ℕ) (value : Option Need)
    → IsDistinct nat_eq (numbers_of ms) → position_or_len (λ machine. machine.id == id) ms ≡ place → place < length ms
    → ((m : Machine) → slice_get ms place ≡ Some m → value ≡ freed_on prec tasks m)
    → TellsBut (λ n. id == n || stale n) prec tasks frees ms → TellsBut stale prec tasks (set frees place value) ms
tells_put stale prec tasks id [] frees place value distinct is below value_is told = absurd (omega (arith, below))
tells_put stale prec tasks id (m ∷ ms) [] place value distinct is below value_is told = absurd told
tells_put stale prec tasks id (m ∷ ms) (f ∷ fs) place value distinct is below value_is told =
    by_answer (m.id == id)
    (λ t.
    let here : 0 ≡ place = rw t at is in
    let others : Each (λ n. nat_eq id n ≡ false) (numbers_of ms) =
    subst (λ k. Each (λ n. nat_eq k n ≡ false) (numbers_of ms)) (eqb-true _ _ t) (IsDistinct-head nat_eq m.id (numbers_of ms) distinct) in
    let own : (k : Machine) → slice_get (m ∷ ms) 0 ≡ Some k → value ≡ freed_on prec tasks k =
    subst (λ p. (k : Machine) → slice_get (m ∷ ms) p ≡ Some k → value ≡ freed_on prec tasks k) (sym here) value_is in
    subst (λ p. TellsBut stale prec tasks (set (f ∷ fs) p value) (m ∷ ms)) here
    (λ fresh. own m refl, tells_unlisted stale prec tasks id fs ms (unlisted_behind id ms others) told.1))
    (λ other.
    let behind : ℕ = position_or_len (λ machine. machine.id == id) ms in
    let counted_on : 1 + behind ≡ place = rw other at is in
    let next : suc behind ≡ place = omega (arith, counted_on) in
    let differ : (id == m.id) ≡ false = differ_back m.id id other in
    let later : (k : Machine) → slice_get (m ∷ ms) (suc behind) ≡ Some k → value ≡ freed_on prec tasks k =
    subst (λ p. (k : Machine) → slice_get (m ∷ ms) p ≡ Some k → value ≡ freed_on prec tasks k) (sym next) value_is in
    subst (λ p. TellsBut stale prec tasks (set (f ∷ fs) p value) (m ∷ ms)) next (
      λ fresh. told.0 (rw (differ, fresh) refl),
      tells_put stale prec tasks id ms fs behind value (IsDistinct-tail nat_eq m.id (numbers_of ms) distinct) refl (omega (arith, below, next)) later told.1,
    ))

-- no place is missing where each machine has one
none_missing : (frees : List (Option Need)) (rows : List Machine) → length frees ≡ length rows → placed rows frees ≡ frees
none_missing frees rows same =
    ap (λ (more : List Machine). frees ++ map (λ _. None) more) (drop_all (length frees) rows (omega (arith, same))) ∙ append-nil frees

-- one more place behind the others is one that was missing
pub one_more_place : (frees after : List (Option Need)) (rows : List Machine) → length frees < length rows → after ≡ frees ++ None ∷ []
    → placed rows after ≡ placed rows frees
one_more_place frees after rows below is = ap (placed rows) is ∙ pushed frees rows below
  where
    pushed : (fs : List (Option Need)) (rs : List Machine) → length fs < length rs → placed rs (fs ++ None ∷ []) ≡ placed rs fs
    pushed [] [] less = absurd (omega arith)
    pushed [] (r ∷ rs) less = refl
    pushed (f ∷ fs) [] less = absurd (omega arith)
    pushed (f ∷ fs) (r ∷ rs) less = ap (λ xs. f ∷ xs) (pushed fs rs (omega arith))

-- an index with a place for each machine gets no further one
pub tells_placed : (stale : ℕ → Bool) (prec : ℕ) (tasks : List Task) (frees : List (Option Need)) (ms : List Machine) → TellsBut stale prec tasks frees ms
    → TellsBut stale prec tasks (placed ms frees) ms
tells_placed stale prec tasks frees ms told =
    subst (λ fs. TellsBut stale prec tasks fs ms) (sym (none_missing frees ms (told_length stale prec tasks frees ms told))) told

-- a machine was told of at its position
pub told_at : (stale : ℕ → Bool) (prec : ℕ) (tasks : List Task) (id : ℕ) (table shown : List MachineState) (frees after : List (Option Need)) (place : ℕ) (value : Option Need)
    → shown ≡ table → IsDistinct nat_eq (numbers_of (machines_of table)) → Some place ≡ position (λ machine. machine.id == id) (machines_of shown)
    → ((m : Machine) → slice_get (machines_of table) place ≡ Some m → value ≡ freed_on prec tasks m)
    → after ≡ set frees place value → TellsBut (λ n. id == n || stale n) prec tasks frees (machines_of table) → TellsBut stale prec tasks after (machines_of table)
told_at stale prec tasks id table shown frees after place value same distinct placed is written told =
    let found = cond_some _ _ _ (sym (subst (λ t. Some place ≡ position (λ machine. machine.id == id) (machines_of t)) same placed)) in
    let below : place < length (machines_of table) = subst (λ p. p < length (machines_of table)) found.1 (ltb-true _ _ found.0) in
    subst (λ fs. TellsBut stale prec tasks fs (machines_of table)) (sym written)
    (tells_put stale prec tasks id (machines_of table) frees place value distinct found.1 below is told)

-- it tells as much where as much is left out
pub tells_where : (s t : ℕ → Bool) → ((id : ℕ) → t id ≡ false → s id ≡ false) → (prec : ℕ) (tasks : List Task) (frees : List (Option Need)) (ms : List Machine) → TellsBut s prec tasks frees ms → TellsBut t prec tasks frees ms
tells_where s t fewer prec tasks [] [] told = tt
tells_where s t fewer prec tasks [] (m ∷ ms) told = absurd told
tells_where s t fewer prec tasks (f ∷ fs) [] told = absurd told
tells_where s t fewer prec tasks (f ∷ fs) (m ∷ ms) told = (λ fresh. told.0 (fewer m.id fresh), tells_where s t fewer prec tasks fs ms told.1)

-- it tells of a machine too that it tells of apart
pub tells_joined : (stale : ℕ → Bool) (machine prec : ℕ) (tasks : List Task) (frees : List (Option Need)) (ms : List Machine)
    → TellsOf machine prec tasks frees ms → TellsBut (is_this_or machine stale) prec tasks frees ms → TellsBut stale prec tasks frees ms
tells_joined stale machine prec tasks [] [] own told = tt
tells_joined stale machine prec tasks [] (m ∷ ms) own told = absurd told
tells_joined stale machine prec tasks (f ∷ fs) [] own told = absurd told
tells_joined stale machine prec tasks (f ∷ fs) (m ∷ ms) own told = (
  λ fresh. by_answer (machine == m.id) (λ t. own.0 (rw t refl)) (λ other. told.0 (rw (other, fresh) refl)),
  tells_joined stale machine prec tasks fs ms own.1 told.1,
)

-- an index with a place for each machine needn't tell any
pub tells_none : (machine prec : ℕ) (tasks : List Task) (frees : List (Option Need)) (ms : List Machine) → length frees ≡ length ms
    → TellsBut (is_this_or machine (λ id. not (machine == id))) prec tasks frees ms
tells_none machine prec tasks [] [] same = tt
tells_none machine prec tasks [] (m ∷ ms) same = absurd (omega (arith, same))
tells_none machine prec tasks (f ∷ fs) [] same = absurd (omega (arith, same))
tells_none machine prec tasks (f ∷ fs) (m ∷ ms) same =
    (λ fresh. absurd (both_ways _ fresh (excluded (machine == m.id))), tells_none machine prec tasks fs ms (omega (arith, same)))
  where
    excluded : (b : Bool) → (b || not b) ≡ true
    excluded true = refl
    excluded false = refl

-- an index has a place for each state
pub told_states : (stale : ℕ → Bool) (prec : ℕ) (tasks : List Task) (frees : List (Option Need)) (table : List MachineState) → TellsBut stale prec tasks frees (machines_of table) → length frees ≡ length table
told_states stale prec tasks frees table told = told_length stale prec tasks frees (machines_of table) told ∙ length-map table (λ (s : MachineState). s.machine)

-- claims and what was answered to them, with the first ones apart
pub zipped_more : (claims later : List Claim) (reply rest : List Judgement) (claim : Claim) (judgement : Judgement) → claims ≡ claim ∷ later → reply ≡ judgement ∷ rest → zip claims reply ≡ (claim, judgement) ∷ zip later rest
zipped_more claims later reply rest claim judgement first second = ap₂ (λ cs js. zip cs js) first second

module _ (decided later : List (Claim × Judgement)) (claim : Claim) (judgement : Judgement) (more : decided ≡ (claim, judgement) ∷ later) where
  split : (id : ℕ) → is_claimed decided id ≡ ((is_placed judgement.verdict && claim.machine == id) || is_claimed later id)
  split id = ap (λ ds. is_claimed ds id) more

  -- the first claim was placed
  pub placed_more : is_placed judgement.verdict ≡ true → (id : ℕ) → is_claimed decided id ≡ is_this_or claim.machine (is_claimed later) id
  placed_more placed id = split id ∙ ap (λ b. (b && claim.machine == id) || is_claimed later id) placed

  -- or it wasn't
  pub passed_more : is_placed judgement.verdict ≡ false → (id : ℕ) → is_claimed decided id ≡ is_claimed later id
  passed_more passed id = split id ∙ ap (λ b. (b && claim.machine == id) || is_claimed later id) passed

-- what could be freed on machines up to a place and on the one there
freed_dropped : (f : Machine → Option Need) (ms : List Machine) (place : ℕ) (value : Option Need) → place < length ms → ((m : Machine) → slice_get ms place ≡ Some m → value ≡ f m)
    → map f (drop place ms) ≡ value ∷ map f (drop (place + 1) ms)
freed_dropped f [] place value below is = absurd (omega (arith, below))
freed_dropped f (m ∷ ms) zero value below is = ap (λ (v : Option Need). v ∷ map f ms) (sym (is m refl))
freed_dropped f (m ∷ ms) (suc place) value below is =
    let next : suc place + 1 ≡ suc (place + 1) = omega arith in
    freed_dropped f ms place value (omega (arith, below)) is ∙ ap (λ n. value ∷ map f (drop n (m ∷ ms))) (sym next)

pub freed_more : (f : Machine → Option Need) (ms : List Machine) (done more : List (Option Need)) (place : ℕ) (value : Option Need) → place < length ms
    → ((m : Machine) → slice_get ms place ≡ Some m → value ≡ f m) → more ≡ done ++ value ∷ [] → done ++ map f (drop place ms) ≡ map f ms
    → more ++ map f (drop (place + 1) ms) ≡ map f ms
freed_more f ms done more place value below is pushed told =
    ap (λ xs. xs ++ map f (drop (place + 1) ms)) pushed
    ∙ append_assoc done (value ∷ []) (map f (drop (place + 1) ms))
    ∙ ap (λ xs. done ++ xs) (sym (freed_dropped f ms place value below is))
    ∙ told

-- a list whose slice was changed and not made longer is what the slice became
pub written_back : {X : Type 0} (before shown after : List X) (n : ℕ) → shown ≡ before → length shown ≡ n → length after ≡ length shown
    → take n (after ++ drop (length after) before) ≡ after
written_back before shown after n same count kept =
    let nothing : drop (length after) before ≡ [] = drop_all (length after) before (omega (arith, ap length (sym same), kept)) in
    ap (λ xs. take n (after ++ xs)) nothing ∙ ap (take n) (append-nil after) ∙ take_all n after (omega (arith, count, kept))

-- an entry that hasn't the form of a commit is none
pub no_commit : (entry : Entry) → ((scheduler seen : ℕ) (txn : Txn) (reply : List Judgement) → entry ≡ Commit scheduler seen txn reply → ⊥) → is_commit entry ≡ false
no_commit (Round number) other = refl
no_commit (MachineAdd machine cap) other = refl
no_commit (MachineUpdate machine cap) other = refl
no_commit (MachineRemove machine) other = refl
no_commit (AttrSet machine name value) other = refl
no_commit (AttrDelete machine name) other = refl
no_commit (End key machine) other = refl
no_commit (Commit scheduler seen txn reply) other = absurd (other scheduler seen txn reply refl)
