-- The victims of a wish are the shortest beginning of the candidates that makes room.
use Rattle.std.proofs.Common.{◌≡◌, ◌+◌, ℕ, zero, suc, Bool, true, false, not, ◌&&◌, List, [], ◌∷◌, length, map, take, Option, Some, None, is_some, arith, refl, sym, ap, subst, ◌∙◌, if◌then◌else◌}
use Rattle.std.specs.List.{filter, find, list_any, range_with_len}
use Rattle.std.specs.Option.{option_map}
use Rattle.std.proofs.lemmas.Bool.{and_from, and_parts, both_ways, false_from_ne_true, not-true, not_from_false, or_from, or_parts}
use Rattle.omega_model.specs.Cell.{Cell, machine_at, rest_on, stays_on, task_at}
use Rattle.omega_model.specs.Judge.{already_running, capacity_of, first_that_applies, free_without, full, has_rival, is_up, makes_room, no_machine, refusal_if, rival, runs_on, same_job, standing_victims, victim_rank, withstands, would_be_placed}
use Rattle.omega_model.specs.Jobs.{stays_of_job}
use Rattle.omega_model.specs.Keys.{beginnings, is_among, same_key}
use Rattle.omega_model.specs.Need.{Fits, minus}
use Rattle.omega_model.specs.Plan.{candidates, claim_of, goes_in, victims}
use Rattle.omega_model.specs.Touches.{is_placed}
use Rattle.omega_model.specs.declared.cells.Need.{Need}
use Rattle.omega_model.specs.declared.cells.Task.{Task}
use Rattle.omega_model.specs.declared.cells.TaskKey.{TaskKey}
use Rattle.omega_model.specs.declared.claims.Claim.{Claim}
use Rattle.omega_model.specs.declared.claims.Verdict.TheVariants.{AlreadyRunning, Full, NoMachine, SameJob, VictimRank}
use Rattle.omega_model.specs.declared.wishes.Wish.{Wish}
use Rattle.omega_model.proofs.Amounts.{fits_tested, total_fewer}
use Rattle.omega_model.proofs.Lists.{by_answer, filter_every, find_none, each_take}
use Rattle.omega_board.proofs.Evicted.{any_more, same_answer}
use Rattle.omega_board.proofs.Parts.{not_refused}
use Rattle.omega_board.proofs.Placed.{is_placed-Placed, placeable_fine}
use Rattle.omega_board.proofs.Ranks.{fits_true}
use Rattle.omega_board.proofs.Standing.{mentions_once, once_take}
use Rattle.omega_plan.proofs.Candidates.{AreCandidates}

-- of a claim that names candidates all stand
pub all_stand : (cell : Cell) (id : ℕ) (wish : Wish) (keys : List TaskKey) → AreCandidates cell id wish keys → standing_victims cell.tasks (claim_of wish keys id) ≡ keys
all_stand cell id wish keys are =
    ap (filter (runs_on cell.tasks id)) (mentions_once keys are.once) ∙ filter_every (runs_on cell.tasks id) keys are.runs

-- and none withstands
none_withstands : (cell : Cell) (id : ℕ) (wish : Wish) (keys : List TaskKey) → AreCandidates cell id wish keys → victim_rank cell (claim_of wish keys id) ≡ None
none_withstands cell id wish keys are =
    ap (λ ks. option_map VictimRank (find (withstands cell.tasks wish.spec.prec) ks)) (all_stand cell id wish keys are)
    ∙ ap (option_map VictimRank) (find_none (withstands cell.tasks wish.spec.prec) keys are.lower)

-- whether a wish may go on a machine, if there is room
abbrev pub may_go : Cell → ℕ → Wish → Bool
may_go cell id wish = is_up (machine_at cell.machines id) && not (is_some (task_at cell.tasks wish.key))

nothing_runs : (o : Option Task) → o ≡ None → is_some o ≡ false
nothing_runs o is = ap is_some is

none_runs : (o : Option Task) → is_some o ≡ false → option_map (λ task. AlreadyRunning task.machine) o ≡ None
none_runs None e = refl
none_runs (Some t) e = absurd (both_ways true e refl)

pub none_found : {X : Type 0} (p : X → Bool) (tasks : List X) → list_any p tasks ≡ false → find p tasks ≡ None
none_found p [] none = refl
none_found p (t ∷ tasks) none = let parts = or_parts (p t) (list_any p tasks) none in rw parts.0 (none_found p tasks parts.1)

no_rival : (cell : Cell) (claim : Claim) → has_rival cell claim (standing_victims cell.tasks claim) ≡ false → same_job cell claim ≡ None
no_rival cell claim alone =
    by_answer claim.spec.differ
    (λ t.
    let none : list_any (stays_of_job claim.key.job claim.machine (standing_victims cell.tasks claim)) cell.tasks ≡ false =
    ap (λ b. b && list_any (stays_of_job claim.key.job claim.machine (standing_victims cell.tasks claim)) cell.tasks) (sym t) ∙ alone in
    ap (λ b. if b then option_map (λ (task : Task). SameJob task.key) (rival cell claim (standing_victims cell.tasks claim)) else None) t
    ∙ ap (option_map (λ (task : Task). SameJob task.key)) (none_found _ cell.tasks none))
    (λ f. ap (λ b. if b then option_map (λ (task : Task). SameJob task.key) (rival cell claim (standing_victims cell.tasks claim)) else None) f)

-- a claim none of whose parts refuses is placed
placed_where : (cell : Cell) (claim : Claim) → no_machine cell claim ≡ None → already_running cell claim ≡ None → victim_rank cell claim ≡ None
    → same_job cell claim ≡ None → full cell claim ≡ None → would_be_placed cell claim ≡ true
placed_where cell claim up new rank alone room =
    λ i. is_placed (first_that_applies (up i ∷ new i ∷ None ∷ rank i ∷ alone i ∷ room i ∷ []))

-- a wish goes on a machine when candidates go, exactly where it may go there and they make room
pub goes_where_room : (cell : Cell) (id : ℕ) (wish : Wish) (keys : List TaskKey) → AreCandidates cell id wish keys
    → goes_in cell wish keys id ≡ (may_go cell id wish && makes_room cell (claim_of wish keys id) keys)
goes_where_room cell id wish keys are = same_answer _ _ there back
  where
    claim : Claim
    claim = claim_of wish keys id

    standing : standing_victims cell.tasks (claim_of wish keys id) ≡ keys
    standing = all_stand cell id wish keys are

    there : goes_in cell wish keys id ≡ true → (may_go cell id wish && makes_room cell (claim_of wish keys id) keys) ≡ true
    there goes =
        let known = placeable_fine cell (claim_of wish keys id) (is_placed-Placed _ goes) in
        and_from _ _
        (and_from _ _ (not_refused (is_up (machine_at cell.machines id)) known.up) (not_from_false _ (nothing_runs (task_at cell.tasks wish.key) known.absent)))
        (subst (λ ks. makes_room cell (claim_of wish keys id) ks ≡ true) standing known.room)

    back : (may_go cell id wish && makes_room cell (claim_of wish keys id) keys) ≡ true → goes_in cell wish keys id ≡ true
    back both =
        let parts = and_parts _ _ both in
        let may = and_parts _ _ parts.0 in
        let room : makes_room cell (claim_of wish keys id) (standing_victims cell.tasks (claim_of wish keys id)) ≡ true =
        subst (λ ks. makes_room cell (claim_of wish keys id) ks ≡ true) (sym standing) parts.1 in
        let enough = and_parts _ _ room in
        placed_where cell (claim_of wish keys id)
        (ap (λ b. refusal_if (not b) NoMachine) may.0)
        (none_runs (task_at cell.tasks wish.key) (not-true _ may.1))
        (none_withstands cell id wish keys are)
        (no_rival cell (claim_of wish keys id) (not-true _ enough.1))
        (ap (λ b. refusal_if (not b) (Full (free_without cell (claim_of wish keys id) (standing_victims cell.tasks (claim_of wish keys id))))) enough.0)

-- the first of candidates are candidates
pub first_candidates : (cell : Cell) (id : ℕ) (wish : Wish) (n : ℕ) (keys : List TaskKey) → AreCandidates cell id wish keys → AreCandidates cell id wish (take n keys)
first_candidates cell id wish n keys are = record {
  runs = each_take (λ key. runs_on cell.tasks id key ≡ true) n keys are.runs;
  lower = each_take (λ key. withstands cell.tasks wish.spec.prec key ≡ false) n keys are.lower;
  once = once_take n keys are.once;
}

-- where the first of some names make room, all do
not_among_first : (key : TaskKey) (n : ℕ) (keys : List TaskKey) → is_among key keys ≡ false → is_among key (take n keys) ≡ false
not_among_first key zero keys none = refl
not_among_first key (suc n) [] none = refl
not_among_first key (suc n) (k ∷ keys) none =
    let parts = or_parts (same_key key k) (is_among key keys) none in or_from _ _ parts.0 (not_among_first key n keys parts.1)

stays_before : (id n : ℕ) (keys : List TaskKey) (t : Task) → stays_on id keys t ≡ true → stays_on id (take n keys) t ≡ true
stays_before id n keys t stays =
    let parts = and_parts _ _ stays in and_from _ _ parts.0 (not_from_false _ (not_among_first t.key n keys (not-true _ parts.1)))

fits_with_less : (need cap more less : Need) → Fits less more → Fits need (minus cap more) → Fits need (minus cap less)
fits_with_less need cap more less p q = (omega (arith, p.0, q.0), (omega (arith, p.1.0, q.1.0), omega (arith, p.1.1, q.1.1)))

pub room_for_all : (cell : Cell) (claim : Claim) (n : ℕ) (keys : List TaskKey) → makes_room cell claim (take n keys) ≡ true → makes_room cell claim keys ≡ true
room_for_all cell claim n keys room =
    let parts = and_parts _ _ room in
    let cap = capacity_of (machine_at cell.machines claim.machine) in
    let fewer : Fits (rest_on cell.tasks claim.machine keys) (rest_on cell.tasks claim.machine (take n keys)) =
    total_fewer (stays_on claim.machine keys) (stays_on claim.machine (take n keys)) (stays_before claim.machine n keys) cell.tasks in
    let alone : has_rival cell claim (take n keys) ≡ false = not-true _ parts.1 in
    and_from _ _
    (fits_true _ _ (fits_with_less claim.spec.need cap _ _ fewer (fits_tested _ _ parts.0)))
    (not_from_false _ (false_from_ne_true _ (λ h.
    let has = and_parts _ _ h in
    let before : list_any (stays_of_job claim.key.job claim.machine (take n keys)) cell.tasks ≡ true =
    any_more (stays_of_job claim.key.job claim.machine keys) (stays_of_job claim.key.job claim.machine (take n keys))
    (λ t stays. let own = and_parts _ _ stays in and_from _ _ own.0 (stays_before claim.machine n keys t own.1)) cell.tasks has.1 in
    both_ways _ alone (and_from _ _ has.0 before))))

-- searches that agree on the items searched
find_mapped : {X Y : Type 0} (p q : Y → Bool) (f : X → Y) → ((x : X) → p (f x) ≡ q (f x)) → (xs : List X) → find p (map f xs) ≡ find q (map f xs)
find_mapped p q f same [] = refl
find_mapped p q f same (x ∷ xs) = λ i. if same x i then Some (f x) else find_mapped p q f same xs i

pub none_mapped : {X Y : Type 0} (p : Y → Bool) (f : X → Y) → ((x : X) → p (f x) ≡ false) → (xs : List X) → find p (map f xs) ≡ None
none_mapped p f none [] = refl
none_mapped p f none (x ∷ xs) = let out : p (f x) ≡ false = none x in rw out (none_mapped p f none xs)

-- whether a wish goes in when some of the candidates go
abbrev pub goes_with : Cell → ℕ → Wish → List TaskKey → List TaskKey → Bool
goes_with cell id wish keys some = may_go cell id wish && makes_room cell (claim_of wish keys id) some

pub victims_by_room : (cell : Cell) (id : ℕ) (wish : Wish) (keys : List TaskKey) → AreCandidates cell id wish keys → keys ≡ candidates cell id wish
    → victims cell id wish ≡ find (goes_with cell id wish keys) (beginnings keys)
victims_by_room cell id wish keys are is =
    ap (λ ks. find (λ some. goes_in cell wish some id) (beginnings ks)) (sym is)
    ∙ find_mapped (λ some. goes_in cell wish some id) (goes_with cell id wish keys) (λ n. take n keys)
    (λ n. goes_where_room cell id wish (take n keys) (first_candidates cell id wish n keys are)) (range_with_len 0 (length keys + 1))
