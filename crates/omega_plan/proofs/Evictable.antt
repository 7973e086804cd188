-- Where all that evictions could free is too little for a wish, the machine gets no claim of it.
use Rattle.std.proofs.Common.{◌≡◌, ◌+◌, ◌<◌, ◌≤◌, ℕ, Bool, true, false, List, [], ◌∷◌, get_or, nat_eq, slice_get, Option, Some, None, is_some, arith, refl, sym, ap, subst, ◌∙◌, not}
use Rattle.std.specs.List.{IsDistinct, filter, find, AllByRecursion as Each}
use Rattle.std.specs.Prelude.{option_map}
use Rattle.std.proofs.lemmas.Bool.{and_from, and_parts, both_ways, false_from_ne_true, or_left, or_right}
use Rattle.std.proofs.lemmas.Option.{get_or_from_slice_get, none-some, slice_get-map}
use Rattle.omega_model.specs.Cell.{Cell, is_on, machine_at, rest_on, task_at, total}
use Rattle.omega_model.specs.Judge.{already_running, capacity_of, free_without, full, is_up, no_machine, same_job, standing_victims, verdict_given, victim_rank, withstands}
use Rattle.omega_model.specs.Keys.{beginnings, is_among, same_key}
use Rattle.omega_model.specs.Machines.{numbers_of}
use Rattle.omega_model.specs.Need.{Fits, fits, minus}
use Rattle.omega_model.specs.Plan.{candidates, claim_of, goes_in}
use Rattle.omega_model.specs.Planning.{suits}
use Rattle.omega_model.specs.declared.cells.Machine.{Machine}
use Rattle.omega_model.specs.declared.cells.Need.{Need}
use Rattle.omega_model.specs.declared.cells.Task.{Task}
use Rattle.omega_model.specs.declared.cells.TaskKey.{TaskKey}
use Rattle.omega_model.specs.declared.claims.Claim.{Claim}
use Rattle.omega_model.specs.declared.claims.Verdict.TheVariants.{NoMachine, Placed, VictimRank}
use Rattle.omega_model.specs.declared.wishes.Wish.{Wish}
use Rattle.omega_model.proofs.Admitted.{Refuses, refuses_if, refuses_rank, refuses_running}
use Rattle.omega_model.proofs.Amounts.{fits_part, fits_plus, fits_same, fits_tested, fits_trans}
use Rattle.omega_model.proofs.InOrder.{key_itself, key_same}
use Rattle.omega_model.proofs.Lists.{by_answer, each_map}
use Rattle.omega_running.specs.Staying.{staying_on, stays_against}
use Rattle.omega_board.proofs.Numbered.{machine_there}
use Rattle.omega_board.proofs.Parts.{not_refused}
use Rattle.omega_board.proofs.Placed.{is_placed-Placed, passes, placeable_fine}
use Rattle.omega_plan.specs.Telling.{freed_of, freed_on}
use Rattle.omega_fit.proofs.Middles.{below_or_not}
use Rattle.omega_fit.specs.Needs.{Holds, IsNextWithRoom}
use Rattle.omega_fit.specs.Wrapped.{FirstBetween}
use Rattle.omega_plan.specs.Trying.{Yields, claim_on}

false-true : false ≡ true → ⊥
false-true e = both_ways false refl e

-- a search that nothing passes
pub none_passing : {X : Type 0} (test : X → Bool) → ((x : X) → test x ≡ false) → (xs : List X) → find test xs ≡ None
none_passing test none [] = refl
none_passing test none (x ∷ xs) = let out : test x ≡ false = none x in rw out (none_passing test none xs)

-- no victim of a placed claim that stands withstands it
none_withstands : (cell : Cell) (claim : Claim) → verdict_given None cell claim ≡ Placed
    → find (withstands cell.tasks claim.spec.prec) (standing_victims cell.tasks claim) ≡ None
unfolding Refuses
none_withstands cell claim placed =
    let later = same_job cell claim ∷ full cell claim ∷ [] in
    let up = passes (no_machine cell claim) (already_running cell claim ∷ None ∷ victim_rank cell claim ∷ later) (refuses_if (not (is_up (machine_at cell.machines claim.machine))) NoMachine refl) placed in
    let new = passes (already_running cell claim) (None ∷ victim_rank cell claim ∷ later) (refuses_running (task_at cell.tasks claim.key)) up.1 in
    let found = find (withstands cell.tasks claim.spec.prec) (standing_victims cell.tasks claim) in
    nothing found (passes (victim_rank cell claim) later (refuses_rank found) new.1).0
  where
    nothing : (o : Option TaskKey) → option_map VictimRank o ≡ None → o ≡ None
    nothing None e = refl
    nothing (Some key) e = absurd (none-some (VictimRank key) (sym e))

-- a task that withstands is none of names none of which does
not_named : (tasks : List Task) (prec : ℕ) (key : TaskKey) (keys : List TaskKey) → find (withstands tasks prec) keys ≡ None → withstands tasks prec key ≡ true
    → is_among key keys ≡ false
not_named tasks prec key [] none own = refl
not_named tasks prec key (k ∷ keys) none own =
    let out : withstands tasks prec k ≡ false = false_from_ne_true _ (λ h. absurd (none-some k (sym (rw h at none)))) in
    let differ : same_key key k ≡ false =
    false_from_ne_true _ (λ h. both_ways _ out (subst (λ (n : TaskKey). withstands tasks prec n ≡ true) (key_same key k h) own)) in
    rw differ (not_named tasks prec key keys (rw out at none) own)

-- each of some tasks with the precedence withstands
each_withstands : (prec : ℕ) (tasks all : List Task) → ((key : TaskKey) → withstands tasks prec key ≡ true → withstands all prec key ≡ true)
    → Each (λ t. stays_against prec t ≡ true → withstands all prec t.key ≡ true) tasks
each_withstands prec [] all more = tt
each_withstands prec (t ∷ tasks) all more = (
  λ stays. more t.key (or_left _ _ (and_from _ _ (key_itself t.key) stays)),
  each_withstands prec tasks all (λ key own. more key (or_right _ _ own)),
)

-- tasks of which each passes two tests, or fails a third, need no more than those that pass that one
held_fewer : (id prec : ℕ) (gone : List TaskKey) (tasks : List Task) → Each (λ t. stays_against prec t ≡ true → is_among t.key gone ≡ false) tasks
    → Fits (total (filter (stays_against prec) (filter (is_on id) tasks))) (rest_on tasks id gone)
held_fewer id prec gone [] out = fits_same (total [])
held_fewer id prec gone (t ∷ tasks) out =
    let rest = held_fewer id prec gone tasks out.1 in
    by_answer (is_on id t)
    (λ on. by_answer (stays_against prec t)
    (λ stays. let kept = out.0 stays in rw (on, stays, kept) (fits_plus t.spec.need t.spec.need _ _ (fits_same t.spec.need) rest))
    (λ yields. by_answer (is_among t.key gone)
    (λ goes. rw (on, yields, goes) rest)
    (λ kept. rw (on, yields, kept) (fits_trans _ _ _ rest (fits_part t.spec.need (rest_on tasks id gone))))))
    (λ off. rw off rest)

-- beside what stays, no less is held
fits_beside_staying : (need cap rest held : Need) → Fits held rest → Fits need (minus cap rest) → Fits need (minus cap held)
fits_beside_staying need cap rest held less p = (omega (arith, p.0, less.0), (omega (arith, p.1.0, less.1.0), omega (arith, p.1.1, less.1.1)))

too_little : (cell : Cell) (wish : Wish) → IsDistinct nat_eq (numbers_of cell.machines) → (place : ℕ) (machine : Machine) → slice_get cell.machines place ≡ Some machine
    → (Holds wish.spec.need (freed_on wish.spec.prec cell.tasks machine) → ⊥) → claim_on cell wish machine ≡ None
too_little cell wish distinct place machine at little =
    by_answer (suits wish machine.attrs)
    (λ t. rw t (ap (option_map (λ keys. claim_of wish keys machine.id)) (none_passing (λ keys. goes_in cell wish keys machine.id) never (beginnings (candidates cell machine.id wish)))))
    (λ f. rw f refl)
  where
    never : (keys : List TaskKey) → goes_in cell wish keys machine.id ≡ false
    never keys = false_from_ne_true _ (λ goes. little (holds goes))
      where
        holds : goes_in cell wish keys machine.id ≡ true → Holds wish.spec.need (freed_on wish.spec.prec cell.tasks machine)
        holds goes =
            let claim = claim_of wish keys machine.id in
            let placed = is_placed-Placed _ goes in
            let known = placeable_fine cell claim placed in
            let standing = standing_victims cell.tasks claim in
            let rest = rest_on cell.tasks machine.id standing in
            let found = machine_there cell.machines place machine distinct at in
            let up : machine.up ≡ true = ap is_up (sym found) ∙ not_refused (is_up (machine_at cell.machines machine.id)) known.up in
            let room : fits wish.spec.need (free_without cell claim standing) ≡ true = (and_parts _ _ known.room).0 in
            let beside : Fits wish.spec.need (minus machine.cap rest) =
            subst (λ (o : Option Machine). Fits wish.spec.need (minus (capacity_of o) rest)) found (fits_tested _ _ room) in
            let none = none_withstands cell claim placed in
            let less : Fits (staying_on wish.spec.prec cell.tasks machine.id) rest =
            held_fewer machine.id wish.spec.prec standing cell.tasks
            (each_map _ _ (λ t own stays. not_named cell.tasks wish.spec.prec t.key standing none (own stays)) cell.tasks (each_withstands wish.spec.prec cell.tasks cell.tasks (λ key own. own))) in
            rw up (fits_beside_staying wish.spec.need machine.cap rest (staying_on wish.spec.prec cell.tasks machine.id) less beside)

-- where the index says that too little could be freed, evictions make no room
pub yields_where_freed : (cell : Cell) (wish : Wish) → IsDistinct nat_eq (numbers_of cell.machines) → (frees : List (Option Need)) → frees ≡ freed_of wish.spec.prec cell
    → (place : ℕ) → (Holds wish.spec.need (get_or frees place None) → ⊥) → Yields cell wish place false
yields_where_freed cell wish distinct frees told place none machine is =
    let here : get_or frees place None ≡ freed_on wish.spec.prec cell.tasks machine =
    ap (λ fs. get_or fs place None) told
    ∙ get_or_from_slice_get (freed_of wish.spec.prec cell) place (freed_on wish.spec.prec cell.tasks machine) None
    (slice_get-map (freed_on wish.spec.prec cell.tasks) cell.machines place ∙ ap (option_map (freed_on wish.spec.prec cell.tasks)) is) in
    ap is_some (too_little cell wish distinct place machine is (λ h. none (subst (λ (o : Option Need). Holds wish.spec.need o) (sym here) h)))

-- between two positions evictions make room nowhere
abbrev pub YieldsNowhere : Cell → Wish → ℕ → ℕ → Type 0
YieldsNowhere cell wish from to = (n : ℕ) → from ≤ n → n < to → Yields cell wish n false

module _ (cell : Cell) (wish : Wish) (distinct : IsDistinct nat_eq (numbers_of cell.machines)) (frees : List (Option Need)) (told : frees ≡ freed_of wish.spec.prec cell)
    (from begin to : ℕ) (before : YieldsNowhere cell wish from begin) where
  -- nor where none of the positions from there on has room
  pub yields_none_between : IsNextWithRoom frees wish.spec.need begin to None → FirstBetween (Yields cell wish) from to None
  unfolding IsNextWithRoom
  yields_none_between none n after below = below_or_not n begin
      (λ less. before n after less)
      (λ more. yields_where_freed cell wish distinct frees told n (λ h. absurd (false-true (none n more below h))))

  module _ (position : ℕ) (next : IsNextWithRoom frees wish.spec.need begin to (Some position)) where
    -- or between there and the first that has
    up_to_next : YieldsNowhere cell wish from position
    unfolding IsNextWithRoom
    up_to_next n after below = below_or_not n begin
        (λ less. before n after less)
        (λ more. yields_where_freed cell wish distinct frees told n (λ h. absurd (false-true (next.3 n more below h))))

    -- that is the first if they do there
    pub yields_between : from ≤ begin → Yields cell wish position true → FirstBetween (Yields cell wish) from to (Some position)
    unfolding IsNextWithRoom
    yields_between within own = (omega (arith, within, next.0), next.1, own, up_to_next)

    -- or else behind it they do nowhere so far
    pub yields_past : Yields cell wish position false → YieldsNowhere cell wish from (position + 1)
    yields_past none n after below = below_or_not n position
        (λ less. up_to_next n after less)
        (λ more. let same : position ≡ n = omega (arith, more, below) in subst (λ k. Yields cell wish k false) same none)
