-- What is known of a claim that is placed.
use Rattle.std.proofs.Common.{◌≡◌, ℕ, Bool, true, false, not, List, [], ◌∷◌, drop, take, Option, Some, None, refl, sym, ap, ◌∙◌, if◌then◌else◌}
use Rattle.std.specs.List.{find, list_any}
use Rattle.std.specs.Option.{option_map, unwrap_or}
use Rattle.std.proofs.lemmas.Bool.{both_ways, and_from, and_left, and_right, not_from_false}
use Rattle.std.proofs.lemmas.Option.{none-some}
use Rattle.omega_model.specs.Cell.{Cell, machine_at, task_at}
use Rattle.omega_model.specs.Need.{fits}
use Rattle.omega_model.specs.Judge.{refusal_if, is_up, no_machine, already_running, changed, standing_victims, withstands, victim_rank, rival, same_job, free_without, full, first_that_applies, verdict_given, has_rival, makes_room, evicted_for, judge}
use Rattle.omega_model.specs.Reply.{admits}
use Rattle.omega_model.specs.Touches.{is_placed, touches, seq}
use Rattle.omega_model.specs.declared.cells.Task.{Task}
use Rattle.omega_model.specs.declared.cells.TaskKey.{TaskKey}
use Rattle.omega_model.specs.declared.claims.Claim.{Claim}
use Rattle.omega_model.specs.declared.claims.Rule.{Rule}
use Rattle.omega_model.specs.declared.claims.Rule.TheVariants.{Fine, Coarse}
use Rattle.omega_model.specs.declared.claims.Verdict.{Verdict}
use Rattle.omega_model.specs.declared.claims.Verdict.TheVariants.{NoMachine, AlreadyRunning, Changed, VictimRank, SameJob, Full}
use Rattle.omega_model.specs.declared.entries.Entry.{Entry}
use Rattle.omega_model.proofs.Lists.{by_answer, none_passes, beginning_found}

-- a part of a verdict that doesn't place the claim
unfoldable pub Refuses : Option Verdict → Type 0
Refuses None = Unit {0}
Refuses (Some verdict) = is_placed verdict ≡ false

refuses_none : Refuses None
unfolding Refuses
refuses_none = tt

pub refuses_if : (b : Bool) (verdict : Verdict) → is_placed verdict ≡ false → Refuses (refusal_if b verdict)
unfolding Refuses
refuses_if true verdict e = e
refuses_if false verdict e = tt

pub refuses_running : (o : Option Task) → Refuses (option_map (λ task. AlreadyRunning task.machine) o)
unfolding Refuses
refuses_running None = tt
refuses_running (Some t) = refl

pub refuses_changed : (history : List Entry) (seen : ℕ) (rule : Rule) (claim : Claim) → Refuses (changed history seen rule claim)
refuses_changed history seen Fine claim = refuses_none
refuses_changed history seen Coarse claim =
    refuses_if (list_any (touches claim.machine) (drop seen history)) (Changed (seq history claim.machine) (seq (take seen history) claim.machine)) refl

pub refuses_rank : (o : Option TaskKey) → Refuses (option_map VictimRank o)
unfolding Refuses
refuses_rank None = tt
refuses_rank (Some t) = refl

pub refuses_job : (b : Bool) (o : Option Task) → Refuses (if b then option_map (λ task. SameJob task.key) o else None)
unfolding Refuses
refuses_job true None = tt
refuses_job true (Some t) = refl
refuses_job false o = tt

-- of a placed claim no part refuses
passes : (o : Option Verdict) (rest : List (Option Verdict)) → Refuses o → is_placed (first_that_applies (o ∷ rest)) ≡ true
    → (o ≡ None) × (is_placed (first_that_applies rest) ≡ true)
unfolding Refuses
passes None rest refuses placed = (refl, placed)
passes (Some verdict) rest refuses placed = absurd (both_ways _ refuses placed)

not_refused : (b : Bool) (verdict : Verdict) → refusal_if (not b) verdict ≡ None → b ≡ true
not_refused true verdict e = refl
not_refused false verdict e = absurd (none-some verdict (sym e))

no_rival : (cell : Cell) (claim : Claim) → same_job cell claim ≡ None → has_rival cell claim (standing_victims cell.tasks claim) ≡ false
no_rival cell claim none = by_answer claim.spec.differ
    (λ t. and_right _ _ (none_passes _ cell.tasks (nothing_found (rival cell claim (standing_victims cell.tasks claim)) (rw t at none))))
    (λ f. and_left _ _ f)
  where
    nothing_found : (o : Option Task) → option_map (λ task. SameJob task.key) o ≡ None → o ≡ None
    nothing_found None e = refl
    nothing_found (Some t) e = absurd (none-some (SameJob t.key) (sym e))

-- a placed claim is on a machine that is up, and no more has to stop for it than what it evicts
pub record IsAdmitted (cell : Cell) (claim : Claim) (evicted : List TaskKey) : Type 0 where
  pub up : is_up (machine_at cell.machines claim.machine) ≡ true
  pub room : makes_room cell claim evicted ≡ true

placed_given : (change : Option Verdict) (cell : Cell) (claim : Claim) → Refuses change → is_placed (verdict_given change cell claim) ≡ true
    → (is_up (machine_at cell.machines claim.machine) ≡ true) × (makes_room cell claim (standing_victims cell.tasks claim) ≡ true)
placed_given change cell claim refuses placed =
    let standing = standing_victims cell.tasks claim in
    let free = free_without cell claim standing in
    let up = passes (no_machine cell claim) _ (refuses_if (not (is_up (machine_at cell.machines claim.machine))) NoMachine refl) placed in
    let new = passes (already_running cell claim) _ (refuses_running (task_at cell.tasks claim.key)) up.1 in
    let same = passes change _ refuses new.1 in
    let rank = passes (victim_rank cell claim) _ (refuses_rank (find (withstands cell.tasks claim.spec.prec) standing)) same.1 in
    let alone = passes (same_job cell claim) _ (refuses_job claim.spec.differ (rival cell claim standing)) rank.1 in
    let room = passes (full cell claim) _ (refuses_if (not (fits claim.spec.need free)) (Full free) refl) alone.1 in
    (not_refused _ NoMachine up.0, and_from _ _ (not_refused _ (Full free) room.0) (not_from_false _ (no_rival cell claim alone.0)))

room_evicted : (cell : Cell) (claim : Claim) → makes_room cell claim (standing_victims cell.tasks claim) ≡ true → makes_room cell claim (evicted_for cell claim) ≡ true
room_evicted cell claim all =
    let found = beginning_found (makes_room cell claim) (standing_victims cell.tasks claim) all in
    ap (λ (o : Option (List TaskKey)). makes_room cell claim (unwrap_or o [])) found.1.0 ∙ found.1.1

pub admitted : (history : List Entry) (seen : ℕ) (cell : Cell) (rule : Rule) (claim : Claim) → admits (judge history seen cell rule claim) ≡ true
    → IsAdmitted cell claim (judge history seen cell rule claim).evicted
admitted history seen cell rule claim placed =
    let known = placed_given (changed history seen rule claim) cell claim (refuses_changed history seen rule claim) placed in
    record { up = known.0; room = rw placed (room_evicted cell claim known.1) }
