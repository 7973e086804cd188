-- A claim that is placed: no part of its verdict refuses, and what it evicts makes room.
use Rattle.std.proofs.Common.{◌≡◌, ℕ, ◌≤◌, Bool, true, false, not, ◌&&◌, List, [], ◌∷◌, length, take, Option, Some, None, refl, sym, ap, ◌∙◌, subst, arith, ◌==◌, if◌then◌else◌}
use Rattle.std.specs.List.{find, list_any}
use Rattle.std.specs.Option.{option_map}
use Rattle.std.proofs.lemmas.Bool.{both_ways, and_parts, and_from, not_from_false}
use Rattle.std.proofs.lemmas.List.{length-take}
use Rattle.std.proofs.lemmas.Option.{none-some}
use Rattle.omega_model.specs.Need.{fits}
use Rattle.omega_model.specs.Cell.{Cell, machine_at, task_at}
use Rattle.omega_model.specs.Judge.{is_up, refusal_if, first_that_applies, no_machine, already_running, withstands, victim_rank, rival, same_job, full, free_without, makes_room, standing_victims, evicted_for, verdict_given, judge_fine}
use Rattle.omega_board.specs.Judging.{changed_on}
use Rattle.omega_model.specs.Jobs.{stays_of_job}
use Rattle.omega_model.specs.Touches.{is_placed}
use Rattle.omega_model.specs.declared.cells.TaskKey.{TaskKey}
use Rattle.omega_model.specs.declared.cells.Task.{Task}
use Rattle.omega_model.specs.declared.claims.Claim.{Claim}
use Rattle.omega_model.specs.declared.claims.Judgement.{Judgement}
use Rattle.omega_model.specs.declared.claims.Verdict.{Verdict}
use Rattle.omega_model.specs.declared.claims.Verdict.TheVariants.{Placed, NoMachine, AlreadyRunning, Changed, VictimRank, SameJob, Full, Withdrawn}
use Rattle.omega_board.specs.Board.{Stand}
use Rattle.omega_board.proofs.Standing.{are_standing, first_standing, standing_fewer, stand}
use Rattle.omega_board.proofs.Evicted.{beginning}
use Rattle.omega_model.proofs.Lists.{by_answer}
use Rattle.omega_model.proofs.Admitted.{Refuses, refuses_if, refuses_running, refuses_rank, refuses_job}

pub refuses_change : (now : ℕ) (copy : Option ℕ) → Refuses (changed_on now copy)
unfolding Refuses
refuses_change now None = tt
refuses_change now (Some n) = refuses_if (not (n == now)) (Changed now n) refl

pub passes : (o : Option Verdict) (rest : List (Option Verdict)) → Refuses o → first_that_applies (o ∷ rest) ≡ Placed → (o ≡ None) × (first_that_applies rest ≡ Placed)
unfolding Refuses
passes None rest refuses placed = (refl, placed)
passes (Some verdict) rest refuses placed = absurd (both_ways _ refuses (ap is_placed placed))

-- a verdict that places is the one that does
pub is_placed-Placed : (verdict : Verdict) → is_placed verdict ≡ true → verdict ≡ Placed
is_placed-Placed Placed e = refl
is_placed-Placed NoMachine e = absurd (both_ways false refl e)
is_placed-Placed (AlreadyRunning machine) e = absurd (both_ways false refl e)
is_placed-Placed (Changed now copy) e = absurd (both_ways false refl e)
is_placed-Placed (VictimRank key) e = absurd (both_ways false refl e)
is_placed-Placed (SameJob key) e = absurd (both_ways false refl e)
is_placed-Placed (Full free) e = absurd (both_ways false refl e)
is_placed-Placed (Withdrawn place) e = absurd (both_ways false refl e)

-- what is known of a claim that is placed
pub record IsPlaceable (change : Option Verdict) (cell : Cell) (claim : Claim) : Type 0 where
  pub up : no_machine cell claim ≡ None
  pub absent : task_at cell.tasks claim.key ≡ None
  pub unchanged : change ≡ None
  pub room : makes_room cell claim (standing_victims cell.tasks claim) ≡ true

pub placeable : (change : Option Verdict) (cell : Cell) (claim : Claim) → Refuses change → verdict_given change cell claim ≡ Placed → IsPlaceable change cell claim
placeable change cell claim refuses placed =
    let standing = standing_victims cell.tasks claim in
    let up = passes (no_machine cell claim) _ (refuses_if (not (is_up (machine_at cell.machines claim.machine))) NoMachine refl) placed in
    let new = passes (already_running cell claim) _ (refuses_running (task_at cell.tasks claim.key)) up.1 in
    let same = passes change _ refuses new.1 in
    let rank = passes (victim_rank cell claim) _ (refuses_rank (find (withstands cell.tasks claim.spec.prec) standing)) same.1 in
    let alone = passes (same_job cell claim) _ (refuses_job claim.spec.differ (rival cell claim standing)) rank.1 in
    let room = passes (full cell claim) _ (refuses_if (not (fits claim.spec.need (free_without cell claim standing))) (Full (free_without cell claim standing)) refl) alone.1 in
    record {
      up = up.0;
      absent = no_task (task_at cell.tasks claim.key) new.0;
      unchanged = same.0;
      room = and_from _ _ (fitting (fits claim.spec.need (free_without cell claim standing)) (Full (free_without cell claim standing)) room.0)
          (not_from_false _ (no_rival claim.spec.differ (stays_of_job claim.key.job claim.machine standing) cell.tasks alone.0));
    }
  where
    no_task : (o : Option Task) → option_map (λ task. AlreadyRunning task.machine) o ≡ None → o ≡ None
    no_task None e = refl
    no_task (Some t) e = absurd (none-some (AlreadyRunning t.machine) (sym e))

    fitting : (b : Bool) (verdict : Verdict) → refusal_if (not b) verdict ≡ None → b ≡ true
    fitting true verdict e = refl
    fitting false verdict e = absurd (none-some verdict (sym e))

    no_rival : (b : Bool) (p : Task → Bool) (tasks : List Task) → (if b then option_map (λ (task : Task). SameJob task.key) (find p tasks) else None) ≡ None → (b && list_any p tasks) ≡ false
    no_rival false p tasks e = refl
    no_rival true p [] e = refl
    no_rival true p (t ∷ tasks) e =
        by_answer (p t)
        (λ h. absurd (none-some (SameJob t.key) (sym (rw h at e))))
        (λ h. rw h (no_rival true p tasks (rw h at e)))

-- the same under the fine rule
pub placeable_fine : (cell : Cell) (claim : Claim) → verdict_given None cell claim ≡ Placed → IsPlaceable None cell claim
unfolding Refuses
placeable_fine cell claim placed = placeable None cell claim tt placed

-- a claim that is placed in spite of a change is placed without it
pub placed_without : (change : Option Verdict) (cell : Cell) (claim : Claim) → Refuses change → verdict_given change cell claim ≡ Placed → verdict_given None cell claim ≡ Placed
placed_without change cell claim refuses placed =
    ap (λ (o : Option Verdict). verdict_given o cell claim) (sym (placeable change cell claim refuses placed).unchanged) ∙ placed

-- what is known of a claim that is placed and of what it evicts
pub record IsPlaced (cell : Cell) (claim : Claim) (evicted : List TaskKey) : Type 0 where
  pub up : no_machine cell claim ≡ None
  pub absent : task_at cell.tasks claim.key ≡ None
  pub stand : Stand cell.tasks claim.machine evicted
  pub fits : fits claim.spec.need (free_without cell claim evicted) ≡ true
  pub few : length evicted ≤ length claim.victims

pub placed_so : (cell : Cell) (claim : Claim) (evicted : List TaskKey) → judge_fine cell claim ≡ record { verdict = Placed; evicted = evicted } → IsPlaced cell claim evicted
placed_so cell claim evicted judged =
    let standing = standing_victims cell.tasks claim in
    let placed : verdict_given None cell claim ≡ Placed = ap (λ (j : Judgement). j.verdict) judged in
    let known = placeable_fine cell claim placed in
    let first = beginning cell claim known.room in
    let named : evicted_for cell claim ≡ evicted =
    ap (λ v. if is_placed v then evicted_for cell claim else []) (sym placed) ∙ ap (λ (j : Judgement). j.evicted) judged in
    let is : take first.count standing ≡ evicted = sym first.is ∙ named in
    let few : length (take first.count standing) ≤ length claim.victims =
    omega (arith, length-take first.count standing, standing_fewer cell.tasks claim) in
    record {
      up = known.up;
      absent = known.absent;
      stand = subst (Stand cell.tasks claim.machine) is
          (stand cell.tasks claim.machine (take first.count standing) (first_standing cell.tasks claim.machine first.count standing (are_standing cell.tasks claim)));
      fits = subst (λ keys. fits claim.spec.need (free_without cell claim keys) ≡ true) is (and_parts _ _ first.room).0;
      few = subst (λ (keys : List TaskKey). length keys ≤ length claim.victims) is few;
    }
