use Rattle.std.proofs.Common.{◌≡◌, ◌∙◌, List, length, sym, ap, subst}
use Rattle.std.specs.List.{position}
use Rattle.omega_model.specs.Lawful.{Lawful}
use Rattle.omega_model.specs.Wanted.{WantedTask}
use Rattle.omega_model.specs.declared.entries.Entry.{Entry}
use Rattle.omega_model.specs.declared.rows.TraceTables.{TraceTables}
use Rattle.omega_rounds.specs.Going.{IsFirstAtWork}
use Rattle.omega_rounds.specs.Keeping.{IsWorld}
use Rattle.omega_workers.specs.Workers.{HaveNoWork, has_work}
use Rattle.omega_rounds.specs.Playing.{IsAtStart}
use Rattle.omega_rounds.specs.Stages.{IsInRunOf, Stage, WorldState, stage_of}
use Rattle.omega_workers.specs.declared.worker.Worker.{Worker}
use Rattle.omega_rounds.proofs.WorldBegins.{none_to_do, world_start}
use Rattle.omega_rounds.proofs.WorldGoes.{first_works, idle_first, run_over}
use Rattle.omega_rounds.proofs.WorldSteps.{state_at}
use Rattle.omega_rounds.proofs.world.World.next_round.Goals as goal

starts : (seen : WorldState) (stage : Stage) (tasks : List WantedTask) (history : List Entry) (workers : List Worker) → IsWorld stage tasks history workers
    → state_at stage history workers ≡ seen → seen.stage.begun ≡ 0 → IsAtStart seen
starts seen stage tasks history workers world same =
    subst (λ (w : WorldState). w.stage.begun ≡ 0 → IsAtStart w) same (world_start stage tasks history workers world)

pub returns-in-Some-clause-start : goal.returns-in-Some-clause-start
returns-in-Some-clause-start c = starts _ _ _ _ _ c.self.invariant.0 c.self.view_is

pub returns-then-self-len-clause-start : goal.returns-then-self-len-clause-start
returns-then-self-len-clause-start c = starts _ _ _ _ _ c.self.invariant.0 c.self.view_is

pub returns-in_err-world-clause-start : goal.returns-in_err-world-clause-start
returns-in_err-world-clause-start c = starts _ _ _ _ _ c.self.invariant.0 c.self.view_is

pub returns-clause-start : goal.returns-clause-start
returns-clause-start c = starts _ _ _ _ _ c.self.invariant.0 c.self.view_is

pub returns-in-Some-clause-run : goal.returns-in-Some-clause-run
returns-in-Some-clause-run c =
    subst (λ (w : WorldState). (trace : TraceTables) → IsInRunOf w.stage trace → IsFirstAtWork trace w c.in-Some.scheduler) c.self.view_is
    (λ trace made. first_works trace (stage_of c.self.inside.course.settings c.self.inside.course.rounds c.self.inside.course.demand.wanted c.self.inside.course.begun c.self.inside.course.opened_at) c.self.inside.course.demand.wanted.tasks
    c.self.inside.crew.cell.history c.self.inside.crew.workers.items c.self.invariant.0 made c.in-Some.scheduler
    (ap (λ (workers : List Worker). position has_work workers) (sym c.as_slice.ensures.value) ∙ sym c.first_at_work.ensures ∙ c.in-Some.is))

pub returns-then-self-len-clause-run : goal.returns-then-self-len-clause-run
returns-then-self-len-clause-run c =
    let idle : HaveNoWork c.self.inside.crew.workers.items =
    idle_first c.self.inside.crew.workers.items (ap (λ (workers : List Worker). position has_work workers) (sym c.as_slice.ensures.value) ∙ sym c.first_at_work.ensures ∙ c.in_default.is) in
    let last : c.self.inside.course.begun ≡ length c.self.inside.course.rounds = c.if-self-len.true ∙ c.len.ensures in
    subst (λ (w : WorldState). (trace : TraceTables) → IsInRunOf w.stage trace → Lawful w.stage.settings trace w.history) c.self.view_is
    (λ trace made. run_over trace (stage_of c.self.inside.course.settings c.self.inside.course.rounds c.self.inside.course.demand.wanted c.self.inside.course.begun c.self.inside.course.opened_at) c.self.inside.course.demand.wanted.tasks
    c.self.inside.crew.cell.history c.self.inside.crew.workers.items c.self.invariant.0 made idle last)

pub begin_round-requires-clause-no_work : goal.begin_round-requires-clause-no_work
begin_round-requires-clause-no_work c =
    sym (ap (λ (w : WorldState). w.to_do) c.self.view_is)
    ∙ none_to_do c.self.inside.crew.workers.items
    (idle_first c.self.inside.crew.workers.items (ap (λ (workers : List Worker). position has_work workers) (sym c.as_slice.ensures.value) ∙ sym c.first_at_work.ensures ∙ c.in_default.is))
