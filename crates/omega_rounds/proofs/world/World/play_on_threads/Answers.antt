use Rattle.std.proofs.Common.{◌<◌, ◌∙◌, List, ap, subst, sym}
use Rattle.std.specs.List.{position}
use Rattle.omega_model.specs.World.{NobodySynced}
use Rattle.omega_rounds.specs.Closed.{IsDone}
use Rattle.omega_workers.specs.Workers.{HaveNoWork, has_work}
use Rattle.omega_rounds.specs.Stages.{WorldState, stage_of, world_of}
use Rattle.omega_workers.specs.declared.worker.Worker.{Worker}
use Rattle.omega_rounds.proofs.ClosedRounds.{closed_done, world_closed}
use Rattle.omega_rounds.proofs.Reopened.{were_quiet}
use Rattle.omega_rounds.proofs.WorldBegins.{nobody_works}
use Rattle.omega_rounds.proofs.WorldGoes.{idle_found}
use Rattle.omega_rounds.proofs.world.World.play_on_threads.Goals as goal

pub invariant_of-result : goal.invariant_of-result
invariant_of-result g c = (
  world_closed (stage_of c.self.inside.course.settings c.self.inside.course.rounds c.self.inside.course.demand.wanted c.self.inside.course.begun c.self.inside.course.opened_at) c.self.inside.course.demand.wanted.tasks
      c.self.inside.crew.cell.history c.in_ok-crew.crew.cell.history c.self.inside.crew.workers.items c.in_ok-crew.crew.workers.items c.self.invariant.0
      (subst (λ (w : WorldState). 0 < w.stage.begun) (sym c.self.view_is) c.requires.begun)
      (subst (λ (w : WorldState). NobodySynced (world_of w)) (sym c.self.view_is) c.requires.nobody)
      c.in_ok-crew.ensures.back,
  were_quiet (stage_of c.self.inside.course.settings c.self.inside.course.rounds c.self.inside.course.demand.wanted c.self.inside.course.begun c.self.inside.course.opened_at) c.self.inside.course.demand.wanted.tasks
      c.self.inside.crew.cell.history c.self.inside.crew.workers.items c.self.invariant.0 c.self.inside.course.demand.open_jobs c.self.inside.course.demand.wanted c.in_ok-crew.crew.cell.history
      c.in_ok-crew.ensures.back.begins c.self.invariant.1,
  c.in_ok-crew.ensures.indexes,
)

pub returns-then-is_none-clause-done : goal.returns-then-is_none-clause-done
returns-then-is_none-clause-done g c =
    let idle : HaveNoWork c.self.inside.crew.workers.items =
    idle_found c.self.inside.crew.workers.items c.first_at_work.result c.if-is_none.ensures
    (c.first_at_work.ensures ∙ ap (λ (workers : List Worker). position has_work workers) c.as_slice.ensures.value) in
    subst IsDone c.self.view_is
    (λ trace made. nobody_works trace (stage_of c.self.inside.course.settings c.self.inside.course.rounds c.self.inside.course.demand.wanted c.self.inside.course.begun c.self.inside.course.opened_at) c.self.inside.course.demand.wanted.tasks
    c.self.inside.crew.cell.history c.self.inside.crew.workers.items c.self.invariant.0 idle made)

pub returns-clause-done : goal.returns-clause-done
returns-clause-done g c =
    closed_done (stage_of c.self.inside.course.settings c.self.inside.course.rounds c.self.inside.course.demand.wanted c.self.inside.course.begun c.self.inside.course.opened_at) c.self.inside.course.demand.wanted.tasks
    c.self.inside.crew.cell.history c.in_ok-crew.crew.cell.history c.self.inside.crew.workers.items c.in_ok-crew.crew.workers.items c.self.invariant.0
    (subst (λ (w : WorldState). 0 < w.stage.begun) (sym c.self.view_is) c.requires.begun)
    (subst (λ (w : WorldState). NobodySynced (world_of w)) (sym c.self.view_is) c.requires.nobody)
    c.in_ok-crew.ensures.back
