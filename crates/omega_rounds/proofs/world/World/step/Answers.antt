use Rattle.std.proofs.Common.{◌≡◌, ◌<◌, ◌∙◌, ℕ, List, length, get_or, set, Result, Ok, Err, Some, sym, subst, arith}
use Rattle.std.specs.Prelude.{slice_get, OnErr}
use Rattle.std.proofs.lemmas.Option.{slice_get_read}
use Rattle.omega_model.specs.Policy.{schedulers}
use Rattle.omega_model.specs.declared.rows.TraceTables.{TraceTables}
use Rattle.omega_plan.specs.Indexes.{AreIndexesOf}
use Rattle.omega_workers.proofs.SyncedOrNot.{of_first}
use Rattle.omega_rounds.specs.Going.{LeavesToDo, StepsOn}
use Rattle.omega_rounds.specs.Stages.{IsInRunOf, WorldState, rows_begun, stage_of}
use Rattle.omega_workers.specs.declared.worker.Worker.{Worker}
use Rattle.omega_workers.specs.declared.steps.Stepped.{Stepped}
use Rattle.omega_workers.specs.declared.steps.Stepped.TheVariants.{Synced, Committed, Idle}
use Rattle.omega_rounds.proofs.PlansKept.{indexes_for_first, ready_at, ready_for, steps_for}
use Rattle.omega_rounds.proofs.Reopened.{goes_on_same, goes_on_step, were_quiet}
use Rattle.omega_rounds.proofs.WorldSteps.{LeavesAt, seen_as, state_at, step_is, to_do_after, world_after, world_kept}
use Rattle.omega_rounds.proofs.world.World.step.Goals as goal

knows : (scheduler : ℕ) (one other : WorldState) → one ≡ other → scheduler < schedulers other.stage.settings → scheduler < schedulers one.stage.settings
knows scheduler one other same known = subst (λ (w : WorldState). scheduler < schedulers w.stage.settings) (sym same) known

stands : (workers : List Worker) (count scheduler : ℕ) (worker : Worker) → length workers ≡ count → scheduler < count → worker ≡ get_or workers scheduler worker
    → slice_get workers scheduler ≡ Some worker
stands workers count scheduler worker all known is = slice_get_read workers count scheduler worker (sym all) known is

on_err : {T E P : Type 0} → (result : Result T E) → P → OnErr result P
on_err (Ok value) holds = tt
on_err (Err error) holds = holds

leaves : (old new : WorldState) (stepped : Stepped) → LeavesAt old.to_do new.to_do stepped → LeavesToDo old new stepped
leaves old new Synced is = is
leaves old new (Committed place) is = is
leaves old new Idle is = is

pub step-requires-clause-ready : goal.step-requires-clause-ready
step-requires-clause-ready c =
    let known = knows c.args.scheduler _ _ c.self.view_is c.requires in
    let here = stands c.self.inside.crew.workers.items (schedulers c.self.inside.course.settings) c.args.scheduler c.index_mut-worker.result.now c.self.invariant.0.count known c.index_mut-worker.ensures.value in
    ready_at c.self.inside.course.settings c.args.scheduler c.self.inside.crew.cell.history c.index_mut-worker.result.now
    (c.self.invariant.0.each_worker c.args.scheduler c.index_mut-worker.result.now here) c.self.invariant.0.range known
    (c.self.invariant.0.each_plan c.args.scheduler c.index_mut-worker.result.now here)

pub step-requires-clause-indexes : goal.step-requires-clause-indexes
step-requires-clause-indexes c =
    subst (AreIndexesOf c.self.inside.crew.cell.history) (sym c.index_mut-first.ensures.value)
    (of_first (AreIndexesOf c.self.inside.crew.cell.history) c.self.inside.crew.indexes.items c.index_mut-first.result.now
    (let count = c.self.invariant.2.count in omega (arith, count)) c.self.invariant.2.each)

pub invariant_of-self : goal.invariant_of-self
invariant_of-self c =
    let known = knows c.args.scheduler _ _ c.self.view_is c.requires in
    let here = stands c.self.inside.crew.workers.items (schedulers c.self.inside.course.settings) c.args.scheduler c.index_mut-worker.result.now c.self.invariant.0.count known c.index_mut-worker.ensures.value in
    let now = ready_for c.self.inside.course.settings c.args.scheduler c.self.inside.crew.cell.history c.index_mut-worker.result.now
    (c.self.invariant.0.each_worker c.args.scheduler c.index_mut-worker.result.now here)
    c.step.new.cell.history c.step.new.self c.step.ensures.ready in
    let stage = stage_of c.self.inside.course.settings c.self.inside.course.rounds c.self.inside.course.demand.wanted c.self.inside.course.begun c.self.inside.course.opened_at in (
      world_kept stage c.self.inside.course.demand.wanted.tasks
          c.self.inside.crew.cell.history c.step.new.cell.history c.self.inside.crew.workers.items c.args.scheduler c.index_mut-worker.result.now c.step.new.self c.self.invariant.0
          here
          c.in_err-stepped.ensures.err c.in_err-stepped.ensures.desk c.in_err-stepped.ensures.synced now c.step.ensures.ready.plan,
      were_quiet stage c.self.inside.course.demand.wanted.tasks c.self.inside.crew.cell.history c.self.inside.crew.workers.items c.self.invariant.0
          c.self.inside.course.demand.open_jobs c.self.inside.course.demand.wanted c.step.new.cell.history
          (goes_on_same c.self.inside.crew.cell.history c.step.new.cell.history c.in_err-stepped.ensures.err) c.self.invariant.1,
      indexes_for_first (schedulers c.self.inside.course.settings) c.self.inside.crew.indexes.items c.step.new.indexes c.self.inside.crew.cell.history c.step.new.cell.history
          (goes_on_same c.self.inside.crew.cell.history c.step.new.cell.history c.in_err-stepped.ensures.err) c.self.invariant.2 c.step.ensures.indexes,
    )

pub returns-in_err-stepped-clause-err : goal.returns-in_err-stepped-clause-err
returns-in_err-stepped-clause-err c =
    let known = knows c.args.scheduler _ _ c.self.view_is c.requires in
    on_err c.from_residual.result
    (seen_as (stage_of c.self.inside.course.settings c.self.inside.course.rounds c.self.inside.course.demand.wanted c.self.inside.course.begun c.self.inside.course.opened_at) c.self.inside.course.demand.wanted.tasks
    c.self.inside.crew.cell.history c.step.new.cell.history c.self.inside.crew.workers.items c.args.scheduler c.index_mut-worker.result.now c.step.new.self c.self.invariant.0
    (stands c.self.inside.crew.workers.items (schedulers c.self.inside.course.settings) c.args.scheduler c.index_mut-worker.result.now c.self.invariant.0.count known c.index_mut-worker.ensures.value)
    c.in_err-stepped.ensures.err c.in_err-stepped.ensures.desk c.in_err-stepped.ensures.synced
    ∙ c.self.view_is)

pub invariant_of-self-2 : goal.invariant_of-self-2
invariant_of-self-2 c =
    let known = knows c.args.scheduler _ _ c.self.view_is c.requires in
    let here = stands c.self.inside.crew.workers.items (schedulers c.self.inside.course.settings) c.args.scheduler c.index_mut-worker.result.now c.self.invariant.0.count known c.index_mut-worker.ensures.value in
    let now = ready_for c.self.inside.course.settings c.args.scheduler c.self.inside.crew.cell.history c.index_mut-worker.result.now
    (c.self.invariant.0.each_worker c.args.scheduler c.index_mut-worker.result.now here)
    c.step.new.cell.history c.step.new.self c.step.ensures.ready in
    let did = steps_for c.self.inside.course.settings c.args.scheduler c.self.inside.crew.cell.history c.index_mut-worker.result.now
    (c.self.invariant.0.each_worker c.args.scheduler c.index_mut-worker.result.now here)
    c.step.new.cell.history c.step.new.self c.in_ok-stepped.stepped c.in_ok-stepped.ensures.step in
    let stage = stage_of c.self.inside.course.settings c.self.inside.course.rounds c.self.inside.course.demand.wanted c.self.inside.course.begun c.self.inside.course.opened_at in (
      world_after stage c.self.inside.course.demand.wanted.tasks
          c.self.inside.crew.cell.history c.step.new.cell.history c.self.inside.crew.workers.items c.args.scheduler c.index_mut-worker.result.now c.step.new.self c.self.invariant.0
          here
          c.in_ok-stepped.stepped known now c.step.ensures.ready.plan did,
      were_quiet stage c.self.inside.course.demand.wanted.tasks c.self.inside.crew.cell.history c.self.inside.crew.workers.items c.self.invariant.0
          c.self.inside.course.demand.open_jobs c.self.inside.course.demand.wanted c.step.new.cell.history
          (goes_on_step c.self.inside.course.settings c.args.scheduler c.self.inside.crew.cell.history c.step.new.cell.history c.index_mut-worker.result.now c.step.new.self
          c.in_ok-stepped.stepped did) c.self.invariant.1,
      indexes_for_first (schedulers c.self.inside.course.settings) c.self.inside.crew.indexes.items c.step.new.indexes c.self.inside.crew.cell.history c.step.new.cell.history
          (goes_on_step c.self.inside.course.settings c.args.scheduler c.self.inside.crew.cell.history c.step.new.cell.history c.index_mut-worker.result.now c.step.new.self
          c.in_ok-stepped.stepped did) c.self.invariant.2 c.step.ensures.indexes,
    )

pub returns-clause-step : goal.returns-clause-step
returns-clause-step c =
    let known = knows c.args.scheduler _ _ c.self.view_is c.requires in
    let stage = stage_of c.self.inside.course.settings c.self.inside.course.rounds c.self.inside.course.demand.wanted c.self.inside.course.begun c.self.inside.course.opened_at in
    let here = stands c.self.inside.crew.workers.items (schedulers c.self.inside.course.settings) c.args.scheduler c.index_mut-worker.result.now c.self.invariant.0.count known c.index_mut-worker.ensures.value in
    let did = steps_for c.self.inside.course.settings c.args.scheduler c.self.inside.crew.cell.history c.index_mut-worker.result.now
    (c.self.invariant.0.each_worker c.args.scheduler c.index_mut-worker.result.now here)
    c.step.new.cell.history c.step.new.self c.in_ok-stepped.stepped c.in_ok-stepped.ensures.step in
    subst (λ (w : WorldState). (trace : TraceTables) → IsInRunOf w.stage trace → StepsOn trace w c.args.scheduler (state_at stage c.step.new.cell.history (set c.self.inside.crew.workers.items c.args.scheduler c.step.new.self)) c.in_ok-stepped.stepped) c.self.view_is
    (λ trace made. step_is c.self.inside.course.settings c.self.inside.crew.cell.history c.step.new.cell.history c.args.scheduler c.index_mut-worker.result.now c.step.new.self
    trace (rows_begun stage) c.self.inside.course.opened_at c.self.inside.crew.workers.items here c.in_ok-stepped.stepped did
    ((c.self.invariant.0.lawful trace made).desks c.args.scheduler c.index_mut-worker.result.now here))

pub returns-clause-to_do : goal.returns-clause-to_do
returns-clause-to_do c =
    let known = knows c.args.scheduler _ _ c.self.view_is c.requires in
    let here = stands c.self.inside.crew.workers.items (schedulers c.self.inside.course.settings) c.args.scheduler c.index_mut-worker.result.now c.self.invariant.0.count known c.index_mut-worker.ensures.value in
    let now = ready_for c.self.inside.course.settings c.args.scheduler c.self.inside.crew.cell.history c.index_mut-worker.result.now
    (c.self.invariant.0.each_worker c.args.scheduler c.index_mut-worker.result.now here)
    c.step.new.cell.history c.step.new.self c.step.ensures.ready in
    let did = steps_for c.self.inside.course.settings c.args.scheduler c.self.inside.crew.cell.history c.index_mut-worker.result.now
    (c.self.invariant.0.each_worker c.args.scheduler c.index_mut-worker.result.now here)
    c.step.new.cell.history c.step.new.self c.in_ok-stepped.stepped c.in_ok-stepped.ensures.step in
    let stage = stage_of c.self.inside.course.settings c.self.inside.course.rounds c.self.inside.course.demand.wanted c.self.inside.course.begun c.self.inside.course.opened_at in
    let after = state_at stage c.step.new.cell.history (set c.self.inside.crew.workers.items c.args.scheduler c.step.new.self) in
    subst (λ (w : WorldState). LeavesToDo w after c.in_ok-stepped.stepped) c.self.view_is
    (leaves (state_at stage c.self.inside.crew.cell.history c.self.inside.crew.workers.items) after c.in_ok-stepped.stepped
    (to_do_after c.self.inside.course.settings c.self.inside.crew.cell.history c.step.new.cell.history c.args.scheduler c.index_mut-worker.result.now c.step.new.self
    c.in_ok-stepped.stepped c.self.inside.crew.workers.items here c.self.invariant.0.range.tries.0
    (c.self.invariant.0.each_worker c.args.scheduler c.index_mut-worker.result.now here) now did))
