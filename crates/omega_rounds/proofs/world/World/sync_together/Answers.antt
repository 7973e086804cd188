use Rattle.std.proofs.Common.{◌≡◌, ◌<◌, ◌++◌, ◌∙◌, List, length, take, drop, Result, Ok, Err, sym, ap, subst, arith}
use Rattle.std.specs.Prelude.{OnOk}
use Rattle.std.specs.List.{sum_by, AllByRecursion as Each}
use Rattle.omega_plan.proofs.Tells.{written_back}
use Rattle.omega_plan.specs.Indexes.{AreIndexesOf}
use Rattle.omega_plan.specs.declared.indexes.Indexes.{Indexes}
use Rattle.omega_model.specs.Policy.{schedulers}
use Rattle.omega_workers.specs.Forked.{AllHaveSyncedOrStay, AreReady}
use Rattle.omega_rounds.specs.Keeping.{AreIndexesFor, IsWorld}
use Rattle.omega_rounds.specs.Playing.{SyncsTurn}
use Rattle.omega_rounds.specs.Stages.{WorldState, stage_of}
use Rattle.omega_workers.specs.Workers.{to_do_of}
use Rattle.omega_workers.specs.declared.worker.Worker.{Worker}
use Rattle.omega_rounds.proofs.SyncedTogether.{are_ready, turn_synced, world_synced}
use Rattle.omega_workers.proofs.SyncedOrNot.{same_to_do}
use Rattle.omega_rounds.proofs.WorldSteps.{state_at}
use Rattle.omega_rounds.proofs.world.World.sync_together.Goals as goal

on_ok : {T E P Q : Type 0} → (result : Result T E) → OnOk result P → (P → Q) → OnOk result Q
on_ok (Ok value) holds then = then holds
on_ok (Err error) holds then = tt

pub sync_pieces-requires-clause-ready : goal.sync_pieces-requires-clause-ready
sync_pieces-requires-clause-ready g c κs within =
    let stage = stage_of c.self.inside.course.settings c.self.inside.course.rounds c.self.inside.course.demand.wanted c.self.inside.course.begun c.self.inside.course.opened_at in
    subst (AreReady c.self.inside.crew.cell.history) (sym c.deref_mut.ensures.value)
    (are_ready stage c.self.inside.course.demand.wanted.tasks c.self.inside.crew.cell.history c.self.inside.crew.workers.items c.self.invariant.0)

pub sync_pieces-requires-clause-some : goal.sync_pieces-requires-clause-some
sync_pieces-requires-clause-some g c κs within =
    let count = c.self.invariant.2.count in
    subst (λ (indexes : List Indexes). 0 < length indexes) (sym c.deref_mut-2.ensures.value) (omega (arith, count))

pub sync_pieces-requires-clause-indexes : goal.sync_pieces-requires-clause-indexes
sync_pieces-requires-clause-indexes g c κs within =
    subst (Each (AreIndexesOf c.self.inside.crew.cell.history)) (sym c.deref_mut-2.ensures.value) c.self.invariant.2.each

pub invariant_of-self : goal.invariant_of-self
invariant_of-self g c =
    let stage = stage_of c.self.inside.course.settings c.self.inside.course.rounds c.self.inside.course.demand.wanted c.self.inside.course.begun c.self.inside.course.opened_at in
    let history = c.self.inside.crew.cell.history in
    let olds = c.self.inside.crew.workers in
    let news = c.sync_pieces.new.workers in
    let indexes = c.self.inside.crew.indexes in
    let back : take olds.len (news ++ drop (length news) olds.items) ≡ news =
    written_back olds.items c.deref_mut.result.now news olds.len c.deref_mut.ensures.value c.deref_mut.ensures.len c.sync_pieces.auto.workers in
    let back_indexes : take indexes.len (c.sync_pieces.new.indexes ++ drop (length c.sync_pieces.new.indexes) indexes.items) ≡ c.sync_pieces.new.indexes =
    written_back indexes.items c.deref_mut-2.result.now c.sync_pieces.new.indexes indexes.len c.deref_mut-2.ensures.value c.deref_mut-2.ensures.len c.sync_pieces.auto.indexes in
    let may : AllHaveSyncedOrStay history olds.items news = subst (λ (ws : List Worker). AllHaveSyncedOrStay history ws news) c.deref_mut.ensures.value c.sync_pieces.ensures.workers in (
      subst (λ (ws : List Worker). IsWorld stage c.self.inside.course.demand.wanted.tasks history ws) (sym back)
          (world_synced stage c.self.inside.course.demand.wanted.tasks history olds.items c.self.invariant.0 news may),
      c.self.invariant.1,
      subst (AreIndexesFor (schedulers c.self.inside.course.settings) history) (sym back_indexes) (record {
        count = c.sync_pieces.auto.indexes ∙ ap length c.deref_mut-2.ensures.value ∙ c.self.invariant.2.count;
        each = c.sync_pieces.ensures.indexes;
      }),
    )

pub returns-clause-synced : goal.returns-clause-synced
returns-clause-synced g c =
    let stage = stage_of c.self.inside.course.settings c.self.inside.course.rounds c.self.inside.course.demand.wanted c.self.inside.course.begun c.self.inside.course.opened_at in
    let history = c.self.inside.crew.cell.history in
    let olds = c.self.inside.crew.workers in
    let news = c.sync_pieces.new.workers in
    let after : List Worker = take olds.len (news ++ drop (length news) olds.items) in
    let back : take olds.len (news ++ drop (length news) olds.items) ≡ news =
    written_back olds.items c.deref_mut.result.now news olds.len c.deref_mut.ensures.value c.deref_mut.ensures.len c.sync_pieces.auto.workers in
    let may : AllHaveSyncedOrStay history olds.items news = subst (λ (ws : List Worker). AllHaveSyncedOrStay history ws news) c.deref_mut.ensures.value c.sync_pieces.ensures.workers in
    on_ok c.sync_pieces.result c.sync_pieces.ensures.synced (λ due.
    subst (λ (w : WorldState). SyncsTurn w (state_at stage history after)) c.self.view_is
    (subst (λ (ws : List Worker). SyncsTurn (state_at stage history olds.items) (state_at stage history ws)) (sym back)
    (turn_synced stage c.self.inside.course.demand.wanted.tasks history olds.items c.self.invariant.0 news may due)))

pub returns-clause-to_do : goal.returns-clause-to_do
returns-clause-to_do g c =
    let history = c.self.inside.crew.cell.history in
    let olds = c.self.inside.crew.workers in
    let news = c.sync_pieces.new.workers in
    let back : take olds.len (news ++ drop (length news) olds.items) ≡ news =
    written_back olds.items c.deref_mut.result.now news olds.len c.deref_mut.ensures.value c.deref_mut.ensures.len c.sync_pieces.auto.workers in
    let may : AllHaveSyncedOrStay history olds.items news = subst (λ (ws : List Worker). AllHaveSyncedOrStay history ws news) c.deref_mut.ensures.value c.sync_pieces.ensures.workers in
    ap (sum_by to_do_of) back ∙ same_to_do history olds.items news may ∙ ap (λ (w : WorldState). w.to_do) c.self.view_is
