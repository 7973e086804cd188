use Rattle.std.proofs.Common.{◌≡◌, ◌++◌, ◌∙◌, ℕ, List, length, take, drop, refl, sym, subst}
use Rattle.std.proofs.lemmas.Result.{on_ok_weaker}
use Rattle.omega_plan.proofs.Tells.{written_back}
use Rattle.omega_free.specs.FreeWorkers.{AreCounted, AreKnown, SyncIfIdle}
use Rattle.omega_free.specs.declared.worker.Worker.{Worker}
use Rattle.omega_free.specs.declared.world.World.{World}
use Rattle.omega_free.proofs.WorldSteps.{known_in, none_to_come, opened_asks, opened_indexes, opened_stands}
use Rattle.omega_free.proofs.world.WorldFreeWorld.open.Goals as goal

pub returns-in_default-clause-opens : goal.returns-in_default-clause-opens
returns-in_default-clause-opens c trace moment is round rest ahead =
    absurd (none_to_come c.args.self.now trace moment is (sym (sym c.take.ensures.value ∙ c.in_default.is)) round rest ahead)

pub sync_idle-requires-clause-known : goal.sync_idle-requires-clause-known
sync_idle-requires-clause-known c =
    subst (AreKnown c.args.self.now.settings) (sym c.deref_mut.ensures.value) (known_in c.args.self.now c.requires.0 _ c.requires.1.1)

pub sync_idle-requires-clause-asked : goal.sync_idle-requires-clause-asked
sync_idle-requires-clause-asked c =
    opened_asks c.args.self.now c.requires.0 _ c.requires.1.1 c.in-Some.field-0.round c.open_by.new.cell.history c.open_by.new.demand.wanted c.open_by.new.own
    c.in_ok-self.ensures.opens

pub sync_idle-requires-clause-indexes : goal.sync_idle-requires-clause-indexes
sync_idle-requires-clause-indexes c =
    opened_indexes c.args.self.now c.requires.0 _ c.requires.1.1 c.in-Some.field-0.round c.open_by.new.cell.history c.open_by.new.demand.wanted c.open_by.new.own
    c.in_ok-self.ensures.opens

pub returns-clause-opens : goal.returns-clause-opens
returns-clause-opens c =
    let old : World = c.args.self.now in
    let news : List Worker = c.sync_idle.new.workers in
    let back : take old.workers.len (news ++ drop (length news) old.workers.items) ≡ news =
    written_back old.workers.items c.deref_mut.result.now news old.workers.len c.deref_mut.ensures.value c.deref_mut.ensures.len c.sync_idle.auto.workers in
    on_ok_weaker c.sync_idle.result
    (λ syncs trace moment is first rest ahead. opened_stands old _ c.in-Some.field-0.round c.in-Some.field-0.due c.open_by.new.own (record {
      next_was = sym c.take.ensures.value ∙ c.in-Some.is;
      settings_are = refl;
      rounds_are = refl;
      opened_are = c.in_ok-self-2.ensures;
      triggers_are = c.in_ok-self-3.ensures;
      next_is = c.in_ok-self-4.ensures;
      opens = c.in_ok-self.ensures.opens;
      finds = c.first_end-self.ensures;
      quiet = c.sync_idle.ensures.quiet;
      looked = c.in_ok-self.ensures.place;
      indexes = c.sync_idle.ensures.indexes;
      times = refl;
      syncs = λ reading past now counted.
          subst (λ (workers : List Worker). SyncIfIdle old.settings reading past c.in-Some.field-0.due old.workers.items workers) (sym back)
          (subst (λ (workers : List Worker). SyncIfIdle old.settings reading past c.in-Some.field-0.due workers news) c.deref_mut.ensures.value
          (subst (λ (n : ℕ). SyncIfIdle old.settings reading past n c.deref_mut.result.now news) c.from.ensures
          (syncs reading past now (subst (AreCounted c.open_by.new.cell.history) (sym c.deref_mut.ensures.value) counted))));
    }) trace moment is first rest ahead)
    c.sync_idle.ensures.syncs
