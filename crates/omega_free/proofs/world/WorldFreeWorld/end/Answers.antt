use Rattle.std.proofs.Common.{◌≡◌, ◌++◌, ℕ, List, length, take, drop, refl, sym, ap, subst}
use Rattle.std.proofs.lemmas.Result.{on_ok_weaker}
use Rattle.omega_plan.proofs.Tells.{written_back}
use Rattle.omega_free_laws.specs.Lives.{DueEnd}
use Rattle.omega_free.specs.FreeWorkers.{AreCounted, AreKnown, SyncIfIdle}
use Rattle.omega_free.specs.declared.worker.Worker.{Worker}
use Rattle.omega_free.specs.declared.world.World.{World}
use Rattle.omega_free.proofs.WorldSteps.{ended_asks, ended_indexes, ends_stand, known_in, low_in, none_due_in}
use Rattle.omega_free.proofs.world.WorldFreeWorld.end.Goals as goal

pub returns-in_default-clause-ends : goal.returns-in_default-clause-ends
returns-in_default-clause-ends c trace moment is end first =
    absurd (none_due_in c.args.self.now trace moment is (sym c.in_default.is) end first)

pub end_by-requires-clause-low : goal.end_by-requires-clause-low
end_by-requires-clause-low c = low_in c.args.self.now c.requires.0 _ c.requires.1.1 c.in-Some.end c.in-Some.is

pub sync_idle-requires-clause-known : goal.sync_idle-requires-clause-known
sync_idle-requires-clause-known c =
    subst (AreKnown c.args.self.now.settings) (sym c.deref_mut.ensures.value) (known_in c.args.self.now c.requires.0 _ c.requires.1.1)

pub sync_idle-requires-clause-asked : goal.sync_idle-requires-clause-asked
sync_idle-requires-clause-asked c =
    ended_asks c.args.self.now c.requires.0 _ c.requires.1.1 c.in-Some.end c.in-Some.is c.end_by.new.cell.history c.end_by.new.demand.wanted c.end_by.new.own
    c.in_ok-self.ensures.ends

pub sync_idle-requires-clause-indexes : goal.sync_idle-requires-clause-indexes
sync_idle-requires-clause-indexes c =
    ended_indexes c.args.self.now c.requires.0 _ c.requires.1.1 c.in-Some.end c.in-Some.is c.end_by.new.cell.history c.end_by.new.demand.wanted c.end_by.new.own
    c.in_ok-self.ensures.ends

pub returns-clause-ends : goal.returns-clause-ends
returns-clause-ends c =
    let old : World = c.args.self.now in
    let news : List Worker = c.sync_idle.new.workers in
    let back : take old.workers.len (news ++ drop (length news) old.workers.items) ≡ news =
    written_back old.workers.items c.deref_mut.result.now news old.workers.len c.deref_mut.ensures.value c.deref_mut.ensures.len c.sync_idle.auto.workers in
    let time : c.end.inside.time ≡ c.in-Some.end.time = ap (λ (due : DueEnd). due.time) c.end.view_is in
    on_ok_weaker c.sync_idle.result
    (λ syncs trace moment is other first. ends_stand old _ c.in-Some.end c.end_by.new.own (record {
      due_was = c.in-Some.is;
      settings_are = refl;
      rounds_are = refl;
      opened_are = refl;
      next_are = refl;
      triggers_are = c.in_ok-self-2.ensures;
      ends = c.in_ok-self.ensures.ends;
      finds = c.first_end-self.ensures;
      quiet = c.sync_idle.ensures.quiet;
      looked = c.in_ok-self.ensures.place;
      indexes = c.sync_idle.ensures.indexes;
      times = refl;
      syncs = λ reading past now counted.
          subst (λ (workers : List Worker). SyncIfIdle old.settings reading past c.in-Some.end.time old.workers.items workers) (sym back)
          (subst (λ (workers : List Worker). SyncIfIdle old.settings reading past c.in-Some.end.time workers news) c.deref_mut.ensures.value
          (subst (λ (n : ℕ). SyncIfIdle old.settings reading past n c.deref_mut.result.now news) time
          (syncs reading past now (subst (AreCounted c.end_by.new.cell.history) (sym c.deref_mut.ensures.value) counted))));
    }) trace moment is other first)
    c.sync_idle.ensures.syncs
