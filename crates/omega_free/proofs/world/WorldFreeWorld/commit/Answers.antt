use Rattle.std.proofs.Common.{◌≡◌, ◌++◌, ◌∙◌, ℕ, List, length, take, drop, refl, sym, ap, subst}
use Rattle.std.specs.Vec.{with_items}
use Rattle.std.proofs.lemmas.Result.{on_ok_weaker}
use Rattle.omega_laws.specs.VirtualTime.{Timed}
use Rattle.omega_plan.proofs.Tells.{written_back}
use Rattle.omega_free.specs.EndsBy.{NotesBy}
use Rattle.omega_free.specs.FreeWorkers.{AreKnown, OneMayCommit}
use Rattle.omega_free.specs.declared.worker.Worker.{Worker}
use Rattle.omega_free.specs.declared.world.World.{World}
use Rattle.omega_free.proofs.WorldSteps.{CommitsFrom, SyncsFrom, TakesFrom, commits_by, commits_on, entry_on, known_after, may_commit_in, quiet_on, still_indexes, within_on}
use Rattle.omega_free.proofs.world.WorldFreeWorld.commit.Goals as goal

pub commit_by-requires : goal.commit_by-requires
commit_by-requires c = record {
  may = subst (OneMayCommit c.args.self.now.settings c.args.self.now.demand.wanted.tasks c.args.self.now.cell.history c.args.scheduler)
      (sym c.deref_mut.ensures.value)
      (may_commit_in c.args.self.now c.requires.in_run.0 _ c.requires.in_run.1.1 c.args.scheduler
      (c.requires.due c.requires.in_run.0 _ c.requires.in_run.1.1));
}

pub look_on-requires-clause-within : goal.look_on-requires-clause-within
look_on-requires-clause-within c =
    let old : World = c.args.self.now in
    let is = c.requires.in_run.1.1 in
    let committed = subst (CommitsFrom old.settings old.demand.wanted.tasks old.cell.history c.commit_by.new.cell.history c.args.scheduler c.in_ok-timed.timed)
    c.deref_mut.ensures.value c.in_ok-timed.ensures.commits in
    let on = entry_on old c.requires.in_run.0 _ is c.args.scheduler (c.requires.due c.requires.in_run.0 _ is) c.commit_by.new.cell.history c.in_ok-timed.timed committed in
    within_on old is.keeps c.commit_by.new.cell.history on.0 on.1.0 on.1.1

pub look_on-requires-clause-commits : goal.look_on-requires-clause-commits
look_on-requires-clause-commits c =
    let old : World = c.args.self.now in
    let is = c.requires.in_run.1.1 in
    let committed = subst (CommitsFrom old.settings old.demand.wanted.tasks old.cell.history c.commit_by.new.cell.history c.args.scheduler c.in_ok-timed.timed)
    c.deref_mut.ensures.value c.in_ok-timed.ensures.commits in
    let on = entry_on old c.requires.in_run.0 _ is c.args.scheduler (c.requires.due c.requires.in_run.0 _ is) c.commit_by.new.cell.history c.in_ok-timed.timed committed in
    commits_on old is.keeps c.commit_by.new.cell.history on.0 on.1.0 on.1.1

pub look_on-requires-clause-quiet : goal.look_on-requires-clause-quiet
look_on-requires-clause-quiet c =
    let old : World = c.args.self.now in
    let is = c.requires.in_run.1.1 in
    let committed = subst (CommitsFrom old.settings old.demand.wanted.tasks old.cell.history c.commit_by.new.cell.history c.args.scheduler c.in_ok-timed.timed)
    c.deref_mut.ensures.value c.in_ok-timed.ensures.commits in
    let on = entry_on old c.requires.in_run.0 _ is c.args.scheduler (c.requires.due c.requires.in_run.0 _ is) c.commit_by.new.cell.history c.in_ok-timed.timed committed in
    quiet_on old is.keeps c.commit_by.new.cell.history on.0 on.1.0 on.1.1

pub sync_by-requires-clause-known : goal.sync_by-requires-clause-known
sync_by-requires-clause-known c =
    let old : World = c.args.self.now in
    let is = c.requires.in_run.1.1 in
    let middles : List Worker = c.commit_by.new.workers in
    let back : take old.workers.len (middles ++ drop (length middles) old.workers.items) ≡ middles =
    written_back old.workers.items c.deref_mut.result.now middles old.workers.len c.deref_mut.ensures.value c.deref_mut.ensures.len c.commit_by.auto.workers in
    let takes : TakesFrom old.settings old.demand.wanted.tasks old.cell.history c.args.scheduler old.workers.items middles =
    subst (λ (workers : List Worker). TakesFrom old.settings old.demand.wanted.tasks old.cell.history c.args.scheduler workers middles)
    c.deref_mut.ensures.value c.in_ok-timed.ensures.takes in
    subst (AreKnown old.settings) (sym (c.deref_mut-2.ensures.value ∙ back))
    (known_after old c.requires.in_run.0 _ is c.args.scheduler (c.requires.due c.requires.in_run.0 _ is) middles takes)

pub sync_by-requires-clause-indexes : goal.sync_by-requires-clause-indexes
sync_by-requires-clause-indexes c =
    let old : World = c.args.self.now in
    let is = c.requires.in_run.1.1 in
    let committed = subst (CommitsFrom old.settings old.demand.wanted.tasks old.cell.history c.commit_by.new.cell.history c.args.scheduler c.in_ok-timed.timed)
    c.deref_mut.ensures.value c.in_ok-timed.ensures.commits in
    let on = entry_on old c.requires.in_run.0 _ is c.args.scheduler (c.requires.due c.requires.in_run.0 _ is) c.commit_by.new.cell.history c.in_ok-timed.timed committed in
    still_indexes old is.keeps c.commit_by.new.cell.history on.0 on.1.0 on.1.1

pub returns-clause-commits : goal.returns-clause-commits
returns-clause-commits c =
    let old : World = c.args.self.now in
    let middles : List Worker = c.commit_by.new.workers in
    let news : List Worker = c.sync_by.new.workers in
    let back : take old.workers.len (middles ++ drop (length middles) old.workers.items) ≡ middles =
    written_back old.workers.items c.deref_mut.result.now middles old.workers.len c.deref_mut.ensures.value c.deref_mut.ensures.len c.commit_by.auto.workers in
    let shown : c.deref_mut-2.result.now ≡ middles = c.deref_mut-2.ensures.value ∙ back in
    let between = with_items old.workers middles in
    let back_again : take between.len (news ++ drop (length news) between.items) ≡ news =
    written_back between.items c.deref_mut-2.result.now news between.len c.deref_mut-2.ensures.value c.deref_mut-2.ensures.len c.sync_by.auto.workers in
    let time : c.timed.inside.time ≡ c.in_ok-timed.timed.time = ap (λ (t : Timed). t.time) c.timed.view_is in
    on_ok_weaker c.sync_by.result
    (λ syncs. commits_by old _ c.args.scheduler c.in_ok-timed.timed middles c.note_commit.new.own (record {
      settings_are = refl;
      rounds_are = refl;
      opened_are = refl;
      triggers_are = refl;
      next_are = refl;
      committed = subst (CommitsFrom old.settings old.demand.wanted.tasks old.cell.history c.commit_by.new.cell.history c.args.scheduler c.in_ok-timed.timed)
          c.deref_mut.ensures.value c.in_ok-timed.ensures.commits;
      takes = subst (λ (workers : List Worker). TakesFrom old.settings old.demand.wanted.tasks old.cell.history c.args.scheduler workers middles)
          c.deref_mut.ensures.value c.in_ok-timed.ensures.takes;
      asked_are = c.look_on.ensures.wanted;
      quiet = c.sync_by.ensures.quiet;
      looked = c.in_ok-self.ensures.place;
      indexes = c.sync_by.ensures.indexes;
      times = c.in_ok-push.ensures.ok;
      notes = subst (λ (n : ℕ). NotesBy n c.commit_by.new.cell.history old.own c.note_commit.new.own) time c.in_ok-note_commit.ensures;
      finds = c.first_end-self.ensures;
      syncs = subst (λ (workers : List Worker). SyncsFrom old.settings c.look_on.new.demand.wanted c.commit_by.new.cell.history old.triggers c.in_ok-timed.timed.time c.args.scheduler middles workers) (sym back_again)
          (subst (λ (workers : List Worker). SyncsFrom old.settings c.look_on.new.demand.wanted c.commit_by.new.cell.history old.triggers c.in_ok-timed.timed.time c.args.scheduler workers news) shown
          (subst (λ (n : ℕ). SyncsFrom old.settings c.look_on.new.demand.wanted c.commit_by.new.cell.history old.triggers n c.args.scheduler c.deref_mut-2.result.now news) time syncs));
    }))
    c.sync_by.ensures.syncs
