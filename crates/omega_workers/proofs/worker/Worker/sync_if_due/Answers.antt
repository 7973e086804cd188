use Rattle.std.proofs.Common.{◌∙◌, ap, inl, inr, sym}
use Rattle.std.specs.Prelude.{option_map}
use Rattle.omega_workers.specs.declared.plans.Plan.{Plan}
use Rattle.omega_workers.proofs.SyncedOrNot.{stays}
use Rattle.omega_workers.proofs.WorkerCommits.{no_work, some_work}
use Rattle.omega_workers.proofs.worker.Worker.sync_if_due.Goals as goal

pub returns-then-not-has_work-clause-may : goal.returns-then-not-has_work-clause-may
returns-then-not-has_work-clause-may c = stays c.args.cell.now.history c.args.self.now c.requires.ready

pub returns-then-not-has_work-clause-synced : goal.returns-then-not-has_work-clause-synced
returns-then-not-has_work-clause-synced c = λ none. no_work c.args.self.now (sym c.has_work.ensures ∙ c.if-not-has_work.true)

pub sync-requires-clause-work : goal.sync-requires-clause-work
sync-requires-clause-work c = some_work c.args.self.now (sym c.has_work.ensures ∙ c.if-not-has_work.false)

pub returns-then-is_some-clause-may : goal.returns-then-is_some-clause-may
returns-then-is_some-clause-may c = stays c.args.cell.now.history c.args.self.now c.requires.ready

pub returns-in_err-sync-clause-may : goal.returns-in_err-sync-clause-may
returns-in_err-sync-clause-may c = record {
  ready = c.sync.ensures.ready;
  does = inl (record { desk = c.in_err-sync.ensures.desk; synced = ap (option_map (λ (plan : Plan). plan.seen)) c.in_err-sync.ensures.plan });
}

pub returns-clause-may : goal.returns-clause-may
returns-clause-may c = record { ready = c.sync.ensures.ready; does = inr c.in_ok-sync.ensures.syncs }
