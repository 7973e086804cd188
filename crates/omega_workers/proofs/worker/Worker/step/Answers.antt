use Rattle.std.proofs.Common.{refl, ◌∙◌, subst, sym}
use Rattle.omega_plan.specs.Indexes.{AreIndexesOf}
use Rattle.omega_workers.proofs.CommitCounts.{indexes_on}
use Rattle.omega_workers.proofs.WorkerCommits.{no_work, some_work}
use Rattle.omega_workers.proofs.worker.Worker.step.Goals as goal

pub returns-then-not-has_work-clause-step : goal.returns-then-not-has_work-clause-step
returns-then-not-has_work-clause-step c = record { no_work = no_work c.args.self.now (sym c.has_work.ensures ∙ c.if-not-has_work.true); history = refl; worker = refl }

pub sync-requires-clause-work : goal.sync-requires-clause-work
sync-requires-clause-work c = some_work c.args.self.now (sym c.has_work.ensures ∙ c.if-not-has_work.false)

pub returns-in_err-place-clause-indexes : goal.returns-in_err-place-clause-indexes
returns-in_err-place-clause-indexes c = subst (λ h. AreIndexesOf h c.args.indexes.now) (sym c.in_err-place.ensures.err) c.requires.indexes

pub returns-clause-indexes : goal.returns-clause-indexes
returns-clause-indexes c = indexes_on c.args.indexes.now c.args.cell.now.history c.commit.new.cell.history (_, c.in_ok-place.ensures.commits.appended) c.requires.indexes
