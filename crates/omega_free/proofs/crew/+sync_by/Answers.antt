use Rattle.std.proofs.lemmas.Result.{on_ok_weaker}
use Rattle.std.proofs.Common.{◌≡◌, ◌∷◌, List, sym, subst, ◌∙◌}
use Rattle.omega_free.specs.FreeWorkers.{AreCounted, AreNumbered, SyncIfIts}
use Rattle.omega_free.specs.declared.worker.Worker.{Worker}
use Rattle.omega_free.proofs.WorkersCommit.{first_syncs}
use Rattle.omega_free.proofs.crew.«+sync_by».Goals as goal

pub returns-then-scheduler-by-clause-syncs : goal.returns-then-scheduler-by-clause-syncs
returns-then-scheduler-by-clause-syncs t c =
    let its : c.in-Some.worker.now.desk.scheduler ≡ c.args.by = sym c.scheduler.ensures ∙ c.if-scheduler-by.true in
    let split = c.in-Some.ensures.cases.0 in
    on_ok_weaker c.sync.result
    (λ did first reading past numbers moment counted.
    subst (λ (workers : List Worker). SyncIfIts c.args.settings.now reading past c.args.now c.args.by workers (c.sync.new.self ∷ c.in-Some.rest.now)) (sym split)
    (first_syncs c.args.settings.now reading past c.args.now c.args.by first c.in-Some.worker.now c.sync.new.self c.in-Some.rest.now
    (subst (λ (workers : List Worker). AreNumbered first workers) split numbers) its
    (did reading past moment (subst (λ (workers : List Worker). AreCounted c.args.cell.now.history workers) split counted).0)))
    c.sync.ensures.syncs
