use Rattle.std.proofs.lemmas.Result.{IfOk-weaker, on_ok_weaker}
use Rattle.std.proofs.Common.{◌≡◌, ◌≢◌, ◌+◌, ◌∷◌, ℕ, List, sym, subst, ◌∙◌}
use Rattle.std.specs.List.{AllByRecursion as Each}
use Rattle.omega_laws.specs.VirtualTime.{Timed}
use Rattle.omega_free_laws.specs.FreeSteps.{DueCommit}
use Rattle.omega_free_laws.specs.Passes.{Attempt}
use Rattle.omega_free.specs.FreeWorkers.{AreNumbered, CommitsWanted, IsItsAttempt, TakeIfDue, TakesCommit}
use Rattle.omega_free.specs.declared.worker.Worker.{Worker}
use Rattle.omega_free.proofs.WorkersCommit.{another_takes, first_takes}
use Rattle.omega_free.proofs.crew.«+commit_by».Goals as goal

pub returns-then-scheduler-by-clause-takes : goal.returns-then-scheduler-by-clause-takes
returns-then-scheduler-by-clause-takes t c =
    let its : c.in-Some.worker.now.desk.scheduler ≡ c.args.by = sym c.scheduler.ensures ∙ c.if-scheduler-by.true in
    let split = c.in-Some.ensures.cases.0 in
    on_ok_weaker c.commit.result
    (λ did first attempt reading before numbers ours are_wanted history.
    let due : DueCommit = record { by = c.args.by; attempt = attempt } in
    subst (λ (workers : List Worker). TakeIfDue c.args.settings.now reading before due workers (c.commit.new.self ∷ c.in-Some.rest.now)) (sym split)
    (first_takes c.args.settings.now reading before due first c.in-Some.worker.now c.commit.new.self c.in-Some.rest.now
    (subst (λ (workers : List Worker). AreNumbered first workers) split numbers) its
    (subst (λ (n : ℕ). TakesCommit c.args.settings.now reading before (record { by = n; attempt = attempt }) c.in-Some.worker.now c.commit.new.self) its
    (did attempt reading before ((subst (λ (workers : List Worker). Each (IsItsAttempt c.args.by attempt) workers) split ours).0 its) are_wanted history))))
    c.commit.ensures.takes

pub returns-clause-commits : goal.returns-clause-commits
returns-clause-commits t c =
    let split = c.in-Some.ensures.cases.0 in
    let commits : Attempt → Timed → Type 0 =
    λ attempt timed. CommitsWanted c.args.settings.now c.args.wanted.now.tasks c.args.cell.now.history c.commit_by.new.cell.history c.args.by attempt timed in
    IfOk-weaker c.commit_by.result
    (λ (timed : Timed). (attempt : Attempt) → Each (IsItsAttempt c.args.by attempt) c.in-Some.rest.now → commits attempt timed)
    (λ (timed : Timed). (attempt : Attempt) → Each (IsItsAttempt c.args.by attempt) c.args.workers.now → commits attempt timed)
    (λ timed did attempt ours. did attempt (subst (λ (workers : List Worker). Each (IsItsAttempt c.args.by attempt) workers) split ours).1)
    c.commit_by.ensures.commits

pub returns-clause-takes : goal.returns-clause-takes
returns-clause-takes t c =
    let apart : c.in-Some.worker.now.desk.scheduler ≢ c.args.by = λ same. c.if-scheduler-by.false (c.scheduler.ensures ∙ same) in
    let split = c.in-Some.ensures.cases.0 in
    on_ok_weaker c.commit_by.result
    (λ did first attempt reading before numbers ours are_wanted history.
    let due : DueCommit = record { by = c.args.by; attempt = attempt } in
    subst (λ (workers : List Worker). TakeIfDue c.args.settings.now reading before due workers (c.in-Some.worker.now ∷ c.commit_by.new.workers)) (sym split)
    (another_takes c.args.settings.now reading before due c.in-Some.worker.now c.in-Some.rest.now c.commit_by.new.workers apart
    (did (first + 1) attempt reading before (subst (λ (workers : List Worker). AreNumbered first workers) split numbers).1
    (subst (λ (workers : List Worker). Each (IsItsAttempt c.args.by attempt) workers) split ours).1 are_wanted history)))
    c.commit_by.ensures.takes
