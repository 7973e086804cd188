-- Workers after each thing that may happen are those of the schedulers that the definitions have then.
use Rattle.std.proofs.Common.{◌≡◌, ℕ, true, false, List, [], ◌∷◌, ◌++◌, Option, Some, None, map, refl, sym, ap, ap₂, subst, ◌∙◌, arith, length-append}
use Rattle.std.specs.Prelude.{◌&&◌, ◌==◌, nat_lt, IfSome}
use Rattle.std.specs.List.{AllByRecursion as Each}
use Rattle.std.proofs.lemmas.List.{take-append-le}
use Rattle.omega_model.proofs.Lists.{by_answer}
use Rattle.omega_model.specs.Routing.{scheduler_of}
use Rattle.omega_model.specs.State.{reply_of}
use Rattle.omega_model.specs.Touches.{is_commit, seq}
use Rattle.omega_model.specs.Work.{is_empty}
use Rattle.omega_model.specs.declared.claims.Claim.{Claim}
use Rattle.omega_model.specs.declared.entries.Entry.{Entry}
use Rattle.omega_model.specs.declared.rows.TraceTables.{TraceTables}
use Rattle.omega_model.specs.declared.settings.Settings.{Settings}
use Rattle.omega_model.specs.declared.wishes.Request.{Request}
use Rattle.omega_desk.specs.Desks.{DeskState}
use Rattle.omega_free_laws.specs.CrewLaws.{IsInOrder, IsOnIt}
use Rattle.omega_free_laws.specs.FreeSteps.{DueCommit, after_commit, due_entry, due_txn, idle_synced, past_with}
use Rattle.omega_free_laws.specs.Passes.{Attempt, Past, Scheduler, first_attempt, synced, synced_if_idle, wanted_at, with_entry}
use Rattle.omega_free_laws.specs.Readings.{Reading}
use Rattle.omega_free_laws.specs.StillWanted.{without_unwanted}
use Rattle.omega_free.specs.FreeWorkers.{AreWorkersNow, IsWorkerNow, SyncIfIdle, SyncIfIts, SyncsIfIdle, SyncsIfIts, SyncsWorker, TakeIfDue, TakesCommit, TakesIfDue}
use Rattle.omega_free.specs.KeptAttempts.{IsKept, IsKeptFor, KeptAttempt, attempt_of}
use Rattle.omega_free.specs.PassDesks.{IsDeskNow}
use Rattle.omega_free.specs.declared.worker.Worker.{Worker}
use Rattle.omega_free.proofs.DeskEntries.{desk_none, desk_other, desk_own}

-- ---- one more entry

-- an attempt stays kept
kept_push : (history : List Entry) (entry : Entry) (kept : KeptAttempt) → IsKept history kept → IsKept (history ++ entry ∷ []) kept
kept_push history entry kept is = record {
  there = let more = length-append history (entry ∷ []) in let there = is.there in omega (arith, more, there);
  few = is.few;
  seqs = is.seqs ∙ ap (λ (front : List Entry). map (λ (claim : Claim). seq front claim.machine) kept.attempt.claims)
      (sym (take-append-le kept.attempt.seen history (entry ∷ []) is.there));
}

-- if there is one, also for its desk
some_kept_push : (history : List Entry) (entry : Entry) (desk : DeskState) (kept : Option KeptAttempt) → IfSome kept (IsKeptFor history desk)
    → IfSome kept (IsKeptFor (history ++ entry ∷ []) desk)
some_kept_push history entry desk None is = tt
some_kept_push history entry desk (Some kept) is = record { beside = kept_push history entry kept is.beside; listed = is.listed }

-- workers stay those of their schedulers after an entry that is no commit
pub workers_none : (settings : Settings) (trace : TraceTables) (history : List Entry) (entry : Entry) → is_commit entry ≡ false
    → (crew : List Scheduler) (workers : List Worker) → AreWorkersNow settings trace history crew workers
    → AreWorkersNow settings trace (history ++ entry ∷ []) crew workers
workers_none settings trace history entry none [] [] are = tt
workers_none settings trace history entry none [] (worker ∷ workers) are = are
workers_none settings trace history entry none (scheduler ∷ crew) [] are = are
workers_none settings trace history entry none (scheduler ∷ crew) (worker ∷ workers) are = (
  record {
    desk = desk_none settings trace history entry scheduler worker.desk none are.0.desk;
    begun = are.0.begun;
    attempt = are.0.attempt;
    kept = some_kept_push history entry worker.desk worker.attempt are.0.kept;
  },
  workers_none settings trace history entry none crew workers are.1,
)

module _ (settings : Settings) (reading : Reading) where
  -- ---- a sync

  -- a scheduler that has synced attempts the first request that remains
  synced_attempt : (past : Past) (now : ℕ) (scheduler : Scheduler)
      → (synced settings reading past now scheduler).attempt
      ≡ first_attempt settings reading past now (synced settings reading past now scheduler).number (synced settings reading past now scheduler).left.requests
  synced_attempt past now scheduler =
      by_answer (is_empty (without_unwanted (wanted_at reading past) scheduler.left scheduler.left.requests).requests && nat_lt scheduler.begun past.triggers)
      (λ t. rw t refl) (λ f. rw f refl)

  -- a worker that syncs is that of the scheduler that has synced
  worker_syncs : (past : Past) (now : ℕ) (scheduler : Scheduler) (old new : Worker)
      → IsDeskNow settings reading.trace past.history scheduler old.desk → old.begun ≡ scheduler.begun
      → SyncsWorker settings reading past now old new
      → IsWorkerNow settings reading.trace past.history (synced settings reading past now scheduler) new
  worker_syncs past now scheduler old new desk begun syncs =
      let did = syncs.desk settings reading past now scheduler refl refl refl (sym begun) desk in
      record {
        desk = did.0;
        begun = did.1;
        attempt = syncs.attempt
            ∙ ap₂ (λ (n : ℕ) (left : List Request). first_attempt settings reading past now n left) did.0.number_is did.0.requests
            ∙ sym (synced_attempt past now scheduler);
        kept = syncs.kept;
      }

  by_attempt : (past : Past) (now : ℕ) (scheduler : Scheduler) (old new : Worker) → IsWorkerNow settings reading.trace past.history scheduler old
      → (kept : Option KeptAttempt) (attempt : Option Attempt) → scheduler.attempt ≡ attempt → attempt_of kept ≡ attempt
      → SyncsIfIdle settings reading past now old new kept
      → IsWorkerNow settings reading.trace past.history (synced_if_idle settings reading past now scheduler attempt) new
  by_attempt past now scheduler old new is None None at same syncs = worker_syncs past now scheduler old new is.desk is.begun syncs
  by_attempt past now scheduler old new is None (Some attempt) at same syncs = absurd (cc)
  by_attempt past now scheduler old new is (Some kept) None at same syncs = absurd (cc)
  by_attempt past now scheduler old new is (Some kept) (Some attempt) at same stays =
      subst (IsWorkerNow settings reading.trace past.history scheduler) (sym stays) is

  -- so are workers of which each has synced that wasn't deciding
  pub workers_synced : (past : Past) (now : ℕ) (crew : List Scheduler) (olds news : List Worker) → AreWorkersNow settings reading.trace past.history crew olds
      → SyncIfIdle settings reading past now olds news
      → AreWorkersNow settings reading.trace past.history (idle_synced settings reading past now crew) news
  workers_synced past now [] [] [] are did = tt
  workers_synced past now [] [] (new ∷ news) are did = did
  workers_synced past now [] (old ∷ olds) news are did = absurd are
  workers_synced past now (scheduler ∷ crew) [] news are did = absurd are
  workers_synced past now (scheduler ∷ crew) (old ∷ olds) [] are did = absurd did
  workers_synced past now (scheduler ∷ crew) (old ∷ olds) (new ∷ news) are did = (
    by_attempt past now scheduler old new are.0 old.attempt scheduler.attempt refl are.0.attempt did.0,
    workers_synced past now crew olds news are.1 did.1,
  )

  -- ---- a commit

  module _ (before : Past) (due : DueCommit) where
    abbrev committed : Past
    committed = past_with before (due_entry settings reading before due.by due.attempt)

    own : (scheduler : Scheduler) (old middle new : Worker) → (scheduler.number == due.by) ≡ true → IsInOrder settings reading before.history scheduler
        → IsOnIt due scheduler → IsWorkerNow settings reading.trace before.history scheduler old
        → TakesCommit settings reading before due old middle → SyncsWorker settings reading committed due.attempt.due middle new
        → IsWorkerNow settings reading.trace committed.history
        (synced settings reading committed due.attempt.due (with_entry settings (due_entry settings reading before due.by due.attempt) scheduler)) new
    own scheduler old middle new mine order on is took syncs =
        let plans = order.plans due.attempt (on mine) in
        let desk = desk_own settings reading.trace before.history due.by due.attempt.seen (due_txn settings reading before due.by due.attempt) scheduler
        old.desk middle.desk plans.request plans.rest mine plans.first plans.job took.same took.attempts took.took is.desk in
        worker_syncs committed due.attempt.due (with_entry settings (due_entry settings reading before due.by due.attempt) scheduler) middle new
        desk (took.begun ∙ is.begun) syncs

    another : (scheduler : Scheduler) (old new : Worker) → (scheduler.number == due.by) ≡ false → scheduler_of settings reading.trace due.attempt.job ≡ due.by
        → IsWorkerNow settings reading.trace before.history scheduler old → new ≡ old
        → IsWorkerNow settings reading.trace committed.history scheduler new
    another scheduler old new other routed is same =
        subst (IsWorkerNow settings reading.trace committed.history scheduler) (sym same)
        (record {
          desk = desk_other settings reading.trace before.history due.by due.attempt.seen (due_txn settings reading before due.by due.attempt)
              (reply_of before.history due.attempt.seen (due_txn settings reading before due.by due.attempt)) scheduler old.desk other routed is.desk;
          begun = is.begun;
          attempt = is.attempt;
          kept = some_kept_push before.history (due_entry settings reading before due.by due.attempt) old.desk old.attempt is.kept;
        })

    either_worker : (scheduler : Scheduler) (old middle new : Worker) → scheduler_of settings reading.trace due.attempt.job ≡ due.by
        → IsInOrder settings reading before.history scheduler → IsOnIt due scheduler → IsWorkerNow settings reading.trace before.history scheduler old
        → TakesIfDue settings reading before due old middle (old.desk.scheduler == due.by)
        → SyncsIfIts settings reading committed due.attempt.due middle new (middle.desk.scheduler == due.by)
        → IsWorkerNow settings reading.trace committed.history
        (after_commit settings reading committed due.attempt.due due.by (due_entry settings reading before due.by due.attempt) scheduler) new
    either_worker scheduler old middle new routed order on is took syncs =
        let number : old.desk.scheduler ≡ scheduler.number = is.desk.number_is in
        by_answer (scheduler.number == due.by)
        (λ t.
        let its : (old.desk.scheduler == due.by) ≡ true = ap (λ (n : ℕ). n == due.by) number ∙ t in
        let takes : TakesCommit settings reading before due old middle = subst (TakesIfDue settings reading before due old middle) its took in
        let did : SyncsWorker settings reading committed due.attempt.due middle new =
        subst (SyncsIfIts settings reading committed due.attempt.due middle new) (ap (λ (n : ℕ). n == due.by) takes.same.scheduler ∙ its) syncs in
        rw t (own scheduler old middle new t order on is takes did))
        (λ f.
        let its : (old.desk.scheduler == due.by) ≡ false = ap (λ (n : ℕ). n == due.by) number ∙ f in
        let stays : middle ≡ old = subst (TakesIfDue settings reading before due old middle) its took in
        let rests : new ≡ middle =
        subst (SyncsIfIts settings reading committed due.attempt.due middle new) (ap (λ (worker : Worker). worker.desk.scheduler == due.by) stays ∙ its) syncs in
        rw f (another scheduler old new f routed is (rests ∙ stays)))

    -- so are workers of which that of this scheduler has committed and then synced
    pub workers_committed : scheduler_of settings reading.trace due.attempt.job ≡ due.by
        → (crew : List Scheduler) (olds middles news : List Worker) → AreWorkersNow settings reading.trace before.history crew olds
        → Each (IsInOrder settings reading before.history) crew → Each (IsOnIt due) crew
        → TakeIfDue settings reading before due olds middles → SyncIfIts settings reading committed due.attempt.due due.by middles news
        → AreWorkersNow settings reading.trace committed.history
        (map (after_commit settings reading committed due.attempt.due due.by (due_entry settings reading before due.by due.attempt)) crew) news
    workers_committed routed [] [] [] [] are order on took syncs = tt
    workers_committed routed [] [] [] (new ∷ news) are order on took syncs = syncs
    workers_committed routed [] [] (middle ∷ middles) news are order on took syncs = absurd took
    workers_committed routed [] (old ∷ olds) middles news are order on took syncs = absurd are
    workers_committed routed (scheduler ∷ crew) [] middles news are order on took syncs = absurd are
    workers_committed routed (scheduler ∷ crew) (old ∷ olds) [] news are order on took syncs = absurd took
    workers_committed routed (scheduler ∷ crew) (old ∷ olds) (middle ∷ middles) [] are order on took syncs = absurd syncs
    workers_committed routed (scheduler ∷ crew) (old ∷ olds) (middle ∷ middles) (new ∷ news) are order on took syncs = (
      either_worker scheduler old middle new routed order.0 on.0 are.0 took.0 syncs.0,
      workers_committed routed crew olds middles news are.1 order.1 on.1 took.1 syncs.1,
    )
