-- Some workers once that of one scheduler has committed, and once it has synced.
use Rattle.std.proofs.Common.{◌≡◌, ◌≢◌, ◌<◌, ◌+◌, ◌++◌, ◌∷◌, [], ℕ, true, false, List, refl, sym, ap, subst, ◌∙◌, arith}
use Rattle.std.specs.Prelude.{◌==◌}
use Rattle.std.proofs.lemmas.Bool.{eq-eqb, eqb-false, eqb-true, ne_eqb}
use Rattle.omega_model.proofs.Lists.{by_answer}
use Rattle.omega_model.specs.Policy.{schedulers}
use Rattle.omega_model.specs.State.{reply_of}
use Rattle.omega_model.specs.Work.{commits_of}
use Rattle.omega_model.specs.declared.settings.Settings.{Settings}
use Rattle.omega_workers.proofs.CommitCounts.{commits_other, commits_own}
use Rattle.omega_free_laws.specs.FreeSteps.{DueCommit, due_entry, due_txn}
use Rattle.omega_free_laws.specs.Passes.{Past}
use Rattle.omega_free_laws.specs.Readings.{Reading}
use Rattle.omega_free.specs.FreeWorkers.{AreCounted, AreKnown, AreNumbered, SyncIfIts, SyncsWorker, TakeIfDue, TakesCommit, TakesIfDue}
use Rattle.omega_free.specs.declared.worker.Worker.{Worker}

-- ---- the commit

module _ (settings : Settings) (reading : Reading) (before : Past) (due : DueCommit) where
  -- those of later numbers stay
  others_stay : (first : ℕ) (workers : List Worker) → due.by < first → AreNumbered first workers → TakeIfDue settings reading before due workers workers
  others_stay first [] later numbers = tt
  others_stay first (worker ∷ workers) later numbers =
      let apart : worker.desk.scheduler ≢ due.by = λ same. let at = numbers.0 in omega (arith, at, same, later) in
      (rw (ne_eqb worker.desk.scheduler due.by apart) refl, others_stay (first + 1) workers (omega (arith, later)) numbers.1)

  pub first_takes : (first : ℕ) (old new : Worker) (rest : List Worker) → AreNumbered first (old ∷ rest)
      → old.desk.scheduler ≡ due.by → TakesCommit settings reading before due old new
      → TakeIfDue settings reading before due (old ∷ rest) (new ∷ rest)
  first_takes first old new rest numbers its did =
      (rw (eq-eqb old.desk.scheduler due.by its) did, others_stay (first + 1) rest (let at = numbers.0 in omega (arith, at, its)) numbers.1)

  pub another_takes : (worker : Worker) (olds news : List Worker) → worker.desk.scheduler ≢ due.by
      → TakeIfDue settings reading before due olds news → TakeIfDue settings reading before due (worker ∷ olds) (worker ∷ news)
  another_takes worker olds news apart did = (rw (ne_eqb worker.desk.scheduler due.by apart) refl, did)

-- ---- the sync

module _ (settings : Settings) (reading : Reading) (past : Past) (now by : ℕ) where
  others_rest : (first : ℕ) (workers : List Worker) → by < first → AreNumbered first workers → SyncIfIts settings reading past now by workers workers
  others_rest first [] later numbers = tt
  others_rest first (worker ∷ workers) later numbers =
      let apart : worker.desk.scheduler ≢ by = λ same. let at = numbers.0 in omega (arith, at, same, later) in
      (rw (ne_eqb worker.desk.scheduler by apart) refl, others_rest (first + 1) workers (omega (arith, later)) numbers.1)

  pub first_syncs : (first : ℕ) (old new : Worker) (rest : List Worker) → AreNumbered first (old ∷ rest)
      → old.desk.scheduler ≡ by → SyncsWorker settings reading past now old new
      → SyncIfIts settings reading past now by (old ∷ rest) (new ∷ rest)
  first_syncs first old new rest numbers its did =
      (rw (eq-eqb old.desk.scheduler by its) did, others_rest (first + 1) rest (let at = numbers.0 in omega (arith, at, its)) numbers.1)

  pub another_syncs : (worker : Worker) (olds news : List Worker) → worker.desk.scheduler ≢ by
      → SyncIfIts settings reading past now by olds news → SyncIfIts settings reading past now by (worker ∷ olds) (worker ∷ news)
  another_syncs worker olds news apart did = (rw (ne_eqb worker.desk.scheduler by apart) refl, did)

-- ---- what the sync wants after the commit

module _ (settings : Settings) (reading : Reading) (before : Past) (due : DueCommit) where
  one_keeps : (old new : Worker) → TakesIfDue settings reading before due old new (old.desk.scheduler == due.by)
      → (new.desk.settings ≡ old.desk.settings) × (new.desk.scheduler ≡ old.desk.scheduler)
  one_keeps old new took =
      by_answer (old.desk.scheduler == due.by)
      (λ t. let takes : TakesCommit settings reading before due old new = subst (TakesIfDue settings reading before due old new) t took in
      (takes.same.settings, takes.same.scheduler))
      (λ f. let stays : new ≡ old = subst (TakesIfDue settings reading before due old new) f took in
      (ap (λ (worker : Worker). worker.desk.settings) stays, ap (λ (worker : Worker). worker.desk.scheduler) stays))

  one_counts : (old new : Worker) → TakesIfDue settings reading before due old new (old.desk.scheduler == due.by)
      → old.desk.attempts ≡ commits_of old.desk.scheduler before.history
      → new.desk.attempts ≡ commits_of new.desk.scheduler (before.history ++ due_entry settings reading before due.by due.attempt ∷ [])
  one_counts old new took counted =
      by_answer (old.desk.scheduler == due.by) own other
      ∙ ap (λ (n : ℕ). commits_of n (before.history ++ due_entry settings reading before due.by due.attempt ∷ [])) (sym (one_keeps old new took).1) where
        own : (old.desk.scheduler == due.by) ≡ true
            → new.desk.attempts ≡ commits_of old.desk.scheduler (before.history ++ due_entry settings reading before due.by due.attempt ∷ [])
        own t =
            let takes : TakesCommit settings reading before due old new = subst (TakesIfDue settings reading before due old new) t took in
            let its : old.desk.scheduler ≡ due.by = eqb-true old.desk.scheduler due.by t in
            takes.attempts ∙ ap (λ (n : ℕ). n + 1) (counted ∙ ap (λ (n : ℕ). commits_of n before.history) its)
            ∙ sym (commits_own due.by due.attempt.seen (due_txn settings reading before due.by due.attempt)
            (reply_of before.history due.attempt.seen (due_txn settings reading before due.by due.attempt)) before.history)
            ∙ ap (λ (n : ℕ). commits_of n (before.history ++ due_entry settings reading before due.by due.attempt ∷ [])) (sym its)

        other : (old.desk.scheduler == due.by) ≡ false
            → new.desk.attempts ≡ commits_of old.desk.scheduler (before.history ++ due_entry settings reading before due.by due.attempt ∷ [])
        other f =
            let stays : new ≡ old = subst (TakesIfDue settings reading before due old new) f took in
            ap (λ (worker : Worker). worker.desk.attempts) stays ∙ counted
            ∙ sym (commits_other old.desk.scheduler before.history (due_entry settings reading before due.by due.attempt)
            (ne_eqb due.by old.desk.scheduler (λ same. eqb-false old.desk.scheduler due.by f (sym same))))

  pub still_known : (olds news : List Worker) → TakeIfDue settings reading before due olds news → AreKnown settings olds → AreKnown settings news
  still_known [] [] took known = tt
  still_known [] (new ∷ news) took known = absurd took
  still_known (old ∷ olds) [] took known = absurd took
  still_known (old ∷ olds) (new ∷ news) took known =
      let keeps = one_keeps old new took.0 in (
        record { batch = known.0.batch; settings_are = keeps.0 ∙ known.0.settings_are; known = subst (λ (n : ℕ). n < schedulers settings) (sym keeps.1) known.0.known },
        still_known olds news took.1 known.1,
      )

  pub still_numbered : (first : ℕ) (olds news : List Worker) → TakeIfDue settings reading before due olds news → AreNumbered first olds → AreNumbered first news
  still_numbered first [] [] took numbers = tt
  still_numbered first [] (new ∷ news) took numbers = absurd took
  still_numbered first (old ∷ olds) [] took numbers = absurd took
  still_numbered first (old ∷ olds) (new ∷ news) took numbers =
      ((one_keeps old new took.0).1 ∙ numbers.0, still_numbered (first + 1) olds news took.1 numbers.1)

  pub still_counted : (olds news : List Worker) → TakeIfDue settings reading before due olds news → AreCounted before.history olds
      → AreCounted (before.history ++ due_entry settings reading before due.by due.attempt ∷ []) news
  still_counted [] [] took counted = tt
  still_counted [] (new ∷ news) took counted = absurd took
  still_counted (old ∷ olds) [] took counted = absurd took
  still_counted (old ∷ olds) (new ∷ news) took counted = (one_counts old new took.0 counted.0, still_counted olds news took.1 counted.1)
