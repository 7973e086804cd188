-- What belongs to one scheduler that waits for no other, and what a sync and a commit do to it.
use Rattle.std.specs.Prelude.{◌≡◌, ◌≢◌, ℕ, Bool, true, false, List, [], ◌∷◌, ◌++◌, Option, Some, None, IfSome, ◌+◌, ◌==◌, length}
use Rattle.std.specs.List.{AllByRecursion as Each}
use Rattle.omega_model.specs.Policy.{policy_of}
use Rattle.omega_model.specs.State.{reply_of, state}
use Rattle.omega_model.specs.Wanted.{WantedTask}
use Rattle.omega_model.specs.Work.{after_outcomes, fresh, outcomes_of}
use Rattle.omega_model.specs.declared.claims.Judgement.{Judgement}
use Rattle.omega_model.specs.declared.claims.Outcome.{Outcome}
use Rattle.omega_model.specs.declared.claims.Txn.{Txn}
use Rattle.omega_model.specs.declared.entries.Entry.TheVariants.{Commit}
use Rattle.omega_model.specs.declared.entries.Entry.{Entry}
use Rattle.omega_model.specs.declared.rows.TraceTables.{TraceTables}
use Rattle.omega_model.specs.declared.settings.Settings.{Settings}
use Rattle.omega_model.specs.declared.wishes.Request.{Request}
use Rattle.omega_laws.specs.VirtualTime.{Timed}
use Rattle.omega_desk.specs.Desks.{AnswersFirst, IsSameDesk, left_at}
use Rattle.omega_feed.specs.Asked.{Asked}
use Rattle.omega_free_laws.specs.FreeSteps.{DueCommit, due_of, due_txn, sooner}
use Rattle.omega_free_laws.specs.Passes.{Attempt, Past, Scheduler, first_attempt}
use Rattle.omega_free_laws.specs.Readings.{Reading}
use Rattle.omega_free_laws.specs.StillWanted.{wanted_claims}
use Rattle.omega_free.specs.KeptAttempts.{IsCounted, IsKeptFor, IsKnown, KeptAttempt, attempt_of}
use Rattle.omega_free.specs.PassDesks.{IsDeskNow, SyncsDesk, asked_at}
use Rattle.omega_free.specs.declared.worker.Worker.{Worker}

-- a moment of a run is one at which this is asked, with this history and so much cause for passes so far
pub record IsMoment (settings : Settings) (reading : Reading) (asked : Asked) (history : List Entry) (triggers : ℕ) (past : Past) : Type 0 where
  pub asks : asked ≡ asked_at settings reading past
  pub history_is : past.history ≡ history
  pub triggers_are : past.triggers ≡ triggers

-- ---- what a worker is

-- a worker is that of a scheduler of this number that has done nothing yet
pub record IsNewWorker (settings : Settings) (number : ℕ) (worker : Worker) : Type 0 where
  pub settings_are : worker.desk.settings ≡ settings
  pub number_is : worker.desk.scheduler ≡ number
  pub attempts : worker.desk.attempts ≡ 0
  pub left : left_at worker.desk ≡ fresh (λ job. 0) []
  pub begun : worker.begun ≡ 0
  pub attempt : worker.attempt ≡ None

-- these are workers of schedulers of these numbers on that have done nothing yet
abbrev pub AreNewWorkers : Settings → ℕ → List Worker → Type 0
AreNewWorkers settings first [] = Unit {0}
AreNewWorkers settings first (worker ∷ workers) = IsNewWorker settings first worker × AreNewWorkers settings (first + 1) workers

-- a worker is that of a scheduler beside a history
pub record IsWorkerNow (settings : Settings) (trace : TraceTables) (history : List Entry) (scheduler : Scheduler) (worker : Worker) : Type 0 where
  pub desk : IsDeskNow settings trace history scheduler worker.desk
  pub begun : worker.begun ≡ scheduler.begun
  pub attempt : attempt_of worker.attempt ≡ scheduler.attempt
  pub kept : IfSome worker.attempt (IsKeptFor history worker.desk)

-- so is each, in order
abbrev pub AreWorkersNow : Settings → TraceTables → List Entry → List Scheduler → List Worker → Type 0
AreWorkersNow settings trace history [] [] = Unit {0}
AreWorkersNow settings trace history [] (worker ∷ workers) = ⊥
AreWorkersNow settings trace history (scheduler ∷ crew) [] = ⊥
AreWorkersNow settings trace history (scheduler ∷ crew) (worker ∷ workers) =
    IsWorkerNow settings trace history scheduler worker × AreWorkersNow settings trace history crew workers

-- these are workers of schedulers of these settings
abbrev pub AreKnown : Settings → List Worker → Type 0
AreKnown settings workers = Each (λ worker. IsKnown settings worker.desk) workers

-- the desk of each has had as many attempts as a history has commits of its scheduler
abbrev pub AreCounted : List Entry → List Worker → Type 0
AreCounted history workers = Each (λ worker. IsCounted history worker.desk) workers

-- these are workers of schedulers of these numbers on
abbrev pub AreNumbered : ℕ → List Worker → Type 0
AreNumbered first [] = Unit {0}
AreNumbered first (worker ∷ workers) = (worker.desk.scheduler ≡ first) × AreNumbered (first + 1) workers

-- the attempt of some workers that is due first; at one time that of the first
abbrev pub due_among : List Worker → Option DueCommit
due_among [] = None
due_among (worker ∷ workers) = sooner (due_of worker.desk.scheduler (attempt_of worker.attempt)) (due_among workers)

-- whose attempt it is, and when it is due
abbrev pub by_and_time : DueCommit → ℕ × ℕ
by_and_time due = (due.by, due.attempt.due)

-- ---- a sync

-- a worker syncs at a moment: its desk does, and its attempt is that on the first request that remains
pub record SyncsWorker (settings : Settings) (reading : Reading) (past : Past) (now : ℕ) (old new : Worker) : Type 0 where
  pub desk : SyncsDesk (asked_at settings reading past) (state past.history) past.triggers old.desk old.begun new.desk new.begun
  pub attempt : attempt_of new.attempt ≡ first_attempt settings reading past now new.desk.scheduler new.desk.requests
  pub kept : IfSome new.attempt (IsKeptFor past.history new.desk)

-- so it is at each moment at which this is asked, with this history and so much cause for passes
abbrev pub SyncsAt : Settings → Asked → List Entry → ℕ → ℕ → Worker → Worker → Type 0
SyncsAt settings asked history triggers now old new =
    (reading : Reading) (past : Past) → IsMoment settings reading asked history triggers past → IsCounted history old.desk
    → SyncsWorker settings reading past now old new

-- a worker that is deciding stays as it is, and one that isn't syncs
abbrev pub SyncsIfIdle : Settings → Reading → Past → ℕ → Worker → Worker → Option KeptAttempt → Type 0
SyncsIfIdle settings reading past now old new None = SyncsWorker settings reading past now old new
SyncsIfIdle settings reading past now old new (Some kept) = new ≡ old

-- so does each
abbrev pub SyncIfIdle : Settings → Reading → Past → ℕ → List Worker → List Worker → Type 0
SyncIfIdle settings reading past now [] [] = Unit {0}
SyncIfIdle settings reading past now [] (worker ∷ workers) = ⊥
SyncIfIdle settings reading past now (worker ∷ workers) [] = ⊥
SyncIfIdle settings reading past now (old ∷ olds) (new ∷ news) =
    SyncsIfIdle settings reading past now old new old.attempt × SyncIfIdle settings reading past now olds news

-- the worker of this number syncs, and others stay as they are
abbrev pub SyncsIfIts : Settings → Reading → Past → ℕ → Worker → Worker → Bool → Type 0
SyncsIfIts settings reading past now old new true = SyncsWorker settings reading past now old new
SyncsIfIts settings reading past now old new false = new ≡ old

abbrev pub SyncIfIts : Settings → Reading → Past → ℕ → ℕ → List Worker → List Worker → Type 0
SyncIfIts settings reading past now by [] [] = Unit {0}
SyncIfIts settings reading past now by [] (worker ∷ workers) = ⊥
SyncIfIts settings reading past now by (worker ∷ workers) [] = ⊥
SyncIfIts settings reading past now by (old ∷ olds) (new ∷ news) =
    SyncsIfIts settings reading past now old new (old.desk.scheduler == by) × SyncIfIts settings reading past now by olds news

-- ---- a commit

-- the transaction of those of an attempt's claims whose tasks are among these, its entry, and its outcomes
abbrev pub wanted_txn : Settings → List WantedTask → ℕ → Attempt → Txn
wanted_txn settings tasks scheduler attempt = record {
  job = attempt.job;
  rule = (policy_of settings scheduler).rule;
  mode = (policy_of settings scheduler).mode;
  claims = wanted_claims tasks attempt.claims;
}

abbrev pub wanted_entry : Settings → List Entry → List WantedTask → ℕ → Attempt → Entry
wanted_entry settings history tasks scheduler attempt =
    Commit scheduler attempt.seen (wanted_txn settings tasks scheduler attempt) (reply_of history attempt.seen (wanted_txn settings tasks scheduler attempt))

abbrev pub wanted_outcomes : Settings → List Entry → List WantedTask → ℕ → Attempt → List Outcome
wanted_outcomes settings history tasks scheduler attempt =
    outcomes_of (wanted_txn settings tasks scheduler attempt).claims (reply_of history attempt.seen (wanted_txn settings tasks scheduler attempt))

-- whatever a reply says, what is still wanted of these claims answers some wishes of the first of these requests, in order
abbrev pub AnswerInOrder : List WantedTask → List Request → KeptAttempt → Type 0
AnswerInOrder tasks requests kept =
    (reply : List Judgement) → AnswersFirst requests (outcomes_of (wanted_claims tasks kept.attempt.claims) reply)

-- a worker beside a history may commit its attempt, of whose tasks these are wanted
pub record MayCommit (settings : Settings) (tasks : List WantedTask) (history : List Entry) (worker : Worker) : Type 0 where
  pub known : IsKnown settings worker.desk
  pub counted : IsCounted history worker.desk
  pub kept : KeptAttempt
  pub there : worker.attempt ≡ Some kept
  pub is_kept : IsKeptFor history worker.desk kept
  pub answers : AnswerInOrder tasks worker.desk.requests kept

-- one of some workers is that of this scheduler, and may commit
abbrev pub OneMayCommit : Settings → List WantedTask → List Entry → ℕ → List Worker → Type 0
OneMayCommit settings tasks history by [] = ⊥
OneMayCommit settings tasks history by (worker ∷ workers) =
    (worker.desk.scheduler ≡ by → MayCommit settings tasks history worker)
    × (worker.desk.scheduler ≢ by → OneMayCommit settings tasks history by workers)

-- this attempt is that of the worker of this scheduler
abbrev pub IsItsAttempt : ℕ → Attempt → Worker → Type 0
IsItsAttempt by attempt worker = worker.desk.scheduler ≡ by → attempt_of worker.attempt ≡ Some attempt

-- what is still wanted of a scheduler's attempt is committed after a history, at this place and time
pub record CommitsWanted (settings : Settings) (tasks : List WantedTask) (before after : List Entry) (by : ℕ) (attempt : Attempt) (timed : Timed) : Type 0 where
  pub history : after ≡ before ++ wanted_entry settings before tasks by attempt ∷ []
  pub timed_is : timed ≡ record { place = length before; scheduler = by; sync = attempt.sync; time = attempt.due }

-- a worker's desk takes what came of the commit that is due after this much
pub record TakesCommit (settings : Settings) (reading : Reading) (before : Past) (due : DueCommit) (old new : Worker) : Type 0 where
  pub same : IsSameDesk old.desk new.desk
  pub begun : new.begun ≡ old.begun
  pub attempts : new.desk.attempts ≡ old.desk.attempts + 1
  pub took : after_outcomes old.desk.settings (left_at old.desk) old.desk.requests
      (outcomes_of (due_txn settings reading before due.by due.attempt).claims
      (reply_of before.history due.attempt.seen (due_txn settings reading before due.by due.attempt))) ≡ Some (left_at new.desk)

-- that of the worker of this number does, and others stay as they are
abbrev pub TakesIfDue : Settings → Reading → Past → DueCommit → Worker → Worker → Bool → Type 0
TakesIfDue settings reading before due old new true = TakesCommit settings reading before due old new
TakesIfDue settings reading before due old new false = new ≡ old

abbrev pub TakeIfDue : Settings → Reading → Past → DueCommit → List Worker → List Worker → Type 0
TakeIfDue settings reading before due [] [] = Unit {0}
TakeIfDue settings reading before due [] (worker ∷ workers) = ⊥
TakeIfDue settings reading before due (worker ∷ workers) [] = ⊥
TakeIfDue settings reading before due (old ∷ olds) (new ∷ news) =
    TakesIfDue settings reading before due old new (old.desk.scheduler == due.by) × TakeIfDue settings reading before due olds news
