-- What a worker does in a step of its scheduler.
use Rattle.std.specs.Prelude.{◌≡◌, ◌≢◌, ℕ, Bool, true, false, List, [], ◌∷◌, ◌++◌, Some, None, length}
use Rattle.omega_model.specs.State.{reply_of}
use Rattle.omega_model.specs.Work.{after_outcomes, outcomes_of}
use Rattle.omega_model.specs.declared.claims.Outcome.{Outcome}
use Rattle.omega_model.specs.declared.claims.Txn.{Txn}
use Rattle.omega_model.specs.declared.entries.Entry.{Entry}
use Rattle.omega_model.specs.declared.settings.Settings.{Settings}
use Rattle.omega_model.specs.declared.wishes.Request.{Request}
use Rattle.omega_desk.specs.Desks.{DeskState, left_at}
use Rattle.omega_laws.specs.NextCommit.{attempt, attempt_txn}
use Rattle.omega_workers.specs.Workers.{synced_of}
use Rattle.omega_workers.specs.declared.worker.Worker.{Worker}
use Rattle.omega_workers.specs.declared.steps.Stepped.{Stepped}
use Rattle.omega_workers.specs.declared.steps.Stepped.TheVariants.{Synced, Committed, Idle}

-- whether a step was a commit
abbrev pub is_committed : Stepped → Bool
is_committed Synced = false
is_committed (Committed place) = true
is_committed Idle = false

-- the outcomes of a scheduler's attempt on a request after these entries
abbrev pub attempt_outcomes : Settings → List Entry → ℕ → ℕ → Request → List Outcome
attempt_outcomes settings before scheduler seen request =
    outcomes_of (attempt_txn settings before scheduler seen request).claims (reply_of before seen (attempt_txn settings before scheduler seen request))

-- no request is left at the desk, and nothing changes
pub record RestsWorker (before : List Entry) (old : Worker) (after : List Entry) (new : Worker) : Type 0 where
  pub no_work : old.desk.requests ≡ []
  pub history : after ≡ before
  pub worker : new ≡ old

-- a request is left at the desk, and the scheduler, which hadn't synced, has seen the history to its end
pub record SyncsWorker (before : List Entry) (old : Worker) (after : List Entry) (new : Worker) : Type 0 where
  pub work : old.desk.requests ≢ []
  pub first : synced_of old ≡ None
  pub history : after ≡ before
  pub seen_all : synced_of new ≡ Some (length before)
  pub desk : new.desk ≡ old.desk

-- a transaction is a scheduler's attempt on the first request that is left at its desk, after so many entries that
-- it has seen
pub record IsFirstAttempt (settings : Settings) (before : List Entry) (scheduler seen : ℕ) (desk : DeskState) (txn : Txn) : Type 0 where
  pub request : Request
  pub rest : List Request
  pub work : desk.requests ≡ request ∷ rest
  pub is : txn ≡ attempt_txn settings before scheduler seen request

-- the attempt on the first request that is left at the desk is committed, and the desk moves on by what
-- came of it
pub record CommitsFirst (settings : Settings) (scheduler : ℕ) (before : List Entry) (old : Worker) (after : List Entry) (new : Worker) (place : ℕ) : Type 0 where
  pub request : Request
  pub rest : List Request
  pub work : old.desk.requests ≡ request ∷ rest
  pub seen : ℕ
  pub synced_before : synced_of old ≡ Some seen
  pub at_end : place ≡ length before
  pub appended : after ≡ before ++ attempt settings before scheduler seen request ∷ []
  pub spent : synced_of new ≡ None
  pub moved : after_outcomes settings (left_at old.desk) old.desk.requests (attempt_outcomes settings before scheduler seen request)
      ≡ Some (left_at new.desk)

-- what a worker does in a step, by what it answers
abbrev pub WorkerSteps : Settings → ℕ → List Entry → Worker → List Entry → Worker → Stepped → Type 0
WorkerSteps settings scheduler before old after new Idle = RestsWorker before old after new
WorkerSteps settings scheduler before old after new Synced = SyncsWorker before old after new
WorkerSteps settings scheduler before old after new (Committed place) = CommitsFirst settings scheduler before old after new place
