-- How the schedulers of a world begin, and begin with a round.
use Rattle.std.specs.Prelude.{◌≡◌, ℕ, List, [], Some, None, length, slice_get}
use Rattle.omega_model.specs.OpenRequests.{open_requests as all_requests}
use Rattle.omega_model.specs.State.{state}
use Rattle.omega_model.specs.Work.{fresh}
use Rattle.omega_model.specs.declared.entries.Entry.{Entry}
use Rattle.omega_model.specs.declared.rows.Row.{Row}
use Rattle.omega_model.specs.declared.rows.TraceTables.{TraceTables}
use Rattle.omega_model.specs.declared.settings.Settings.{Settings}
use Rattle.omega_desk.specs.Desks.{IsSameDesk, left_at, still_tried}
use Rattle.omega_feed.specs.Asked.{Asked, asked_after}
use Rattle.omega_workers.specs.Workers.{IsWorker, synced_of}
use Rattle.omega_workers.specs.declared.worker.Worker.{Worker}

-- something is what some trace asks for after some of its rows
pub record IsAsked (asked : Asked) : Type 0 where
  pub settings : Settings
  pub trace : TraceTables
  pub rows : List Row
  pub asks : asked ≡ asked_after settings trace rows

-- a worker begins with what its scheduler is asked to place after this history, but for the jobs that are
-- given up by the desk's counts; its scheduler hasn't synced
pub record BeginsWorker (asked : Asked) (history : List Entry) (number : ℕ) (old new : Worker) : Type 0 where
  pub desk : IsSameDesk old.desk new.desk
  pub attempts : new.desk.attempts ≡ old.desk.attempts
  pub left : (settings : Settings) (trace : TraceTables) (rows : List Row) → asked ≡ asked_after settings trace rows
      → left_at new.desk ≡ fresh (left_at old.desk).failing
      (still_tried old.desk.settings (left_at old.desk).failing (all_requests settings trace rows (state history) number))
  pub synced : synced_of new ≡ None

-- so does each worker
pub record BeginAll (asked : Asked) (history : List Entry) (old new : List Worker) : Type 0 where
  pub count : length new ≡ length old
  pub each : (number : ℕ) (worker : Worker) → slice_get new number ≡ Some worker
      → (before : Worker) × ((slice_get old number ≡ Some before) × BeginsWorker asked history number before worker)

-- these are the workers of so many schedulers that have done nothing yet
pub record AreNewWorkers (settings : Settings) (schedulers : ℕ) (workers : List Worker) : Type 0 where
  pub count : length workers ≡ schedulers
  pub each : (number : ℕ) (worker : Worker) → slice_get workers number ≡ Some worker
      → IsWorker settings [] number worker × ((synced_of worker ≡ None) × (left_at worker.desk ≡ fresh (λ job. 0) []))
