-- What the schedulers of a round on threads leave, once their shared cell is closed.
use Rattle.std.specs.Prelude.{◌≡◌, ◌≤◌, ◌<◌, ◌*◌, ℕ, true, List, [], Some, None, All, drop, length, slice_get}
use Rattle.omega_lock.specs.Lists.{StartsWith}
use Rattle.omega_model.specs.Work.{is_commit_of}
use Rattle.omega_model.specs.declared.entries.Entry.{Entry}
use Rattle.omega_model.specs.declared.rows.Row.{Row}
use Rattle.omega_model.specs.declared.rows.TraceTables.{TraceTables}
use Rattle.omega_model.specs.declared.settings.Settings.{Settings}
use Rattle.omega_rounds.specs.Going.{IsRoundOver}
use Rattle.omega_rounds.specs.Players.{IsOwnDesk, OwnMayStand}
use Rattle.omega_workers.specs.Workers.{IsWorker, synced_of}
use Rattle.omega_rounds.specs.Stages.{IsInRunOf, WorldState}
use Rattle.omega_workers.specs.declared.worker.Worker.{Worker}

-- so many turns suffice for any attempts that these workers' schedulers can make: two for each try of each request
abbrev pub Suffice : Settings → List Worker → ℕ → Type 0
Suffice settings workers turns = All (λ worker. 2 * (length worker.desk.requests * settings.tries) ≤ turns) workers

-- a scheduler is back with its worker: the worker is right beside the closed history, its desk is right wherever
-- it was, its commits may stand where they do wherever those before could, nothing is left at its desk, and
-- it has not synced, if it hadn't
pub record IsBack (settings : Settings) (first history : List Entry) (number : ℕ) (old new : Worker) : Type 0 where
  pub worker : IsWorker settings history number new
  pub desk : (trace : TraceTables) (rows : List Row) (opened_at : ℕ) → opened_at ≤ length first
      → IsOwnDesk settings trace rows opened_at first number old.desk
      → IsOwnDesk settings trace rows opened_at history number new.desk
  pub commits : (opened_at : ℕ) → opened_at ≤ length first
      → OwnMayStand settings opened_at number first
      → OwnMayStand settings opened_at number history
  pub no_work : new.desk.requests ≡ []
  pub spent : synced_of old ≡ None → synced_of new ≡ None

-- an entry is a commit of one of so many schedulers
pub record IsCommitOfOne (count : ℕ) (entry : Entry) : Type 0 where
  pub scheduler : ℕ
  pub known : scheduler < count
  pub commit : is_commit_of scheduler entry ≡ true

-- all schedulers are back: the closed history goes on from the first by commits of them, and each has its
-- worker
pub record AreBack (settings : Settings) (first history : List Entry) (old new : List Worker) : Type 0 where
  pub count : length new ≡ length old
  pub begins : StartsWith history first
  pub since : All (IsCommitOfOne (length old)) (drop (length first) history)
  pub each : (number : ℕ) (worker : Worker) → slice_get new number ≡ Some worker
      → (was : Worker) × ((slice_get old number ≡ Some was) × IsBack settings first history number was worker)

-- the round that is under way in a world is over, for each trace in whose run the world is
abbrev pub IsDone : WorldState → Type 0
IsDone world = (trace : TraceTables) → IsInRunOf world.stage trace → IsRoundOver trace world
