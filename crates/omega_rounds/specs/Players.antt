-- What a scheduler does in a round on a thread of its own, said of its pass alone.
use Rattle.std.specs.Prelude.{◌≡◌, ◌≤◌, ◌<◌, ◌*◌, ℕ, false, List, [], Some, None, All, length, slice_get, take}
use Rattle.atomic_table.specs.Seated.{TableId}
use Rattle.omega_desk.specs.Counts.{count_of}
use Rattle.omega_desk.specs.Desks.{DeskState}
use Rattle.omega_model.specs.Lawful.{MayCommit}
use Rattle.omega_model.specs.Policy.{schedulers}
use Rattle.omega_model.specs.Ranges.{IsInRange}
use Rattle.omega_model.specs.Routing.{scheduler_of}
use Rattle.omega_model.specs.Work.{HasLeft, Standing, standing_of}
use Rattle.omega_model.specs.declared.entries.Entry.{Entry}
use Rattle.omega_model.specs.declared.entries.Entry.TheVariants.{Commit}
use Rattle.omega_model.specs.declared.rows.Row.{Row}
use Rattle.omega_model.specs.declared.rows.TraceTables.{TraceTables}
use Rattle.omega_model.specs.declared.settings.Settings.{Settings}
use Rattle.omega_plan.specs.Indexes.{AreIndexesOf}
use Rattle.omega_workers.specs.Workers.{IsRoutedTo, IsWorker, synced_of, to_do_of}
use Rattle.omega_rounds.specs.declared.threads.player.Player.{Player}

-- a scheduler's desk after these entries of a round whose rows end at this place, by the scheduler's own
-- commits alone: its requests are those that it has left, the first of them has had as many attempts, they are
-- for the scheduler's own jobs, and each of these jobs has its count of failed commits
pub record IsOwnDesk (settings : Settings) (trace : TraceTables) (rows : List Row) (opened_at : ℕ) (history : List Entry) (scheduler : ℕ) (desk : DeskState) : Type 0 where
  pub left : HasLeft settings trace rows opened_at scheduler history desk.requests
  pub standing : Standing
  pub stands : standing_of settings trace rows opened_at scheduler history ≡ Some standing
  pub requests : standing.requests ≡ desk.requests
  pub taken : standing.taken ≡ desk.taken
  pub own : All (IsRoutedTo settings trace scheduler) desk.requests
  pub counts : (job : ℕ) → scheduler_of settings trace job ≡ scheduler → standing.failing job ≡ count_of desk.counts job

-- an entry after these, if it is a commit of the scheduler, may stand there in a round whose rows end at this
-- place
abbrev pub MayStand : Settings → ℕ → ℕ → List Entry → Entry → Type 0
MayStand settings opened_at scheduler before (Commit by seen txn reply) =
    by ≡ scheduler → MayCommit settings opened_at before by seen txn reply
MayStand settings opened_at scheduler before _ = Unit {0}

-- each commit of a scheduler since the round's rows may stand where it does
abbrev pub OwnMayStand : Settings → ℕ → ℕ → List Entry → Type 0
OwnMayStand settings opened_at scheduler history =
    (place : ℕ) (entry : Entry) → slice_get history place ≡ Some entry → opened_at ≤ place
    → MayStand settings opened_at scheduler (take place history) entry

-- a player may play in a round on this shared cell: its worker is that of its scheduler beside what its pass has
-- seen, its indexes are those of that history, and its pass has two turns for each attempt that it can still make
pub record MayPlay (shared : TableId) (player : Player) : Type 0 where
  pub of : player.pass.of ≡ shared
  pub range : IsInRange player.worker.desk.settings
  pub known : player.pass.number < schedulers player.worker.desk.settings
  pub worker : IsWorker player.worker.desk.settings player.pass.seen player.pass.number player.worker
  pub indexes : AreIndexesOf player.pass.seen player.indexes
  pub turns : 2 * to_do_of player.worker ≤ player.pass.turns

-- a player has played: its pass has seen at least as many entries as before, and beside what it has seen its worker
-- is still that of its scheduler, with indexes of that history. Its desk is right for each trace for which it was; and if all its commits since a
-- place could stand where they did, so can all that it has there now. Unless it met want of memory, nothing is left
-- at its desk, and its scheduler has not synced since its last commit, if it hadn't before
pub record HasPlayed (old new : Player) : Type 0 where
  pub of : new.pass.of ≡ old.pass.of
  pub number : new.pass.number ≡ old.pass.number
  pub first_length : new.pass.first_length ≡ old.pass.first_length
  pub within : length old.pass.seen ≤ length new.pass.seen
  pub worker : IsWorker old.worker.desk.settings new.pass.seen new.pass.number new.worker
  pub indexes : AreIndexesOf new.pass.seen new.indexes
  pub desk : (trace : TraceTables) (rows : List Row) (opened_at : ℕ) → opened_at ≤ length old.pass.seen
      → IsOwnDesk old.worker.desk.settings trace rows opened_at old.pass.seen old.pass.number old.worker.desk
      → IsOwnDesk old.worker.desk.settings trace rows opened_at new.pass.seen new.pass.number new.worker.desk
  pub commits : (opened_at : ℕ) → opened_at ≤ length old.pass.seen
      → OwnMayStand old.worker.desk.settings opened_at old.pass.number old.pass.seen
      → OwnMayStand old.worker.desk.settings opened_at new.pass.number new.pass.seen
  pub no_work : new.failed ≡ false → new.worker.desk.requests ≡ []
  pub spent : new.failed ≡ false → old.failed ≡ false → synced_of old.worker ≡ None → synced_of new.worker ≡ None

-- each of some players has played, in its place
pub record HavePlayed (old new : List Player) : Type 0 where
  pub count : length new ≡ length old
  pub each : (place : ℕ) (player : Player) → slice_get old place ≡ Some player
      → (after : Player) × ((slice_get new place ≡ Some after) × HasPlayed player after)
