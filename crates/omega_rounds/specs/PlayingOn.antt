-- What a scheduler on a thread of its own has done so far in a round, and what its attempt is.
use Rattle.std.specs.Prelude.{◌≡◌, ◌≤◌, ◌<◌, ℕ, List, Some, length}
use Rattle.atomic_table.specs.Seated.{TableId}
use Rattle.omega_model.specs.Policy.{schedulers}
use Rattle.omega_model.specs.Ranges.{IsInRange}
use Rattle.omega_model.specs.declared.claims.Txn.{Txn}
use Rattle.omega_model.specs.declared.rows.Row.{Row}
use Rattle.omega_model.specs.declared.rows.TraceTables.{TraceTables}
use Rattle.omega_rounds.specs.Players.{IsOwnDesk, OwnMayStand}
use Rattle.omega_plan.specs.Indexes.{AreIndexesOf}
use Rattle.omega_workers.specs.WorkerSteps.{IsFirstAttempt}
use Rattle.omega_workers.specs.Workers.{IsWorker, synced_of}
use Rattle.omega_rounds.specs.declared.threads.player.Player.{Player}

-- a player plays on: its pass is the same one and has seen at least as many entries as before. Beside that its worker
-- is still that of its scheduler, with indexes of that history. Its desk is right for each trace for which it was; and if all its commits since a
-- place could stand where they did, so can all that it has there now
pub record PlaysOn (old new : Player) : Type 0 where
  pub of : new.pass.of ≡ old.pass.of
  pub number : new.pass.number ≡ old.pass.number
  pub first_length : new.pass.first_length ≡ old.pass.first_length
  pub within : length old.pass.seen ≤ length new.pass.seen
  pub worker : IsWorker old.worker.desk.settings new.pass.seen new.pass.number new.worker
  pub indexes : AreIndexesOf new.pass.seen new.indexes
  pub desk : (trace : TraceTables) (rows : List Row) (opened_at : ℕ) → opened_at ≤ length old.pass.seen
      → IsOwnDesk old.worker.desk.settings trace rows opened_at old.pass.seen old.pass.number old.worker.desk
      → IsOwnDesk old.worker.desk.settings trace rows opened_at new.pass.seen new.pass.number new.worker.desk
  pub commits : (opened_at : ℕ) → opened_at ≤ length old.pass.seen
      → OwnMayStand old.worker.desk.settings opened_at old.pass.number old.pass.seen
      → OwnMayStand old.worker.desk.settings opened_at new.pass.number new.pass.seen

-- a transaction is a player's attempt on the first request that is left at its desk, planned after all that
-- its pass has seen
abbrev pub PlansFirst : Player → Txn → Type 0
PlansFirst player txn =
    IsFirstAttempt player.worker.desk.settings player.pass.seen player.pass.number (length player.pass.seen) player.worker.desk txn

-- a player may commit on this shared cell: it has a turn left and is one of the schedulers of its settings, its
-- scheduler has synced after all that its pass has seen, and its indexes are those of that history
pub record IsSynced (shared : TableId) (player : Player) : Type 0 where
  pub range : IsInRange player.worker.desk.settings
  pub of : player.pass.of ≡ shared
  pub left : 0 < player.pass.turns
  pub known : player.pass.number < schedulers player.worker.desk.settings
  pub worker : IsWorker player.worker.desk.settings player.pass.seen player.pass.number player.worker
  pub indexes : AreIndexesOf player.pass.seen player.indexes
  pub all : synced_of player.worker ≡ Some (length player.pass.seen)
