-- A round that goes by virtual time, in the middle.
use Rattle.std.specs.Prelude.{ℕ, List, ◌++◌, ◌<◌, ◌≤◌, All, length}
use Rattle.omega_model.specs.Lawful.{RoundSoFar}
use Rattle.omega_model.specs.Policy.{schedulers}
use Rattle.omega_model.specs.declared.entries.Entry.{Entry}
use Rattle.omega_model.specs.declared.rows.Row.{Row}
use Rattle.omega_model.specs.declared.rows.Round.{Round}
use Rattle.omega_model.specs.declared.rows.TraceTables.{TraceTables}
use Rattle.omega_model.specs.declared.settings.Settings.{Settings}
use Rattle.omega_model.specs.declared.wishes.Request.{Request}
use Rattle.omega_laws.specs.NextCommit.{WorksOn}
use Rattle.omega_laws.specs.Orders.{KeepsFrom}
use Rattle.omega_laws.specs.VirtualTime.{KeepsTime, StandsNoLater, next_time, timed_commits}
use Rattle.omega_laws.specs.Simulated.{rows_place}

-- a round is under way and its commits stand in order of time; all of them stand no later than the next
-- commit of each scheduler that has work
pub record Ticking (settings : Settings) (trace : TraceTables) (rows : List Row) (start : List Entry) (round : Round) (base : ℕ) (history : List Entry) : Type 0 where
  pub so_far : RoundSoFar settings trace rows start round history
  pub within : rows_place trace rows start round ≤ length history
  pub keeps : KeepsFrom (KeepsTime settings trace (rows ++ round.rows) (rows_place trace rows start round) base) (rows_place trace rows start round) history
  pub ahead : (scheduler : ℕ) → scheduler < schedulers settings → (request : Request)
      → WorksOn settings trace (rows ++ round.rows) (rows_place trace rows start round) history scheduler request
      → All (StandsNoLater (next_time settings trace (rows ++ round.rows) (rows_place trace rows start round) base history scheduler) scheduler)
      (timed_commits settings trace (rows ++ round.rows) (rows_place trace rows start round) base history)
