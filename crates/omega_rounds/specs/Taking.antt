-- A round in the middle of a turn.
use Rattle.std.specs.Prelude.{◌≡◌, ℕ, List, ◌++◌, ◌+◌, ◌<◌, ◌≤◌, All, length}
use Rattle.omega_model.specs.Lawful.{RoundSoFar, after_last, opened}
use Rattle.omega_model.specs.Policy.{schedulers}
use Rattle.omega_model.specs.Turns.{InTurns, StandsBefore, round_commits}
use Rattle.omega_model.specs.declared.entries.Entry.{Entry}
use Rattle.omega_model.specs.declared.rows.Row.{Row}
use Rattle.omega_model.specs.declared.rows.Round.{Round}
use Rattle.omega_model.specs.declared.rows.TraceTables.{TraceTables}
use Rattle.omega_model.specs.declared.settings.Settings.{Settings}
use Rattle.omega_model.specs.declared.wishes.Request.{Request}
use Rattle.omega_laws.specs.NextCommit.{WorksOn}
use Rattle.omega_laws.specs.TurnOrder.{began, turn_of}

-- in this turn the schedulers below next that have work have had theirs, and the others that have work
-- have not; the turn began after the round's rows, and nobody who still waits has committed since
pub record TurnsAt (settings : Settings) (trace : TraceTables) (rows : List Row) (opened_at : ℕ) (before : List Entry) (turn next : ℕ) : Type 0 where
  pub order : All (StandsBefore turn next) (round_commits before)
  pub had : (scheduler : ℕ) → scheduler < schedulers settings → scheduler < next
      → (request : Request) → WorksOn settings trace rows opened_at before scheduler request → turn_of before scheduler ≡ turn + 1
  pub waits : (scheduler : ℕ) → scheduler < schedulers settings → next ≤ scheduler
      → (request : Request) → WorksOn settings trace rows opened_at before scheduler request → turn_of before scheduler ≡ turn
  pub after_rows : opened_at ≤ began before turn
  pub there : began before turn ≤ length before
  pub after_own : (scheduler : ℕ) → next ≤ scheduler → after_last scheduler before ≤ began before turn

-- in a round that is under way the schedulers have taken turns, up to scheduler next in this turn
pub record Taking (settings : Settings) (trace : TraceTables) (rows : List Row) (start : List Entry) (round : Round) (before : List Entry) (turn next : ℕ) : Type 0 where
  pub so_far : RoundSoFar settings trace rows start round before
  pub within : length (opened trace rows start round).history ≤ length before
  pub turns : InTurns before
  pub at : TurnsAt settings trace (rows ++ round.rows) (length (opened trace rows start round).history) before turn next
