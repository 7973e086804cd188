-- Histories of the first rounds of a trace, in which the schedulers take turns.
use Rattle.std.specs.Prelude.{ℕ, List, [], ◌≤◌, length, take}
use Rattle.omega_model.specs.Feed.{rounds}
use Rattle.omega_model.specs.Lawful.{Rounds}
use Rattle.omega_model.specs.Turns.{InTurns}
use Rattle.omega_model.specs.declared.entries.Entry.{Entry}
use Rattle.omega_model.specs.declared.rows.TraceTables.{TraceTables}
use Rattle.omega_model.specs.declared.settings.Settings.{Settings}

-- a history is that of so many first rounds of a trace, from nothing, in which the schedulers take turns: there is
-- no other
pub record AreFirstInTurns (settings : Settings) (trace : TraceTables) (count : ℕ) (history : List Entry) : Type 0 where
  pub within : count ≤ length (rounds trace settings.window)
  pub made : Rounds settings trace [] [] (take count (rounds trace settings.window)) history
  pub turns : InTurns history
