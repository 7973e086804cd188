-- The rows of the round that is under way in a run.
use Rattle.std.specs.Prelude.{ℕ, List, ◌++◌, take}
use Rattle.omega_model.specs.Feed.{rounds}
use Rattle.omega_model.specs.Lawful.{Underway, rows_of}
use Rattle.omega_model.specs.Stepping.{IsInRound, Step, rows_end}
use Rattle.omega_model.specs.World.{StepAnswer, World}
use Rattle.omega_model.specs.declared.entries.Entry.{Entry}
use Rattle.omega_model.specs.declared.rows.Row.{Row}
use Rattle.omega_model.specs.declared.rows.TraceTables.{TraceTables}
use Rattle.omega_model.specs.declared.settings.Settings.{Settings}
use Rattle.omega_laws.specs.NextCommit.{NobodyHasWork}

-- the rows of the rounds before the one that is under way
abbrev pub rows_before : (settings : Settings) (trace : TraceTables) (history : List Entry) → Underway settings trace history → List Row
rows_before settings trace history underway = rows_of (take underway.done (rounds trace settings.window))

-- these rows and those of the round that is under way
abbrev pub rows_now : (settings : Settings) (trace : TraceTables) (history : List Entry) → Underway settings trace history → List Row
rows_now settings trace history underway = rows_before settings trace history underway ++ underway.round.rows

-- a step in the round that a world is in
abbrev pub StepsInRound : (settings : Settings) (trace : TraceTables) (old : World) → IsInRound settings trace old → ℕ → World → StepAnswer → Type 0
StepsInRound settings trace old in_round scheduler new answer =
    Step settings trace (rows_now settings trace old.history in_round.underway) (rows_end settings trace old.history in_round.underway)
    old scheduler new answer

-- nobody has work in that round
abbrev pub RoundIsOver : (settings : Settings) (trace : TraceTables) (world : World) → IsInRound settings trace world → Type 0
RoundIsOver settings trace world in_round =
    NobodyHasWork settings trace (rows_now settings trace world.history in_round.underway)
    (rows_end settings trace world.history in_round.underway) world.history
