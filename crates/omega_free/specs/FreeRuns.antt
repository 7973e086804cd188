-- The whole run of a trace by the free clock, and what its report is made of.
use Rattle.std.specs.Prelude.{◌≡◌, List}
use Rattle.omega_cell.specs.Effects.{AreEffects}
use Rattle.omega_feed.specs.Left.{AreLeft}
use Rattle.omega_model.specs.Feed.{feed, rounds}
use Rattle.omega_model.specs.State.{state}
use Rattle.omega_model.specs.Wanted.{WantedTask, wanted}
use Rattle.omega_model.specs.declared.entries.Entry.{Entry}
use Rattle.omega_model.specs.declared.rows.TraceTables.{TraceTables}
use Rattle.omega_model.specs.declared.settings.Ends.{Ends}
use Rattle.omega_model.specs.declared.settings.Ends.TheVariants.{Own, Trace}
use Rattle.omega_model.specs.declared.settings.Settings.{Settings}
use Rattle.omega_free_laws.specs.Free.{FreeRun}
use Rattle.omega_free_laws.specs.Readings.{Reading, by_lives, by_rows}
use Rattle.omega_free.specs.declared.run.WholeRun.{WholeRun}

-- how a trace is read where its tasks end so
abbrev pub reading_by : Ends → TraceTables → Reading
reading_by Trace trace = by_rows trace
reading_by Own trace = by_lives trace

-- how a trace is read under these settings
abbrev pub reading_of : Settings → TraceTables → Reading
reading_of settings trace = reading_by settings.ends trace

-- the tasks of a trace that are wanted after a history that all its rows came into
abbrev pub wanted_last : Settings → TraceTables → List Entry → List WantedTask
wanted_last settings trace history = wanted ((reading_of settings trace).counted (feed trace) history)

-- this is the run of a trace by the free clock: its history with the times of its commits, what the entries did, the wanted
-- tasks that don't run at its end, and the trace's rounds
pub record IsWholeRun (settings : Settings) (trace : TraceTables) (run : WholeRun) : Type 0 where
  pub runs : FreeRun settings (reading_of settings trace) run.history run.times
  pub effects : AreEffects run.history run.effects
  pub left : AreLeft (wanted_last settings trace run.history) (state run.history) run.left
  pub rounds : run.rounds ≡ rounds trace settings.window
