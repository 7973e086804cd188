-- By which clock a run goes whose decisions take time, and what is wanted at its end.
use Rattle.std.specs.Prelude.{Bool, true, false, List, if◌then◌else◌}
use Rattle.omega_free.specs.FreeRuns.{reading_of, wanted_last}
use Rattle.omega_free_laws.specs.Free.{FreeRun}
use Rattle.omega_laws.specs.Simulated.{SimulatedWith}
use Rattle.omega_laws.specs.VirtualTime.{Timed}
use Rattle.omega_model.specs.Feed.{feed}
use Rattle.omega_model.specs.Wanted.{WantedTask, wanted}
use Rattle.omega_model.specs.declared.entries.Entry.{Entry}
use Rattle.omega_model.specs.declared.rows.TraceTables.{TraceTables}
use Rattle.omega_model.specs.declared.settings.Clock.{Clock}
use Rattle.omega_model.specs.declared.settings.Clock.TheVariants.{Free, Rounds}
use Rattle.omega_model.specs.declared.settings.Command.{Command}
use Rattle.omega_model.specs.declared.settings.Command.TheVariants.{Audit, Generate, Replay, Resume, Run, Simulate}
use Rattle.omega_model.specs.declared.settings.Settings.{Settings}

-- whether a clock lets rounds open while schedulers decide
abbrev pub is_free : Clock → Bool
is_free Free = true
is_free Rounds = false

-- whether a command runs by the free clock, where this clock is chosen: only `simulate` looks at a clock
abbrev pub freely_by : Command → Clock → Bool
freely_by Simulate clock = is_free clock
freely_by Replay clock = false
freely_by Run clock = false
freely_by Generate clock = false
freely_by Resume clock = false
freely_by Audit clock = false

-- whether these settings are of a run by the free clock
abbrev pub runs_freely : Settings → Bool
runs_freely settings = freely_by settings.command settings.clock

-- a history, with these times of its commits, is that of the run of a trace by a clock
abbrev pub IsRunBy : Clock → Settings → TraceTables → List Entry → List Timed → Type 0
IsRunBy Rounds settings trace history times = SimulatedWith settings trace history times
IsRunBy Free settings trace history times = FreeRun settings (reading_of settings trace) history times

-- a history, with these times of its commits, is that of the run of a trace by the clock of the settings
abbrev pub IsTimedRun : Settings → TraceTables → List Entry → List Timed → Type 0
IsTimedRun settings = IsRunBy settings.clock settings

-- a history is that of the run of a trace by the free clock, with some times of its commits
abbrev pub IsFree : Settings → TraceTables → List Entry → Type 0
IsFree settings trace history = (times : List Timed) × IsRunBy Free settings trace history times

-- the tasks that are wanted when a run with this history is over
abbrev pub wanted_at_end : Settings → TraceTables → List Entry → List WantedTask
wanted_at_end settings trace history =
    if runs_freely settings then wanted_last settings trace history else wanted (feed trace)
