-- What each command does with tables, and in which order the commits of its runs stand.
use Rattle.std.specs.Prelude.{Bool, true, false, List, ⊤}
use Rattle.omega_laws.specs.Simulated.{Simulated}
use Rattle.omega_model.specs.Turns.{InTurns}
use Rattle.omega_model.specs.declared.entries.Entry.{Entry}
use Rattle.omega_model.specs.declared.rows.TraceTables.{TraceTables}
use Rattle.omega_model.specs.declared.settings.Command.{Command}
use Rattle.omega_model.specs.declared.settings.Command.TheVariants.{Audit, Generate, Replay, Resume, Run, Simulate}
use Rattle.omega_model.specs.declared.settings.Settings.{Settings}

-- whether a command makes its tables of a seed, and reads none of those that it is handed
abbrev pub makes_tables : Command → Bool
makes_tables Generate = true
makes_tables Replay = false
makes_tables Run = false
makes_tables Simulate = false
makes_tables Resume = false
makes_tables Audit = false

-- whether a command reads the tables that it is handed
abbrev pub reads_tables : Command → Bool
reads_tables Replay = true
reads_tables Run = true
reads_tables Simulate = true
reads_tables Resume = true
reads_tables Generate = false
reads_tables Audit = false

-- whether a command uses what a keeper has
abbrev pub uses_keeper : Command → Bool
uses_keeper Resume = true
uses_keeper Audit = true
uses_keeper Replay = false
uses_keeper Run = false
uses_keeper Generate = false
uses_keeper Simulate = false

-- whether the schedulers of a command take turns
abbrev pub takes_turns : Command → Bool
takes_turns Replay = true
takes_turns Generate = true
takes_turns Resume = true
takes_turns Run = false
takes_turns Simulate = false
takes_turns Audit = false

-- the commits of a history whose rounds wait for all schedulers stand in the order of a command: in turns, or by
-- the clock of rounds; on threads any order will do. On `audit` nothing is run
abbrev pub OrderedBy : Command → Settings → TraceTables → List Entry → Type 0
OrderedBy Replay settings trace history = InTurns history
OrderedBy Generate settings trace history = InTurns history
OrderedBy Resume settings trace history = InTurns history
OrderedBy Simulate settings trace history = Simulated settings trace history
OrderedBy Run settings trace history = ⊤
OrderedBy Audit settings trace history = InTurns history

-- the commits of a history stand in the order of the command that the settings name
abbrev pub IsOrdered : Settings → TraceTables → List Entry → Type 0
IsOrdered settings = OrderedBy settings.command settings
