-- What is kept of the ends of tasks that end of themselves, and what of a moment a world tells beside it.
use Rattle.std.specs.Prelude.{◌≡◌, ◌<◌, List, Option, Some, None}
use Rattle.std.specs.List.{AllByRecursion as Each}
use Rattle.omega_feed.specs.Asked.{Asked}
use Rattle.omega_laws.specs.VirtualTime.{Timed}
use Rattle.omega_model.specs.ExtraTasks.{first_extra}
use Rattle.omega_model.specs.declared.entries.Entry.{Entry}
use Rattle.omega_model.specs.declared.rows.Row.{Row}
use Rattle.omega_model.specs.declared.rows.Row.TheVariants.{Task as TaskEvent}
use Rattle.omega_model.specs.declared.rows.TraceTables.{TraceTables}
use Rattle.omega_model.specs.declared.settings.Ends.{Ends}
use Rattle.omega_model.specs.declared.settings.Ends.TheVariants.{Own, Trace}
use Rattle.omega_model.specs.declared.settings.Settings.{Settings}
use Rattle.omega_free_laws.specs.Passes.{Past}
use Rattle.omega_free_laws.specs.Readings.{Reading}
use Rattle.omega_pieces.specs.Due.{KeepsEnds}
use Rattle.omega_pieces.specs.Kept.{KeepsPieces}
use Rattle.omega_free.specs.PassDesks.{asked_at}
use Rattle.omega_free.specs.declared.own_ends.OwnEnds.{OwnEnds}

-- a row is of no extra task
abbrev pub IsLowRow : Row → Type 0
IsLowRow (TaskEvent row) = row.key.index < first_extra
IsLowRow _ = Unit {0}

-- these are the pieces and the due ends of a trace's tasks, once these of its rows were applied, none of which is of an
-- extra task, and the commits of this history came at these times
pub record KeepsOwnEnds (trace : TraceTables) (rows : List Row) (history : List Entry) (times : List Timed) (own : OwnEnds) : Type 0 where
  pub low : Each IsLowRow rows
  pub pieces : KeepsPieces trace rows history own.pieces
  pub due : KeepsEnds trace history times own.due

-- they are kept exactly where tasks end of themselves
abbrev pub KeepsEndsBy : Ends → TraceTables → List Row → List Entry → List Timed → Option OwnEnds → Type 0
KeepsEndsBy Trace trace rows history times None = Unit {0}
KeepsEndsBy Trace trace rows history times (Some own) = ⊥
KeepsEndsBy Own trace rows history times None = ⊥
KeepsEndsBy Own trace rows history times (Some own) = KeepsOwnEnds trace rows history times own

-- this is the history of what has happened, and this is asked for then by the rows that count
pub record TellsPast (settings : Settings) (reading : Reading) (past : Past) (history : List Entry) (asked : Asked) : Type 0 where
  pub history_is : history ≡ past.history
  pub asks : asked ≡ asked_at settings reading past
