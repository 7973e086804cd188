-- What is noted of the entries that a walk has before it.
use Rattle.std.specs.Prelude.{◌≡◌, List, ◌∷◌, [], if◌then◌else◌, Bool}
use Rattle.std.specs.List.{fold}
use Rattle.omega_cell.specs.Effects.{along, displaced_at, usage_at, usage_in}
use Rattle.omega_cell.specs.declared.effects.Usage.{Usage}
use Rattle.omega_model.specs.Cell.{Cell}
use Rattle.omega_model.specs.Report.{Line}
use Rattle.omega_model.specs.State.{step}
use Rattle.omega_model.specs.declared.entries.Entry.{Entry}
use Rattle.omega_report.specs.Lines.{usage_line}
use Rattle.omega_report.specs.declared.ahead.Ahead.{Ahead}

-- what is ahead of a cell is what is noted along these later entries, and the usage after them
pub record IsAhead (cell : Cell) (later : List Entry) (ahead : Ahead) : Type 0 where
  pub usages : ahead.usages.now ≡ along usage_at cell later
  pub displaced : ahead.displaced.now ≡ along displaced_at cell later
  pub last : ahead.last ≡ usage_in (fold step cell later)

-- the line of a usage, if it is due
abbrev pub usage_if : Bool → Usage → List Line
usage_if due usage = if due then usage_line usage.used usage.capacity ∷ [] else []
