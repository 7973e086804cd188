-- The report of an audit.
use Rattle.std.specs.Prelude.{ℕ, List, [], ◌∷◌, codes, length}
use Rattle.omega_model.specs.Report.{Line, Name, Number}
use Rattle.omega_model.specs.ReportLines.{first_line, use_line}
use Rattle.omega_model.specs.State.{state}
use Rattle.omega_model.specs.declared.entries.Entry.{Entry}

-- the line that says how many entries an audit found legal
abbrev pub legal_line : ℕ → Line
legal_line entries = Name (codes "legal") ∷ Number entries ∷ []

-- the lines of the report of an audited history: the first line, how many entries there are, and what is
-- used of the cell after the last one
abbrev pub audit_lines : List Entry → List Line
audit_lines history = first_line ∷ legal_line (length history) ∷ use_line (state history) ∷ []
