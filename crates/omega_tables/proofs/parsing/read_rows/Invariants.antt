use Rattle.std.proofs.Common.{◌≡◌, ℕ, List, Some}
use Rattle.csv.specs.Reading.{Reached, Ready, default_config, source_of, strip_bom}
use Rattle.csv.specs.declared.parser.State.TheVariants as st
use Rattle.csv.specs.declared.reader.Trim.TheVariants as trim
use Rattle.omega_tables.proofs.Taking.{SoFar}
use Rattle.omega_tables.proofs.parsing.read_rows.Given as goal

abbrev pub invariant-loop-number : goal.invariant-loop-number
invariant-loop-number g l = (l.reader.trim ≡ trim.None) × Ready l.reader × (l.reader.config ≡ default_config)
    × (done : List (List (List ℕ))) × SoFar g.R.FromRecord.row_of l.fn.most done l.rows.items l.number
    × (y : List ℕ) × (source_of (λ s. Some s.now) l.reader ≡ Some y)
    × Reached default_config st.StartRecord (strip_bom l.fn.text) done l.reader.state y
