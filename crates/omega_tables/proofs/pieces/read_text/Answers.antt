use Rattle.std.proofs.Common.{rules, ◌≡◌, ◌++◌, ◌∷◌, List, ℕ, sym, subst}
use Rattle.omega_model.specs.Rows.{records_of, rows_by}
use Rattle.omega_model.specs.Refusals.{bad_row}
use Rattle.omega_tables.specs.Reading.{Stands}
use Rattle.omega_tables.proofs.LongLines.{law_behind}
use Rattle.omega_tables.proofs.pieces.read_text.Goals as goal

pub returns-clause-refusal : goal.returns-clause-refusal
returns-clause-refusal g c =
    let line = c.in-Some.ensures in
    let is = law_behind g.R.FromRecord.row_of c.columns.result c.in-Some.number line.0.0 c.columns.ensures line.0.3 line.1 in
    subst (λ (all : List (List (List ℕ))). Stands (bad_row c.args.table (rows_by g.R.FromRecord.row_of all)) c.refused_line.result) (sym line.0.2)
    (c.refused_line.ensures 0 (records_of c.in-Some.front.now) line.0.1 line.0.0 (search rules) (search rules) is)
