use Rattle.std.proofs.Common.{◌∙◌, ◌+◌, ℕ, ap}
use Rattle.omega_model.specs.Rows.{rows_by}
use Rattle.omega_tables.proofs.Taking.{takes_count}
use Rattle.omega_tables.proofs.Together.{refusal_behind}
use Rattle.omega_tables.proofs.pieces.behind.Goals as goal

pub returns-in-Some : goal.returns-in-Some
returns-in-Some g c = λ most table first second taken refused.
    refusal_behind g.R.FromRecord.row_of table c.in-BadRow.table first second _ c.in-BadRow.row c.in-Some.row c.in-BadRow.column c.in-BadRow.cause
    (takes_count most (rows_by g.R.FromRecord.row_of first) c.args.front.now taken)
    (c.in-Some.ensures.1 ∙ ap (λ (n : ℕ). c.in-BadRow.row + n) c.number_of.ensures) (rw c.in-BadRow.is at refused)
