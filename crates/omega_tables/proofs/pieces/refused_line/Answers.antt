use Rattle.std.proofs.Common.{◌∷◌}
use Rattle.omega_tables.proofs.LongLines.{refused_behind}
use Rattle.omega_tables.proofs.Together.{refusal_first}
use Rattle.omega_tables.proofs.pieces.refused_line.Goals as goal

pub returns-in-Ok : goal.returns-in-Ok
returns-in-Ok g c = λ most first others fields rows refused is.
    c.behind.ensures most c.args.table first (fields ∷ others) (rw c.in-Ok.is at rows)
    (refused_behind g.R.FromRecord.row_of c.args.table fields others c.args.number is)

pub returns-in-Err : goal.returns-in-Err
returns-in-Err g c = λ most first others fields rows refused is.
    refusal_first g.R.FromRecord.row_of c.args.table first (fields ∷ others) c.in-Err.refusal (rw c.in-Err.is at refused)
