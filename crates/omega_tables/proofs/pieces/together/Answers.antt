use Rattle.omega_tables.proofs.Together.{refusal_first}
use Rattle.omega_tables.proofs.pieces.together.Goals as goal

pub returns-in-Err-clause-refusal : goal.returns-in-Err-clause-refusal
returns-in-Err-clause-refusal g c = λ most table first second rows refused other.
    refusal_first g.R.FromRecord.row_of table first second c.in-Err.refusal (rw c.in-Err.is at refused)

pub returns-in_ok-joined-in-Ok-back-clause-rows : goal.returns-in_ok-joined-in-Ok-back-clause-rows
returns-in_ok-joined-in-Ok-back-clause-rows g c = λ most first second rows more.
    c.in_ok-joined-in-Ok-back.ensures most first second (rw c.in-Ok.is at rows) (rw c.in-Ok-back.is at more)

pub returns-in-Err-back-clause-refusal : goal.returns-in-Err-back-clause-refusal
returns-in-Err-back-clause-refusal g c = λ most table first second rows refused other.
    c.behind.ensures most table first second (rw c.in-Ok.is at rows) (rw c.in-Err-back.is at other)
