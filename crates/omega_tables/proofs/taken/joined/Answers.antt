use Rattle.std.proofs.Common.{◌≡◌, ◌<◌, ◌+◌, arith}
use Rattle.omega_model.specs.Rows.{rows_by}
use Rattle.omega_tables.specs.Taking.{held_count}
use Rattle.omega_tables.proofs.Taking.{above_most, joined_count}
use Rattle.omega_tables.proofs.Together.{both_rows}
use Rattle.omega_tables.proofs.taken.joined.Goals as goal

pub returns-in_ok-append-in-All-back : goal.returns-in_ok-append-in-All-back
returns-in_ok-append-in-All-back g c = λ most first second one two.
    rw c.in_ok-append-in-All-back.ensures.items (both_rows g.R.FromRecord.row_of first second _ _ (rw c.in-All.is at one) (rw c.in-All-back.is at two))

pub returns-in-Number-back : goal.returns-in-Number-back
returns-in-Number-back g c = λ most first second one two.
    let front = c.number_of.ensures in
    let back = c.number_of-2.ensures in
    let all = c.in-Some.ensures.1 in
    let sum : c.in-Some.number ≡ held_count c.args.front + held_count c.args.back = omega (arith, front, back, all) in
    let above = above_most most _ (rows_by g.R.FromRecord.row_of second) c.args.back two c.in-Number-back.is in
    joined_count g.R.FromRecord.row_of most first second c.args.front c.args.back c.in-Some.number one two sum (omega (arith, above, sum))

pub returns-in-Number : goal.returns-in-Number
returns-in-Number g c = λ most first second one two.
    let front = c.number_of.ensures in
    let back = c.number_of-2.ensures in
    let all = c.in-Some.ensures.1 in
    let sum : c.in-Some.number ≡ held_count c.args.front + held_count c.args.back = omega (arith, front, back, all) in
    let above = above_most most _ (rows_by g.R.FromRecord.row_of first) c.args.front one c.in-Number.is in
    joined_count g.R.FromRecord.row_of most first second c.args.front c.args.back c.in-Some.number one two sum (omega (arith, above, sum))
