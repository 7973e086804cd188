use Rattle.std.proofs.Common.{rules, ◌≡◌, ◌++◌, List, ℕ, sym, subst}
use Rattle.std.specs.Prelude.{IfOk, IfErr}
use Rattle.omega_model.specs.Rows.{records_of, rows_by}
use Rattle.omega_model.specs.Refusals.{bad_row}
use Rattle.omega_tables.specs.Reading.{Stands}
use Rattle.omega_tables.specs.Taking.{Takes}
use Rattle.omega_tables.proofs.Cutting.{whole_records}
use Rattle.omega_tables.proofs.pieces.+fn-read_pieces-join+arg2+fn-read_pieces-join+arg3+read_pieces.Goals as goal

pub returns-clause-rows : goal.returns-clause-rows
returns-clause-rows g t c =
    let front = c.in-Some.front.now in
    let back = c.in-Some.back.now in
    let records : records_of c.args.text.now ≡ records_of front ++ records_of back = whole_records c.args.text.now front back c.in-Some.ensures.0 c.in-Some.ensures.1 in
    subst (λ (all : List (List (List ℕ))). IfOk c.together.result (Takes c.args.most (rows_by g.R.FromRecord.row_of all))) (sym records)
    (c.together.ensures.rows c.args.most (records_of front) (records_of back) (search rules) (search rules))

pub returns-clause-refusal : goal.returns-clause-refusal
returns-clause-refusal g t c =
    let front = c.in-Some.front.now in
    let back = c.in-Some.back.now in
    let records : records_of c.args.text.now ≡ records_of front ++ records_of back = whole_records c.args.text.now front back c.in-Some.ensures.0 c.in-Some.ensures.1 in
    subst (λ (all : List (List (List ℕ))). IfErr c.together.result (λ refusal. Stands (bad_row c.args.table (rows_by g.R.FromRecord.row_of all)) refusal)) (sym records)
    (c.together.ensures.refusal c.args.most c.args.table (records_of front) (records_of back) (search rules) (search rules) (search rules))
