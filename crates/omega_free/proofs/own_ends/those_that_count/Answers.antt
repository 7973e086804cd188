use Rattle.std.proofs.Common.{◌≡◌, ◌++◌, ◌∷◌, [], List, ap, rules, subst, ◌∙◌}
use Rattle.std.specs.List.{AllByRecursion as Each}
use Rattle.std.specs.Vec.Iter.{into_iter_items}
use Rattle.std.proofs.lemmas.List.{nil_from_length}
use Rattle.omega_model.specs.declared.rows.Row.{Row}
use Rattle.omega_free_laws.specs.Lives.{counting_behind}
use Rattle.omega_pieces.specs.Kept.{KeepsPieces}
use Rattle.omega_free.specs.KeptEnds.{IsLowRow}
use Rattle.omega_free.proofs.RowsTaken.{all_taken, all_to_take, done_are_all, one_taken}
use Rattle.omega_free.proofs.own_ends.those_that_count.Goals as goal

pub loop-row-init : goal.loop-row-init
loop-row-init c =
    let items : into_iter_items c.into_iter-row-iterator.result ≡ c.args.rows = search rules in
    all_to_take c.args.pieces.now c.new-counting.result c.args.rows (into_iter_items c.into_iter-row-iterator.result) c.new-counting.ensures items

pub loop-row-preserved : goal.loop-row-preserved
loop-row-preserved c =
    let row : Row = c.in-Some.row in
    let rest = into_iter_items c.next.new.self in
    let items : into_iter_items c.loop-row.row-iterator ≡ row ∷ rest = search rules in
    one_taken c.args.pieces.now c.loop-row.pieces c.take_next.new.pieces c.loop-row.counting c.take_next.new.counting (into_iter_items c.loop-row.row-iterator) rest
    c.args.rows row c.loop-row.invariant items c.in_ok-take_next.ensures.low c.in_ok-take_next.ensures.counting c.in_ok-take_next.ensures.kept

pub returns-clause-counting : goal.returns-clause-counting
returns-clause-counting c trace before history keeps =
    let none : into_iter_items c.loop-row.row-iterator ≡ [] = nil_from_length (into_iter_items c.loop-row.row-iterator) (search rules) in
    let all = all_taken c.args.pieces.now c.loop-row.pieces c.loop-row.counting (into_iter_items c.loop-row.row-iterator) c.args.rows c.loop-row.invariant none in
    all.counts trace before history keeps
    ∙ ap (λ (rows : List Row). counting_behind history before rows) (done_are_all c.args.pieces.now c.loop-row.pieces c.loop-row.counting c.args.rows all)

pub returns-clause-kept : goal.returns-clause-kept
returns-clause-kept c trace before history keeps =
    let none : into_iter_items c.loop-row.row-iterator ≡ [] = nil_from_length (into_iter_items c.loop-row.row-iterator) (search rules) in
    let all = all_taken c.args.pieces.now c.loop-row.pieces c.loop-row.counting (into_iter_items c.loop-row.row-iterator) c.args.rows c.loop-row.invariant none in
    subst (λ (rows : List Row). KeepsPieces trace (before ++ rows) history c.loop-row.pieces)
    (done_are_all c.args.pieces.now c.loop-row.pieces c.loop-row.counting c.args.rows all) (all.keeps trace before history keeps)

pub returns-clause-low : goal.returns-clause-low
returns-clause-low c =
    let none : into_iter_items c.loop-row.row-iterator ≡ [] = nil_from_length (into_iter_items c.loop-row.row-iterator) (search rules) in
    let all = all_taken c.args.pieces.now c.loop-row.pieces c.loop-row.counting (into_iter_items c.loop-row.row-iterator) c.args.rows c.loop-row.invariant none in
    subst (Each IsLowRow) (done_are_all c.args.pieces.now c.loop-row.pieces c.loop-row.counting c.args.rows all) all.low
