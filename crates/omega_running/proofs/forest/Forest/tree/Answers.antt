use Rattle.std.proofs.Common.{◌≡◌, ◌<◌, ◌%◌, length, map, sym, ap, ◌∙◌}
use Rattle.std.specs.List.{filter}
use Rattle.omega_running.specs.Forest.{is_at, gathered}
use Rattle.omega_running.specs.Tree.{tasks_of}
use Rattle.omega_running.proofs.Spread.{one_tree, part_is, tree_at}
use Rattle.omega_running.proofs.forest.Forest.tree.Goals as goal

pub returns-clause-ordered : goal.returns-clause-ordered
returns-clause-ordered c =
    let less : c.in_ok-place.place < length c.self.inside.trees.items = rw (← c.self.view_is) at c.in_ok-place.ensures.within in
    rw (← c.self.view_is) (one_tree c.self.inside.order c.self.inside.trees.items c.in_ok-place.place c.index.result.now c.self.invariant less c.index.ensures).0

pub returns-clause-tallied : goal.returns-clause-tallied
returns-clause-tallied c =
    let less : c.in_ok-place.place < length c.self.inside.trees.items = rw (← c.self.view_is) at c.in_ok-place.ensures.within in
    (one_tree c.self.inside.order c.self.inside.trees.items c.in_ok-place.place c.index.result.now c.self.invariant less c.index.ensures).1

pub returns-clause-part : goal.returns-clause-part
returns-clause-part c =
    let trees = c.self.inside.trees.items in
    let less : c.in_ok-place.place < length trees = rw (← c.self.view_is) at c.in_ok-place.ensures.within in
    let named : c.in_ok-place.place ≡ c.args.number % length trees = rw (← c.self.view_is) at c.in_ok-place.ensures.place in
    let is = tree_at trees c.in_ok-place.place c.index.result.now less c.index.ensures in
    rw (← c.self.view_is) (sym is ∙ part_is c.self.inside.order (length trees) (map tasks_of trees) c.in_ok-place.place c.self.invariant.spread
    ∙ ap (λ i. filter (is_at c.self.inside.order (length trees) i) (gathered c.self.inside.order (map tasks_of trees))) named)
