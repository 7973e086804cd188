use Rattle.std.proofs.Common.{rules, ◌≡◌, ◌++◌, ◌∷◌, length}
use Rattle.omega_fit.specs.Tree.{middle, Tree}
use Rattle.omega_fit.proofs.Trees.{tree_fork, grown_left, grown_right}
use Rattle.omega_fit.proofs.nodes.+settle_last.Goals as goal

pub settle_last-requires : goal.settle_last-requires
settle_last-requires t c =
    let whole : c.args.nodes.now ≡ c.split_at_mut-left.result.0.now ++ c.in-Some.node.now ∷ c.in-Some.right.now = search rules in
    let half : length c.split_at_mut-left.result.0.now ≡ middle (length c.args.nodes.now) = search rules in
    (search rules, grown_right _ _ _ _ whole half c.requires.tree)

pub returns-in-Some-clause-tree : goal.returns-in-Some-clause-tree
returns-in-Some-clause-tree t c =
    let whole : c.args.nodes.now ≡ c.split_at_mut-left.result.0.now ++ c.in-Some.node.now ∷ c.in-Some.right.now = search rules in
    let half : length c.split_at_mut-left.result.0.now ≡ middle (length c.args.nodes.now) = search rules in
    let left : Tree c.split_at_mut-left.result.0.now = grown_left _ _ _ _ whole half c.requires.tree in
    search (rules, tree_fork)
