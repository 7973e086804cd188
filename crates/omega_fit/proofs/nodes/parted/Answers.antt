use Rattle.std.proofs.Common.{rules, ◌≡◌, ◌++◌, ◌∷◌, length}
use Rattle.omega_fit.specs.Tree.{middle}
use Rattle.omega_fit.proofs.Trees.{tree_left, tree_right}
use Rattle.omega_fit.proofs.nodes.parted.Goals as goal

pub returns-clause-left : goal.returns-clause-left
returns-clause-left c =
    let whole : c.args.nodes.now ≡ c.split_at.result.0.now ++ c.in-Some.node.now ∷ c.in-Some.right.now = search rules in
    let half : length c.split_at.result.0.now ≡ middle (length c.args.nodes.now) = search rules in
    tree_left _ _ _ _ c.requires.tree whole half

pub returns-clause-right : goal.returns-clause-right
returns-clause-right c =
    let whole : c.args.nodes.now ≡ c.split_at.result.0.now ++ c.in-Some.node.now ∷ c.in-Some.right.now = search rules in
    let half : length c.split_at.result.0.now ≡ middle (length c.args.nodes.now) = search rules in
    tree_right _ _ _ _ c.requires.tree whole half
