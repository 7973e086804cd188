use Rattle.std.proofs.Common.{◌≡◌, ◌≤◌, vec_len, vec_capacity}
use Rattle.omega_running.specs.declared.nodes.Tree.TheVariants.{Leaf}
use Rattle.std.specs.List.{AllByRecursion as Each}
use Rattle.omega_running.proofs.forest.leaves.Given as goal

abbrev pub invariant-loop-tree : goal.invariant-loop-tree
invariant-loop-tree l = (vec_len l.trees ≡ l._tree) × (l.count ≤ vec_capacity l.trees) × Each (λ tree. tree ≡ Leaf) l.trees.items
