use Rattle.std.proofs.Common.{◌≡◌, take, length, vec_len, vec_capacity}
use Rattle.omega_fit.specs.Tree.{frees}
use Rattle.omega_fit.proofs.index.nodes_of.Given as goal

abbrev pub invariant-loop-amount : goal.invariant-loop-amount
invariant-loop-amount l =
    (frees l.nodes.items ≡ take l.amount-index l.fn.free)
    × (vec_len l.nodes ≡ l.amount-index)
    × (vec_capacity l.nodes ≡ length l.fn.free)
