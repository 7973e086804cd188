use Rattle.std.proofs.Common.{◌++◌}
use Rattle.std.specs.List.{filter}
use Rattle.std.specs.List.Sorted.{IsPermutation}
use Rattle.omega_running.specs.declared.orders.Order.TheVariants.{ByMachine}
use Rattle.omega_running.specs.Order.{led_by}
use Rattle.omega_running.proofs.Shares.{below}
use Rattle.omega_running.proofs.forest.Forest.collect.Given as goal

abbrev pub invariant-loop-share : goal.invariant-loop-share
invariant-loop-share l =
    IsPermutation (l.fn.found.items ++ filter (below l.share) (led_by ByMachine l.machine l.self.tasks)) l.found.items
