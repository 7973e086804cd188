use Rattle.std.proofs.Common.{◌≡◌}
use Rattle.std.specs.List.{filter}
use Rattle.omega_model.specs.Cell.{is_on, total}
use Rattle.omega_model.specs.Need.{minus}
use Rattle.omega_running.specs.Staying.{stays_against}
use Rattle.omega_running.proofs.Shares.{below}
use Rattle.omega_running.proofs.forest.Forest.left_on.Given as goal

abbrev pub invariant-loop-share : goal.invariant-loop-share
invariant-loop-share l =
    l.left ≡ minus l.fn.amount (total (filter (stays_against l.prec) (filter (below l.share) (filter (is_on l.machine) l.self.tasks))))
