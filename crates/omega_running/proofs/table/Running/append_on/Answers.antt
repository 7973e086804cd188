use Rattle.std.proofs.Common.{◌++◌, subst}
use Rattle.std.specs.List.Sorted.{IsPermutation}
use Rattle.std.specs.Prelude.{OnOk}
use Rattle.omega_running.proofs.table.Running.append_on.Goals as goal

pub returns : goal.returns
returns c =
    rw (← c.self.view_is)
    (subst (λ ts. OnOk c.collect.result (IsPermutation (c.args.found.now.items ++ ts) c.collect.new.found.items)) (c.self.invariant.same c.args.machine) c.collect.ensures)
