use Rattle.std.proofs.Common.{sym, subst, List}
use Rattle.omega_machines.specs.Places.{IsKept}
use Rattle.omega_machines.specs.Table.{MachineState}
use Rattle.omega_machines.proofs.Finding.{kept_none}
use Rattle.omega_machines.proofs.Indexed.{indexed_none}
use Rattle.omega_machines.proofs.table.MachineTable.new.Goals as goal

pub invariant_of-result : goal.invariant_of-result
invariant_of-result c =
    record {
      kept = subst (λ (states : List MachineState). IsKept c.new-2.result states _) (sym c.new.ensures.items) (kept_none c.new-2.result c.new-2.ensures.empty);
      indexed = indexed_none c.new-4.result _ c.new-4.ensures.empty;
    }
