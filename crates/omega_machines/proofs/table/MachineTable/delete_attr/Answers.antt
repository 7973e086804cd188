use Rattle.std.proofs.Common.{refl, sym, ap}
use Rattle.omega_model.specs.Machines.{attr_deleted}
use Rattle.omega_machines.specs.Load.{load_of}
use Rattle.omega_machines.specs.Table.{with_machine}
use Rattle.omega_machines.proofs.Indexed.{index_there, indexed_changed}
use Rattle.omega_machines.proofs.Loads.{kept_same}
use Rattle.omega_machines.proofs.Places.{state_there}
use Rattle.omega_machines.proofs.Rewriting.{rewritten}
use Rattle.omega_machines.proofs.table.MachineTable.delete_attr.Goals as goal

pub delete_at-requires : goal.delete_at-requires
delete_at-requires c = index_there c.self.inside.indexes _ _ _ c.self.invariant.indexed (state_there _ _ _ _ _ c.self.view_is c.place_of-place.ensures c.index_mut-state.ensures.value)

pub invariant_of-self : goal.invariant_of-self
invariant_of-self c =
    record {
      kept = kept_same _ _ _ _ _ _ _ c.self.invariant.kept (state_there _ _ _ _ _ c.self.view_is c.place_of-place.ensures c.index_mut-state.ensures.value) (ap load_of c.delete_at.ensures.state)
          (rewritten _ _ _ _ _ _ (with_machine (attr_deleted c.args.name.now)) c.self.view_is c.self.invariant.kept.summed.table c.place_of-place.ensures (state_there _ _ _ _ _ c.self.view_is c.place_of-place.ensures c.index_mut-state.ensures.value)
          (sym c.delete_at.ensures.state) refl (λ here bounded. record { cap = bounded.cap; free = bounded.free; down = bounded.down }));
      indexed = indexed_changed c.self.inside.indexes c.delete_at.new.indexes _ _ _ _ (state_there _ _ _ _ _ c.self.view_is c.place_of-place.ensures c.index_mut-state.ensures.value) c.delete_at.ensures.indexes c.self.invariant.indexed;
    }

pub returns-clause-changed : goal.returns-clause-changed
returns-clause-changed c =
    (rewritten _ _ _ _ _ _ (with_machine (attr_deleted c.args.name.now)) c.self.view_is c.self.invariant.kept.summed.table c.place_of-place.ensures (state_there _ _ _ _ _ c.self.view_is c.place_of-place.ensures c.index_mut-state.ensures.value)
    (sym c.delete_at.ensures.state) refl (λ here bounded. record { cap = bounded.cap; free = bounded.free; down = bounded.down })).is

pub returns-clause-table : goal.returns-clause-table
returns-clause-table c =
    (rewritten _ _ _ _ _ _ (with_machine (attr_deleted c.args.name.now)) c.self.view_is c.self.invariant.kept.summed.table c.place_of-place.ensures (state_there _ _ _ _ _ c.self.view_is c.place_of-place.ensures c.index_mut-state.ensures.value)
    (sym c.delete_at.ensures.state) refl (λ here bounded. record { cap = bounded.cap; free = bounded.free; down = bounded.down })).held
