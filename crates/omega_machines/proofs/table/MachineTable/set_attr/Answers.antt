use Rattle.std.proofs.Common.{refl, sym, ap}
use Rattle.std.proofs.lemmas.Result.{on_ok_weaker, on_err_weaker}
use Rattle.omega_model.specs.Machines.{attr_set}
use Rattle.omega_machines.specs.Load.{load_of}
use Rattle.omega_machines.specs.Table.{with_machine}
use Rattle.omega_machines.proofs.Indexed.{index_there, indexed_changed}
use Rattle.omega_machines.proofs.Loads.{kept_same}
use Rattle.omega_machines.proofs.Places.{state_there}
use Rattle.omega_machines.proofs.Rewriting.{rewritten, unwritten}
use Rattle.omega_machines.proofs.table.MachineTable.set_attr.Goals as goal

pub set_at-requires : goal.set_at-requires
set_at-requires c = index_there c.self.inside.indexes _ _ _ c.self.invariant.indexed (state_there _ _ _ _ _ c.self.view_is c.place_of-place.ensures c.index_mut-state.ensures.value)

pub invariant_of-self : goal.invariant_of-self
invariant_of-self c =
    let attrs = c.set_at.new.state.machine.attrs in
    record {
      kept = kept_same _ _ _ _ _ _ _ c.self.invariant.kept (state_there _ _ _ _ _ c.self.view_is c.place_of-place.ensures c.index_mut-state.ensures.value) (ap load_of c.set_at.ensures.rest)
          ((rewritten _ _ _ _ _ _ (with_machine (λ machine. record machine { attrs = attrs })) c.self.view_is c.self.invariant.kept.summed.table c.place_of-place.ensures (state_there _ _ _ _ _ c.self.view_is c.place_of-place.ensures c.index_mut-state.ensures.value)
          (sym c.set_at.ensures.rest) refl (λ here bounded. record { cap = bounded.cap; free = bounded.free; down = bounded.down })));
      indexed = indexed_changed c.self.inside.indexes c.set_at.new.indexes _ _ _ _ (state_there _ _ _ _ _ c.self.view_is c.place_of-place.ensures c.index_mut-state.ensures.value) c.set_at.ensures.indexes c.self.invariant.indexed;
    }

pub returns-clause-ok : goal.returns-clause-ok
returns-clause-ok c =
    on_ok_weaker c.set_at.result
    (λ is.
    (rewritten _ _ _ _ _ _ (with_machine (attr_set c.args.name.now c.args.value.now)) c.self.view_is c.self.invariant.kept.summed.table c.place_of-place.ensures (state_there _ _ _ _ _ c.self.view_is c.place_of-place.ensures c.index_mut-state.ensures.value)
    (sym is) refl (λ here bounded. record { cap = bounded.cap; free = bounded.free; down = bounded.down })).is)
    c.set_at.ensures.ok

pub returns-clause-err : goal.returns-clause-err
returns-clause-err c =
    on_err_weaker c.set_at.result
    (λ is. unwritten _ _ _ _ _ c.self.view_is (state_there _ _ _ _ _ c.self.view_is c.place_of-place.ensures c.index_mut-state.ensures.value) is)
    c.set_at.ensures.err

pub returns-clause-table : goal.returns-clause-table
returns-clause-table c =
    let attrs = c.set_at.new.state.machine.attrs in
    (rewritten _ _ _ _ _ _ (with_machine (λ machine. record machine { attrs = attrs })) c.self.view_is c.self.invariant.kept.summed.table c.place_of-place.ensures (state_there _ _ _ _ _ c.self.view_is c.place_of-place.ensures c.index_mut-state.ensures.value)
    (sym c.set_at.ensures.rest) refl (λ here bounded. record { cap = bounded.cap; free = bounded.free; down = bounded.down })).held
