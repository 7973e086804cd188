use Rattle.std.proofs.Common.{refl, arith}
use Rattle.omega_machines.specs.Table.{touched}
use Rattle.omega_machines.proofs.Places.{stands, seq_there, state_there}
use Rattle.omega_machines.proofs.Indexed.{indexed_still}
use Rattle.omega_machines.proofs.Loads.{kept_same}
use Rattle.omega_machines.proofs.Rewriting.{rewritten}
use Rattle.omega_machines.proofs.table.MachineTable.touch.Goals as goal

pub overflow_add-state : goal.overflow_add-state
overflow_add-state c =
    let here = stands _ _ _ _ _ c.self.view_is c.place_of-place.ensures (state_there _ _ _ _ _ c.self.view_is c.place_of-place.ensures c.index_mut-state.ensures.value) in
    omega (arith, seq_there _ _ _ _ here, c.requires.seq)

pub invariant_of-self : goal.invariant_of-self
invariant_of-self c =
    let state = c.index_mut-state.result.now in
    record {
      kept = kept_same _ _ _ _ _ _ _ c.self.invariant.kept (state_there _ _ _ _ _ c.self.view_is c.place_of-place.ensures c.index_mut-state.ensures.value) refl
          ((rewritten _ _ _ _ state _ (touched) c.self.view_is c.self.invariant.kept.summed.table c.place_of-place.ensures (state_there _ _ _ _ _ c.self.view_is c.place_of-place.ensures c.index_mut-state.ensures.value)
          (refl) refl (λ here bounded. record { cap = bounded.cap; free = bounded.free; down = bounded.down })));
      indexed = indexed_still c.self.inside.indexes _ _ _ _ (state_there _ _ _ _ _ c.self.view_is c.place_of-place.ensures c.index_mut-state.ensures.value) refl c.self.invariant.indexed;
    }

pub returns-clause-changed : goal.returns-clause-changed
returns-clause-changed c =
    let state = c.index_mut-state.result.now in
    (rewritten _ _ _ _ state _ (touched) c.self.view_is c.self.invariant.kept.summed.table c.place_of-place.ensures (state_there _ _ _ _ _ c.self.view_is c.place_of-place.ensures c.index_mut-state.ensures.value)
    (refl) refl (λ here bounded. record { cap = bounded.cap; free = bounded.free; down = bounded.down })).is

pub returns-clause-table : goal.returns-clause-table
returns-clause-table c =
    let state = c.index_mut-state.result.now in
    (rewritten _ _ _ _ state _ (touched) c.self.view_is c.self.invariant.kept.summed.table c.place_of-place.ensures (state_there _ _ _ _ _ c.self.view_is c.place_of-place.ensures c.index_mut-state.ensures.value)
    (refl) refl (λ here bounded. record { cap = bounded.cap; free = bounded.free; down = bounded.down })).held
