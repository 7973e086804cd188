use Rattle.std.proofs.Common.{refl, sym, ◌∙◌}
use Rattle.omega_model.specs.Machines.{removed}
use Rattle.omega_machines.specs.Table.{with_machine}
use Rattle.omega_machines.proofs.Places.{use_there, state_there}
use Rattle.omega_machines.proofs.Bounds.{bounded-removed}
use Rattle.omega_machines.proofs.Indexed.{indexed_still}
use Rattle.omega_machines.proofs.Loads.{load_fits, kept_anew}
use Rattle.omega_machines.proofs.Rewriting.{rewritten}
use Rattle.omega_machines.proofs.table.MachineTable.remove.Goals as goal

pub replaced-self-inside-requires : goal.replaced-self-inside-requires
replaced-self-inside-requires c =
    let state = c.index_mut-state.result.now in
    load_fits _ _ _ _ _ _ _ _ _ c.self.invariant.kept (state_there _ _ _ _ _ c.self.view_is c.place_of-place.ensures c.index_mut-state.ensures.value) c.of-before.ensures c.of.ensures
    ((rewritten _ _ _ _ state _ (with_machine removed) c.self.view_is c.self.invariant.kept.summed.table c.place_of-place.ensures (state_there _ _ _ _ _ c.self.view_is c.place_of-place.ensures c.index_mut-state.ensures.value)
    (refl) refl (λ here bounded. bounded-removed _ bounded (sym (use_there _ _ _ _ here) ∙ c.requires.in_use))))

pub invariant_of-self : goal.invariant_of-self
invariant_of-self c =
    let state = c.index_mut-state.result.now in
    record {
      kept = kept_anew _ _ _ _ _ _ _ _ _ c.self.invariant.kept (state_there _ _ _ _ _ c.self.view_is c.place_of-place.ensures c.index_mut-state.ensures.value) c.of-before.ensures c.of.ensures
          ((rewritten _ _ _ _ state _ (with_machine removed) c.self.view_is c.self.invariant.kept.summed.table c.place_of-place.ensures (state_there _ _ _ _ _ c.self.view_is c.place_of-place.ensures c.index_mut-state.ensures.value)
          (refl) refl (λ here bounded. bounded-removed _ bounded (sym (use_there _ _ _ _ here) ∙ c.requires.in_use)))) _ c.replaced-self-inside.ensures;
      indexed = indexed_still c.self.inside.indexes _ _ _ _ (state_there _ _ _ _ _ c.self.view_is c.place_of-place.ensures c.index_mut-state.ensures.value) refl c.self.invariant.indexed;
    }

pub returns-clause-changed : goal.returns-clause-changed
returns-clause-changed c =
    let state = c.index_mut-state.result.now in
    (rewritten _ _ _ _ state _ (with_machine removed) c.self.view_is c.self.invariant.kept.summed.table c.place_of-place.ensures (state_there _ _ _ _ _ c.self.view_is c.place_of-place.ensures c.index_mut-state.ensures.value)
    (refl) refl (λ here bounded. bounded-removed _ bounded (sym (use_there _ _ _ _ here) ∙ c.requires.in_use))).is

pub returns-clause-table : goal.returns-clause-table
returns-clause-table c =
    let state = c.index_mut-state.result.now in
    (rewritten _ _ _ _ state _ (with_machine removed) c.self.view_is c.self.invariant.kept.summed.table c.place_of-place.ensures (state_there _ _ _ _ _ c.self.view_is c.place_of-place.ensures c.index_mut-state.ensures.value)
    (refl) refl (λ here bounded. bounded-removed _ bounded (sym (use_there _ _ _ _ here) ∙ c.requires.in_use))).held
