use Rattle.std.proofs.Common.{refl, sym, ap}
use Rattle.omega_model.specs.declared.cells.Need.{Need}
use Rattle.omega_machines.specs.Table.{charged}
use Rattle.omega_machines.proofs.Places.{listed_from_free, free_there, state_there}
use Rattle.omega_machines.proofs.Bounds.{bounded-charged}
use Rattle.omega_machines.proofs.Indexed.{indexed_still}
use Rattle.omega_machines.proofs.Loads.{load_fits, kept_anew}
use Rattle.omega_machines.proofs.Rewriting.{rewritten}
use Rattle.omega_machines.proofs.table.MachineTable.charge.Goals as goal

pub place_of-place-requires : goal.place_of-place-requires
place_of-place-requires c = listed_from_free _ c.args.id _ c.requires

pub replaced-self-inside-requires : goal.replaced-self-inside-requires
replaced-self-inside-requires c =
    let state = c.index_mut-state.result.now in
    load_fits _ _ _ _ _ _ _ _ _ c.self.invariant.kept (state_there _ _ _ _ _ c.self.view_is c.place_of-place.ensures c.index_mut-state.ensures.value) c.of-before.ensures c.of.ensures
    ((rewritten _ _ _ _ state _ (charged c.args.need) c.self.view_is c.self.invariant.kept.summed.table c.place_of-place.ensures (state_there _ _ _ _ _ c.self.view_is c.place_of-place.ensures c.index_mut-state.ensures.value)
    (ap (λ (free : Need). record state { free = free }) (sym c.minus-state.ensures)) refl (λ here bounded. bounded-charged _ bounded c.args.need (free_there _ _ _ _ here _ c.requires))))

pub invariant_of-self : goal.invariant_of-self
invariant_of-self c =
    let state = c.index_mut-state.result.now in
    record {
      kept = kept_anew _ _ _ _ _ _ _ _ _ c.self.invariant.kept (state_there _ _ _ _ _ c.self.view_is c.place_of-place.ensures c.index_mut-state.ensures.value) c.of-before.ensures c.of.ensures
          ((rewritten _ _ _ _ state _ (charged c.args.need) c.self.view_is c.self.invariant.kept.summed.table c.place_of-place.ensures (state_there _ _ _ _ _ c.self.view_is c.place_of-place.ensures c.index_mut-state.ensures.value)
          (ap (λ (free : Need). record state { free = free }) (sym c.minus-state.ensures)) refl (λ here bounded. bounded-charged _ bounded c.args.need (free_there _ _ _ _ here _ c.requires)))) _ c.replaced-self-inside.ensures;
      indexed = indexed_still c.self.inside.indexes _ _ _ _ (state_there _ _ _ _ _ c.self.view_is c.place_of-place.ensures c.index_mut-state.ensures.value) refl c.self.invariant.indexed;
    }

pub returns-clause-changed : goal.returns-clause-changed
returns-clause-changed c =
    let state = c.index_mut-state.result.now in
    (rewritten _ _ _ _ state _ (charged c.args.need) c.self.view_is c.self.invariant.kept.summed.table c.place_of-place.ensures (state_there _ _ _ _ _ c.self.view_is c.place_of-place.ensures c.index_mut-state.ensures.value)
    (ap (λ (free : Need). record state { free = free }) (sym c.minus-state.ensures)) refl (λ here bounded. bounded-charged _ bounded c.args.need (free_there _ _ _ _ here _ c.requires))).is

pub returns-clause-table : goal.returns-clause-table
returns-clause-table c =
    let state = c.index_mut-state.result.now in
    (rewritten _ _ _ _ state _ (charged c.args.need) c.self.view_is c.self.invariant.kept.summed.table c.place_of-place.ensures (state_there _ _ _ _ _ c.self.view_is c.place_of-place.ensures c.index_mut-state.ensures.value)
    (ap (λ (free : Need). record state { free = free }) (sym c.minus-state.ensures)) refl (λ here bounded. bounded-charged _ bounded c.args.need (free_there _ _ _ _ here _ c.requires))).held
