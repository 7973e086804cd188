use Rattle.std.proofs.Common.{refl, sym, ap}
use Rattle.omega_machines.specs.Table.{MachineState, state_updated}
use Rattle.omega_machines.proofs.Bounds.{bounded-updated}
use Rattle.omega_machines.proofs.Indexed.{indexed_still}
use Rattle.omega_machines.proofs.Loads.{load_fits, kept_anew}
use Rattle.omega_machines.proofs.Places.{state_there}
use Rattle.omega_machines.proofs.Rewriting.{rewritten}
use Rattle.omega_machines.proofs.table.MachineTable.update.Goals as goal

pub replaced-self-inside-requires : goal.replaced-self-inside-requires
replaced-self-inside-requires c =
    load_fits _ _ _ _ _ _ _ _ _ c.self.invariant.kept (state_there _ _ _ _ _ c.self.view_is c.place_of-place.ensures c.index_mut-state.ensures.value) c.of-before.ensures c.of.ensures
    ((rewritten _ _ _ _ _ _ (state_updated c.args.cap) c.self.view_is c.self.invariant.kept.summed.table c.place_of-place.ensures (state_there _ _ _ _ _ c.self.view_is c.place_of-place.ensures c.index_mut-state.ensures.value)
    (sym c.set_cap.ensures) refl (λ here bounded. bounded-updated _ bounded c.args.cap c.requires.cap)))

pub invariant_of-self : goal.invariant_of-self
invariant_of-self c =
    record {
      kept = kept_anew _ _ _ _ _ _ _ _ _ c.self.invariant.kept (state_there _ _ _ _ _ c.self.view_is c.place_of-place.ensures c.index_mut-state.ensures.value) c.of-before.ensures c.of.ensures
          ((rewritten _ _ _ _ _ _ (state_updated c.args.cap) c.self.view_is c.self.invariant.kept.summed.table c.place_of-place.ensures (state_there _ _ _ _ _ c.self.view_is c.place_of-place.ensures c.index_mut-state.ensures.value)
          (sym c.set_cap.ensures) refl (λ here bounded. bounded-updated _ bounded c.args.cap c.requires.cap))) _ c.replaced-self-inside.ensures;
      indexed = indexed_still c.self.inside.indexes _ _ _ _ (state_there _ _ _ _ _ c.self.view_is c.place_of-place.ensures c.index_mut-state.ensures.value) (ap (λ (s : MachineState). s.machine.attrs) c.set_cap.ensures) c.self.invariant.indexed;
    }

pub returns-clause-changed : goal.returns-clause-changed
returns-clause-changed c =
    (rewritten _ _ _ _ _ _ (state_updated c.args.cap) c.self.view_is c.self.invariant.kept.summed.table c.place_of-place.ensures (state_there _ _ _ _ _ c.self.view_is c.place_of-place.ensures c.index_mut-state.ensures.value)
    (sym c.set_cap.ensures) refl (λ here bounded. bounded-updated _ bounded c.args.cap c.requires.cap)).is

pub returns-clause-table : goal.returns-clause-table
returns-clause-table c =
    (rewritten _ _ _ _ _ _ (state_updated c.args.cap) c.self.view_is c.self.invariant.kept.summed.table c.place_of-place.ensures (state_there _ _ _ _ _ c.self.view_is c.place_of-place.ensures c.index_mut-state.ensures.value)
    (sym c.set_cap.ensures) refl (λ here bounded. bounded-updated _ bounded c.args.cap c.requires.cap)).held
