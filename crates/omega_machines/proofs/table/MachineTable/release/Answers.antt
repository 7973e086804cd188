use Rattle.std.proofs.Common.{refl, sym, ap, subst}
use Rattle.omega_model.specs.declared.cells.Need.{Need}
use Rattle.omega_model.specs.Need.{Fits}
use Rattle.omega_machines.specs.Table.{released}
use Rattle.omega_machines.proofs.Places.{stands, use_there, state_there}
use Rattle.omega_machines.proofs.Bounds.{released_fits, bounded-released}
use Rattle.omega_machines.proofs.Indexed.{indexed_still}
use Rattle.omega_machines.proofs.Loads.{load_fits, kept_anew}
use Rattle.omega_machines.proofs.Rewriting.{bounded_at, rewritten}
use Rattle.omega_machines.proofs.table.MachineTable.release.Goals as goal

pub plus-state-requires-clause-cpu : goal.plus-state-requires-clause-cpu
plus-state-requires-clause-cpu c =
    let here = stands _ _ _ _ _ c.self.view_is c.place_of-place.ensures (state_there _ _ _ _ _ c.self.view_is c.place_of-place.ensures c.index_mut-state.ensures.value) in
    let bounded = bounded_at _ _ _ c.self.invariant.kept.summed.table (state_there _ _ _ _ _ c.self.view_is c.place_of-place.ensures c.index_mut-state.ensures.value) in
    (released_fits _ bounded c.args.need (subst (Fits c.args.need) (use_there _ _ _ _ here) c.requires.in_use)).0

pub plus-state-requires-clause-mem : goal.plus-state-requires-clause-mem
plus-state-requires-clause-mem c =
    let here = stands _ _ _ _ _ c.self.view_is c.place_of-place.ensures (state_there _ _ _ _ _ c.self.view_is c.place_of-place.ensures c.index_mut-state.ensures.value) in
    let bounded = bounded_at _ _ _ c.self.invariant.kept.summed.table (state_there _ _ _ _ _ c.self.view_is c.place_of-place.ensures c.index_mut-state.ensures.value) in
    (released_fits _ bounded c.args.need (subst (Fits c.args.need) (use_there _ _ _ _ here) c.requires.in_use)).1.0

pub plus-state-requires-clause-disk : goal.plus-state-requires-clause-disk
plus-state-requires-clause-disk c =
    let here = stands _ _ _ _ _ c.self.view_is c.place_of-place.ensures (state_there _ _ _ _ _ c.self.view_is c.place_of-place.ensures c.index_mut-state.ensures.value) in
    let bounded = bounded_at _ _ _ c.self.invariant.kept.summed.table (state_there _ _ _ _ _ c.self.view_is c.place_of-place.ensures c.index_mut-state.ensures.value) in
    (released_fits _ bounded c.args.need (subst (Fits c.args.need) (use_there _ _ _ _ here) c.requires.in_use)).1.1

pub replaced-self-inside-requires : goal.replaced-self-inside-requires
replaced-self-inside-requires c =
    let state = c.index_mut-state.result.now in
    load_fits _ _ _ _ _ _ _ _ _ c.self.invariant.kept (state_there _ _ _ _ _ c.self.view_is c.place_of-place.ensures c.index_mut-state.ensures.value) c.of-before.ensures c.of.ensures
    ((rewritten _ _ _ _ state _ (released c.args.need) c.self.view_is c.self.invariant.kept.summed.table c.place_of-place.ensures (state_there _ _ _ _ _ c.self.view_is c.place_of-place.ensures c.index_mut-state.ensures.value)
    (ap (λ (free : Need). record state { free = free }) (sym c.plus-state.ensures)) refl (λ here bounded. bounded-released _ bounded c.args.need (subst (Fits c.args.need) (use_there _ _ _ _ here) c.requires.in_use))))

pub invariant_of-self : goal.invariant_of-self
invariant_of-self c =
    let state = c.index_mut-state.result.now in
    record {
      kept = kept_anew _ _ _ _ _ _ _ _ _ c.self.invariant.kept (state_there _ _ _ _ _ c.self.view_is c.place_of-place.ensures c.index_mut-state.ensures.value) c.of-before.ensures c.of.ensures
          ((rewritten _ _ _ _ state _ (released c.args.need) c.self.view_is c.self.invariant.kept.summed.table c.place_of-place.ensures (state_there _ _ _ _ _ c.self.view_is c.place_of-place.ensures c.index_mut-state.ensures.value)
          (ap (λ (free : Need). record state { free = free }) (sym c.plus-state.ensures)) refl (λ here bounded. bounded-released _ bounded c.args.need (subst (Fits c.args.need) (use_there _ _ _ _ here) c.requires.in_use)))) _ c.replaced-self-inside.ensures;
      indexed = indexed_still c.self.inside.indexes _ _ _ _ (state_there _ _ _ _ _ c.self.view_is c.place_of-place.ensures c.index_mut-state.ensures.value) refl c.self.invariant.indexed;
    }

pub returns-clause-changed : goal.returns-clause-changed
returns-clause-changed c =
    let state = c.index_mut-state.result.now in
    (rewritten _ _ _ _ state _ (released c.args.need) c.self.view_is c.self.invariant.kept.summed.table c.place_of-place.ensures (state_there _ _ _ _ _ c.self.view_is c.place_of-place.ensures c.index_mut-state.ensures.value)
    (ap (λ (free : Need). record state { free = free }) (sym c.plus-state.ensures)) refl (λ here bounded. bounded-released _ bounded c.args.need (subst (Fits c.args.need) (use_there _ _ _ _ here) c.requires.in_use))).is

pub returns-clause-table : goal.returns-clause-table
returns-clause-table c =
    let state = c.index_mut-state.result.now in
    (rewritten _ _ _ _ state _ (released c.args.need) c.self.view_is c.self.invariant.kept.summed.table c.place_of-place.ensures (state_there _ _ _ _ _ c.self.view_is c.place_of-place.ensures c.index_mut-state.ensures.value)
    (ap (λ (free : Need). record state { free = free }) (sym c.plus-state.ensures)) refl (λ here bounded. bounded-released _ bounded c.args.need (subst (Fits c.args.need) (use_there _ _ _ _ here) c.requires.in_use))).held
