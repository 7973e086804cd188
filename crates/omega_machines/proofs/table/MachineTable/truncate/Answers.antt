use Rattle.std.proofs.Common.{◌∙◌, sym, subst}
use Rattle.omega_machines.specs.Names.{AreOutside}
use Rattle.omega_machines.specs.Places.{ArePlaced}
use Rattle.omega_machines.specs.Table.{machines_of, IsTable}
use Rattle.omega_machines.proofs.Shortening.{first_table}
use Rattle.omega_machines.proofs.Indexed.{indexed_first}
use Rattle.omega_machines.proofs.Loads.{summed_first}
use Rattle.omega_machines.proofs.table.MachineTable.truncate.Goals as goal

pub invariant_of-self : goal.invariant_of-self
invariant_of-self c =
    let states = c.self.inside.states.items in
    let held = subst IsTable (sym c.truncate.ensures.items) (first_table c.args.n states c.self.invariant.kept.summed.table) in
    record {
      kept = record {
        placed = subst (λ t. ArePlaced c.forget_rest.new.places (machines_of t)) (sym c.truncate.ensures.items) (rw (← c.deref.ensures.value) c.forget_rest.ensures);
        summed = summed_first states _ c.args.n c.self.inside.load _ c.self.invariant.kept.summed c.truncate.ensures.items (rw (← c.deref-2.ensures.value) c.without_rest-self-inside.ensures) held;
      };
      indexed = indexed_first c.self.inside.indexes c.drop_between.new.indexes states _ c.args.n c.truncate.ensures.items
          (subst (AreOutside c.self.inside.indexes c.drop_between.new.indexes c.args.n) (c.len.ensures ∙ c.self.inside.states.ok.0) c.drop_between.ensures) c.self.invariant.indexed;
    }

pub returns-clause-table : goal.returns-clause-table
returns-clause-table c =
    subst IsTable (sym c.truncate.ensures.items) (first_table c.args.n c.self.inside.states.items c.self.invariant.kept.summed.table)
