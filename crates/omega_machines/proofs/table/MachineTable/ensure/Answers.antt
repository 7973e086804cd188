use Rattle.std.proofs.Common.{◌∙◌, refl, sym}
use Rattle.omega_machines.proofs.Growing.{no_position, grown}
use Rattle.omega_machines.proofs.Indexed.{indexed_more}
use Rattle.omega_machines.proofs.Loads.{summed_more}
use Rattle.omega_machines.proofs.table.MachineTable.ensure.Goals as goal

pub push-requires-clause-new : goal.push-requires-clause-new
push-requires-clause-new c =
    no_position c.self.inside.states.items c.args.self.now c.args.id c.self.view_is (sym (c.if-is_some.ensures ∙ c.position.ensures.listed))

pub invariant_of-self-2 : goal.invariant_of-self-2
invariant_of-self-2 c =
    let absent = sym (c.if-is_some.ensures ∙ c.position.ensures.listed) in
    let held = c.self.invariant.kept.summed.table in
    record {
      kept = record {
        placed = c.in_ok-push.ensures.placed;
        summed = summed_more c.self.inside.states.items _ _ c.self.inside.load c.self.invariant.kept.summed refl c.in_ok-push.ensures.states
            (grown c.self.inside.states.items c.args.self.now c.args.id c.self.view_is absent _ _ c.requires c.new.ensures held c.in_ok-push.ensures.states).0;
      };
      indexed = indexed_more c.self.inside.indexes _ _ _ c.in_ok-push.ensures.states c.self.invariant.indexed;
    }

pub returns-clause-ok : goal.returns-clause-ok
returns-clause-ok c =
    let absent = sym (c.if-is_some.ensures ∙ c.position.ensures.listed) in
    (grown c.self.inside.states.items c.args.self.now c.args.id c.self.view_is absent _ _ c.requires c.new.ensures c.self.invariant.kept.summed.table c.in_ok-push.ensures.states).1

pub returns-clause-table : goal.returns-clause-table
returns-clause-table c =
    let absent = sym (c.if-is_some.ensures ∙ c.position.ensures.listed) in
    (grown c.self.inside.states.items c.args.self.now c.args.id c.self.view_is absent _ _ c.requires c.new.ensures c.self.invariant.kept.summed.table c.in_ok-push.ensures.states).0
