use Rattle.std.proofs.Common.{ap}
use Rattle.omega_model.specs.declared.cells.Need.{Need}
use Rattle.omega_machines.proofs.Indexed.{indexed_changed, changed_none}
use Rattle.omega_machines.proofs.Loads.{load_fits, kept_anew}
use Rattle.omega_machines.proofs.Places.{state_numbered}
use Rattle.omega_machines.proofs.Rewriting.{state_is_put}
use Rattle.omega_machines.proofs.table.MachineTable.put.Goals as goal

pub replaced-self-inside-requires : goal.replaced-self-inside-requires
replaced-self-inside-requires c =
    load_fits _ _ _ _ _ _ _ _ _ c.self.invariant.kept (state_numbered _ _ _ _ _ c.self.view_is c.requires.there c.index_mut-state.ensures.value) c.of-before.ensures c.of.ensures
    ((state_is_put _ _ _ _ _ c.args.machine c.args.used c.args.seq c.self.view_is c.self.invariant.kept.summed.table c.requires.there (state_numbered _ _ _ _ _ c.self.view_is c.requires.there c.index_mut-state.ensures.value)
    (ap (λ (free : Need). record { machine = c.args.machine; free = free; seq = c.args.seq }) c.minus-free.ensures) c.requires.cap c.requires.down))

pub invariant_of-self : goal.invariant_of-self
invariant_of-self c =
    record {
      kept = kept_anew _ _ _ _ _ _ _ _ _ c.self.invariant.kept (state_numbered _ _ _ _ _ c.self.view_is c.requires.there c.index_mut-state.ensures.value) c.of-before.ensures c.of.ensures
          ((state_is_put _ _ _ _ _ c.args.machine c.args.used c.args.seq c.self.view_is c.self.invariant.kept.summed.table c.requires.there (state_numbered _ _ _ _ _ c.self.view_is c.requires.there c.index_mut-state.ensures.value)
          (ap (λ (free : Need). record { machine = c.args.machine; free = free; seq = c.args.seq }) c.minus-free.ensures) c.requires.cap c.requires.down)) _ c.replaced-self-inside.ensures;
      indexed = indexed_changed c.self.inside.indexes c.remove.new.self _ _ _ _ (state_numbered _ _ _ _ _ c.self.view_is c.requires.there c.index_mut-state.ensures.value) (changed_none c.self.inside.indexes c.remove.new.self _ _ c.remove.ensures.updates) c.self.invariant.indexed;
    }

pub returns-clause-changed : goal.returns-clause-changed
returns-clause-changed c =
    (state_is_put _ _ _ _ _ c.args.machine c.args.used c.args.seq c.self.view_is c.self.invariant.kept.summed.table c.requires.there (state_numbered _ _ _ _ _ c.self.view_is c.requires.there c.index_mut-state.ensures.value)
    (ap (λ (free : Need). record { machine = c.args.machine; free = free; seq = c.args.seq }) c.minus-free.ensures) c.requires.cap c.requires.down).is

pub returns-clause-table : goal.returns-clause-table
returns-clause-table c =
    (state_is_put _ _ _ _ _ c.args.machine c.args.used c.args.seq c.self.view_is c.self.invariant.kept.summed.table c.requires.there (state_numbered _ _ _ _ _ c.self.view_is c.requires.there c.index_mut-state.ensures.value)
    (ap (λ (free : Need). record { machine = c.args.machine; free = free; seq = c.args.seq }) c.minus-free.ensures) c.requires.cap c.requires.down).held
