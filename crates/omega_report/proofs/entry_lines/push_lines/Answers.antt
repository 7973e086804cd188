use Rattle.std.proofs.Common.{refl}
use Rattle.omega_model.specs.declared.entries.Entry.TheVariants.{MachineAdd, MachineUpdate, MachineRemove}
use Rattle.omega_report.proofs.WalkGrows.{on_ok, stops_said}
use Rattle.omega_report.proofs.entry_lines.push_lines.Goals as goal

pub returns-in-MachineAdd-clause-lines : goal.returns-in-MachineAdd-clause-lines
returns-in-MachineAdd-clause-lines c =
    on_ok c.displaced.result
    (λ printed cell stopped. stops_said cell c.args.entry.now (MachineAdd c.in-MachineAdd.machine c.in-MachineAdd.cap) c.in-MachineAdd.machine c.args.stopped.now
    c.args.page.now.lines c.displaced.new.self.lines c.in-MachineAdd.is refl printed stopped)
    c.displaced.ensures.lines

pub returns-in-MachineUpdate-clause-lines : goal.returns-in-MachineUpdate-clause-lines
returns-in-MachineUpdate-clause-lines c =
    on_ok c.displaced-in-MachineUpdate.result
    (λ printed cell stopped. stops_said cell c.args.entry.now (MachineUpdate c.in-MachineUpdate.machine c.in-MachineUpdate.cap) c.in-MachineUpdate.machine c.args.stopped.now
    c.args.page.now.lines c.displaced-in-MachineUpdate.new.self.lines c.in-MachineUpdate.is refl printed stopped)
    c.displaced-in-MachineUpdate.ensures.lines

pub returns-in-MachineRemove-clause-lines : goal.returns-in-MachineRemove-clause-lines
returns-in-MachineRemove-clause-lines c =
    on_ok c.displaced-in-MachineRemove.result
    (λ printed cell stopped. stops_said cell c.args.entry.now (MachineRemove c.in-MachineRemove.machine) c.in-MachineRemove.machine c.args.stopped.now
    c.args.page.now.lines c.displaced-in-MachineRemove.new.self.lines c.in-MachineRemove.is refl printed stopped)
    c.displaced-in-MachineRemove.ensures.lines
