use Rattle.std.proofs.Common.{◌≡◌, ◌∙◌, sym, ap}
use Rattle.std.proofs.lemmas.Option.{same_Some}
use Rattle.omega_model.specs.declared.cells.Machine.{Machine}
use Rattle.omega_machines.specs.Table.{free_at as free_on_table}
use Rattle.omega_plan.proofs.Tells.{least_there}
use Rattle.omega_plan.proofs.telling.free_at.Goals as goal

pub returns : goal.returns
returns c = λ machine at.
    let table = c.args.board.now.table in
    let tasks = c.args.board.now.tasks in
    let own = c.in_ok-machine.machine.now in
    let here = sym (rw c.machines-machines.ensures.table at c.in_ok-machine.ensures) in
    let same : machine ≡ own = same_Some _ _ (sym at ∙ here) in
    c.free.ensures.free
    ∙ ap (λ shown. free_on_table shown own.id) c.machines-machines.ensures.table
    ∙ ap (λ (m : Machine). free_on_table table m.id) (sym same)
    ∙ least_there tasks table c.args.position machine c.machines-machines.ensures.sound.numbers c.machines-machines.ensures.counted at
