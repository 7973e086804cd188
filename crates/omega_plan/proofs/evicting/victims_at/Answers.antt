use Rattle.std.proofs.Common.{◌≡◌, ◌∙◌, List, Some, ap, slice_get, sym}
use Rattle.omega_machines.specs.declared.MachineState.{MachineState}
use Rattle.omega_machines.specs.Table.{machines_of}
use Rattle.omega_board.proofs.Numbered.{machine_there}
use Rattle.omega_board.specs.Board.{BoardState}
use Rattle.omega_plan.proofs.evicting.victims_at.Goals as goal

pub victims_on-requires-clause-listed : goal.victims_on-requires-clause-listed
victims_on-requires-clause-listed c =
    let table = c.args.overlay.now.board.table in
    let same = c.machines-machines.ensures.table ∙ ap (λ (b : BoardState). b.table) c.board.ensures.board in
    let here : slice_get (machines_of table) c.args.position ≡ Some c.in-Some.machine.now =
    sym (c.in-Some.ensures ∙ ap (λ (states : List MachineState). slice_get (machines_of states) c.args.position) same) in
    machine_there (machines_of table) c.args.position c.in-Some.machine.now c.board.ensures.sound.numbers here
