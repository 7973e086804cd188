use Rattle.std.proofs.Common.{◌≡◌, ◌==◌, IfOk, List, Option, Some, None, position, slice_get, sym, ap, subst, ◌∙◌}
use Rattle.omega_machines.specs.Table.{machines_of}
use Rattle.omega_machines.specs.declared.MachineState.{MachineState}
use Rattle.omega_model.specs.Cell.{machine_at}
use Rattle.omega_model.specs.Judge.{is_up}
use Rattle.omega_model.specs.Machines.{is_listed}
use Rattle.omega_model.specs.Plan.{victims}
use Rattle.omega_model.specs.declared.cells.Machine.{Machine}
use Rattle.omega_model.specs.declared.cells.TaskKey.{TaskKey}
use Rattle.omega_board.specs.Board.{BoardState}
use Rattle.omega_plan.specs.Overlays.{cell_after}
use Rattle.omega_plan.proofs.Leaving.{listed_at, listed_own, none_listed, victims_down, victims_running}
use Rattle.omega_plan.proofs.evicting.victims_beside.Goals as goal

pub returns-in_default : goal.returns-in_default
returns-in_default c =
    let cell = cell_after c.args.overlay.now in
    let same = c.machines-machines.ensures.table ∙ ap (λ (b : BoardState). b.table) c.board.ensures.board in
    victims_down cell c.args.wish.now c.args.machine c.board.ensures.ordered
    (none_listed cell.machines c.args.machine (ap (λ (table : List MachineState). is_listed c.args.machine (machines_of table)) (sym same) ∙ sym c.in_default.ensures.listed))

pub returns-in_default-at : goal.returns-in_default-at
returns-in_default-at c =
    let cell = cell_after c.args.overlay.now in
    let same = c.machines-machines.ensures.table ∙ ap (λ (b : BoardState). b.table) c.board.ensures.board in
    let placed : Some c.in-Some.position ≡ position (λ (m : Machine). m.id == c.args.machine) cell.machines =
    c.in-Some.ensures.place ∙ ap (λ (table : List MachineState). position (λ (m : Machine). m.id == c.args.machine) (machines_of table)) same in
    let none : None ≡ slice_get cell.machines c.in-Some.position =
    c.in_default-at.ensures ∙ ap (λ (table : List MachineState). slice_get (machines_of table) c.in-Some.position) same in
    victims_down cell c.args.wish.now c.args.machine c.board.ensures.ordered
    (ap is_up (listed_at cell.machines c.args.machine c.in-Some.position None placed none))

pub returns-then-runs : goal.returns-then-runs
returns-then-runs c =
    victims_running (cell_after c.args.overlay.now) c.args.wish.now c.args.machine c.board.ensures.ordered (sym c.runs.ensures.runs ∙ c.if-runs.true)

pub victims_on-requires-clause-listed : goal.victims_on-requires-clause-listed
victims_on-requires-clause-listed c =
    let cell = cell_after c.args.overlay.now in
    let machine = c.in-Some-at.listed.now in
    let same = c.machines-machines.ensures.table ∙ ap (λ (b : BoardState). b.table) c.board.ensures.board in
    let placed : Some c.in-Some.position ≡ position (λ (m : Machine). m.id == c.args.machine) cell.machines =
    c.in-Some.ensures.place ∙ ap (λ (table : List MachineState). position (λ (m : Machine). m.id == c.args.machine) (machines_of table)) same in
    let some : Some machine ≡ slice_get cell.machines c.in-Some.position =
    c.in-Some-at.ensures ∙ ap (λ (table : List MachineState). slice_get (machines_of table) c.in-Some.position) same in
    let found : machine_at cell.machines c.args.machine ≡ Some machine = listed_at cell.machines c.args.machine c.in-Some.position (Some machine) placed some in
    ap (machine_at cell.machines) (sym (listed_own cell.machines c.args.machine machine found)) ∙ found

pub returns : goal.returns
returns c =
    let cell = cell_after c.args.overlay.now in
    let wish = c.args.wish.now in
    let machine = c.in-Some-at.listed.now in
    let same = c.machines-machines.ensures.table ∙ ap (λ (b : BoardState). b.table) c.board.ensures.board in
    let placed : Some c.in-Some.position ≡ position (λ (m : Machine). m.id == c.args.machine) cell.machines =
    c.in-Some.ensures.place ∙ ap (λ (table : List MachineState). position (λ (m : Machine). m.id == c.args.machine) (machines_of table)) same in
    let some : Some machine ≡ slice_get cell.machines c.in-Some.position =
    c.in-Some-at.ensures ∙ ap (λ (table : List MachineState). slice_get (machines_of table) c.in-Some.position) same in
    let found : machine_at cell.machines c.args.machine ≡ Some machine = listed_at cell.machines c.args.machine c.in-Some.position (Some machine) placed some in
    subst (λ id. IfOk c.victims_on.result (λ (keys : Option (List TaskKey)). keys ≡ victims cell id wish)) (sym (listed_own cell.machines c.args.machine machine found)) c.victims_on.ensures
