use Rattle.std.proofs.Common.{◌≡◌, ◌==◌, ℕ, List, Some, nat_eq, position, slice_get, sym, ap, ◌∙◌, subst}
use Rattle.std.specs.List.{IsDistinct, filter}
use Rattle.std.specs.List.Sorted.{IsPermutation}
use Rattle.omega_model.specs.Cell.{is_on}
use Rattle.omega_model.specs.Machines.{is_listed, numbers_of}
use Rattle.omega_model.specs.declared.cells.Machine.{Machine}
use Rattle.omega_model.specs.declared.cells.Task.{Task}
use Rattle.omega_machines.specs.Table.{machines_of}
use Rattle.omega_machines.specs.declared.MachineState.{MachineState}
use Rattle.omega_board.specs.Board.{BoardState}
use Rattle.omega_plan.specs.Overlays.{tasks_claimed}
use Rattle.omega_plan.specs.Telling.{freed_on}
use Rattle.omega_plan.proofs.Leaving.{listed_at, listed_own}
use Rattle.omega_plan.proofs.Nearest.{freed_there}
use Rattle.omega_plan.proofs.Tells.{told_at, tells_unlisted}
use Rattle.omega_plan.proofs.levels.tell_last.Goals as goal

pub returns-in_default-clause-told : goal.returns-in_default-clause-told
returns-in_default-clause-told c = λ stale told.
    let overlay = c.args.overlay.now in
    let shown : c.machines.result.now ≡ overlay.board.table = c.machines.ensures.table ∙ ap (λ (b : BoardState). b.table) c.board-board.ensures.board in
    tells_unlisted stale c.args.prec (tasks_claimed overlay) c.args.machine c.args.index.now.free (machines_of overlay.board.table)
    (ap (λ table. is_listed c.args.machine (machines_of table)) (sym shown) ∙ sym c.in_default.ensures.listed) told

pub returns-clause-told : goal.returns-clause-told
returns-clause-told c = λ stale told.
    let overlay = c.args.overlay.now in
    let tasks = tasks_claimed overlay in
    let id = c.args.machine in
    let rows = machines_of overlay.board.table in
    let place = c.in-Some.position in
    let same : c.board-board.result.now.table ≡ overlay.board.table = ap (λ (b : BoardState). b.table) c.board-board.ensures.board in
    let shown : c.machines.result.now ≡ overlay.board.table = c.machines.ensures.table ∙ same in
    let own : IsPermutation (filter (is_on id) tasks) c.as_slice.result.now =
    subst (λ (ts : List Task). IsPermutation (filter (is_on id) tasks) ts) (sym c.as_slice.ensures) c.in_ok-tasks.ensures.tasks in
    let placed : Some place ≡ position (λ (m : Machine). m.id == id) rows =
    c.in-Some.ensures.place ∙ ap (λ (table : List MachineState). position (λ (m : Machine). m.id == id) (machines_of table)) shown in
    let freed : (m : Machine) → slice_get rows place ≡ Some m → c.freed_by.result ≡ freed_on c.args.prec tasks m = λ m here.
    let there : slice_get (machines_of c.board-board.result.now.table) place ≡ Some m = ap (λ (table : List MachineState). slice_get (machines_of table) place) same ∙ here in
    let number : id ≡ m.id = listed_own rows id m (listed_at rows id place (Some m) placed (sym here)) in
    c.freed_by.ensures m there ∙ freed_there c.args.prec tasks c.as_slice.result.now m (subst (λ (n : ℕ). IsPermutation (filter (is_on n) tasks) c.as_slice.result.now) number own) in
    told_at stale c.args.prec tasks id overlay.board.table c.machines.result.now c.args.index.now.free c.put.new.self.free place c.freed_by.result
    shown (subst (λ (b : BoardState). IsDistinct nat_eq (numbers_of (machines_of b.table))) c.board-board.ensures.board c.machines.ensures.sound.numbers)
    c.in-Some.ensures.place freed c.put.ensures.free told
