-- What is in use on all machines of a board that are up, and their capacity, are those of its cell.
use Rattle.std.proofs.Common.{◌≡◌, List, [], ◌∷◌, map, refl, ap, ◌∙◌, arith}
use Rattle.std.specs.List.{filter, AllByRecursion as Each}
use Rattle.omega_model.specs.Cell.{use_on}
use Rattle.omega_model.specs.ExtraTasks.{capacity_in_all, sum_of, used_in}
use Rattle.omega_model.specs.Need.{plus}
use Rattle.omega_model.specs.declared.cells.Need.{Need}
use Rattle.omega_model.specs.declared.cells.Task.{Task}
use Rattle.omega_model.proofs.Amounts.{need_is, plus-nothing}
use Rattle.omega_model.proofs.Lists.{by_answer}
use Rattle.omega_machines.specs.declared.MachineState.{MachineState}
use Rattle.omega_machines.specs.Table.{capacity_of_all, machines_of, used, used_by_all}
use Rattle.omega_board.specs.Board.{BoardState, IsCounted, cell_of}

-- what is in use on a machine is what its tasks use
used_counted : (tasks : List Task) (state : MachineState) → IsCounted tasks state → used state ≡ use_on tasks state.machine.id
used_counted tasks state counted =
    need_is _ _ (omega (arith, ap (λ (n : Need). n.cpu) counted)) (omega (arith, ap (λ (n : Need). n.mem) counted)) (omega (arith, ap (λ (n : Need). n.disk) counted))

used_up : (tasks : List Task) (table : List MachineState) → Each (IsCounted tasks) table
    → used_by_all table ≡ sum_of (map (λ machine. use_on tasks machine.id) (filter (λ machine. machine.up) (machines_of table)))
used_up tasks [] counted = refl
used_up tasks (s ∷ ss) counted =
    by_answer s.machine.up
    (λ up. rw up (λ i. plus (used_counted tasks s counted.0 i) (used_up tasks ss counted.1 i)))
    (λ down. rw down (plus-nothing _ ∙ used_up tasks ss counted.1))

capacity_up : (table : List MachineState) → capacity_of_all table ≡ sum_of (map (λ machine. machine.cap) (filter (λ machine. machine.up) (machines_of table)))
capacity_up [] = refl
capacity_up (s ∷ ss) =
    by_answer s.machine.up
    (λ up. rw up (ap (plus s.machine.cap) (capacity_up ss)))
    (λ down. rw down (plus-nothing _ ∙ capacity_up ss))

-- the sums of a board's table are those of its cell
pub used_on_board : (board : BoardState) → Each (IsCounted board.tasks) board.table → used_by_all board.table ≡ used_in (cell_of board)
used_on_board board counted = used_up board.tasks board.table counted

pub capacity_on_board : (board : BoardState) → capacity_of_all board.table ≡ capacity_in_all (cell_of board)
capacity_on_board board = capacity_up board.table
