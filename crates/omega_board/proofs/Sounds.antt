-- Every board stands for a sound cell.
use Rattle.std.proofs.Common.{◌≡◌, true, false, List, [], ◌∷◌, ap, arith}
use Rattle.std.specs.List.{All, IsDistinct, AllByRecursion as Each}
use Rattle.std.proofs.lemmas.List.Elements.{All-nil, All-cons}
use Rattle.std.proofs.lemmas.Map.Keys.{IsDistinct-cons}
use Rattle.omega_model.specs.Need.{Fits}
use Rattle.omega_model.specs.Keys.{same_key, key_lt}
use Rattle.omega_model.specs.Cell.{keys_of, use_on}
use Rattle.omega_model.specs.Legal.{Sound}
use Rattle.omega_model.specs.declared.cells.Need.{Need}
use Rattle.omega_model.specs.declared.cells.Machine.{Machine}
use Rattle.omega_model.specs.declared.cells.Task.{Task}
use Rattle.omega_machines.specs.declared.MachineState.{MachineState}
use Rattle.omega_machines.specs.Table.{machines_of}
use Rattle.omega_running.specs.declared.orders.Order.TheVariants.{ByKey}
use Rattle.omega_running.specs.Order.{IsInOrder}
use Rattle.omega_model.proofs.Lists.{all_of_each}
use Rattle.omega_board.specs.Board.{IsBoard, IsCounted}
use Rattle.omega_model.proofs.InOrder.{key_differs}

-- tasks in order have distinct names
pub names_distinct : (tasks : List Task) → IsInOrder ByKey tasks → IsDistinct same_key (keys_of tasks)
unfolding IsDistinct
names_distinct [] order = tt
names_distinct (t ∷ tasks) order = IsDistinct-cons same_key t.key (keys_of tasks) (others tasks order.0) (names_distinct tasks order.1)
  where
    others : (rest : List Task) → Each (λ y. key_lt t.key y.key ≡ true) rest → Each (λ y. same_key t.key y ≡ false) (keys_of rest)
    others [] each = tt
    others (y ∷ rest) each = (key_differs t.key y.key each.0, others rest each.1)

-- what is used on a machine fits
all_within : (tasks : List Task) (table : List MachineState) → Each (IsCounted tasks) table → All (λ machine. Fits (use_on tasks machine.id) machine.cap) (machines_of table)
all_within tasks [] counted = All-nil _
all_within tasks (s ∷ ss) counted =
    let P : Machine → Type 0 = λ machine. Fits (use_on tasks machine.id) machine.cap in
    All-cons P s.machine (machines_of ss)
    (omega (arith, ap (λ (n : Need). n.cpu) counted.0), (omega (arith, ap (λ (n : Need). n.mem) counted.0), omega (arith, ap (λ (n : Need). n.disk) counted.0)))
    (all_within tasks ss counted.1)

pub sound_board : (table : List MachineState) (tasks : List Task) → IsBoard table tasks → Sound (record { machines = machines_of table; tasks = tasks })
sound_board table tasks board = record {
  keys = names_distinct tasks board.ordered;
  placed = all_of_each _ tasks board.placed;
  numbers = board.bounded.distinct;
  within = all_within tasks table board.counted;
}
