use Rattle.std.proofs.Common.{◌≡◌, ◌+◌, ℕ, take, if◌then◌else◌}
use Rattle.omega_machines.specs.Table.{machines_of, seq_at}
use Rattle.omega_board.specs.Numbers.{is_among}
use Rattle.omega_board.proofs.board.Board.touch_each.Given as goal

abbrev pub invariant-loop-id : goal.invariant-loop-id
invariant-loop-id l =
    (l.self.tasks ≡ l.fn.self.tasks)
    × (l.self.spare ≡ l.fn.self.spare)
    × (machines_of l.self.table ≡ machines_of l.fn.self.table)
    × ((id : ℕ) → seq_at l.self.table id ≡ seq_at l.fn.self.table id + (if is_among (take l.id-index l.machines) id then 1 else 0))
