use Rattle.std.proofs.Common.{◌≡◌, ◌≤◌, ℕ, take}
use Rattle.omega_machines.specs.Table.{machines_of, seq_at}
use Rattle.omega_model.specs.Cell.{without}
use Rattle.omega_board.proofs.board.Board.stop_all.Given as goal

abbrev pub invariant-loop-key : goal.invariant-loop-key
invariant-loop-key l =
    (l.self.tasks ≡ without (take l.key-index l.keys) l.fn.self.tasks)
    × (machines_of l.self.table ≡ machines_of l.fn.self.table)
    × ((id : ℕ) → seq_at l.self.table id ≡ seq_at l.fn.self.table id)
    × (l.fn.self.spare ≤ l.self.spare)
