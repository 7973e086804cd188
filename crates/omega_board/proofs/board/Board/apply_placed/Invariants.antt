use Rattle.std.proofs.Common.{◌≡◌, ℕ, ◌+◌, take}
use Rattle.omega_machines.specs.Table.{machines_of, seq_at}
use Rattle.omega_model.specs.Cell.{without}
use Rattle.omega_board.specs.Undo.{IsUndoOf, at_reserve}
use Rattle.omega_board.proofs.board.Board.apply_placed.Given as goal

abbrev pub invariant-loop-key : goal.invariant-loop-key
invariant-loop-key l =
    (l.self.tasks ≡ without (take l.key-index l.evicted) l.fn.self.tasks)
    × (machines_of l.self.table ≡ machines_of l.fn.self.table)
    × ((id : ℕ) → seq_at l.self.table id ≡ seq_at l.fn.self.table id)
    × (at_reserve l.undo l.self ≡ at_reserve l.fn.undo l.fn.self)
    × IsUndoOf l.self l.undo
    × (l.undo.claims ≡ l.fn.undo.claims)
    × (l.undo.victims + l.key-index ≡ l.fn.undo.victims)
