use Rattle.std.proofs.Common.{sym, ap, subst}
use Rattle.omega_model.specs.Applying.{PlacesInOrder}
use Rattle.omega_model.specs.Cell.{Cell}
use Rattle.omega_running.specs.Kept.{KeysRise}
use Rattle.omega_board.specs.Board.{cell_of}
use Rattle.omega_copy.specs.Copies.{CopyState}
use Rattle.omega_plan.specs.Indexes.{TellAll}
use Rattle.omega_plan.proofs.Told.{may_tell_entry, same_cell}
use Rattle.omega_copy.proofs.copy.PrivateCopy.take_in.Goals as goal

pub invariant_of-self-in_err-apply_entry : goal.invariant_of-self-in_err-apply_entry
invariant_of-self-in_err-apply_entry c =
    let board = c.self.inside.board in
    let after = c.apply_entry.new.self in
    subst (λ (cell : Cell). TellAll cell c.reserve.new.self) (same_cell board after c.in_err-apply_entry.ensures.table c.in_err-apply_entry.ensures.tasks)
    (c.reserve.ensures.kept (cell_of board) c.self.invariant)

pub tell_entry-requires-clause-may : goal.tell_entry-requires-clause-may
tell_entry-requires-clause-may c =
    let board = c.self.inside.board in
    may_tell_entry board c.apply_entry.new.self c.args.entry.now c.reserve.new.self (c.reserve.ensures.kept (cell_of board) c.self.invariant) c.in_ok-reserve.ensures.room.free
    (subst (λ (copy : CopyState). KeysRise copy.board.tasks) (sym c.self.view_is) c.requires.ordered)
    (subst (λ (cell : Cell). PlacesInOrder cell c.args.entry.now) (sym (ap (λ (s : CopyState). cell_of s.board) c.self.view_is)) c.requires.may.places)
    c.in_ok-apply_entry.ensures.cell

pub invariant_of-self : goal.invariant_of-self
invariant_of-self c = c.reserve.ensures.kept (cell_of c.self.inside.board) c.self.invariant
