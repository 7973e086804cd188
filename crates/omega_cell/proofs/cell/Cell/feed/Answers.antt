use Rattle.std.proofs.Common.{◌≡◌, ◌++◌, ◌∷◌, [], List, sym, ap, ◌∙◌, subst}
use Rattle.omega_model.specs.Cell.{Cell}
use Rattle.omega_model.specs.State.{state}
use Rattle.omega_model.specs.declared.entries.Entry.{Entry}
use Rattle.omega_machines.specs.Table.{seq_at}
use Rattle.omega_board.specs.Board.{cell_of}
use Rattle.omega_board.proofs.Histories.{may_apply}
use Rattle.omega_cell.specs.Cells.{CellState, IsCell}
use Rattle.omega_cell.specs.Effects.{AreNotes, displaced_at, usage_at}
use Rattle.omega_cell.proofs.Cells.{cell_push, cell_same, fed_follows, fed_may_on, few_entries}
use Rattle.omega_cell.proofs.Noted.{notes_push, notes_same}
use Rattle.omega_cell.proofs.cell.Cell.feed.Goals as goal

pub apply_entry-requires : goal.apply_entry-requires
apply_entry-requires c =
    may_apply (cell_of c.self.inside.board) (seq_at c.self.inside.board.table) c.self.inside.entries.items c.args.entry c.self.invariant.0.board_is.current c.self.invariant.0.board_is.numbered
    (fed_may_on c.self.inside.entries.items c.args.self.now.history c.args.entry (ap (λ (cell : CellState). cell.history) c.self.view_is)
    c.requires.no_commit c.requires.capacity c.requires.machines c.requires.ends (few_entries c.self.inside.entries))

pub invariant_of-self-in-Ok : goal.invariant_of-self-in-Ok
invariant_of-self-in-Ok c =
    let history = c.self.inside.entries.items in
    let board = c.self.inside.board in
    let now : cell_of board ≡ state history = c.self.invariant.0.board_is.current in
    let items : c.push_reserved.new.self.items ≡ history ++ c.args.entry ∷ [] =
    c.push_reserved.ensures.items ∙ ap (λ (h : List Entry). h ++ c.args.entry ∷ []) c.reserve.ensures.items in
    let grown : IsCell c.apply_entry.new.self (history ++ c.args.entry ∷ []) =
    cell_push board c.apply_entry.new.self history c.args.entry c.self.invariant.0 (fed_follows history c.args.entry c.requires.no_commit)
    (fed_may_on history c.args.self.now.history c.args.entry (ap (λ (cell : CellState). cell.history) c.self.view_is)
    c.requires.no_commit c.requires.capacity c.requires.machines c.requires.ends (few_entries c.self.inside.entries))
    c.in-Ok.ensures.cell c.in-Ok.ensures.seqs in
    let noted : AreNotes (history ++ c.args.entry ∷ []) c.take_in.new.self =
    notes_push history c.args.entry c.self.inside.notes c.reserve-else-is_err.new.self c.take_in.new.self c.self.invariant.1
    c.reserve-else-is_err.ensures.usages c.reserve-else-is_err.ensures.displaced
    (c.take_in.ensures.usages (cell_of board) c.of-usage.ensures ∙ ap (λ (cell : Cell). c.reserve-else-is_err.new.self.usages ++ usage_at cell c.args.entry) now)
    (c.take_in.ensures.displaced (cell_of board) c.in-Ok.ensures.displaced ∙ ap (λ (cell : Cell). c.reserve-else-is_err.new.self.displaced ++ displaced_at cell c.args.entry) now) in
    subst (λ (h : List Entry). IsCell c.apply_entry.new.self h × AreNotes h c.take_in.new.self) (sym items) (grown, noted)

pub invariant_of-self-in-Err : goal.invariant_of-self-in-Err
invariant_of-self-in-Err c =
    let history = c.self.inside.entries.items in
    let kept : IsCell c.apply_entry.new.self history =
    cell_same c.self.inside.board c.apply_entry.new.self history c.self.invariant.0 c.in-Err.ensures.table c.in-Err.ensures.tasks in
    let noted : AreNotes history c.reserve-else-is_err.new.self =
    notes_same history c.self.inside.notes c.reserve-else-is_err.new.self c.self.invariant.1 c.reserve-else-is_err.ensures.usages c.reserve-else-is_err.ensures.displaced in
    subst (λ (h : List Entry). IsCell c.apply_entry.new.self h × AreNotes h c.reserve-else-is_err.new.self) (sym c.reserve.ensures.items) (kept, noted)
