-- A commit on a cell.
use Rattle.std.proofs.Common.{◌≡◌, ℕ, ◌+◌, ◌-◌, ◌<◌, ◌≤◌, ◌^◌, List, [], ◌∷◌, ◌++◌, length, refl, sym, ap, ap₂, ◌∙◌, subst, if◌then◌else◌}
use Rattle.std.specs.Prelude.{IsTrue}
use Rattle.std.specs.List.{fold, zip, list_any}
use Rattle.omega_model.specs.Applying.{MayPlaceAll}
use Rattle.omega_model.specs.Cell.{Cell}
use Rattle.omega_model.specs.Machines.{is_listed}
use Rattle.omega_model.specs.Reply.{tasks_after_claim, reply_on}
use Rattle.omega_model.specs.State.{step, reply_of}
use Rattle.omega_model.specs.Touches.{places_on, copied_seqs}
use Rattle.omega_model.specs.declared.claims.Txn.{Txn}
use Rattle.omega_model.specs.declared.claims.Judgement.{Judgement}
use Rattle.omega_model.specs.declared.entries.Entry.{Entry}
use Rattle.omega_model.specs.declared.entries.Entry.TheVariants.{Commit}
use Rattle.omega_machines.specs.Table.{machines_of, seq_at}
use Rattle.omega_board.specs.Board.{BoardState, cell_of}
use Rattle.omega_board.proofs.Commits.{cell_is, placed_listed}
use Rattle.omega_board.proofs.Rules.{reply_may}
use Rattle.omega_cell.specs.Cells.{IsCell}
use Rattle.omega_cell.specs.Claiming.{AreNumbered}
use Rattle.omega_cell.specs.Rooms.{EvictWithin}
use Rattle.omega_cell.proofs.Cells.{cell_push, commit_may}
use Rattle.omega_cell.proofs.Replies.{reply_within}

-- a transaction decided on a board: its reply is that on every history that fits the board and the
-- numbers of the copy, and its placed claims are on the board
pub record IsDecided (board next : BoardState) (txn : Txn) (seqs : List ℕ) (reply : List Judgement) : Type 0 where
  pub reply_is : (history : List Entry) (seen : ℕ) → AreNumbered board seqs txn.claims history seen
      → reply ≡ reply_on history (cell_of board) seen txn
  pub tasks : next.tasks ≡ fold tasks_after_claim board.tasks (zip txn.claims reply)
  pub machines : machines_of next.table ≡ machines_of board.table
  pub numbers : (id : ℕ) → seq_at next.table id ≡ seq_at board.table id

-- a commit on a cell: the history that it holds and shows, and the transaction that was prepared and is shown
pub record IsCommitting (board : BoardState) (held shown : List Entry) (txn prepared : Txn) (seen : ℕ) (seqs : List ℕ) : Type 0 where
  pub kept : IsCell board held
  pub history : held ≡ shown
  pub txn_is : txn ≡ prepared
  pub seqs_are : seqs ≡ copied_seqs shown seen prepared.claims

module _ (board next : BoardState) (held shown : List Entry) (txn prepared : Txn) (seen : ℕ) (seqs : List ℕ) (reply : List Judgement)
    (on : IsCommitting board held shown txn prepared seen seqs) (decided : IsDecided board next txn seqs reply) where
  copies : seqs ≡ copied_seqs held seen txn.claims
  copies = on.seqs_are ∙ ap₂ (λ (h : List Entry) (t : Txn). copied_seqs h seen t.claims) (sym on.history) (sym on.txn_is)

  on_board : reply ≡ reply_on held (cell_of board) seen txn
  on_board = decided.reply_is held seen (record { now = on.kept.board_is.numbered; copy = copies })

  -- the reply is the one that is due
  pub reply_due : reply ≡ reply_of held seen txn
  reply_due = on_board ∙ ap (λ (c : Cell). reply_on held c seen txn) on.kept.board_is.current

  -- no more is evicted for a claim than it has victims
  pub reply_fits : EvictWithin txn.claims reply
  reply_fits = subst (λ (answered : List Judgement). EvictWithin txn.claims answered) (sym on_board) (reply_within held (cell_of board) seen txn)

  places : MayPlaceAll (cell_of board) (zip txn.claims reply)
  places = subst (λ (answered : List Judgement). MayPlaceAll (cell_of board) (zip txn.claims answered)) (sym on_board) (reply_may held (cell_of board) seen txn)

  -- the machines of placed claims are listed
  pub placed_are_listed : (id : ℕ) → IsTrue (list_any (places_on id) (zip txn.claims reply)) → IsTrue (is_listed id (machines_of next.table))
  placed_are_listed id any = ap (is_listed id) decided.machines ∙ placed_listed (cell_of board) (zip txn.claims reply) id places any

  -- the cell with the commit
  pub committed : (after : BoardState) (scheduler : ℕ) → seen ≤ length shown → length held < 2 ^ 64 - 1
      → after.tasks ≡ next.tasks → machines_of after.table ≡ machines_of next.table
      → ((id : ℕ) → seq_at after.table id ≡ seq_at next.table id + (if list_any (places_on id) (zip txn.claims reply) then 1 else 0))
      → IsCell after (held ++ Commit scheduler seen txn reply ∷ [])
  committed after scheduler within few tasks machines numbers =
      let entry = Commit scheduler seen txn reply in
      cell_push board after held entry on.kept
      (subst (λ (h : List Entry). seen ≤ length h) (sym on.history) within, reply_due)
      (commit_may held entry refl refl tt (subst (λ (c : Cell). MayPlaceAll c (zip txn.claims reply)) on.kept.board_is.current places) few)
      (cell_is (cell_of after) (step (cell_of board) entry) (machines ∙ decided.machines) (tasks ∙ decided.tasks))
      (λ id. numbers id ∙ ap (λ (n : ℕ). n + (if list_any (places_on id) (zip txn.claims reply) then 1 else 0)) (decided.numbers id))
