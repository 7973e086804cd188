-- A round opens where tasks end of themselves: those of its rows that count are what the definitions heed.
use Rattle.std.proofs.Common.{◌≡◌, ℕ, true, false, List, [], ◌∷◌, ◌++◌, length, refl, sym, ap, ◌∙◌, append-nil, append_assoc}
use Rattle.std.specs.Prelude.{◌==◌, if◌then◌else◌}
use Rattle.std.specs.List.{filter, fold}
use Rattle.omega_model.proofs.Lists.{by_answer}
use Rattle.omega_model.specs.Cell.{Cell}
use Rattle.omega_model.specs.Fields.{TaskFields}
use Rattle.omega_model.specs.Lawful.{Applied, opened, with_row}
use Rattle.omega_model.specs.RowEntries.{task_entries}
use Rattle.omega_model.specs.State.{state}
use Rattle.omega_model.specs.Wanted.{WantedTask, attr_entry, ends, machine_entry, wanted}
use Rattle.omega_model.specs.declared.cells.TaskKey.{TaskKey}
use Rattle.omega_model.specs.declared.entries.Entry.{Entry}
use Rattle.omega_model.specs.declared.entries.Entry.TheVariants.{Round as RoundEntry}
use Rattle.omega_model.specs.declared.rows.Row.{Row}
use Rattle.omega_model.specs.declared.rows.Row.TheVariants.{Machine, Attr as AttrEvent, Task as TaskEvent}
use Rattle.omega_model.specs.declared.rows.Round.{Round}
use Rattle.omega_model.specs.declared.rows.TraceTables.{TraceTables}
use Rattle.omega_laws.specs.VirtualTime.{Timed}
use Rattle.omega_free_laws.specs.Lives.{counting, counting_behind, counts, ended, ends_none, is_end_of, pieces_of, without_ends}
use Rattle.omega_free_laws.proofs.LivesSteps.{plain_opened}
use Rattle.omega_free_laws.proofs.Running.{is_plain}
use Rattle.omega_pieces.specs.Due.{KeepsEnds}
use Rattle.omega_pieces.specs.Kept.{KeepsPieces}
use Rattle.omega_pieces.specs.declared.task_pieces.TaskPieces.{TaskPieces}
use Rattle.omega_pieces.proofs.Counting.{counting_same}
use Rattle.omega_pieces.proofs.EndsOn.{keeps_plain, plain_ends_none}
use Rattle.omega_pieces.proofs.PiecesOn.{keeps_entry}

-- ---- which rows count

-- more rows, behind those before them
pub behind_more : (history : List Entry) (before some more : List Row)
    → counting_behind history before (some ++ more) ≡ counting_behind history before some ++ counting_behind history (before ++ some) more
behind_more history before [] more = ap (λ (all : List Row). counting_behind history all more) (sym (append-nil before))
behind_more history before (row ∷ some) more =
    ap (λ (rest : List Row). (if counts history before row then row ∷ [] else []) ++ rest)
    (behind_more history (before ++ row ∷ []) some more
    ∙ ap (λ (all : List Row). counting_behind history (before ++ row ∷ []) some ++ counting_behind history all more) (append_assoc before (row ∷ []) some))
    ∙ sym (append_assoc (if counts history before row then row ∷ [] else []) (counting_behind history (before ++ row ∷ []) some)
    (counting_behind history (before ++ row ∷ some) more))

pub counting_more : (history : List Entry) (rows more : List Row)
    → counting (rows ++ more) history ≡ counting rows history ++ counting_behind history rows more
counting_more history rows more = behind_more history [] rows more

-- ---- the entries of those that count are those of all that end no task

no_entries : (cell : Cell) (left : List WantedTask) (row : TaskFields) → ends row.code ≡ false → task_entries cell left row ≡ []
no_entries cell left row none = rw none refl

silent : (trace : TraceTables) (rows : List Row) (start : List Entry) (row : TaskFields) → ends row.code ≡ false
    → with_row trace (record { rows = rows; history = start }) (TaskEvent row) ≡ record { rows = rows ++ TaskEvent row ∷ []; history = start }
silent trace rows start row none =
    ap (λ (entries : List Entry). record { rows = rows ++ TaskEvent row ∷ []; history = start ++ entries })
    (no_entries (state start) (wanted (rows ++ TaskEvent row ∷ [])) row none)
    ∙ ap (λ (h : List Entry). record { rows = rows ++ TaskEvent row ∷ []; history = h }) (append-nil start)

alike : (trace : TraceTables) (history : List Entry) (before rows one other : List Row) (start : List Entry)
    → (fold (with_row trace) (record { rows = one; history = start }) (counting_behind history before rows)).history
    ≡ (fold (with_row trace) (record { rows = other; history = start }) (filter ends_none rows)).history
alike trace history before [] one other start = refl
alike trace history before (Machine row ∷ rows) one other start =
    alike trace history (before ++ Machine row ∷ []) rows (one ++ Machine row ∷ []) (other ++ Machine row ∷ []) (start ++ machine_entry trace.disks row ∷ [])
alike trace history before (AttrEvent row ∷ rows) one other start =
    alike trace history (before ++ AttrEvent row ∷ []) rows (one ++ AttrEvent row ∷ []) (other ++ AttrEvent row ∷ []) (start ++ attr_entry row ∷ [])
alike trace history before (TaskEvent row ∷ rows) one other start =
    by_answer (ends row.code)
    (λ t. rw t (alike trace history (before ++ TaskEvent row ∷ []) rows one other start))
    (λ f.
    let rest : List Row = counting_behind history (before ++ TaskEvent row ∷ []) rows in
    let there : (fold (with_row trace) (with_row trace (record { rows = other; history = start }) (TaskEvent row)) (filter ends_none rows)).history
    ≡ (fold (with_row trace) (record { rows = other ++ TaskEvent row ∷ []; history = start }) (filter ends_none rows)).history =
    ap (λ (applied : Applied). (fold (with_row trace) applied (filter ends_none rows)).history) (silent trace other start row f) in
    by_answer (length (pieces_of row.key before).lives == ended history row.key)
    (λ c.
    let here : (fold (with_row trace) (with_row trace (record { rows = one; history = start }) (TaskEvent row)) rest).history
    ≡ (fold (with_row trace) (record { rows = one ++ TaskEvent row ∷ []; history = start }) rest).history =
    ap (λ (applied : Applied). (fold (with_row trace) applied rest).history) (silent trace one start row f) in
    rw (f, c) (here ∙ alike trace history (before ++ TaskEvent row ∷ []) rows (one ++ TaskEvent row ∷ []) (other ++ TaskEvent row ∷ []) start ∙ sym there))
    (λ c. rw (f, c) (alike trace history (before ++ TaskEvent row ∷ []) rows one (other ++ TaskEvent row ∷ []) start ∙ sym there)))

-- so a round opens alike by those of its rows that count and by those that end no task
pub opened_alike : (trace : TraceTables) (rows one other : List Row) (history : List Entry) (round : Round)
    → (opened trace one history (record { number = round.number; rows = counting_behind history rows round.rows })).history
    ≡ (opened trace other history (without_ends round)).history
opened_alike trace rows one other history round = alike trace history rows round.rows one other (history ++ RoundEntry round.number ∷ [])

-- ---- no task ends while it opens

module _ (trace : TraceTables) (some : List Row) (history : List Entry) (round : Round) where
  pub counting_opened : (rows : List Row) → counting rows (opened trace some history (without_ends round)).history ≡ counting rows history
  counting_opened rows =
      plain_opened (λ (later : List Entry). counting rows later ≡ counting rows history)
      (λ later entry plain same. counting_same later entry rows (λ key. plain_ends_none key entry plain) ∙ same) trace some history round refl

  pub pieces_opened : (rows : List Row) (pieces : TaskPieces) → KeepsPieces trace rows history pieces
      → KeepsPieces trace rows (opened trace some history (without_ends round)).history pieces
  pieces_opened rows pieces keeps =
      plain_opened (λ (later : List Entry). KeepsPieces trace rows later pieces)
      (λ later entry plain kept. keeps_entry trace rows later pieces entry (λ key low. plain_ends_none key entry plain) kept) trace some history round keeps

  pub ends_opened : (times : List Timed) (ends : List (TaskKey × ℕ)) → KeepsEnds trace history times ends
      → KeepsEnds trace (opened trace some history (without_ends round)).history times ends
  ends_opened times ends keeps =
      plain_opened (λ (later : List Entry). KeepsEnds trace later times ends)
      (λ later entry plain kept. keeps_plain trace ends later times entry plain kept) trace some history round keeps
