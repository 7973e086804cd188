-- The claims of a transaction, judged and applied one after the other.
use Rattle.std.proofs.Common.{◌≡◌, ℕ, ◌+◌, ◌<◌, ◌≤◌, Bool, true, not, List, [], ◌∷◌, ◌++◌, length, map, get_or, take, drop, Option, refl, sym, ap, ◌∙◌, arith, append_assoc, length-append, if◌then◌else◌, ◌==◌}
use Rattle.std.specs.List.{zip, fold, position_or_len}
use Rattle.std.proofs.lemmas.Bool.{eq-eqb}
use Rattle.std.proofs.lemmas.List.{drop_more, take_more, take_all, get_or-map, length-take}
use Rattle.std.proofs.lemmas.List.Sums.{fold-append, sum_by-cons}
use Rattle.omega_model.specs.Cell.{Cell}
use Rattle.omega_model.specs.Judge.{judge, known_of}
use Rattle.omega_model.specs.Reply.{admits, after_claim, tasks_after_claim, judgements, withdrawn_for, first_refused, all_or_nothing}
use Rattle.omega_model.specs.Touches.{seq}
use Rattle.omega_model.specs.declared.cells.Task.{Task}
use Rattle.omega_model.specs.declared.claims.Claim.{Claim}
use Rattle.omega_model.specs.declared.claims.Judgement.{Judgement}
use Rattle.omega_model.specs.declared.claims.Rule.{Rule}
use Rattle.omega_model.specs.declared.entries.Entry.{Entry}
use Rattle.omega_machines.specs.Table.{machines_of, seq_at}
use Rattle.omega_board.specs.Board.{BoardState, cell_of}
use Rattle.omega_board.specs.Undo.{UndoState, IsUndoOf, at_reserve}
use Rattle.omega_board.proofs.Commits.{victims_in}
use Rattle.omega_cell.specs.Claiming.{AreNumbered}
use Rattle.omega_cell.specs.Rooms.{victim_counts}
use Rattle.omega_model.proofs.Lists.{by_answer}
use Rattle.omega_model.proofs.Soundness.{withdrawn_same}

-- the claims before a place are judged
pub record IsJudging (start board : BoardState) (first undo : UndoState) (rule : Rule) (claims : List Claim) (seqs : List ℕ) (answered : List Judgement) (i : ℕ) : Type 0 where
  pub judged : (history : List Entry) (seen : ℕ) → AreNumbered start seqs claims history seen
      → answered ++ judgements history seen (cell_of board) rule (drop i claims) ≡ judgements history seen (cell_of start) rule claims
  pub long : length answered ≡ i
  pub tasks : board.tasks ≡ fold tasks_after_claim start.tasks (zip (take i claims) answered)
  pub machines : machines_of board.table ≡ machines_of start.table
  pub numbers : (id : ℕ) → seq_at board.table id ≡ seq_at start.table id
  pub undone : IsUndoOf board undo
  pub content : at_reserve undo board ≡ at_reserve first start
  pub room : length claims ≤ undo.claims + i
  pub victims : victims_in (drop i claims) ≤ undo.victims

-- what is known of one claim that is judged, with a number of the copy or without
pub record IsJudged (board next : BoardState) (undo noted : UndoState) (claim : Claim) (copy : Option ℕ) (judgement : Judgement) : Type 0 where
  pub is : (history : List Entry) (seen : ℕ) (rule : Rule) → seq_at board.table claim.machine ≡ seq history claim.machine → copy ≡ known_of history seen rule claim.machine
      → judgement ≡ judge history seen (cell_of board) rule claim
  pub cell : cell_of next ≡ after_claim (cell_of board) (claim, judgement)
  pub numbers : (id : ℕ) → seq_at next.table id ≡ seq_at board.table id
  pub undone : IsUndoOf next noted
  pub content : at_reserve noted next ≡ at_reserve undo board
  pub claims : undo.claims ≤ noted.claims + 1
  pub victims : undo.victims ≤ noted.victims + length claim.victims

-- two lists of one length, each with one more
zip_push : {X Y : Type 0} (xs : List X) (ys : List Y) (x : X) (y : Y) → length xs ≡ length ys → zip (xs ++ x ∷ []) (ys ++ y ∷ []) ≡ zip xs ys ++ (x, y) ∷ []
zip_push [] [] x y same = refl
zip_push [] (b ∷ ys) x y same = absurd (omega (arith, same))
zip_push (a ∷ xs) [] x y same = absurd (omega (arith, same))
zip_push (a ∷ xs) (b ∷ ys) x y same = ap (λ pairs. (a, b) ∷ pairs) (zip_push xs ys x y (omega (arith, same)))

-- once the claim at a place is judged, those before the next place are
pub judge_next : (start board next : BoardState) (first undo noted : UndoState) (rule : Rule) (claims : List Claim) (seqs : List ℕ) (answered : List Judgement) (i : ℕ) (claim : Claim) (number : ℕ) (copy : Option ℕ) (judgement : Judgement)
    → i < length claims → claim ≡ get_or claims i claim → number ≡ get_or seqs i number
    → ((history : List Entry) (seen machine : ℕ) → number ≡ seq (take seen history) machine → copy ≡ known_of history seen rule machine)
    → IsJudged board next undo noted claim copy judgement
    → IsJudging start board first undo rule claims seqs answered i → IsJudging start next first noted rule claims seqs (answered ++ judgement ∷ []) (i + 1)
judge_next start board next first undo noted rule claims seqs answered i claim number copy judgement below here copied copy_is known so =
    let rest = drop (i + 1) claims in
    let split : drop i claims ≡ claim ∷ rest = drop_more claims i claim below ∙ ap (λ (c : Claim). c ∷ rest) (sym here) in
    let front : take (i + 1) claims ≡ take i claims ++ claim ∷ [] = take_more claims i claim below ∙ ap (λ (c : Claim). take i claims ++ c ∷ []) (sym here) in
    let fewer : victims_in (drop i claims) ≡ length claim.victims + victims_in rest = ap victims_in split ∙ sum_by-cons (λ (c : Claim). length c.victims) claim rest in
    let long : length (take i claims) ≡ length answered = length-take i claims ∙ omega (arith, so.long, below) in
    record {
      judged = λ history seen numbered.
          let seq_is : number ≡ seq (take seen history) claim.machine =
          copied ∙ ap (λ (ns : List ℕ). get_or ns i number) numbered.copy ∙ get_or-map (λ (c : Claim). seq (take seen history) c.machine) claims i claim number below
          ∙ ap (λ (c : Claim). seq (take seen history) c.machine) (sym here) in
          let is : judgement ≡ judge history seen (cell_of board) rule claim =
          known.is history seen rule (so.numbers claim.machine ∙ numbered.now claim.machine) (copy_is history seen claim.machine seq_is) in
          append_assoc answered (judgement ∷ []) (judgements history seen (cell_of next) rule rest)
          ∙ ap (λ (c : Cell). answered ++ judgement ∷ judgements history seen c rule rest) known.cell
          ∙ ap (λ (j : Judgement). answered ++ j ∷ judgements history seen (after_claim (cell_of board) (claim, j)) rule rest) is
          ∙ ap (λ (cs : List Claim). answered ++ judgements history seen (cell_of board) rule cs) (sym split)
          ∙ so.judged history seen numbered;
      long = length-append answered (judgement ∷ []) ∙ omega (arith, so.long);
      tasks = ap (λ (c : Cell). c.tasks) known.cell
          ∙ ap (λ (ts : List Task). tasks_after_claim ts (claim, judgement)) so.tasks
          ∙ sym (fold-append tasks_after_claim start.tasks (zip (take i claims) answered) ((claim, judgement) ∷ []))
          ∙ ap (fold tasks_after_claim start.tasks) (sym (zip_push (take i claims) answered claim judgement long))
          ∙ ap (λ (cs : List Claim). fold tasks_after_claim start.tasks (zip cs (answered ++ judgement ∷ []))) (sym front);
      machines = ap (λ (c : Cell). c.machines) known.cell ∙ so.machines;
      numbers = λ id. known.numbers id ∙ so.numbers id;
      undone = known.undone;
      content = known.content ∙ so.content;
      room = omega (arith, so.room, known.claims);
      victims = omega (arith, so.victims, known.victims, fewer);
    }

-- the rooms that are left when the one for the claim at a place was taken
pub rooms_left : (claims : List Claim) (i : ℕ) (claim : Claim) (room : ℕ) (before after : List ℕ) → i < length claims → before ≡ victim_counts (drop i claims) → before ≡ room ∷ after
    → after ≡ victim_counts (drop (i + 1) claims)
rooms_left claims i claim room before after below are split =
    let all : victim_counts (drop i claims) ≡ length (get_or claims i claim).victims ∷ victim_counts (drop (i + 1) claims) = ap victim_counts (drop_more claims i claim below) in
    cc

-- at the end all are
pub judged_all : (start board : BoardState) (first undo : UndoState) (rule : Rule) (claims : List Claim) (seqs : List ℕ) (answered : List Judgement) (i : ℕ)
    → length claims ≤ i → IsJudging start board first undo rule claims seqs answered i → board.tasks ≡ fold tasks_after_claim start.tasks (zip claims answered)
judged_all start board first undo rule claims seqs answered i past so =
    so.tasks ∙ ap (λ (cs : List Claim). fold tasks_after_claim start.tasks (zip cs answered)) (take_all i claims past)

-- the first place that passes a test is at most the length
first_within : {X : Type 0} (p : X → Bool) (xs : List X) → position_or_len p xs ≤ length xs
first_within p [] = omega arith
first_within p (x ∷ xs) =
    by_answer (p x)
    (λ t. rw t (omega arith))
    (λ f. rw f (let rest = first_within p xs in omega (arith, rest)))

-- where the first refusal isn't before the end, there is none
pub no_refusal : (reply : List Judgement) → length reply ≤ first_refused reply → (first_refused reply == length reply) ≡ true
no_refusal reply past =
    let most : first_refused reply ≤ length reply = first_within (λ judgement. not (admits judgement)) reply in
    eq-eqb (first_refused reply) (length reply) (omega (arith, past, most))

-- a gang keeps its tasks where it has no refusal, and else those of the start
pub gang_tasks : (start board next : BoardState) (undo : UndoState) (claims : List Claim) (answered kept : List Judgement)
    → board.tasks ≡ fold tasks_after_claim start.tasks (zip claims answered) → at_reserve undo board ≡ start
    → next ≡ (if first_refused answered == length answered then board else at_reserve undo board) → kept ≡ all_or_nothing answered
    → next.tasks ≡ fold tasks_after_claim start.tasks (zip claims kept)
gang_tasks start board next undo claims answered kept tasks back next_is kept_is =
    by_answer (first_refused answered == length answered)
    (λ t.
    let board_is : next ≡ board = rw t at next_is in
    let answered_is : kept ≡ answered = rw t at kept_is in
    ap (λ (b : BoardState). b.tasks) board_is ∙ tasks ∙ ap (λ (js : List Judgement). fold tasks_after_claim start.tasks (zip claims js)) (sym answered_is))
    (λ f.
    let board_is : next ≡ at_reserve undo board = rw f at next_is in
    let answered_is : kept ≡ map (withdrawn_for (first_refused answered)) answered = rw f at kept_is in
    ap (λ (b : BoardState). b.tasks) (board_is ∙ back) ∙ sym (withdrawn_same (first_refused answered) start.tasks claims answered)
    ∙ ap (λ (js : List Judgement). fold tasks_after_claim start.tasks (zip claims js)) (sym answered_is))
