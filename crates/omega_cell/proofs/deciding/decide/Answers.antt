use Rattle.std.proofs.Common.{Vec, Global, ◌≡◌, List, sym, ap, ◌∙◌}
use Rattle.std.specs.List.{fold, zip}
use Rattle.omega_model.specs.Reply.{tasks_after_claim, all_or_nothing}
use Rattle.omega_model.specs.declared.claims.Claim.{Claim}
use Rattle.omega_model.specs.declared.claims.Judgement.{Judgement}
use Rattle.omega_board.specs.Board.{BoardState}
use Rattle.omega_board.specs.Undo.{at_reserve, before_all}
use Rattle.omega_board.specs.declared.undo.Change.{Change}
use Rattle.omega_cell.proofs.Judging.{gang_tasks}
use Rattle.omega_cell.proofs.deciding.decide.Goals as goal
use Rattle.omega_cell.proofs.deciding.decide.Goals.{in-Gang, in_default}

pub returns-clause-tasks : goal.returns-clause-tasks
returns-clause-tasks c =
    let start = c.args.board.now in
    let claims = c.args.txn.now.claims in
    let board = c.judge_all-answered.new.board in
    let answered = c.judge_all-answered.result.items in
    let tasks : board.tasks ≡ fold tasks_after_claim start.tasks (zip claims answered) =
    c.judge_all-answered.ensures.tasks ∙ ap (λ (cs : List Claim). fold tasks_after_claim start.tasks (zip cs answered)) c.as_slice-claims.ensures in
    let back : at_reserve c.judge_all-answered.new.undo board ≡ start = c.judge_all-answered.ensures.content ∙ ap (λ (log : List Change). before_all log start) c.requires.log in
    elim c.match-txn.branch [
      | in-Gang w ↦
          let kept : c.of.result ≡ all_or_nothing answered = c.of.ensures ∙ ap (λ (v : Vec Judgement Global). v.items) w.answered-is ∙ w.keep_all_or_nothing.ensures.answered in
          ap (λ (b : BoardState). b.tasks) w.board-is
          ∙ gang_tasks start board w.keep_all_or_nothing.new.board c.judge_all-answered.new.undo claims answered c.of.result tasks back w.keep_all_or_nothing.ensures.board kept
      | in_default w ↦
          let kept : c.of.result ≡ answered = c.of.ensures ∙ ap (λ (v : Vec Judgement Global). v.items) w.answered-is in
          ap (λ (b : BoardState). b.tasks) w.board-is ∙ tasks ∙ ap (λ (js : List Judgement). fold tasks_after_claim start.tasks (zip claims js)) (sym kept)
    ]
