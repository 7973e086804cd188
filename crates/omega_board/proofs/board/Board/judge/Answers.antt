use Rattle.std.proofs.Common.{sym, ap, ◌∙◌}
use Rattle.omega_model.specs.Judge.{no_machine, with_evicted}
use Rattle.omega_machines.specs.Table.{seq_at}
use Rattle.omega_board.specs.Board.{BoardState, cell_of}
use Rattle.omega_board.specs.Judging.{changed_on}
use Rattle.omega_board.proofs.Parts.{up_where_free, down_where_none}
use Rattle.omega_board.proofs.Rules.{judged_on, refused_down}
use Rattle.omega_board.proofs.board.Board.judge.Goals as goal

pub verdict-verdict-requires-clause-up : goal.verdict-verdict-requires-clause-up
verdict-verdict-requires-clause-up c =
    sym (up_where_free c.self.inside.table c.args.claim.now.machine c.in-Some.free c.in-Some.ensures.free
    ∙ ap (λ (board : BoardState). no_machine (cell_of board) c.args.claim.now) c.self.view_is)

pub returns-in_default-clause-judged : goal.returns-in_default-clause-judged
returns-in_default-clause-judged c =
    refused_down (changed_on (seq_at c.args.self.now.table c.args.claim.now.machine) c.args.copy_seq) (cell_of c.args.self.now) c.args.claim.now c.args.evicted.now.items c.requires.empty
    (down_where_none c.self.inside.table c.args.claim.now.machine c.in_default.ensures.free
    ∙ ap (λ (board : BoardState). no_machine (cell_of board) c.args.claim.now) c.self.view_is)

pub returns-in_default-clause-on_history : goal.returns-in_default-clause-on_history
returns-in_default-clause-on_history c = λ history seen rule numbered known.
    judged_on history seen (cell_of c.args.self.now) rule c.args.claim.now (seq_at c.args.self.now.table c.args.claim.now.machine) c.args.copy_seq numbered known
    ∙ refused_down (changed_on (seq_at c.args.self.now.table c.args.claim.now.machine) c.args.copy_seq) (cell_of c.args.self.now) c.args.claim.now c.args.evicted.now.items c.requires.empty
    (down_where_none c.self.inside.table c.args.claim.now.machine c.in_default.ensures.free
    ∙ ap (λ (board : BoardState). no_machine (cell_of board) c.args.claim.now) c.self.view_is)

pub returns-clause-on_history : goal.returns-clause-on_history
returns-clause-on_history c = λ history seen rule numbered known.
    judged_on history seen (cell_of c.args.self.now) rule c.args.claim.now (seq_at c.args.self.now.table c.args.claim.now.machine) c.args.copy_seq numbered known
    ∙ ap (with_evicted (cell_of c.args.self.now) c.args.claim.now) (sym c.verdict-verdict.ensures.verdict)
    ∙ (λ i. record { verdict = c.verdict-verdict.result; evicted = sym c.keep_evicted.ensures.evicted i })
