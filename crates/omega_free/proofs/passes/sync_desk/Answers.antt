use Rattle.std.proofs.Common.{◌∙◌, ◌<◌, inl, inr, sym, ap, arith}
use Rattle.omega_board.specs.Board.{cell_of}
use Rattle.omega_model.specs.OpenRequests.{open_requests}
use Rattle.omega_model.specs.Work.{Standing}
use Rattle.omega_free.proofs.AskedOnce.{asked_distinct}
use Rattle.omega_free.proofs.DeskSyncs.{none_there, some_there, syncs_anew, syncs_on}
use Rattle.omega_free.proofs.Leaving.{none_remains, on_err}
use Rattle.omega_free.proofs.passes.sync_desk.Goals as goal

pub returns-then-has_work-clause-syncs : goal.returns-then-has_work-clause-syncs
returns-then-has_work-clause-syncs c =
    syncs_on c.args.wanted.now (cell_of c.args.board.now) c.args.triggers c.args.begun c.args.desk.now c.drop_unwanted.new.desk
    c.drop_unwanted.ensures.desk c.drop_unwanted.ensures.attempts c.in_ok-drop_unwanted.ensures.left
    (inl (some_there c.drop_unwanted.new.desk.requests (sym c.has_work.ensures ∙ c.if-has_work.true)))

pub returns-then-triggers-begun-clause-syncs : goal.returns-then-triggers-begun-clause-syncs
returns-then-triggers-begun-clause-syncs c =
    syncs_on c.args.wanted.now (cell_of c.args.board.now) c.args.triggers c.args.begun c.args.desk.now c.drop_unwanted.new.desk
    c.drop_unwanted.ensures.desk c.drop_unwanted.ensures.attempts c.in_ok-drop_unwanted.ensures.left
    (inr c.if-triggers-begun.true)

pub begin-requires-clause-no_work : goal.begin-requires-clause-no_work
begin-requires-clause-no_work c =
    none_there c.drop_unwanted.new.desk.requests (sym c.has_work.ensures ∙ c.if-has_work.false)

pub begin-requires-clause-distinct : goal.begin-requires-clause-distinct
begin-requires-clause-distinct c =
    asked_distinct c.args.wanted.now (cell_of c.args.board.now) c.scheduler-scheduler.result c.in_ok-requests.requests c.requires.asked c.requires.cell
    c.requests.ensures.low c.in_ok-requests.ensures.requests

pub returns-clause-syncs : goal.returns-clause-syncs
returns-clause-syncs c =
    let none = none_there c.drop_unwanted.new.desk.requests (sym c.has_work.ensures ∙ c.if-has_work.false) in
    let more : c.args.begun < c.args.triggers = omega (arith, c.if-triggers-begun.false) in
    syncs_anew c.args.wanted.now (cell_of c.args.board.now) c.args.triggers c.args.begun c.args.desk.now c.drop_unwanted.new.desk
    c.drop_unwanted.ensures.desk c.drop_unwanted.ensures.attempts c.in_ok-drop_unwanted.ensures.left
    c.begin.new.self c.in_ok-requests.requests none more
    (λ settings trace rows asks. c.in_ok-requests.ensures.requests settings trace rows asks
    ∙ ap (open_requests settings trace rows (cell_of c.args.board.now)) c.scheduler-scheduler.ensures)
    c.begin.ensures.desk c.begin.ensures.attempts c.in_ok-begin.ensures.ok

pub returns-in_err-requests-clause-some : goal.returns-in_err-requests-clause-some
returns-in_err-requests-clause-some c =
    let none = none_there c.drop_unwanted.new.desk.requests (sym c.has_work.ensures ∙ c.if-has_work.false) in
    on_err c.from_residual-in_err-requests.result
    (none_remains c.args.wanted.now.tasks c.args.desk.now c.drop_unwanted.new.desk c.drop_unwanted.new.desk c.in_ok-drop_unwanted.ensures.left none none)

pub returns-in_err-begin-clause-some : goal.returns-in_err-begin-clause-some
returns-in_err-begin-clause-some c =
    let none = none_there c.drop_unwanted.new.desk.requests (sym c.has_work.ensures ∙ c.if-has_work.false) in
    on_err c.from_residual-in_err-begin.result
    (none_remains c.args.wanted.now.tasks c.args.desk.now c.drop_unwanted.new.desk c.begin.new.self c.in_ok-drop_unwanted.ensures.left none
    (ap (λ (left : Standing). left.requests) c.in_err-begin.ensures.err))
