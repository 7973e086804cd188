use Rattle.std.proofs.Common.{ap, sym, ◌∙◌}
use Rattle.omega_model.specs.Need.{minus}
use Rattle.omega_model.specs.declared.cells.Need.{Need}
use Rattle.omega_running.specs.Staying.{staying_on}
use Rattle.omega_plan.proofs.Hosting.{left_whole, left_both}
use Rattle.omega_plan.proofs.tenants.Tenants.left_on.Goals as goal

pub returns-then-is_whole : goal.returns-then-is_whole
returns-then-is_whole c = λ tasks beside.
    c.left_on-own.ensures
    ∙ left_whole c.args.self.now c.args.board.now.tasks tasks beside c.args.machine c.args.prec c.args.amount (sym c.is_whole.ensures ∙ c.if-is_whole.true)

pub returns : goal.returns
returns c = λ tasks beside.
    c.left_on.ensures ∙ ap (λ (n : Need). minus n (staying_on c.args.prec c.args.board.now.tasks c.args.machine)) c.left_on-own.ensures
    ∙ left_both c.args.self.now c.args.board.now.tasks tasks beside c.args.machine c.args.prec c.args.amount (sym c.is_whole.ensures ∙ c.if-is_whole.false)
