use Rattle.std.proofs.Common.{◌==◌, ◌∙◌, ℕ, ap, length, not, subst}
use Rattle.omega_model.specs.ExtraTasks.{HasLowIndex}
use Rattle.std.specs.List.{AllByRecursion as Each}
use Rattle.omega_feed.proofs.Slots.{any_there, low_wanted}
use Rattle.omega_feed.proofs.task_list.TaskList.has_any.Goals as goal

pub returns-clause-any : goal.returns-clause-any
returns-clause-any c = λ job own.
    ap (λ (n : ℕ). not (n == 0)) (c.self.invariant.counted ∙ ap length c.self.view_is) ∙ any_there job c.args.self.now own

pub returns-clause-wanted : goal.returns-clause-wanted
returns-clause-wanted c = λ job own.
    ap (λ (n : ℕ). not (n == 0)) (c.self.invariant.counted ∙ ap length c.self.view_is)
    ∙ any_there job c.args.self.now own
    ∙ low_wanted job c.args.self.now (subst (Each HasLowIndex) c.self.view_is c.self.invariant.low)
