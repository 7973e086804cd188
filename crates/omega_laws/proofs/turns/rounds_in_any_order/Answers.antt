use Rattle.omega_laws.specs.Orders.{RuleBefore, RuleKeeps, IsPassedBy}
use Rattle.omega_laws.proofs.AnyOrder.{comes_next, one_comes_next, only_rounds}
use Rattle.omega_laws.proofs.turns.rounds_in_any_order.Goals as goal

pub returns-clause-stands : goal.returns-clause-stands
returns-clause-stands c settings trace rows start round rule orders =
    comes_next settings trace rows start round (RuleKeeps rule) (RuleBefore rule) (IsPassedBy rule) rule.sees orders

pub returns-clause-alone : goal.returns-clause-alone
returns-clause-alone c settings trace rows opened_at rule orders =
    one_comes_next settings trace rows opened_at (RuleKeeps rule) (RuleBefore rule) (IsPassedBy rule) rule.sees orders

pub returns-clause-only : goal.returns-clause-only
returns-clause-only c settings trace rule orders =
    only_rounds settings trace (λ rows start round. RuleKeeps (rule rows start round)) (λ rows start round. RuleBefore (rule rows start round))
    (λ rows start round. IsPassedBy (rule rows start round)) (λ rows start round. (rule rows start round).sees) orders
