use Rattle.std.proofs.Common.{rules}
use Rattle.omega_desk.proofs.Walks.{walked_along}
use Rattle.omega_desk.proofs.walk.walked.Goals as goal

pub returns : goal.returns
returns c = walked_along _ (λ f. f.0.now.now) (λ f wish kept g k. search rules) _ _ _ c.retain.ensures.filtered
