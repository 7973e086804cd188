use Rattle.std.proofs.Common.{◌≡◌, ◌+◌, length, drop, sum_by}
use Rattle.omega_board.proofs.placing.count_victims.Given as goal

abbrev pub invariant-loop-claim : goal.invariant-loop-claim
invariant-loop-claim l = l.victims + sum_by (λ claim. length claim.victims) (drop l.claim-index l.claims) ≡ sum_by (λ claim. length claim.victims) l.claims
