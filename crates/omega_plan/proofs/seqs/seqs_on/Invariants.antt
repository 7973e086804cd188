use Rattle.std.proofs.Common.{◌≡◌, ◌≤◌, length, map, take, vec_capacity}
use Rattle.omega_machines.specs.Table.{seq_at}
use Rattle.omega_plan.proofs.seqs.seqs_on.Given as goal

abbrev pub invariant-loop-claim : goal.invariant-loop-claim
invariant-loop-claim l = record {
  told : l.seqs.items ≡ map (λ claim. seq_at l.board.table claim.machine) (take l.claim-index l.claims);
  room : length l.claims ≤ vec_capacity l.seqs;
}
