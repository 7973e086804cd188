use Rattle.std.proofs.Common.{◌∙◌, List, ap, take}
use Rattle.omega_model.specs.Touches.{copied_seqs}
use Rattle.omega_model.specs.declared.claims.Claim.{Claim}
use Rattle.omega_board.proofs.Histories.{numbers_alike}
use Rattle.omega_workers.proofs.plans.plan_on.Goals as goal

pub returns-clause-plan : goal.returns-clause-plan
returns-clause-plan c = λ history stands up_to. record {
  within = stands.within;
  txn = c.in_ok-txn.ensures.txn history c.args.seen stands up_to;
  few = c.in_ok-txn.ensures.few;
  seqs = c.in_ok-seqs.ensures
      ∙ numbers_alike c.args.board.now.table (take c.args.seen history) c.as_slice.result.now stands.numbers
      ∙ ap (λ (claims : List Claim). copied_seqs history c.args.seen claims) c.as_slice.ensures;
  listed = c.in_ok-listed.ensures;
}
