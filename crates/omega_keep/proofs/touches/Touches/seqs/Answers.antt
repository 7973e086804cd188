use Rattle.std.proofs.Common.{◌++◌, ◌+◌, ap, drop, ◌∙◌}
use Rattle.omega_model.specs.Touches.{copied_seqs}
use Rattle.omega_keep.proofs.TouchMap.{seqs_more}
use Rattle.omega_keep.proofs.touches.Touches.seqs.Goals as goal

pub loop-claim-preserved : goal.loop-claim-preserved
loop-claim-preserved c = λ history touches le.
    ap (λ z. z ++ copied_seqs history c.args.seen (drop (c.loop-claim.claim-index + 1) c.args.claims.now)) c.in_ok-push.ensures.items
    ∙ seqs_more history c.args.seen c.args.claims.now c.loop-claim.claim-index c.seq.result c.claim-item.result c.loop-claim.seqs.items _ c.loop-claim-test.true c.claim-item.is (c.seq.ensures history touches le) (c.loop-claim.invariant history touches le)
