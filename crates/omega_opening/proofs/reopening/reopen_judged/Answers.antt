use Rattle.std.proofs.Common.{List, take_all, subst}
use Rattle.std.specs.List.{flat_map}
use Rattle.omega_model.specs.declared.claims.Judgement.{Judgement}
use Rattle.omega_opening.specs.Reopening.{OpensJobs}
use Rattle.omega_opening.proofs.Reopened.{opens_evicted, opens_none}
use Rattle.omega_opening.proofs.reopening.reopen_judged.Goals as goal

pub loop-judgement-init : goal.loop-judgement-init
loop-judgement-init c = opens_none c.args.open_jobs.now c.args.wanted.now

pub loop-judgement-preserved : goal.loop-judgement-preserved
loop-judgement-preserved c =
    opens_evicted c.args.open_jobs.now c.loop-judgement.open_jobs c.reopen_jobs.new.open_jobs c.args.wanted.now c.args.reply.now
    c.loop-judgement.judgement-index c.judgement-item.result c.judgement-item.is c.loop-judgement-test.true c.loop-judgement.invariant
    (subst (OpensJobs c.loop-judgement.open_jobs c.reopen_jobs.new.open_jobs c.args.wanted.now) c.as_slice.ensures c.in_ok-reopen_jobs.ensures)

pub returns : goal.returns
returns c =
    subst (λ (reply : List Judgement). OpensJobs c.args.open_jobs.now c.loop-judgement.open_jobs c.args.wanted.now (flat_map (λ judgement. judgement.evicted) reply))
    (take_all c.loop-judgement.judgement-index c.args.reply.now c.loop-judgement-test.false) c.loop-judgement.invariant
