use Rattle.std.proofs.Common.{List, take_all, subst}
use Rattle.omega_model.specs.declared.cells.TaskKey.{TaskKey}
use Rattle.omega_opening.specs.Reopening.{OpensJobs}
use Rattle.omega_opening.proofs.Reopened.{opens_next, opens_none}
use Rattle.omega_opening.proofs.reopening.reopen_jobs.Goals as goal

pub loop-key-init : goal.loop-key-init
loop-key-init c = opens_none c.args.open_jobs.now c.args.wanted.now

pub loop-key-preserved : goal.loop-key-preserved
loop-key-preserved c =
    opens_next c.args.open_jobs.now c.loop-key.open_jobs c.reopen.new.self c.args.wanted.now c.args.keys.now c.loop-key.key-index _ c.loop-key-test.true
    c.loop-key.invariant c.reopen.ensures.stay c.in_ok-reopen.ensures.ok

pub returns : goal.returns
returns c =
    subst (λ (keys : List TaskKey). OpensJobs c.args.open_jobs.now c.loop-key.open_jobs c.args.wanted.now keys)
    (take_all c.loop-key.key-index c.args.keys.now c.loop-key-test.false) c.loop-key.invariant
