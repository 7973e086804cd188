use Rattle.std.proofs.Common.{List, take, take_all, subst}
use Rattle.std.specs.List.{fold}
use Rattle.omega_feed.specs.Open.{OthersAreQuiet}
use Rattle.omega_model.specs.State.{step}
use Rattle.omega_model.specs.declared.entries.Entry.{Entry}
use Rattle.omega_opening.proofs.Reopened.{quiet_stepped}
use Rattle.omega_opening.proofs.reopening.reopen_all.Goals as goal

pub loop-entry-init : goal.loop-entry-init
loop-entry-init c = λ before quiet. quiet

pub loop-entry-preserved : goal.loop-entry-preserved
loop-entry-preserved c = λ before quiet.
    quiet_stepped c.loop-entry.open_jobs c.reopen_evicted.new.open_jobs c.args.wanted.now before c.args.entries.now c.loop-entry.entry-index c.entry-item.result c.entry-item.is c.loop-entry-test.true
    (c.loop-entry.invariant before quiet) (c.in_ok-reopen_evicted.ensures (fold step before (take c.loop-entry.entry-index c.args.entries.now)).tasks)

pub returns : goal.returns
returns c = λ before quiet.
    subst (λ (es : List Entry). OthersAreQuiet c.loop-entry.open_jobs c.args.wanted.now (fold step before es).tasks)
    (take_all c.loop-entry.entry-index c.args.entries.now c.loop-entry-test.false) (c.loop-entry.invariant before quiet)
