use Rattle.std.proofs.Common.{◌∙◌}
use Rattle.omega_report.proofs.Summed.{counts_more}
use Rattle.omega_report.proofs.reporting.push_counts.Goals as goal

pub loop-scheduler-preserved : goal.loop-scheduler-preserved
loop-scheduler-preserved c = (
  c.in_ok-counts.ensures.format ∙ c.loop-scheduler.invariant.0,
  counts_more c.args.counts.now c.loop-scheduler.scheduler _ c.loop-scheduler.page.lines c.counts.new.self.lines c.loop-scheduler-test.true c.in_ok-counts.ensures.lines
      ∙ c.loop-scheduler.invariant.1,
)
