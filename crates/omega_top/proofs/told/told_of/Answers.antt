use Rattle.std.proofs.Common.{subst, sym}
use Rattle.omega_sim.specs.Summing.{SumsFit}
use Rattle.omega_top.proofs.Timing.{timed_sums_fit, trace_in_bounds}
use Rattle.omega_top.proofs.told.told_of.Goals as goal

pub time_totals-requires-clause-sums : goal.time_totals-requires-clause-sums
time_totals-requires-clause-sums c =
    let settings = c.args.settings.now in
    let run = c.requires.run in
    let history = c.args.history.now in
    let bounds = trace_in_bounds settings run.trace c.args.rounds.now c.requires.range run.rounds.within run.rounds.rounds
    c.in_ok-arrivals.ensures.early run.rounds.few in
    subst (SumsFit history) (sym c.as_slice.ensures)
    (timed_sums_fit settings.clock settings run.trace c.requires.range bounds history c.args.times run.timed)
