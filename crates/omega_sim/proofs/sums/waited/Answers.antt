use Rattle.std.proofs.Common.{ℕ, ◌+◌, sym, ap₂, ◌∙◌, arith}
use Rattle.std.proofs.lemmas.List.Sums.{fold_more}
use Rattle.omega_sim.specs.Summing.{waited_between}
use Rattle.omega_sim.proofs.sums.waited.Goals as goal

pub loop-job-preserved : goal.loop-job-preserved
loop-job-preserved c = record {
  sum = ap₂ (λ (total more : ℕ). total + more) c.loop-job.invariant.sum c.waited_by-total.ensures.time
      ∙ sym (fold_more (λ total job. total + waited_between c.args.came.now c.args.synced.now job) 0 c.args.jobs.now c.loop-job.job-index 0 c.loop-job-test.true);
  bound = let one = c.waited_by-total.ensures.bound in let all = c.loop-job.invariant.bound in omega arith;
}
