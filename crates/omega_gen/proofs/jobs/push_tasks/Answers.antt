use Rattle.std.specs.String.{string_bytes}
use Rattle.omega_model.specs.Generated.{task_text}
use Rattle.omega_gen.proofs.Ranges.{rows_more}
use Rattle.omega_gen.proofs.jobs.push_tasks.Goals as goal

pub loop-index-preserved : goal.loop-index-preserved
loop-index-preserved c =
    rows_more (task_text c.args.job.now c.args.number c.args.time c.args.code) c.loop-index.index
    (string_bytes c.args.out.now) _ _ c.loop-index.invariant c.in_ok-push_task.ensures
