use Rattle.std.proofs.Common.{◌++◌, ◌∙◌, List, ap, sym}
use Rattle.omega_model.specs.Wanted.{WantedTask}
use Rattle.omega_feed.specs.Parts.{waiting_jobs}
use Rattle.omega_feed.specs.Slots.{tasks_in}
use Rattle.omega_feed.proofs.Blocks.{done_on, passed, turn}
use Rattle.omega_feed.proofs.Parts.{waiting_both}
use Rattle.omega_feed.proofs.task_list.TaskList.push_waiting.Goals as goal

pub loop-count-preserved-in-Continue-1 : goal.loop-count-preserved-in-Continue-1
loop-count-preserved-in-Continue-1 c =
    let running = c.args.running.now.tasks in
    let steps = c.in-Some.ensures.steps in
    let t = turn _ _ _ _ _ _ _ c.loop-count.invariant.0 c.loop-count.invariant.1 steps.0 steps.1.1.0 steps.1.1.1 in (
      t.left,
      steps.1.0 ∙ c.loop-count.invariant.1,
      done_on _ _ _ _ c.in_ok-push_idle.ensures (ap (waiting_jobs running) t.tasks ∙ waiting_both running (tasks_in c.in-Some.block.now) _) c.loop-count.invariant.2,
    )

pub loop-count-preserved : goal.loop-count-preserved
loop-count-preserved c =
    let running = c.args.running.now.tasks in
    let steps = c.in-Some.ensures.steps in
    let t = turn _ _ _ _ _ _ _ c.loop-count.invariant.0 c.loop-count.invariant.1 steps.0 steps.1.1.0 steps.1.1.1 in (
      t.left,
      steps.1.0 ∙ c.loop-count.invariant.1,
      ap (λ (tasks : List WantedTask). c.loop-count.jobs.items ++ waiting_jobs running tasks) (sym (passed t c.if-count-gt0.false)) ∙ c.loop-count.invariant.2,
    )
