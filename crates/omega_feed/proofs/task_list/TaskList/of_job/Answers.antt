use Rattle.std.proofs.Common.{◌==◌, ◌++◌, ◌∙◌, List, ap, map, sym}
use Rattle.std.proofs.lemmas.List.Elements.{filter-append}
use Rattle.omega_model.specs.ExtraTasks.{wanted_of}
use Rattle.omega_model.specs.Wanted.{WantedTask}
use Rattle.omega_feed.specs.Index.{wanted_task}
use Rattle.omega_feed.specs.Slots.{tasks_in}
use Rattle.omega_feed.proofs.Blocks.{done_on, passed, turn}
use Rattle.omega_feed.proofs.task_list.TaskList.of_job.Goals as goal

pub loop-count-preserved-in-Continue-branch-2 : goal.loop-count-preserved-in-Continue-branch-2
loop-count-preserved-in-Continue-branch-2 c =
    let job = c.args.job in
    let steps = c.in-Some.ensures.steps in
    let t = turn _ _ _ _ _ _ _ c.loop-count.invariant.0 c.loop-count.invariant.1 steps.0 steps.1.1.0 steps.1.1.1 in (
      t.left,
      steps.1.0 ∙ c.loop-count.invariant.1,
      done_on _ _ _ _ c.in_ok-push_entries.ensures (ap (wanted_of job) t.tasks ∙ filter-append (λ task. task.key.job == job) (tasks_in c.in-Some.block.now) _) c.loop-count.invariant.2,
    )

pub loop-count-preserved : goal.loop-count-preserved
loop-count-preserved c =
    let job = c.args.job in
    let steps = c.in-Some.ensures.steps in
    let t = turn _ _ _ _ _ _ _ c.loop-count.invariant.0 c.loop-count.invariant.1 steps.0 steps.1.1.0 steps.1.1.1 in (
      t.left,
      steps.1.0 ∙ c.loop-count.invariant.1,
      ap (λ (tasks : List WantedTask). map wanted_task c.loop-count.found.items ++ wanted_of job tasks) (sym (passed t c.if-count-gt0.false)) ∙ c.loop-count.invariant.2,
    )
