use Rattle.std.proofs.Common.{◌≡◌, ◌++◌, ◌∙◌, List, true, false, subst, sym}
use Rattle.std.specs.Prelude.{◌↔◌}
use Rattle.std.specs.List.{All}
use Rattle.std.proofs.lemmas.List.Elements.{All-append, All-nil}
use Rattle.omega_model.specs.Wanted.{WantedTask}
use Rattle.omega_model.proofs.Lists.{all_of_each, each_back, each_front, each_of_all}
use Rattle.omega_feed.specs.Open.{RunsIfOf}
use Rattle.omega_feed.specs.Slots.{tasks_in}
use Rattle.omega_feed.proofs.Blocks.{nothing_in, turn}
use Rattle.omega_feed.proofs.Slots.{all_run_from, none_idle}
use Rattle.omega_feed.proofs.task_list.TaskList.all_run.Goals as goal
use Rattle.omega_feed.proofs.task_list.TaskList.all_run.Goals.{else-count-gt0-via-then-count-gt0+else-has_idle, else-count-gt0-via-else-count-gt0}

-- where all tasks of a part have a property, all tasks have it if what is left has
part_has : (P : WantedTask → Type 0) (part left remains all : List WantedTask) → remains ≡ part ++ left → All P part → (All P remains ↔ All P all) → (All P left ↔ All P all)
part_has P part left remains all parts has whole = (
  λ rest. whole.0 (subst (All P) (sym parts) (All-append P part left has rest)),
  λ all. all_of_each P left (each_back P part left (each_of_all P (part ++ left) (subst (All P) parts (whole.1 all)))),
)

-- no test fails and passes
false_true : {X : Type 0} → false ≡ true → X
false_true is = absurd (cc)

pub returns-then-has_idle : goal.returns-then-has_idle
returns-then-has_idle c =
    let job = c.args.job in
    let running = c.args.running.now.tasks in
    let first = c.in-Some.block.now in
    let steps = c.in-Some.ensures.steps in
    let t = turn _ _ _ _ _ _ _ c.loop-count.invariant.0 c.loop-count.invariant.1 steps.0 steps.1.1.0 steps.1.1.1 in (
      λ yes. absurd (cc),
      λ all.
          let P = RunsIfOf job running in
          let own = all_of_each P (tasks_in first) (each_front P (tasks_in first) _ (each_of_all P _ (subst (All P) t.tasks (c.loop-count.invariant.2.1 all)))) in
          false_true (sym (none_idle job running first own) ∙ sym c.if-has_idle.ensures),
    )

pub loop-count-preserved : goal.loop-count-preserved
loop-count-preserved c =
    let job = c.args.job in
    let running = c.args.running.now.tasks in
    let first = c.in-Some.block.now in
    let steps = c.in-Some.ensures.steps in
    let P = RunsIfOf job running in
    let t = turn _ _ _ _ _ _ _ c.loop-count.invariant.0 c.loop-count.invariant.1 steps.0 steps.1.1.0 steps.1.1.1 in
    let own : All P (tasks_in first) =
    elim c.else-count-gt0.branch [
      | else-count-gt0-via-then-count-gt0+else-has_idle w ↦ all_run_from job running first (sym w.has_idle.ensures ∙ w.if-has_idle.false)
      | else-count-gt0-via-else-count-gt0 w ↦ subst (All P) (sym (nothing_in t w.if-count-gt0.false)) (All-nil P)
    ] in (
      t.left,
      steps.1.0 ∙ c.loop-count.invariant.1,
      part_has P (tasks_in first) _ _ _ t.tasks own c.loop-count.invariant.2,
    )
