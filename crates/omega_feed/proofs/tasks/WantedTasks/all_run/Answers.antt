use Rattle.std.proofs.Common.{refl, subst, sym}
use Rattle.std.specs.List.{All}
use Rattle.std.proofs.lemmas.List.Elements.{All-filter, All-nil}
use Rattle.omega_feed.specs.Asked.{is_task_of}
use Rattle.omega_feed.specs.Open.{RunsIfOf}
use Rattle.omega_feed.proofs.Parts.{run_in_part}
use Rattle.omega_feed.proofs.tasks.WantedTasks.all_run.Goals as goal

pub returns-in-Some : goal.returns-in-Some
returns-in-Some c =
    let job = c.args.job in
    let running = c.args.running.now.tasks in (
      λ runs. run_in_part job running c.args.self.now (subst (All (RunsIfOf job running)) c.in-Some.ensures.part (c.all_run.ensures.0 runs)),
      λ all. c.all_run.ensures.1 (subst (All (RunsIfOf job running)) (sym c.in-Some.ensures.part) (All-filter (is_task_of job) (RunsIfOf job running) c.args.self.now all)),
    )

pub returns-in-None : goal.returns-in-None
returns-in-None c =
    let job = c.args.job in
    let running = c.args.running.now.tasks in
    (λ _. run_in_part job running c.args.self.now (subst (All (RunsIfOf job running)) (sym c.in-None.ensures.none) (All-nil _)), λ _. refl)
