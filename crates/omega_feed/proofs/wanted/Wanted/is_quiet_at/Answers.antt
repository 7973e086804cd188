use Rattle.std.proofs.Common.{◌≡◌, List, Some, refl, sym, ap, subst}
use Rattle.std.specs.Prelude.{option_map}
use Rattle.std.specs.List.{All}
use Rattle.std.proofs.lemmas.Bool.{both_ways}
use Rattle.omega_model.specs.declared.cells.Task.{Task}
use Rattle.omega_feed.specs.Asked.{Asked}
use Rattle.omega_feed.specs.Index.{job_at}
use Rattle.omega_feed.specs.Open.{IsQuietAt, RunsIfOf}
use Rattle.omega_feed.specs.declared.jobs.RoutedJob.{RoutedJob}
use Rattle.omega_feed.proofs.wanted.Wanted.is_quiet_at.Goals as goal

pub returns-then-not-all_run : goal.returns-then-not-all_run
returns-then-not-all_run c =
    let kept = c.self.inside in
    let was : Asked = record { jobs = kept.jobs; constraints = kept.constraints; disks = kept.disks; activities = kept.activities; extra = kept.extra; tasks = kept.tasks } in
    let job = c.in-Some.field-0.job in
    let here : job_at kept.jobs c.args.place ≡ Some job =
    ap (option_map (λ (job : RoutedJob). job.job)) (sym c.in-Some.ensures) in (
      λ none. absurd (both_ways _ refl none),
      λ quiet.
          let own : IsQuietAt was c.args.board.now.tasks c.args.place =
          subst (λ (asked : Asked). IsQuietAt asked c.args.board.now.tasks c.args.place) (sym c.self.view_is) quiet in
          let run : All (RunsIfOf job c.running.result.now.tasks) kept.tasks =
          subst (λ (tasks : List Task). All (RunsIfOf job tasks) kept.tasks) (sym c.running.ensures.tasks) (own job here).running in
          absurd (both_ways _ c.if-not-all_run.true (c.all_run.ensures.1 run)),
    )
