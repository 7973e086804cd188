use Rattle.std.proofs.Common.{◌≡◌, List, sym, subst, None, ◌⊎◌}
use Rattle.omega_model.specs.Wanted.{WantedTask}
use Rattle.omega_feed.specs.Asked.{Asked, activities_in}
use Rattle.omega_feed.specs.Open.{IsOpen, OthersAreQuiet}
use Rattle.omega_feed.proofs.Quiet.{others_without}
use Rattle.omega_feed.proofs.wanted.Wanted.end.Goals as goal

pub returns-clause-quiet : goal.returns-clause-quiet
returns-clause-quiet c tasks quiet =
    let kept = c.self.inside in
    let was : Asked = record { jobs = kept.jobs; constraints = kept.constraints; disks = kept.disks; activities = kept.activities; extra = kept.extra; tasks = kept.tasks } in
    let after = c.reopen_mapreduce.new.open_jobs in
    let key = c.args.key in
    let opened : IsOpen after was key.job ⊎ (activities_in was.activities key.job ≡ None) =
    subst (λ (asked : Asked). IsOpen after asked key.job ⊎ (activities_in asked.activities key.job ≡ None)) (sym c.self.view_is) c.in_ok-reopen_mapreduce.ensures.ok in
    let others : OthersAreQuiet c.args.open_jobs.now was tasks = subst (λ (asked : Asked). OthersAreQuiet c.args.open_jobs.now asked tasks) (sym c.self.view_is) quiet in
    subst (λ (left : List WantedTask). OthersAreQuiet after (record was { tasks = left }) tasks) (sym c.remove.ensures.tasks)
    (others_without c.args.open_jobs.now after was tasks key c.reopen_mapreduce.ensures.stay opened others)
