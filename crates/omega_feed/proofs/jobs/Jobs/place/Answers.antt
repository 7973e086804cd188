use Rattle.std.proofs.Common.{List, ap, sym, ◌∙◌}
use Rattle.omega_feed.specs.Index.{job_at}
use Rattle.omega_feed.specs.declared.jobs.RoutedJob.{RoutedJob}
use Rattle.omega_feed.proofs.JobList.{placed_at}
use Rattle.omega_feed.proofs.jobs.Jobs.place.Goals as goal

pub returns-then-stands_at : goal.returns-then-stands_at
returns-then-stands_at c =
    let guess = c.guess-guess.result in
    rw (← c.self.view_is)
    (placed_at c.self.inside.places c.self.inside.list.items c.self.invariant c.args.job guess
    (ap (λ (jobs : List RoutedJob). job_at jobs guess) (sym c.deref.ensures.value) ∙ c.stands_at.ensures c.if-stands_at.true))
