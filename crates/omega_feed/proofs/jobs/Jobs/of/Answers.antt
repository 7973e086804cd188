use Rattle.std.proofs.Common.{[], ap, sym, ◌∙◌}
use Rattle.std.specs.List.{fold}
use Rattle.std.proofs.lemmas.List.{drop_all}
use Rattle.omega_model.specs.Feed.{feed}
use Rattle.omega_feed.specs.Events.{task_rows}
use Rattle.omega_feed.proofs.JobList.{note_task, task_jobs_noted}
use Rattle.omega_feed.proofs.jobs.Jobs.of.Goals as goal

pub returns : goal.returns
returns c trace rows activities =
    let settings = c.args.settings.now in
    sym (ap (fold (note_task settings c.args.activities.now) c.loop-row.jobs) (drop_all c.loop-row.row-index c.args.rows.now c.loop-row-test.false))
    ∙ c.loop-row.invariant
    ∙ ap (fold (note_task settings c.args.activities.now) []) rows
    ∙ ap (λ z. fold (note_task settings z) [] (task_rows (feed trace))) activities
    ∙ task_jobs_noted settings trace
