use Rattle.std.proofs.Common.{◌≡◌, List, not, sym, subst, ◌∙◌}
use Rattle.std.specs.List.{filter}
use Rattle.std.specs.Prelude.{OnOk}
use Rattle.omega_model.specs.Wanted.{WantedTask, is_named, wanted_after_task}
use Rattle.omega_feed.specs.Asked.{Asked}
use Rattle.omega_feed.specs.Index.{changed_by}
use Rattle.omega_feed.specs.declared.tasks.TaskChange.TheVariants.{End}
use Rattle.omega_feed.proofs.wanted.Wanted.take_task.Goals as goal

pub returns-in-End-clause-ok : goal.returns-in-End-clause-ok
returns-in-End-clause-ok c =
    let after : wanted_after_task c.args.self.now.tasks c.args.row.now ≡ changed_by End c.args.row.now c.args.self.now.tasks =
    subst (λ (asked : Asked). wanted_after_task asked.tasks c.args.row.now ≡ changed_by End c.args.row.now asked.tasks) c.self.view_is c.in-End.ensures.change in
    let same : filter (λ task. not (is_named c.row.inside.key task)) c.args.self.now.tasks ≡ changed_by End c.args.row.now c.args.self.now.tasks =
    λ i. filter (λ task. not (is_named (c.row.view_is i).key task)) c.args.self.now.tasks in
    subst (λ (left : List WantedTask). OnOk c.end.result (c.end.new.self ≡ record c.args.self.now { tasks = left })) (same ∙ sym after) c.end.ensures.ok
