use Rattle.std.proofs.Common.{◌≡◌, ◌∙◌, map, sym, ap, subst}
use Rattle.std.specs.List.{filter}
use Rattle.omega_model.specs.ExtraTasks.{first_extra, is_extra_of}
use Rattle.omega_model.specs.declared.cells.Task.{Task}
use Rattle.omega_mapreduce.specs.Counted.{RiseFrom}
use Rattle.omega_feed.proofs.ExtraIndexes.{extras_rise}
use Rattle.omega_feed.proofs.extras.running_indexes.Goals as goal

pub returns-clause-indexes : goal.returns-clause-indexes
returns-clause-indexes c =
    c.in_ok-found.ensures ∙ ap (map (λ (task : Task). task.key.index)) (c.as_slice.ensures ∙ c.in_ok-extras.ensures)

pub returns-clause-rise : goal.returns-clause-rise
returns-clause-rise c =
    let is : c.in_ok-found.found.items ≡ map (λ (task : Task). task.key.index) (filter (is_extra_of c.args.job) c.args.running.now.tasks) =
    c.in_ok-found.ensures ∙ ap (map (λ (task : Task). task.key.index)) (c.as_slice.ensures ∙ c.in_ok-extras.ensures) in
    subst (RiseFrom first_extra) (sym is) (extras_rise c.args.job c.args.running.now.tasks c.requires)
