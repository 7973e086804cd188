use Rattle.std.proofs.Common.{◌≡◌, List, map}
use Rattle.std.specs.List.{fold}
use Rattle.std.specs.Vec.Iter.{into_iter_items}
use Rattle.omega_feed.specs.Open.{OthersAreQuiet}
use Rattle.omega_model.specs.Wanted.{wanted_after}
use Rattle.omega_model.specs.declared.cells.Task.{Task}
use Rattle.omega_model.specs.declared.rows.Row.TheVariants.{Task as TaskEvent}
use Rattle.omega_free.proofs.own_ends.take_held.Given as goal

abbrev pub invariant-loop-row : goal.invariant-loop-row
invariant-loop-row l =
    (record l.wanted { tasks = fold wanted_after l.wanted.tasks (map (λ row. TaskEvent row) (into_iter_items l.row-iterator)) }
    ≡ record l.fn.wanted { tasks = fold wanted_after l.fn.wanted.tasks (map (λ row. TaskEvent row) l.fn.held) })
    × ((tasks : List Task) → OthersAreQuiet l.fn.open_jobs l.fn.wanted tasks → OthersAreQuiet l.open_jobs l.wanted tasks)
