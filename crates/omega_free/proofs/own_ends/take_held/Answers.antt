use Rattle.std.proofs.Common.{◌≡◌, ◌∷◌, List, ap, map, rules, sym, ◌∙◌}
use Rattle.std.specs.List.{fold}
use Rattle.std.specs.Vec.Iter.{into_iter_items}
use Rattle.omega_feed.specs.Asked.{Asked}
use Rattle.omega_model.specs.Fields.{TaskFields}
use Rattle.omega_model.specs.Wanted.{wanted_after}
use Rattle.omega_model.specs.declared.rows.Row.TheVariants.{Task as TaskEvent}
use Rattle.omega_free.proofs.own_ends.take_held.Goals as goal

pub loop-row-preserved : goal.loop-row-preserved
loop-row-preserved c =
    let rest : List TaskFields = into_iter_items c.next.new.self in
    let items : into_iter_items c.loop-row.row-iterator ≡ c.in-Some.row ∷ rest = search rules in (
      ap (λ (asked : Asked). record asked { tasks = fold wanted_after asked.tasks (map (λ row. TaskEvent row) rest) }) c.in_ok-take.ensures.ok
          ∙ ap (λ (left : List TaskFields). record c.loop-row.wanted { tasks = fold wanted_after c.loop-row.wanted.tasks (map (λ row. TaskEvent row) left) }) (sym items)
          ∙ c.loop-row.invariant.0,
      λ tasks quiet. c.in_ok-take.ensures.quiet tasks (c.loop-row.invariant.1 tasks quiet),
    )
