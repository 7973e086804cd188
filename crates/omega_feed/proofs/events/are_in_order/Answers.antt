use Rattle.std.proofs.Common.{◌≡◌, ◌+◌, ◌≤◌, ◌++◌, ◌∷◌, [], ap, arith, subst, sym, take, ◌∙◌}
use Rattle.std.proofs.lemmas.List.{take_more}
use Rattle.std.specs.List.{AllByRecursion as Each}
use Rattle.omega_model.proofs.Lists.{each_append, each_map}
use Rattle.omega_feed.specs.Events.{Rise}
use Rattle.omega_feed.proofs.Rising.{rise_push}
use Rattle.omega_feed.proofs.events.are_in_order.Goals as goal

pub loop-row-preserved : goal.loop-row-preserved
loop-row-preserved g c =
    let time = g.R.HasTime.time in
    let rows = c.args.rows.now in
    let place = c.loop-row.row-index in
    let row = c.row-item.result in
    let last = c.loop-row.last in
    let next : take place rows ++ row ∷ [] ≡ take (place + 1) rows =
    ap (λ r. take place rows ++ r ∷ []) c.row-item.is ∙ sym (take_more rows place row c.loop-row-test.true) in
    let before : Each (λ r. time r ≤ time row) (take place rows) =
    each_map (λ r. time r ≤ last) (λ r. time r ≤ time row) (λ r p. omega (arith, p, c.if-time-last.false, c.time-time.ensures)) (take place rows) c.loop-row.invariant.below in
    record {
      rise = subst (Rise time) next (rise_push time (take place rows) row c.loop-row.invariant.rise before);
      below = subst (Each (λ r. time r ≤ c.time-time.result)) next
          (each_append (λ r. time r ≤ c.time-time.result) (take place rows) (row ∷ [])
          (each_map (λ r. time r ≤ time row) (λ r. time r ≤ c.time-time.result) (λ r p. omega (arith, p, c.time-time.ensures)) (take place rows) before)
          (omega (arith, c.time-time.ensures), tt));
    }
