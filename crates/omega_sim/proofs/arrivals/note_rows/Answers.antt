use Rattle.std.proofs.Common.{◌≡◌, ◌+◌, ◌<◌, ◌^◌, ◌++◌, ◌∷◌, [], List, take, sym, ap, ◌∙◌, subst, append_assoc}
use Rattle.std.specs.Prelude.{All}
use Rattle.std.proofs.lemmas.List.{take_more}
use Rattle.std.proofs.lemmas.List.Elements.{All-push}
use Rattle.omega_model.specs.Feed.{time_of}
use Rattle.omega_model.specs.declared.rows.Row.{Row}
use Rattle.omega_sim.specs.Arriving.{Arrive}
use Rattle.omega_sim.proofs.arrivals.note_rows.Goals as goal

pub loop-row-preserved : goal.loop-row-preserved
loop-row-preserved c =
    let rows = c.args.rows.now in
    let place = c.loop-row.row-index in
    let row = c.row-item.result in
    let next : take place rows ++ row ∷ [] ≡ take (place + 1) rows =
    ap (λ (r : Row). take place rows ++ r ∷ []) c.row-item.is ∙ sym (take_more rows place row c.loop-row-test.true) in
    record {
      arrive = λ before known.
          subst (λ (rs : List Row). Arrive rs c.note_row.new.first_times)
          (append_assoc before (take place rows) (row ∷ []) ∙ ap (λ (rs : List Row). before ++ rs) next)
          (c.in_ok-note_row.ensures.arrive (before ++ take place rows) (c.loop-row.invariant.arrive before known));
      early = subst (All (λ row. time_of row < 2 ^ 64)) next
          (All-push (λ row. time_of row < 2 ^ 64) (take place rows) row c.loop-row.invariant.early c.in_ok-note_row.ensures.early);
    }
