use Rattle.std.proofs.Common.{◌++◌, List, take, sym, ap, ◌∙◌}
use Rattle.std.proofs.lemmas.List.{flat_map_more, take_all, take_more}
use Rattle.omega_report.specs.Pages.{open_form}
use Rattle.omega_sim.specs.TimeLines.{lines_by, lines_of_totals}
use Rattle.omega_sim.specs.declared.totals.TimeTotals.{TimeTotals}
use Rattle.omega_report.proofs.items.push_totals.Goals as goal

pub loop-of_one-preserved : goal.loop-of_one-preserved
loop-of_one-preserved c lines were =
    let totals = c.args.totals.now in
    let place = c.loop-of_one.of_one-index in
    c.in_ok-push_both.ensures (lines ++ lines_of_totals (take place totals)) (c.loop-of_one.invariant lines were)
    ∙ ap (open_form c.args.format)
    (flat_map_more lines_by lines (take place totals) _
    ∙ ap (λ (some : List TimeTotals). lines ++ lines_of_totals some) (sym (take_more totals place _ c.loop-of_one-test.true)))

pub returns : goal.returns
returns c lines were =
    c.loop-of_one.invariant lines were
    ∙ ap (λ (some : List TimeTotals). open_form c.args.format (lines ++ lines_of_totals some)) (take_all c.loop-of_one.of_one-index c.args.totals.now c.loop-of_one-test.false)
