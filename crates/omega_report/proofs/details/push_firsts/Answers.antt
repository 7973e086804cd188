use Rattle.std.proofs.Common.{◌++◌, List, map, take, sym, ap, ◌∙◌}
use Rattle.std.proofs.lemmas.List.{take_all, take_more}
use Rattle.omega_report.specs.Pages.{open_form}
use Rattle.omega_sim.specs.TimeDetails.{first_commit_line}
use Rattle.omega_sim.specs.declared.details.FirstCommit.{FirstCommit}
use Rattle.omega_report.proofs.Numbered.{lined_more}
use Rattle.omega_report.proofs.details.push_firsts.Goals as goal

pub loop-first-preserved : goal.loop-first-preserved
loop-first-preserved c lines were =
    let firsts = c.args.firsts.now in
    let place = c.loop-first.first-index in
    c.in_ok-push_first.ensures (lines ++ map first_commit_line (take place firsts)) (c.loop-first.invariant lines were)
    ∙ ap (open_form c.args.format)
    (lined_more first_commit_line lines (take place firsts) _
    ∙ ap (λ (some : List FirstCommit). lines ++ map first_commit_line some) (sym (take_more firsts place _ c.loop-first-test.true)))

pub returns : goal.returns
returns c lines were =
    c.loop-first.invariant lines were
    ∙ ap (λ (some : List FirstCommit). open_form c.args.format (lines ++ map first_commit_line some)) (take_all c.loop-first.first-index c.args.firsts.now c.loop-first-test.false)
