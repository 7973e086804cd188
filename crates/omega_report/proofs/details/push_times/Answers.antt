use Rattle.std.proofs.Common.{◌++◌, map, take, sym, ap, ◌∙◌}
use Rattle.std.specs.List.{enumerate_from}
use Rattle.omega_report.specs.Pages.{open_form}
use Rattle.omega_sim.specs.TimeDetails.{commit_time_line}
use Rattle.omega_report.proofs.Numbered.{lined_more, numbered_all, numbered_more}
use Rattle.omega_report.proofs.details.push_times.Goals as goal

pub loop-number-preserved : goal.loop-number-preserved
loop-number-preserved c lines were =
    let times = c.args.times.now in
    let place = c.loop-number.number in
    let before = take place (enumerate_from 0 times) in
    let timed = c.index-times-number.result in
    c.in_ok-push_time.ensures (lines ++ map commit_time_line before) (c.loop-number.invariant lines were)
    ∙ ap (open_form c.args.format)
    (lined_more commit_time_line lines before (place, timed)
    ∙ ap (λ some. lines ++ map commit_time_line some) (sym (numbered_more times place timed c.loop-number-test.true c.index-times-number.is)))

pub returns : goal.returns
returns c lines were =
    c.loop-number.invariant lines were
    ∙ ap (λ some. open_form c.args.format (lines ++ map commit_time_line some)) (numbered_all c.args.times.now c.loop-number.number c.loop-number-test.false)
