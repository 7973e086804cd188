use Rattle.std.proofs.Common.{◌++◌, ap, ◌∙◌}
use Rattle.omega_report.specs.Details.{lines_told}
use Rattle.omega_report.specs.JsonOfText.{in_wide_format}
use Rattle.omega_report.specs.Pages.{PageState}
use Rattle.omega_report.specs.Readings.{lines_read}
use Rattle.omega_sim.specs.TimeLines.{lines_of_totals}
use Rattle.omega_report.proofs.page.Page.finish_with.Goals as goal

pub returns : goal.returns
returns c =
    let lines = lines_read c.self.inside.bytes.items in
    let totals = lines_of_totals c.args.totals.now in
    let told = lines_told c.args.details in
    c.of.ensures ∙ c.in_ok-end.ensures (lines ++ totals ++ told) (c.in_ok-push_details.ensures (lines ++ totals) (c.in_ok-push_totals.ensures lines c.self.invariant.form))
    ∙ ap (λ (p : PageState). in_wide_format p.format (p.lines ++ totals ++ told)) c.self.view_is
