use Rattle.std.proofs.Common.{ap, ◌∙◌}
use Rattle.omega_model.specs.ReportForms.{in_format}
use Rattle.omega_report.specs.Pages.{PageState}
use Rattle.omega_report.specs.Readings.{lines_read}
use Rattle.omega_report.proofs.ShortWords.{wide_same}
use Rattle.omega_report.proofs.page.Page.finish.Goals as goal

pub returns : goal.returns
returns c =
    let format = c.self.inside.format in
    let lines = lines_read c.self.inside.bytes.items in
    let page = c.self.invariant in
    c.of.ensures ∙ c.in_ok-end.ensures lines page.form ∙ wide_same format lines page.plain page.short
    ∙ ap (λ (p : PageState). in_format p.format p.lines) c.self.view_is
