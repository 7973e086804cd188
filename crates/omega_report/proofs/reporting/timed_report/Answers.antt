use Rattle.std.proofs.Common.{◌≡◌, ◌++◌, ℕ, List, ap₂, ◌∙◌}
use Rattle.omega_feed.specs.Left.{AreLeft}
use Rattle.omega_model.proofs.Answering.{if_ok_weaker}
use Rattle.omega_model.specs.Report.{Line}
use Rattle.omega_model.specs.ReportLines.{lines_where}
use Rattle.omega_model.specs.State.{state}
use Rattle.omega_model.specs.Wanted.{WantedTask}
use Rattle.omega_model.specs.declared.rows.TraceTables.{TraceTables}
use Rattle.omega_model.specs.declared.settings.Format.{Format}
use Rattle.omega_report.specs.Begun.{BeginsRoundsOf}
use Rattle.omega_report.specs.Details.{lines_told}
use Rattle.omega_report.specs.JsonOfText.{in_wide_format}
use Rattle.omega_sim.specs.TimeLines.{lines_of_totals}
use Rattle.omega_report.proofs.reporting.timed_report.Goals as goal

pub returns : goal.returns
returns c =
    let settings = c.args.settings.now in
    let history = c.args.history.now in
    let page = c.in_ok-whole_page.field-0 in
    let totals = lines_of_totals c.args.totals.now in
    let told = lines_told c.args.details in
    if_ok_weaker (λ (bytes : List ℕ). bytes ≡ in_wide_format page.format (page.lines ++ totals ++ told))
    (λ (bytes : List ℕ). (trace : TraceTables) (due : List WantedTask) → BeginsRoundsOf settings trace history → AreLeft due (state history) c.args.left.now
    → bytes ≡ in_wide_format settings.format (lines_where settings trace due history ++ totals ++ told))
    c.finish_with.result
    (λ bytes is trace due begun waits.
    let whole = c.in_ok-whole_page.ensures trace due begun waits in
    is ∙ ap₂ (λ (format : Format) (lines : List Line). in_wide_format format (lines ++ totals ++ told)) whole.0 whole.1)
    c.finish_with.ensures
