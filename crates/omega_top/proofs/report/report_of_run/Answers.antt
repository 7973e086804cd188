use Rattle.std.proofs.Common.{◌≡◌, ◌∙◌, ◌++◌, ℕ, List, ap₂, subst}
use Rattle.omega_feed.specs.Left.{AreLeft}
use Rattle.omega_model.proofs.Answering.{if_ok_weaker}
use Rattle.omega_model.specs.Report.{Line}
use Rattle.omega_model.specs.ReportForms.{in_format}
use Rattle.omega_model.specs.ReportLines.{lines_where}
use Rattle.omega_model.specs.State.{state}
use Rattle.omega_model.specs.Wanted.{WantedTask}
use Rattle.omega_model.specs.declared.entries.Entry.{Entry}
use Rattle.omega_model.specs.declared.rows.TraceTables.{TraceTables}
use Rattle.omega_report.specs.Begun.{BeginsRoundsOf}
use Rattle.omega_report.specs.Details.{lines_told}
use Rattle.omega_report.specs.JsonOfText.{in_wide_format}
use Rattle.omega_sim.specs.TimeLines.{lines_of_totals}
use Rattle.omega_sim.specs.declared.totals.TimeTotals.{TimeTotals}
use Rattle.omega_top.specs.Clocks.{wanted_at_end}
use Rattle.omega_top.specs.Reports.{IsReport}
use Rattle.omega_top.specs.Runs.{IsRunOf}
use Rattle.omega_top.proofs.Reported.{reported_plain, reported_timed}
use Rattle.omega_top.proofs.report.report_of_run.Goals as goal

pub returns-in-None : goal.returns-in-None
returns-in-None c =
    let settings = c.args.settings.now in
    let run = c.args.run.now in
    if_ok_weaker (λ (bytes : List ℕ). (trace : TraceTables) (tasks : List WantedTask) → BeginsRoundsOf settings trace c.as_slice-history.result.now
    → AreLeft tasks (state c.as_slice-history.result.now) run.left
    → bytes ≡ in_format settings.format (lines_where settings trace tasks c.as_slice-history.result.now))
    (λ (bytes : List ℕ). (trace : TraceTables) → IsRunOf settings trace run → IsReport settings trace run.history bytes) c.report.result
    (λ bytes says trace of.
    let tasks : List WantedTask = wanted_at_end settings trace run.history in
    reported_plain settings trace run.history run.told bytes of.told c.in-None.is
    (subst (λ (history : List Entry). BeginsRoundsOf settings trace history → AreLeft tasks (state history) run.left
    → bytes ≡ in_format settings.format (lines_where settings trace tasks history))
    c.as_slice-history.ensures (says trace tasks) of.begins of.left))
    c.report.ensures

pub returns-in-Some : goal.returns-in-Some
returns-in-Some c =
    let settings = c.args.settings.now in
    let run = c.args.run.now in
    let totals = c.as_slice-totals.result.now in
    let details = c.lend_details-details.result in
    if_ok_weaker (λ (bytes : List ℕ). (trace : TraceTables) (tasks : List WantedTask) → BeginsRoundsOf settings trace c.as_slice-history.result.now
    → AreLeft tasks (state c.as_slice-history.result.now) run.left
    → bytes ≡ in_wide_format settings.format (lines_where settings trace tasks c.as_slice-history.result.now ++ lines_of_totals totals ++ lines_told details))
    (λ (bytes : List ℕ). (trace : TraceTables) → IsRunOf settings trace run → IsReport settings trace run.history bytes) c.timed_report.result
    (λ bytes says trace of.
    let tasks : List WantedTask = wanted_at_end settings trace run.history in
    reported_timed settings trace run.history run.told _ bytes of.told c.in-Some.is
    (subst (λ (history : List Entry). BeginsRoundsOf settings trace history → AreLeft tasks (state history) run.left
    → bytes ≡ in_wide_format settings.format (lines_where settings trace tasks history ++ lines_of_totals totals ++ lines_told details))
    c.as_slice-history.ensures (says trace tasks) of.begins of.left
    ∙ ap₂ (λ (some : List TimeTotals) (lines : List Line). in_wide_format settings.format (lines_where settings trace tasks run.history ++ lines_of_totals some ++ lines))
    c.as_slice-totals.ensures c.lend_details-details.ensures))
    c.timed_report.ensures
