use Rattle.std.proofs.Common.{◌≡◌, List, ap, ◌∙◌}
use Rattle.std.specs.Prelude.{length}
use Rattle.omega_feed.specs.Left.{AreLeft}
use Rattle.omega_model.proofs.Answering.{if_ok_weaker}
use Rattle.omega_model.specs.Policy.{schedulers}
use Rattle.omega_model.specs.ReportLines.{lines_where}
use Rattle.omega_model.specs.State.{state}
use Rattle.omega_model.specs.Wanted.{WantedTask}
use Rattle.omega_model.specs.declared.rows.TraceTables.{TraceTables}
use Rattle.omega_report.specs.Begun.{BeginsRoundsOf}
use Rattle.omega_report.specs.Pages.{PageState}
use Rattle.omega_report.proofs.Summed.{length_tallies, lines_said}
use Rattle.omega_report.proofs.reporting.whole_page.Goals as goal

pub summed_up-requires-clause-counted : goal.summed_up-requires-clause-counted
summed_up-requires-clause-counted c =
    ap length c.in_ok-walk.ensures.counted ∙ length_tallies (schedulers c.args.settings.now) c.args.history.now

pub returns : goal.returns
returns c =
    let settings = c.args.settings.now in
    let history = c.args.history.now in
    let left = c.args.left.now in
    if_ok_weaker _
    (λ (page : PageState). (trace : TraceTables) (due : List WantedTask) → BeginsRoundsOf settings trace history → AreLeft due (state history) left
    → (page.format ≡ settings.format) × (page.lines ≡ lines_where settings trace due history))
    c.summed_up.result
    (λ page says trace due begun waits.
    let whole = says trace due _ _ begun waits c.in_ok-walk.ensures in (
      whole.0 ∙ c.in_ok-first.ensures.format ∙ c.new-page.ensures.format,
      lines_said settings trace due history c.new-page.result.lines c.first.new.self.lines page.lines c.new-page.ensures.lines c.in_ok-first.ensures.lines whole.1,
    ))
    c.summed_up.ensures
