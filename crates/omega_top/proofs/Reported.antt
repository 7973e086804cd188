-- The report of what is held of a run.
use Rattle.std.proofs.Common.{◌≡◌, ◌∙◌, ◌++◌, ℕ, List, Bool, true, false, Option, Some, None, refl, ap, ap₂, subst}
use Rattle.omega_laws.specs.VirtualTime.{Timed}
use Rattle.omega_model.specs.ReportForms.{in_format, printed_report}
use Rattle.omega_model.specs.ReportLines.{lines_where}
use Rattle.omega_model.specs.Report.{Line}
use Rattle.omega_model.specs.Wanted.{WantedTask}
use Rattle.omega_model.specs.declared.entries.Entry.{Entry}
use Rattle.omega_model.specs.declared.rows.TraceTables.{TraceTables}
use Rattle.omega_model.specs.declared.settings.Command.{Command}
use Rattle.omega_model.specs.declared.settings.Command.TheVariants.{Audit, Generate, Replay, Resume, Run, Simulate}
use Rattle.omega_model.specs.declared.settings.Settings.{Settings}
use Rattle.omega_report.specs.JsonOfText.{in_wide_format}
use Rattle.omega_sim.proofs.OneByOne.{totals_said}
use Rattle.omega_sim.specs.TimeLines.{lines_of_totals}
use Rattle.omega_top.specs.Clocks.{wanted_at_end}
use Rattle.omega_top.specs.Reports.{IsReport, IsToldBy, ReportedBy, details_if, lines_of_told, told_if}
use Rattle.omega_top.specs.declared.told.ToldTimes.{ToldTimes}
use Rattle.omega_top.proofs.Clocks.{wanted_by_rounds}
use Rattle.omega_top.proofs.TellingTimes.{untold_not_free}

module _ (settings : Settings) (trace : TraceTables) (history : List Entry) where
  plain_by : (command : Command) (report : List ℕ) → IsToldBy command settings trace history None
      → report ≡ printed_report settings trace history → ReportedBy command settings trace history report
  plain_by Replay report none is = is
  plain_by Run report none is = is
  plain_by Generate report none is = is
  plain_by Resume report none is = is
  plain_by Audit report none is = is
  plain_by Simulate report none is = absurd none

  -- without times it is that of a history
  pub reported_plain : (told : Option ToldTimes) (report : List ℕ) → IsToldBy settings.command settings trace history told → told ≡ None
      → report ≡ in_format settings.format (lines_where settings trace (wanted_at_end settings trace history) history)
      → IsReport settings trace history report
  reported_plain told report by none is =
      let nothing = subst (IsToldBy settings.command settings trace history) none by in
      plain_by settings.command report nothing
      (is ∙ ap (λ (tasks : List WantedTask). in_format settings.format (lines_where settings trace tasks history))
      (wanted_by_rounds settings trace history (untold_not_free settings trace history settings.command settings.clock nothing)))

  details_said : (asked : Bool) (times : List Timed) → lines_of_told (told_if asked trace history times) ≡ details_if asked trace history times
  details_said true times = refl
  details_said false times = refl

  timed_by : (command : Command) (told : ToldTimes) (report : List ℕ) → IsToldBy command settings trace history (Some told)
      → report ≡ in_wide_format settings.format
      (lines_where settings trace (wanted_at_end settings trace history) history ++ lines_of_totals told.totals ++ lines_of_told told.details)
      → ReportedBy command settings trace history report
  timed_by Simulate told report by is = record {
    times = by.times;
    timed = by.timed;
    bytes = is ∙ ap₂ (λ (totals details : List Line). in_wide_format settings.format
        (lines_where settings trace (wanted_at_end settings trace history) history ++ totals ++ details))
        (ap lines_of_totals by.totals ∙ totals_said settings trace history by.times)
        (ap lines_of_told by.details ∙ details_said settings.times by.times);
  }
  timed_by Replay told report by is = absurd (cc)
  timed_by Run told report by is = absurd (cc)
  timed_by Generate told report by is = absurd (cc)
  timed_by Resume told report by is = absurd (cc)
  timed_by Audit told report by is = absurd (cc)

  -- with times it has their lines too
  pub reported_timed : (told : Option ToldTimes) (some : ToldTimes) (report : List ℕ)
      → IsToldBy settings.command settings trace history told → told ≡ Some some
      → report ≡ in_wide_format settings.format
      (lines_where settings trace (wanted_at_end settings trace history) history ++ lines_of_totals some.totals ++ lines_of_told some.details)
      → IsReport settings trace history report
  reported_timed told some report by is same =
      timed_by settings.command some report (subst (IsToldBy settings.command settings trace history) is by) same
