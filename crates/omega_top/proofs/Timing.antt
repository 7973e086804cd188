-- What a run by a clock needs of its trace.
use Rattle.std.proofs.Common.{◌≡◌, ◌∙◌, ◌≤◌, ◌<◌, ◌^◌, ℕ, List, [], ◌∷◌, Option, Some, None, Bool, true, false, arith, map, ap, refl, sym}
use Rattle.std.specs.Prelude.{All, unwrap_or, ◌==◌}
use Rattle.std.specs.List.{filter, last_or}
use Rattle.std.proofs.lemmas.List.Elements.{All-head, All-tail, All-same}
use Rattle.omega_feed.proofs.Cutting.{rounds_have}
use Rattle.omega_free.specs.EndsLeft.{left_of}
use Rattle.omega_free.specs.FreeRuns.{reading_of}
use Rattle.omega_free.proofs.FreeSums.{free_sums_fit}
use Rattle.omega_free.proofs.LivesTame.{tame_by}
use Rattle.omega_laws.proofs.OnlyTimes.{simulated_times}
use Rattle.omega_laws.specs.VirtualTime.{Timed}
use Rattle.omega_model.specs.Feed.{feed, rounds, time_of}
use Rattle.omega_model.specs.Fields.{ActivityFields, most_activities}
use Rattle.omega_model.specs.Lawful.{rows_of}
use Rattle.omega_model.specs.Limits.{IsWithinLimits}
use Rattle.omega_model.specs.Ranges.{IsInRange}
use Rattle.omega_model.specs.declared.entries.Entry.{Entry}
use Rattle.omega_model.specs.declared.rows.Round.{Round}
use Rattle.omega_model.specs.declared.rows.TraceTables.{TraceTables}
use Rattle.omega_model.specs.declared.settings.Clock.{Clock}
use Rattle.omega_model.specs.declared.settings.Clock.TheVariants.{Free, Rounds}
use Rattle.omega_model.specs.declared.settings.Settings.{Settings}
use Rattle.omega_rounds.specs.Stages.{Source, WorldState}
use Rattle.omega_sim.proofs.Fitting.{sums_fit}
use Rattle.omega_sim.specs.InBounds.{IsInBounds}
use Rattle.omega_sim.specs.Summing.{SumsFit}
use Rattle.omega_top.specs.Clocks.{IsRunBy}
use Rattle.omega_top.specs.Reports.{AreReadRounds}
use Rattle.omega_top.specs.Runs.{IsOver}

one_few : (job : ℕ) (before : Option ℕ) (row : ActivityFields) (rows : List ActivityFields) (own : Bool) → (row.job == job) ≡ own
    → unwrap_or (last_or (Some row.activities) (map (λ row. row.activities) (filter (λ row. row.job == job) rows))) 0 ≤ most_activities
    → unwrap_or (last_or before (map (λ row. row.activities) (filter (λ row. row.job == job) rows))) 0 ≤ most_activities
    → unwrap_or (last_or before (map (λ row. row.activities) (filter (λ row. row.job == job) (row ∷ rows)))) 0 ≤ most_activities
one_few job before row rows true is own other = rw is own
one_few job before row rows false is own other = rw is other

-- of some rows, or what was known before them, the last of those of a job has no more than most
last_few : (job : ℕ) (before : Option ℕ) (rows : List ActivityFields) → unwrap_or before 0 ≤ most_activities
    → All (λ row. row.activities ≤ most_activities) rows
    → unwrap_or (last_or before (map (λ row. row.activities) (filter (λ row. row.job == job) rows))) 0 ≤ most_activities
last_few job before [] known few = known
last_few job before (row ∷ rows) known few =
    let rest = All-tail (λ row. row.activities ≤ most_activities) row rows few in
    one_few job before row rows (row.job == job) refl
    (last_few job (Some row.activities) rows (All-head (λ row. row.activities ≤ most_activities) row rows few) rest)
    (last_few job before rows known rest)

-- what the limits, the times of the rounds and the rows of activities say of a trace
pub trace_in_bounds : (settings : Settings) (trace : TraceTables) (some : List Round) → IsInRange settings → IsWithinLimits trace
    → some ≡ rounds trace settings.window → All (λ row. time_of row < 2 ^ 64) (rows_of some)
    → All (λ row. row.activities ≤ most_activities) trace.activities → IsInBounds trace
trace_in_bounds settings trace some range within are early few =
    let window = range.window.0 in
    record {
      limits = within;
      times = All-same (λ row. time_of row < 2 ^ 64) (feed trace) (rows_of some)
          (sym (ap rows_of are ∙ rounds_have trace settings.window (omega (arith, window)))) early;
      activities = λ job. last_few job None trace.activities (omega arith) few;
    }

-- what is added up of the times of a run by either clock fits
pub timed_sums_fit : (clock : Clock) (settings : Settings) (trace : TraceTables) → IsInRange settings → IsInBounds trace
    → (history : List Entry) (times : List Timed) → IsRunBy clock settings trace history times → SumsFit history times
timed_sums_fit Rounds settings trace range bounds history times run =
    sums_fit settings trace range bounds history times (simulated_times settings trace history times run)
timed_sums_fit Free settings trace range bounds history times run =
    free_sums_fit settings (reading_of settings trace) range (left_of settings trace) (tame_by settings.ends trace bounds) history times run

-- the rounds of a world whose run is over are those of its trace
pub rounds_of_trace : (settings : Settings) (trace : TraceTables) (world : WorldState)
    → IsWithinLimits trace → All (λ row. row.activities ≤ most_activities) trace.activities → IsOver settings trace world
    → AreReadRounds settings trace world.stage.source.rounds
rounds_of_trace settings trace world within few over = record {
  within = within;
  few = few;
  rounds = ap (λ (from : Source). from.rounds) over.made ∙ ap (λ (some : Settings). rounds trace some.window) over.by;
}
