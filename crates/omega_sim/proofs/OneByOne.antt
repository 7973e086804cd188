-- What the times of the schedulers add up to, and their lines, one after the other.
use Rattle.std.proofs.Common.{◌≡◌, ℕ, ◌+◌, ◌-◌, ◌<◌, List, [], ◌∷◌, ◌++◌, length, map, refl, sym, ap, ap₂, ◌∙◌}
use Rattle.std.specs.Prelude.{unwrap_or}
use Rattle.std.specs.List.{flat_map, fold, range_with_len}
use Rattle.std.proofs.lemmas.Grind.{flat_map-append}
use Rattle.std.proofs.lemmas.List.Folds.{flat_map-map}
use Rattle.omega_feed.proofs.Cutting.{rounds_have}
use Rattle.omega_laws.specs.Simulated.{until_after}
use Rattle.omega_laws.specs.TimeReport.{busy, committed_jobs, span, waited}
use Rattle.omega_laws.specs.VirtualTime.{Timed}
use Rattle.omega_model.specs.Feed.{rounds}
use Rattle.omega_model.specs.Policy.{schedulers}
use Rattle.omega_model.specs.Report.{line_text}
use Rattle.omega_model.specs.ReportForms.{text_of}
use Rattle.omega_model.specs.declared.entries.Entry.{Entry}
use Rattle.omega_model.specs.declared.rows.Round.{Round}
use Rattle.omega_model.specs.declared.rows.TraceTables.{TraceTables}
use Rattle.omega_model.specs.declared.settings.Settings.{Settings}
use Rattle.omega_sim.specs.Arriving.{AreArrivalsOf, row_times, first_time, span_from}
use Rattle.omega_sim.specs.Summing.{AreFirstSyncs, waited_between, waited_in_all}
use Rattle.omega_sim.specs.TimeLines.{lines_by, lines_of_time, lines_of_totals, text_of_totals, totals_of, totals_of_one}
use Rattle.omega_sim.specs.declared.arrivals.Arrivals.{Arrivals}
use Rattle.omega_sim.specs.declared.firsts.FirstTimes.{FirstTimes}
use Rattle.omega_sim.specs.declared.totals.TimeTotals.{TimeTotals}

-- what the times of a scheduler add up to, by what is held
abbrev pub totals_by : FirstTimes → FirstTimes → ℕ → List Entry → List Timed → ℕ → TimeTotals
totals_by came synced whole history times scheduler = record {
  scheduler = scheduler;
  busy = busy scheduler times;
  span = whole;
  jobs = length (committed_jobs scheduler history times);
  wait = waited_in_all came synced (committed_jobs scheduler history times);
}

-- sums of equal items are equal
sums_same : (one other : ℕ → ℕ) → ((job : ℕ) → one job ≡ other job) → (total : ℕ) (jobs : List ℕ)
    → fold (λ sum job. sum + one job) total jobs ≡ fold (λ sum job. sum + other job) total jobs
sums_same one other same total [] = refl
sums_same one other same total (job ∷ jobs) =
    ap (λ (start : ℕ). fold (λ sum j. sum + one j) start jobs) (ap (λ (more : ℕ). total + more) (same job))
    ∙ sums_same one other same (total + other job) jobs

-- the time of all is that of the rounds
spans : (some : List Round) (times : List Timed) → span_from (row_times some) (until_after 0 times) ≡ span some times
spans [] times = refl
spans (first ∷ rest) times = refl

module _ (settings : Settings) (trace : TraceTables) (arrivals : Arrivals) (synced : FirstTimes) (history : List Entry) (times : List Timed)
    (window : 0 < settings.window) (arrive : AreArrivalsOf settings trace arrivals) (syncs : AreFirstSyncs history times synced) where
  waits : (job : ℕ) → waited_between arrivals.first_times synced job ≡ waited trace history times job
  waits job =
      ap₂ (λ (until from : ℕ). until - from)
      (ap (λ o. unwrap_or o 0) (syncs job))
      (ap (λ o. unwrap_or o 0) (arrive.came job ∙ ap (first_time job) (rounds_have trace settings.window window)))

  abbrev with_times : ℕ → ℕ → ℕ → TimeTotals
  with_times scheduler whole waits = record {
    scheduler = scheduler;
    busy = busy scheduler times;
    span = whole;
    jobs = length (committed_jobs scheduler history times);
    wait = waits;
  }

  -- what is held adds up to the same for each scheduler
  totals_same : (whole : ℕ) → whole ≡ span_from arrivals.row_times (until_after 0 times) → (scheduler : ℕ)
      → totals_by arrivals.first_times synced whole history times scheduler ≡ totals_of_one settings trace history times scheduler
  totals_same whole is scheduler =
      ap₂ (with_times scheduler)
      (is ∙ ap (λ b. span_from b (until_after 0 times)) arrive.timed ∙ spans (rounds trace settings.window) times)
      (sums_same (waited_between arrivals.first_times synced) (waited trace history times) waits 0 (committed_jobs scheduler history times))

  pub all_totals : (whole : ℕ) → whole ≡ span_from arrivals.row_times (until_after 0 times) → (schedulers : List ℕ)
      → map (totals_by arrivals.first_times synced whole history times) schedulers ≡ map (totals_of_one settings trace history times) schedulers
  all_totals whole is schedulers = ap (λ (f : ℕ → TimeTotals). map f schedulers) (λ i scheduler. totals_same whole is scheduler i)

-- the texts of some schedulers are the text of their lines
all_text : (totals : List TimeTotals) → flat_map text_of_totals totals ≡ text_of (lines_of_totals totals)
all_text [] = refl
all_text (first ∷ rest) =
    ap (λ (more : List ℕ). text_of_totals first ++ more) (all_text rest)
    ∙ sym (flat_map-append line_text (lines_by first) (lines_of_totals rest))

-- the lines of what all schedulers' times add up to are those of time
pub totals_said : (settings : Settings) (trace : TraceTables) (history : List Entry) (times : List Timed)
    → lines_of_totals (totals_of settings trace history times) ≡ lines_of_time settings trace history times
totals_said settings trace history times =
    flat_map-map lines_by (totals_of_one settings trace history times) (range_with_len 0 (schedulers settings))

pub text_said : (settings : Settings) (trace : TraceTables) (history : List Entry) (times : List Timed) (totals : List TimeTotals)
    → totals ≡ totals_of settings trace history times → flat_map text_of_totals totals ≡ text_of (lines_of_time settings trace history times)
text_said settings trace history times totals are =
    all_text totals ∙ ap (λ (some : List TimeTotals). text_of (lines_of_totals some)) are ∙ ap text_of (totals_said settings trace history times)
