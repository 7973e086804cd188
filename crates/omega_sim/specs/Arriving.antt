-- What the lines of time need of a trace.
use Rattle.std.specs.Prelude.{◌≡◌, ℕ, List, [], ◌∷◌, ◌-◌, Option, Some, None, option_map, max}
use Rattle.std.specs.List.{find, fold}
use Rattle.omega_model.specs.Feed.{rounds, time_of}
use Rattle.omega_model.specs.Lawful.{rows_of}
use Rattle.omega_model.specs.Requests.{job_of_row}
use Rattle.omega_model.specs.declared.rows.Row.{Row}
use Rattle.omega_model.specs.declared.rows.Round.{Round}
use Rattle.omega_model.specs.declared.rows.TraceTables.{TraceTables}
use Rattle.omega_model.specs.declared.settings.Settings.{Settings}
use Rattle.omega_sim.specs.Firsts.{time_at}
use Rattle.omega_laws.specs.Simulated.{greatest_time}
use Rattle.omega_laws.specs.TimeReport.{is_job}
use Rattle.omega_sim.specs.declared.arrivals.Arrivals.{Arrivals}
use Rattle.omega_sim.specs.declared.firsts.FirstTimes.{FirstTimes}

-- when the first task row of a job comes among these, if there is one
abbrev pub first_time : ℕ → List Row → Option ℕ
first_time job rows = option_map time_of (find (λ row. is_job job (job_of_row row)) rows)

-- these are the first times of the jobs of some rows
abbrev pub Arrive : List Row → FirstTimes → Type 0
Arrive rows times = (job : ℕ) → time_at times job ≡ first_time job rows

-- the greatest time of the first round's rows, and that of the last one's, if there is a round
abbrev pub row_times : List Round → Option (ℕ × ℕ)
row_times [] = None
row_times (first ∷ rest) = Some (greatest_time first.rows, greatest_time (fold (λ (last round : Round). round) first rest).rows)

-- the greatest times of the rows of the first and the last round, with that of one more at the end
abbrev pub with_row_time : Option (ℕ × ℕ) → ℕ → Option (ℕ × ℕ)
with_row_time None time = Some (time, time)
with_row_time (Some (first, last)) time = Some (first, time)

-- what is held is when each job of these rounds comes first, and the greatest times of the first and the last
-- round's rows
pub record AreArrivals (some : List Round) (arrivals : Arrivals) : Type 0 where
  pub came : Arrive (rows_of some) arrivals.first_times
  pub timed : arrivals.row_times ≡ row_times some

-- it is what is held for the rounds of a trace under these settings
abbrev pub AreArrivalsOf : Settings → TraceTables → Arrivals → Type 0
AreArrivalsOf settings trace arrivals = AreArrivals (rounds trace settings.window) arrivals

-- from the first round's time to the last round's, or to the last commit, if that is later
abbrev pub span_from : Option (ℕ × ℕ) → ℕ → ℕ
span_from None until = 0
span_from (Some (first, last)) until = max last until - first
