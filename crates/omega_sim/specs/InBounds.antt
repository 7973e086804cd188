-- What the rows of a trace keep by their types, and its limits.
use Rattle.std.specs.Prelude.{ℕ, ◌<◌, ◌≤◌, ◌^◌, All, unwrap_or}
use Rattle.omega_model.specs.ExtraTasks.{activities_of}
use Rattle.omega_model.specs.Feed.{feed, time_of}
use Rattle.omega_model.specs.Fields.{most_activities}
use Rattle.omega_model.specs.Limits.{IsWithinLimits}
use Rattle.omega_model.specs.declared.rows.TraceTables.{TraceTables}

-- a trace is within the limits, its times have 64 bits, and no job has too many activities
pub record IsInBounds (trace : TraceTables) : Type 0 where
  pub limits : IsWithinLimits trace
  pub times : All (λ row. time_of row < 2 ^ 64) (feed trace)
  pub activities : (job : ℕ) → unwrap_or (activities_of trace job) 0 ≤ most_activities
