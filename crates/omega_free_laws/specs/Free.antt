-- The run by the free clock: its history, and the times of its commits.
use Rattle.std.specs.Prelude.{◌≡◌, ℕ, zero, suc, List, None, unwrap_or}
use Rattle.omega_model.specs.declared.entries.Entry.{Entry}
use Rattle.omega_model.specs.declared.rows.TraceTables.{TraceTables}
use Rattle.omega_model.specs.declared.settings.Settings.{Settings}
use Rattle.omega_laws.specs.VirtualTime.{Timed}
use Rattle.omega_free_laws.specs.FreeSteps.{Moment, beginning, next}
use Rattle.omega_free_laws.specs.Readings.{Reading, by_lives, by_rows}

-- the moment after so many steps; once it is over, it stays as it is
abbrev pub after : Settings → Reading → ℕ → Moment
after settings reading zero = beginning settings reading
after settings reading (suc steps) = unwrap_or (next settings reading (after settings reading steps)) (after settings reading steps)

-- it is over: nothing happens next
abbrev pub IsOver : Settings → Reading → Moment → Type 0
IsOver settings reading moment = next settings reading moment ≡ None

-- this history, with these times of its commits, is that of the run by the free clock, where the trace is read so: after
-- some steps it is over, and then they stand there
pub record FreeRun (settings : Settings) (reading : Reading) (history : List Entry) (times : List Timed) : Type 0 where
  pub steps : ℕ
  pub over : IsOver settings reading (after settings reading steps)
  pub is_history : history ≡ (after settings reading steps).past.history
  pub is_times : times ≡ (after settings reading steps).times

-- the run in which tasks end where the trace's rows end them
abbrev pub Free : Settings → TraceTables → List Entry → List Timed → Type 0
Free settings trace history times = FreeRun settings (by_rows trace) history times

-- the run in which tasks end when they have run for their lives
abbrev pub FreeByLives : Settings → TraceTables → List Entry → List Timed → Type 0
FreeByLives settings trace history times = FreeRun settings (by_lives trace) history times
