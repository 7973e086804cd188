-- All that holds of every run by the free clock.
use Rattle.std.specs.Prelude.{◌≡◌, ℕ, List, [], count_by, length, take}
use Rattle.omega_model.specs.Feed.{rounds}
use Rattle.omega_model.specs.Lawful.{begins_round}
use Rattle.omega_model.specs.Legal.{Legal, Sound}
use Rattle.omega_model.specs.State.{state}
use Rattle.omega_model.specs.Touches.{is_commit}
use Rattle.omega_model.specs.declared.entries.Entry.{Entry}
use Rattle.omega_model.specs.declared.rows.TraceTables.{TraceTables}
use Rattle.omega_model.specs.declared.settings.Settings.{Settings}
use Rattle.omega_cell.specs.Laws.{EvictionsGoDown, NoGangIsSplit}
use Rattle.omega_laws.specs.VirtualTime.{Timed}
use Rattle.omega_free_laws.specs.FreeLaws.{AreTimesOf, EachSeesItsOwn, EachDecided, RoundsInStretches, TimesRise, is_commit_or_end}
use Rattle.omega_free_laws.specs.LivesLaws.{EachEndRuns, EachEndsInTime, EndsOnce, NothingWasDue}
use Rattle.omega_free_laws.specs.Readings.{Reading, by_lives, by_rows}

-- however a trace is read: the history is legal, its state is sound after each entry, no gang is split and evictions go
-- down; it begins as many rounds as the trace has; each commit had seen its scheduler's last one; the times are those of the
-- commits; and each commit is what was still wanted of a plan on what was seen, on machines that met the constraints there,
-- a decision after its sync
pub record HoldsOfFreeRuns (settings : Settings) (reading : Reading) (history : List Entry) (times : List Timed) : Type 0 where
  pub legal : Legal history
  pub sound : (n : ℕ) → Sound (state (take n history))
  pub gangs : NoGangIsSplit history
  pub evictions : EvictionsGoDown history
  pub counted : count_by begins_round history ≡ length (rounds reading.trace settings.window)
  pub seen : EachSeesItsOwn history
  pub times_are : AreTimesOf history times
  pub decided : EachDecided settings reading.trace history times

-- where tasks end by the trace's rows: the entries of each round stand in one stretch, in order, with commits alone
-- between them, and the times never fall
pub record HoldsByRows (settings : Settings) (trace : TraceTables) (history : List Entry) (times : List Timed) : Type 0 where
  pub stretches : RoundsInStretches is_commit (by_rows trace) [] [] (rounds trace settings.window) history
  pub rise : TimesRise times

-- where they end when they have run for their lives: so do the entries of those rows that end no task, with commits and
-- ends between them, and the times never fall; each end is that of a task that runs on its machine; that of a task of the
-- trace comes when the task has run there for the life of its piece, and is the only one of that piece; and when all is over
-- no end was due
pub record HoldsByLives (settings : Settings) (trace : TraceTables) (history : List Entry) (times : List Timed) : Type 0 where
  pub stretches : RoundsInStretches is_commit_or_end (by_lives trace) [] [] (rounds trace settings.window) history
  pub rise : TimesRise times
  pub runs : EachEndRuns history
  pub in_time : EachEndsInTime trace history times
  pub once : EndsOnce history
  pub nothing_due : NothingWasDue settings trace history times
