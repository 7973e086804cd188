-- What the top call answers of a run by the free clock.
use Rattle.std.specs.Prelude.{◌≡◌, ℕ, List, Option}
use Rattle.omega_free.specs.FreeRuns.{reading_of}
use Rattle.omega_free_laws.specs.Free.{FreeRun}
use Rattle.omega_free_laws.specs.LawsOfRuns.{HoldsByLives, HoldsByRows, HoldsOfFreeRuns}
use Rattle.omega_laws.specs.VirtualTime.{Timed}
use Rattle.omega_model.specs.Limits.{IsWithinLimits}
use Rattle.omega_model.specs.declared.entries.Entry.{Entry}
use Rattle.omega_model.specs.declared.results.Status.{Status}
use Rattle.omega_model.specs.declared.rows.TraceTables.{TraceTables}
use Rattle.omega_model.specs.declared.settings.Ends.TheVariants.{Own, Trace}
use Rattle.omega_model.specs.declared.settings.Settings.{Settings}
use Rattle.omega_top.specs.Answers.{IfReported, IsWritten}
use Rattle.omega_top.specs.Clocks.{IsFree}

-- a history has some times with which it is that of the run of a trace by the free clock, and no other history is, nor
-- are other times
pub record IsOnlyFree (settings : Settings) (trace : TraceTables) (history : List Entry) : Type 0 where
  pub times : List Timed
  pub free : FreeRun settings (reading_of settings trace) history times
  pub only : (other : List Entry) (other_times : List Timed) → FreeRun settings (reading_of settings trace) other other_times
      → (other ≡ history) × (other_times ≡ times)

-- a history has some times with which it is that of the run of a trace by the free clock, and all holds of them that holds
-- of such runs
pub record KeepsFreeLaws (settings : Settings) (trace : TraceTables) (history : List Entry) : Type 0 where
  pub times : List Timed
  pub free : FreeRun settings (reading_of settings trace) history times
  -- however tasks end: the replies are those that were due, no state is overcommitted, no gang is split, as many rounds begin
  -- as the trace has, each commit had seen its scheduler's last one and is what was still wanted of a plan on what was seen,
  -- and the times are those of the commits
  pub always : HoldsOfFreeRuns settings (reading_of settings trace) history times
  -- where the trace's rows end tasks: the trace's rounds stand in order, the entries of each in one stretch, with commits
  -- alone between them, and the times never fall
  pub by_rows : settings.ends ≡ Trace → HoldsByRows settings trace history times
  -- where tasks end when they have run for as long as they did in the trace: so do the entries of the rows that end no task,
  -- with commits and ends between them, and the times never fall; the end of a task of the trace comes as long after the
  -- commit that placed the task as its piece lived, on the machine on which it ran ever since; no piece ends twice; and no
  -- end was passed over that was due
  pub by_lives : settings.ends ≡ Own → HoldsByLives settings trace history times

-- the history of a run that reached its report is that of the run of the trace by the free clock
abbrev pub IsFreeRun : Settings → TraceTables → List Entry → Status → Type 0
IsFreeRun settings trace history status = IfReported (IsFree settings trace history) status

-- the history of a run that reached its report is the only one
abbrev pub IsOnlyFreeRun : Settings → TraceTables → List Entry → Status → Type 0
IsOnlyFreeRun settings trace history status = IfReported (IsOnlyFree settings trace history) status

-- of the history of a run that reached its report all holds that holds of runs by the free clock
abbrev pub HasFreeLaws : Settings → TraceTables → List Entry → Status → Type 0
HasFreeLaws settings trace history status = IfReported (KeepsFreeLaws settings trace history) status

-- whatever the tables tell, there is a trace within the limits of which the history of a run that reached its report is
-- the one by the free clock, with all that holds of such, and of which that report, or a part of it from the front, is written
pub record IsSomeFreeRun (settings : Settings) (history : List Entry) (status : Status) (before now : Option (List ℕ)) : Type 0 where
  pub trace : TraceTables
  pub within : IsWithinLimits trace
  pub laws : HasFreeLaws settings trace history status
  pub written : IsWritten settings trace history status before now
