-- How many steps a run by the free clock has left at most.
use Rattle.std.specs.Prelude.{◌≡◌, ◌≤◌, ◌<◌, ◌++◌, Some, ℕ, List, [], ◌∷◌, ◌+◌, ◌*◌, ◌-◌, length}
use Rattle.omega_model.specs.Feed.{feed, rounds}
use Rattle.omega_model.specs.Policy.{schedulers}
use Rattle.omega_model.specs.Requests.{jobs_in_order}
use Rattle.omega_model.specs.Work.{Standing}
use Rattle.omega_model.specs.declared.entries.Entry.{Entry}
use Rattle.omega_model.specs.declared.settings.Settings.{Settings}
use Rattle.omega_laws.specs.VirtualTime.{Timed}
use Rattle.omega_free_laws.specs.FreeSteps.{Moment, ended_alone}
use Rattle.omega_free_laws.specs.Lives.{DueEnd}
use Rattle.omega_free_laws.specs.Passes.{Scheduler}
use Rattle.omega_free_laws.specs.Readings.{Reading}

-- the attempts that these requests may still have
abbrev pub attempts_left : Settings → Standing → ℕ
attempts_left settings standing = length standing.requests * settings.tries - standing.taken

-- the attempts that one pass may have
abbrev pub attempts_of_pass : Settings → Reading → ℕ
attempts_of_pass settings reading = length (jobs_in_order (feed reading.trace)) * settings.tries

-- the attempts that a scheduler may still have: those of its pass, and those of one pass for each time that there will have
-- been cause for one, of so many in all, since its own began
abbrev pub attempts_of : Settings → Reading → ℕ → Scheduler → ℕ
attempts_of settings reading all scheduler =
    attempts_left settings scheduler.left + (all - scheduler.begun) * attempts_of_pass settings reading

-- those of all schedulers
abbrev pub attempts_of_all : Settings → Reading → ℕ → List Scheduler → ℕ
attempts_of_all settings reading all [] = 0
attempts_of_all settings reading all (scheduler ∷ crew) = attempts_of settings reading all scheduler + attempts_of_all settings reading all crew

-- so many tasks at most will still end of themselves after a history: no entry makes them more, and an end that is due
-- makes them fewer
pub record BoundsEnds (reading : Reading) (left : List Entry → ℕ) : Type 0 where
  pub no_more : (history : List Entry) (entry : Entry) → left (history ++ entry ∷ []) ≤ left history
  pub one_less : (history : List Entry) (times : List Timed) (end : DueEnd) → reading.end_due history times ≡ Some end
      → left (ended_alone history end) < left history

-- where the trace's rows end tasks, none will
abbrev pub none_left : List Entry → ℕ
none_left history = 0

-- how often there was and will still be cause for a new pass
abbrev pub triggers_in_all : (List Entry → ℕ) → Moment → ℕ
triggers_in_all left moment = moment.past.triggers + (length moment.coming + left moment.past.history)

-- the steps that are left: rounds, ends and attempts
abbrev pub still_to_come : (List Entry → ℕ) → Settings → Reading → Moment → ℕ
still_to_come left settings reading moment =
    (length moment.coming + left moment.past.history) + attempts_of_all settings reading (triggers_in_all left moment) moment.crew

-- how often there is cause for a new pass in a run
abbrev pub most_triggers : (List Entry → ℕ) → Settings → Reading → ℕ
most_triggers left settings reading = length (rounds reading.trace settings.window) + left []

-- the steps of a run
abbrev pub most_steps : (List Entry → ℕ) → Settings → Reading → ℕ
most_steps left settings reading =
    most_triggers left settings reading
    + schedulers settings * (most_triggers left settings reading * attempts_of_pass settings reading)
