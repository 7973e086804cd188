-- What may happen next, each as a fact of the moments before and after it.
use Rattle.std.specs.List.{AllByRecursion as Each}
use Rattle.std.specs.Prelude.{◌≡◌, ℕ, List, ◌∷◌, Option, Some, None, ◌<◌, ◌≤◌, ◌⊎◌}
use Rattle.omega_model.specs.declared.rows.Round.{Round}
use Rattle.omega_model.specs.declared.settings.Settings.{Settings}
use Rattle.omega_laws.specs.Simulated.{greatest_time}
use Rattle.omega_free_laws.specs.FreeSteps.{DueCommit, Moment, committing, ending, first_due, opening}
use Rattle.omega_free_laws.specs.Lives.{DueEnd}
use Rattle.omega_free_laws.specs.Passes.{Attempt, Scheduler}
use Rattle.omega_free_laws.specs.Readings.{Reading}

-- the next round opens: no end and no commit is due before it
pub record Opens (settings : Settings) (reading : Reading) (old new : Moment) : Type 0 where
  pub round : Round
  pub rest : List Round
  pub first : old.coming ≡ round ∷ rest
  pub no_end : (end : DueEnd) → reading.end_due old.past.history old.times ≡ Some end → greatest_time round.rows ≤ end.time
  pub no_sooner : (due : DueCommit) → first_due old.crew ≡ Some due → greatest_time round.rows ≤ due.attempt.due
  pub happens : new ≡ opening settings reading old round rest

-- the task ends that is due to end first: the next round is due later, and no commit before it
pub record EndsFirst (settings : Settings) (reading : Reading) (old new : Moment) : Type 0 where
  pub end : DueEnd
  pub first : reading.end_due old.past.history old.times ≡ Some end
  pub sooner : (round : Round) (rest : List Round) → old.coming ≡ round ∷ rest → end.time < greatest_time round.rows
  pub no_sooner : (due : DueCommit) → first_due old.crew ≡ Some due → end.time ≤ due.attempt.due
  pub happens : new ≡ ending settings reading old end

-- the attempt that is due first is committed: the next round and each end are due later
pub record CommitsFirst (settings : Settings) (reading : Reading) (old new : Moment) : Type 0 where
  pub due : DueCommit
  pub first : first_due old.crew ≡ Some due
  pub sooner : (round : Round) (rest : List Round) → old.coming ≡ round ∷ rest → due.attempt.due < greatest_time round.rows
  pub before_ends : (end : DueEnd) → reading.end_due old.past.history old.times ≡ Some end → due.attempt.due < end.time
  pub happens : new ≡ committing settings reading old due.by due.attempt

-- one of the three happens
abbrev pub Happens : Settings → Reading → Moment → Moment → Type 0
Happens settings reading old new = Opens settings reading old new ⊎ (EndsFirst settings reading old new ⊎ CommitsFirst settings reading old new)

-- this holds of a scheduler's number and its attempt, if it is deciding
abbrev pub WhenDeciding : (ℕ → Attempt → Type 0) → ℕ → Option Attempt → Type 0
WhenDeciding Q number None = Unit {0}
WhenDeciding Q number (Some attempt) = Q number attempt

-- this holds of each scheduler that is deciding
abbrev pub EachDeciding : (ℕ → Attempt → Type 0) → List Scheduler → Type 0
EachDeciding Q crew = Each (λ scheduler. WhenDeciding Q scheduler.number scheduler.attempt) crew
