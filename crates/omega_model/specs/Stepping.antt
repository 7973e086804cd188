-- A step of a scheduler with the work that is really left, and a world in one of the trace's rounds.
use Rattle.std.specs.Prelude.{◌≡◌, ℕ, List, Some, ◌≤◌, length, take}
use Rattle.omega_model.specs.Feed.{rounds}
use Rattle.omega_model.specs.Lawful.{opened, after_last, rows_of, Underway}
use Rattle.omega_model.specs.Work.{HasLeft}
use Rattle.omega_model.specs.World.{World, NobodySynced, StepAnswer, Steps}
use Rattle.omega_model.specs.declared.entries.Entry.{Entry}
use Rattle.omega_model.specs.declared.rows.Row.{Row}
use Rattle.omega_model.specs.declared.rows.Round.{Round}
use Rattle.omega_model.specs.declared.rows.TraceTables.{TraceTables}
use Rattle.omega_model.specs.declared.settings.Settings.{Settings}
use Rattle.omega_model.specs.declared.wishes.Request.{Request}

-- a step of a scheduler in a round: these are all rows up to the end of the round's, whose entries end at
-- place opened_at of the history. It goes by the requests that the scheduler has left in this round
pub record Step (settings : Settings) (trace : TraceTables) (rows : List Row) (opened_at : ℕ) (old : World) (scheduler : ℕ) (new : World) (answer : StepAnswer) : Type 0 where
  pub left : List Request
  pub is_left : HasLeft settings trace rows opened_at scheduler old.history left
  pub steps : Steps settings old scheduler new left answer

-- a round begins after these rows: its entries are appended, and nobody has synced
pub record BeginsRound (trace : TraceTables) (rows : List Row) (round : Round) (old new : World) : Type 0 where
  pub entries : new.history ≡ (opened trace rows old.history round).history
  pub nobody : NobodySynced new

-- a scheduler that has synced had seen so many entries: the round's rows, its own last commit, and no
-- entry that isn't there
pub record IsBetween (opened_at : ℕ) (history : List Entry) (scheduler seen : ℕ) : Type 0 where
  pub rows : opened_at ≤ seen
  pub own : after_last scheduler history ≤ seen
  pub there : seen ≤ length history

-- that holds of each scheduler of a world that has synced
abbrev pub EachIsBetween : ℕ → World → Type 0
EachIsBetween opened_at world =
    (scheduler seen : ℕ) → world.synced scheduler ≡ Some seen → IsBetween opened_at world.history scheduler seen

-- the place in a history after the rows of the round that is underway
abbrev pub rows_end : (settings : Settings) (trace : TraceTables) (history : List Entry) → Underway settings trace history → ℕ
rows_end settings trace history underway =
    length (opened trace (rows_of (take underway.done (rounds trace settings.window))) underway.start underway.round).history

-- a world in one of the trace's rounds
pub record IsInRound (settings : Settings) (trace : TraceTables) (world : World) : Type 0 where
  pub underway : Underway settings trace world.history
  pub synced : EachIsBetween (rows_end settings trace world.history underway) world
