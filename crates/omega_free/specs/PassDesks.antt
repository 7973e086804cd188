-- The desk of a scheduler that waits for no other.
use Rattle.std.specs.Prelude.{◌≡◌, ℕ, Bool, false, not, List, [], ◌∷◌}
use Rattle.std.specs.List.{All}
use Rattle.omega_model.specs.Cell.{Cell}
use Rattle.omega_model.specs.Requests.{failed}
use Rattle.omega_model.specs.Routing.{scheduler_of}
use Rattle.omega_model.specs.State.{state}
use Rattle.omega_model.specs.Wanted.{WantedTask}
use Rattle.omega_model.specs.Work.{Standing, commits_of}
use Rattle.omega_model.specs.declared.entries.Entry.{Entry}
use Rattle.omega_model.specs.declared.rows.Row.{Row}
use Rattle.omega_model.specs.declared.rows.TraceTables.{TraceTables}
use Rattle.omega_model.specs.declared.settings.Settings.{Settings}
use Rattle.omega_model.specs.declared.wishes.Request.{Request}
use Rattle.omega_desk.specs.Counts.{count_of}
use Rattle.omega_desk.specs.Desks.{DeskState}
use Rattle.omega_feed.specs.Asked.{Asked, asked_after}
use Rattle.omega_workers.specs.Workers.{IsRoutedTo}
use Rattle.omega_free_laws.specs.Passes.{Past, Scheduler, synced}
use Rattle.omega_free_laws.specs.Readings.{Reading}
use Rattle.omega_free_laws.specs.StillWanted.{has_wanted_wish}

-- what a trace asks for at a moment, by those of its rows that count then
abbrev pub asked_at : Settings → Reading → Past → Asked
asked_at settings reading past = asked_after settings reading.trace (reading.counted past.rows past.history)

-- a desk is that of a scheduler of this number beside a history: it has what the scheduler has left of its pass, all for
-- the scheduler's own jobs; of these jobs it has the count of commits in a row that placed nothing; and it has had as many
-- attempts as the history has commits of the scheduler
pub record IsPassDesk (settings : Settings) (trace : TraceTables) (history : List Entry) (number : ℕ) (left : Standing) (desk : DeskState) : Type 0 where
  pub settings_are : desk.settings ≡ settings
  pub number_is : desk.scheduler ≡ number
  pub requests : desk.requests ≡ left.requests
  pub taken : desk.taken ≡ left.taken
  pub own : All (IsRoutedTo settings trace number) left.requests
  pub counts : (job : ℕ) → scheduler_of settings trace job ≡ number → left.failing job ≡ count_of desk.counts job
  pub failures : (job : ℕ) → scheduler_of settings trace job ≡ number → failed history job ≡ count_of desk.counts job
  pub attempts : desk.attempts ≡ commits_of number history

-- a desk is that of a scheduler as the definitions have it
abbrev pub IsDeskNow : Settings → TraceTables → List Entry → Scheduler → DeskState → Type 0
IsDeskNow settings trace history scheduler desk = IsPassDesk settings trace history scheduler.number scheduler.left desk

-- whether there are requests, and nothing of the first is still wanted
abbrev pub is_first_unwanted : List WantedTask → List Request → Bool
is_first_unwanted asked [] = false
is_first_unwanted asked (request ∷ rest) = not (has_wanted_wish asked request)

-- this is what some trace asks for after some of its rows
pub record IsAsked (asked : Asked) : Type 0 where
  pub settings : Settings
  pub trace : TraceTables
  pub rows : List Row
  pub asks : asked ≡ asked_after settings trace rows

-- a cell is the state of some history
abbrev pub IsOfSome : Cell → Type 0
IsOfSome cell = (history : List Entry) × (cell ≡ state history)

-- wherever a desk is that of a scheduler whose pass began after so much cause for one, at a moment at which this is asked,
-- this cell stands and there was so much cause, the other is the desk of the scheduler once it has synced, and its pass
-- began after so much then
abbrev pub SyncsDesk : Asked → Cell → ℕ → DeskState → ℕ → DeskState → ℕ → Type 0
SyncsDesk asked cell triggers old begun new begun_then =
    (settings : Settings) (reading : Reading) (past : Past) (now : ℕ) (scheduler : Scheduler)
    → asked ≡ asked_at settings reading past → cell ≡ state past.history → past.triggers ≡ triggers → scheduler.begun ≡ begun
    → IsDeskNow settings reading.trace past.history scheduler old
    → IsDeskNow settings reading.trace past.history (synced settings reading past now scheduler) new
    × (begun_then ≡ (synced settings reading past now scheduler).begun)
