-- An attempt on which a scheduler is deciding, as it is kept until it is due.
use Rattle.std.specs.Prelude.{◌≡◌, ◌≤◌, ◌<◌, ◌+◌, ◌^◌, ℕ, Bool, List, Option, length, option_map}
use Rattle.std.specs.List.{list_all}
use Rattle.omega_model.specs.Policy.{schedulers}
use Rattle.omega_model.specs.Touches.{copied_seqs}
use Rattle.omega_model.specs.Wanted.{WantedTask}
use Rattle.omega_model.specs.Work.{commits_of, planned}
use Rattle.omega_model.specs.declared.entries.Entry.{Entry}
use Rattle.omega_model.specs.declared.settings.Settings.{Settings}
use Rattle.omega_model.specs.declared.wishes.Request.{Request}
use Rattle.omega_laws.specs.VirtualTime.{decision}
use Rattle.omega_desk.specs.Desks.{DeskState}
use Rattle.omega_free_laws.specs.Passes.{Attempt, Past, first_attempt, wanted_at}
use Rattle.omega_free_laws.specs.Readings.{Reading}
use Rattle.omega_free_laws.specs.StillWanted.{is_still_wanted, wanted_wishes}

-- an attempt, for each of its claims the sequence number that the claim's machine had in what was seen, and the request
-- that it is on, where its wishes had to be listed
pub record KeptAttempt : Type 0 where
  pub attempt : Attempt
  pub seqs : List ℕ
  pub listed : Option Request

-- the attempt that is kept
abbrev pub attempt_of : Option KeptAttempt → Option Attempt
attempt_of kept = option_map (λ (it : KeptAttempt). it.attempt) kept

-- an attempt is kept beside a history: its scheduler has seen a front of it, and has these sequence numbers from there; its
-- claims are few enough to be committed
pub record IsKept (history : List Entry) (kept : KeptAttempt) : Type 0 where
  pub there : kept.attempt.seen ≤ length history
  pub few : length kept.attempt.claims < 2 ^ 32
  pub seqs : kept.seqs ≡ copied_seqs history kept.attempt.seen kept.attempt.claims

-- an attempt is kept for a desk: it is so beside a history, with the first request there, where wishes of that are counted
pub record IsKeptFor (history : List Entry) (desk : DeskState) (kept : KeptAttempt) : Type 0 where
  pub beside : IsKept history kept
  pub listed : kept.listed ≡ desk.counted

-- whether all wishes of a request are still wanted
abbrev pub wants_all : List WantedTask → Request → Bool
wants_all asked request = list_all (λ wish. is_still_wanted asked wish.key) request.wishes

-- a request with those of its wishes that are still wanted
abbrev pub wanted_part : List WantedTask → Request → Request
wanted_part asked request = record { job = request.job; wishes = wanted_wishes asked request }

-- an attempt that begins now: a plan for all wishes of a request, on all of a history, decided once the time for them has
-- gone by
abbrev pub attempt_for : Settings → List Entry → ℕ → ℕ → Request → Attempt
attempt_for settings history now scheduler request = record {
  job = request.job;
  seen = length history;
  claims = planned settings scheduler (commits_of scheduler history) history request.wishes;
  sync = now;
  due = now + decision settings scheduler (length request.wishes);
}

-- a desk is that of one of the schedulers of these settings
pub record IsKnown (settings : Settings) (desk : DeskState) : Type 0 where
  pub batch : settings.batch ≤ 30
  pub settings_are : desk.settings ≡ settings
  pub known : desk.scheduler < schedulers settings

-- a desk has had as many attempts as a history has commits of its scheduler
abbrev pub IsCounted : List Entry → DeskState → Type 0
IsCounted history desk = desk.attempts ≡ commits_of desk.scheduler history

-- at each moment with this history at which these tasks are wanted, this is the attempt of the scheduler of a desk that
-- begins now on the first request there
abbrev pub BeginsFirst : Settings → List WantedTask → List Entry → ℕ → DeskState → Option KeptAttempt → Type 0
BeginsFirst settings tasks history now desk kept =
    (reading : Reading) (past : Past) → past.history ≡ history → wanted_at reading past ≡ tasks → IsCounted history desk
    → attempt_of kept ≡ first_attempt settings reading past now desk.scheduler desk.requests
