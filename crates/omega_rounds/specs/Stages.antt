-- Where a world stands in the run of its trace.
use Rattle.std.specs.Prelude.{◌≡◌, ◌+◌, ℕ, List, [], Option, length, take, slice_get, option_and_then}
use Rattle.omega_model.specs.Feed.{rounds}
use Rattle.omega_model.specs.Lawful.{rows_of}
use Rattle.omega_model.specs.World.{World}
use Rattle.omega_model.specs.declared.entries.Entry.{Entry}
use Rattle.omega_model.specs.declared.rows.Row.{Row}
use Rattle.omega_model.specs.declared.rows.Round.{Round}
use Rattle.omega_model.specs.declared.rows.TraceTables.{TraceTables}
use Rattle.omega_model.specs.declared.settings.Settings.{Settings}
use Rattle.omega_feed.specs.Asked.{Asked, asked_after}

-- what a world has of its trace: the rounds, and what the trace asks for before its first row
pub record Source : Type 0 where
  pub rounds : List Round
  pub asked : Asked

-- what a world has of this trace under these settings
abbrev pub source_of : Settings → TraceTables → Source
source_of settings trace = record { rounds = rounds trace settings.window; asked = asked_after settings trace [] }

-- where a world stands in its run: the settings, what it has of its trace, how many rounds have begun, and
-- how many entries the history had after the rows of the last of them
pub record Stage : Type 0 where
  pub settings : Settings
  pub source : Source
  pub begun : ℕ
  pub opened_at : ℕ

-- the stage with these settings and rounds, and what is asked without the wanted tasks, once so many rounds have
-- begun and the rows of the last of them end here
abbrev pub stage_of : Settings → List Round → Asked → ℕ → ℕ → Stage
stage_of settings all asked begun opened_at = record {
  settings = settings;
  source = record { rounds = all; asked = record asked { tasks = [] } };
  begun = begun;
  opened_at = opened_at;
}

-- the stage of a world in which no round of this trace has begun
abbrev pub first_stage : Settings → TraceTables → Stage
first_stage settings trace = record { settings = settings; source = source_of settings trace; begun = 0; opened_at = 0 }

-- a stage is one in the run of this trace
abbrev pub IsInRunOf : Stage → TraceTables → Type 0
IsInRunOf stage trace = stage.source ≡ source_of stage.settings trace

-- the rows of the rounds that have begun
abbrev pub rows_begun : Stage → List Row
rows_begun stage = rows_of (take stage.begun stage.source.rounds)

-- all rounds of the trace have begun
abbrev pub AllHaveBegun : Stage → Type 0
AllHaveBegun stage = stage.begun ≡ length stage.source.rounds

-- the stage once one more round has begun, whose rows end here
abbrev pub next_stage : Stage → ℕ → Stage
next_stage stage opened_at = record {
  settings = stage.settings;
  source = stage.source;
  begun = stage.begun + 1;
  opened_at = opened_at;
}

-- a world as callers see it: its stage, its history, for each scheduler that has synced since its last
-- commit how many entries it had seen, and how many commits can follow at most in this round
pub record WorldState : Type 0 where
  pub stage : Stage
  pub history : List Entry
  pub synced : List (Option ℕ)
  pub to_do : ℕ

-- how many entries a scheduler had seen, if it has synced
abbrev pub synced_at : List (Option ℕ) → ℕ → Option ℕ
synced_at synced scheduler = option_and_then (λ seen. seen) (slice_get synced scheduler)

-- the history of a world and who has synced
abbrev pub world_of : WorldState → World
world_of state = record { history = state.history; synced = synced_at state.synced }
