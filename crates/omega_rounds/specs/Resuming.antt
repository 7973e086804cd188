-- A run in turns that goes on from kept lines.
use Rattle.std.specs.Prelude.{◌≡◌, ◌<◌, ◌≤◌, ◌⊎◌, ◌+◌, ℕ, List, [], ◌++◌, Some, Option, drop, length, min, take, ⊤}
use Rattle.omega_keep.specs.Keeping.{Adds}
use Rattle.omega_keep.specs.Resumed.{in_common, lines_of, refused_for}
use Rattle.omega_model.specs.Feed.{rounds}
use Rattle.omega_laws.specs.FirstRounds.{AreFirstInTurns}
use Rattle.omega_model.specs.declared.entries.Entry.{Entry}
use Rattle.omega_model.specs.declared.results.Status.{Status}
use Rattle.omega_model.specs.declared.results.Status.TheVariants as status
use Rattle.omega_model.specs.declared.rows.Round.{Round}
use Rattle.omega_model.specs.declared.rows.Row.{Row}
use Rattle.omega_model.specs.declared.rows.TraceTables.{TraceTables}
use Rattle.omega_model.specs.declared.settings.Settings.{Settings}
use Rattle.omega_rounds.specs.Playing.{BeginsTurn, PlaysRound}
use Rattle.omega_rounds.specs.Stages.{IsInRunOf, Stage, WorldState}
use Rattle.omega_rounds.specs.declared.kept.ResumeRefusal.{ResumeRefusal}
use Rattle.omega_rounds.specs.declared.kept.ResumeRefusal.TheVariants.{BadKept, KeepFault, NoMemory}

-- the lines of a history behind as many as are kept
abbrev pub lines_behind : List (List ℕ) → List Entry → List (List ℕ)
lines_behind kept history = drop (length kept) (lines_of history)

-- a refusal as the status that is answered
abbrev pub status_of : ResumeRefusal → Status
status_of (BadKept place) = status.BadKept place
status_of KeepFault = status.KeepFault
status_of NoMemory = status.NoMemory

-- lines are those of the first rounds of a trace, so many of them, in which the schedulers take turns
pub record AreRoundsInTurns (settings : Settings) (trace : TraceTables) (lines : List (List ℕ)) : Type 0 where
  pub count : ℕ
  pub history : List Entry
  pub played : AreFirstInTurns settings trace count history
  pub told : lines ≡ lines_of history

-- so it is for each trace in whose run a world at this stage is
abbrev pub AreRoundsOfStage : Stage → List (List ℕ) → Type 0
AreRoundsOfStage stage lines = (trace : TraceTables) → IsInRunOf stage trace → AreRoundsInTurns stage.settings trace lines

-- at this place kept lines are no longer those of whole rounds of a trace in which the schedulers take turns: so
-- many first rounds of it have this history, for which the lines are refused there. And no more rounds can
-- change that: the history goes on behind the place, or is that of all rounds
pub record DepartAt (settings : Settings) (trace : TraceTables) (kept : List (List ℕ)) (place : ℕ) : Type 0 where
  pub count : ℕ
  pub history : List Entry
  pub played : AreFirstInTurns settings trace count history
  pub refused : refused_for history kept ≡ Some place
  pub reached : (place < length history) ⊎ (count ≡ length (rounds trace settings.window))

-- why kept lines of a run are refused: for the place at which they depart from it. Where the keeper failed they
-- are those of its first rounds
abbrev pub RefusesKept : Stage → List (List ℕ) → ResumeRefusal → Type 0
RefusesKept stage kept (BadKept place) = (trace : TraceTables) → IsInRunOf stage trace → DepartAt stage.settings trace kept place
RefusesKept stage kept KeepFault = AreRoundsOfStage stage kept
RefusesKept stage kept NoMemory = ⊤

-- to a keeper's list some lines were added: none, or such that with the kept ones before them they are those of
-- the run's first rounds
pub record AppendsRounds (stage : Stage) (kept : List (List ℕ)) (before now : Option (List (List ℕ))) : Type 0 where
  pub added : List (List ℕ)
  pub adds : Adds added before now
  pub whole : (added ≡ []) ⊎ AreRoundsOfStage stage (kept ++ added)

-- what a run that goes on from kept lines leaves at its keeper where it is refused: whole rounds more, and
-- nothing more where the kept lines are refused
abbrev pub LeavesKept : Stage → List (List ℕ) → Option (List (List ℕ)) → Option (List (List ℕ)) → ResumeRefusal → Type 0
LeavesKept stage kept before now (BadKept place) = now ≡ before
LeavesKept stage kept before now KeepFault = AppendsRounds stage kept before now
LeavesKept stage kept before now NoMemory = AppendsRounds stage kept before now

-- kept lines and those of a history are the same as far as both go
abbrev pub Agree : List (List ℕ) → List Entry → Type 0
Agree kept history = in_common kept history ≡ min (length kept) (length history)

-- why a round, which stands in a history from a place on, isn't taken: lines are kept from there on, but not all
-- of the round's; or none is kept there, and the keeper failed; or memory ran out
abbrev pub RefusesRound : List (List ℕ) → ℕ → List Entry → ResumeRefusal → Type 0
RefusesRound kept from history (BadKept place) =
    (from < length kept) × ((place ≡ in_common kept history) × (place < length history))
RefusesRound kept from history KeepFault = length kept ≤ from
RefusesRound kept from history NoMemory = ⊤

-- the first turn of a round begins in a world, behind a history of so many entries with which the kept lines
-- agree
pub record BeginsAgreed (kept : List (List ℕ)) (from : ℕ) (world : WorldState) : Type 0 where
  pub trace : TraceTables
  pub before : List Row
  pub start : List Entry
  pub round : Round
  pub begins : BeginsTurn trace before start round world 0
  pub length_is : from ≡ length start
  pub agree : Agree kept start

-- why a round stops: it was played to its end and is refused; or the keeper failed behind the kept lines; or
-- memory ran out
abbrev pub StopsRound : WorldState → List (List ℕ) → ℕ → ResumeRefusal → Type 0
StopsRound world kept from (BadKept place) =
    (after : WorldState) × ((after.stage ≡ world.stage) × (PlaysRound world after × RefusesRound kept from after.history (BadKept place)))
StopsRound world kept from KeepFault = length kept ≤ from
StopsRound world kept from NoMemory = ⊤

-- what a round adds to a keeper's list where it is taken: the kept lines agree with the history up to its end,
-- which isn't behind them where some were to be compared, and whatever stood behind the kept ones is followed by
-- the round's lines
pub record TakesRound (kept : List (List ℕ)) (from : ℕ) (history : List Entry) (before now : Option (List (List ℕ))) : Type 0 where
  pub agree : Agree kept history
  pub ends : from < length kept → length history ≤ length kept
  pub adds : (first : Option (List (List ℕ)))
      → Adds (lines_behind kept (take from history)) first before
      → Adds (lines_behind kept history) first now

-- a history that is at its end has no line at this place, and some line is kept there
pub record EndsBefore (world : WorldState) (kept : List (List ℕ)) (place : ℕ) : Type 0 where
  pub place_is : place ≡ length world.history
  pub more : place < length kept

-- lines are refused since more are kept than the history has: the first of these is named
abbrev pub IsPastEnd : WorldState → List (List ℕ) → ResumeRefusal → Type 0
IsPastEnd world kept (BadKept place) = EndsBefore world kept place
IsPastEnd world kept KeepFault = ⊥
IsPastEnd world kept NoMemory = ⊥

-- why the lines of some entries, which stand in a history from a place on, aren't all kept from there on: at
-- this place stands the first that isn't; or memory ran out
abbrev pub StopsAt : List (List ℕ) → ℕ → List Entry → ResumeRefusal → Type 0
StopsAt kept from entries (BadKept place) = (place ≡ from + in_common kept entries) × (in_common kept entries < length entries)
StopsAt kept from entries KeepFault = ⊥
StopsAt kept from entries NoMemory = ⊤

-- a refusal says nothing of the kept lines
abbrev pub IsNotOfLines : ResumeRefusal → Type 0
IsNotOfLines (BadKept place) = ⊥
IsNotOfLines KeepFault = ⊤
IsNotOfLines NoMemory = ⊤
