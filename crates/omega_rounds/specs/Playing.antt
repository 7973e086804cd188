-- A world in which the schedulers take turns.
use Rattle.std.specs.Prelude.{◌≡◌, ◌+◌, ℕ, Bool, false, List, [], ◌++◌, length}
use Rattle.omega_model.specs.Lawful.{RoundOf, opened}
use Rattle.omega_model.specs.Policy.{schedulers}
use Rattle.omega_model.specs.Turns.{InTurns}
use Rattle.omega_model.specs.World.{NobodySynced}
use Rattle.omega_model.specs.declared.entries.Entry.{Entry}
use Rattle.omega_model.specs.declared.rows.Row.{Row}
use Rattle.omega_model.specs.declared.rows.Round.{Round}
use Rattle.omega_model.specs.declared.rows.TraceTables.{TraceTables}
use Rattle.omega_rounds.specs.Going.{IsRoundOver}
use Rattle.omega_rounds.specs.Halves.{Committing}
use Rattle.omega_rounds.specs.Stages.{IsInRunOf, Stage, WorldState, rows_begun, world_of}
use Rattle.omega_rounds.specs.Taking.{Taking}

-- a stage is one in the run of some trace
abbrev pub IsInSomeRun : Stage → Type 0
IsInSomeRun stage = (trace : TraceTables) × IsInRunOf stage trace

-- a world in which no round has begun: its history is empty, and nobody has work
pub record IsAtStart (world : WorldState) : Type 0 where
  pub empty : world.history ≡ []
  pub idle : (trace : TraceTables) → IsInRunOf world.stage trace → IsRoundOver trace world

-- the round that is under way is this one, which follows these rows and this history in the run of a trace
pub record IsRoundNow (trace : TraceTables) (before : List Row) (start : List Entry) (round : Round) (stage : Stage) : Type 0 where
  pub made : IsInRunOf stage trace
  pub rows : rows_begun stage ≡ before ++ round.rows
  pub opened : stage.opened_at ≡ length (opened trace before start round).history

-- in the round that is under way a turn begins: the schedulers have taken turns so far, and nobody has synced
pub record BeginsTurn (trace : TraceTables) (before : List Row) (start : List Entry) (round : Round) (world : WorldState) (turn : ℕ) : Type 0 where
  pub now : IsRoundNow trace before start round world.stage
  pub taking : Taking world.stage.settings trace before start round world.history turn 0
  pub nobody : NobodySynced (world_of world)

-- in this turn no commit of the schedulers below `next` is due any more, and the others that have work have synced
-- for it
pub record CommitsInTurn (trace : TraceTables) (before : List Row) (start : List Entry) (round : Round) (world : WorldState) (turn next : ℕ) : Type 0 where
  pub now : IsRoundNow trace before start round world.stage
  pub committing : Committing world.stage.settings trace before start round (world_of world) turn next

-- whenever a turn begins in one world, its commits are due in the other
abbrev pub SyncsTurn : WorldState → WorldState → Type 0
SyncsTurn old new =
    (trace : TraceTables) (before : List Row) (start : List Entry) (round : Round) (turn : ℕ)
    → BeginsTurn trace before start round old turn → CommitsInTurn trace before start round new turn 0

-- whenever the commits of a turn are due in one world, all are done in the other, and where nobody
-- committed the round is over
abbrev pub CommitsTurn : WorldState → WorldState → Bool → Type 0
CommitsTurn old new committed =
    (trace : TraceTables) (before : List Row) (start : List Entry) (round : Round) (turn : ℕ)
    → CommitsInTurn trace before start round old turn 0
    → CommitsInTurn trace before start round new turn (schedulers new.stage.settings)
    × (committed ≡ false → IsRoundOver trace new)

-- whenever a turn begins in one world, the next one begins in the other, and where nobody committed the
-- round is over
abbrev pub TakesTurnFrom : WorldState → WorldState → Bool → Type 0
TakesTurnFrom old new committed =
    (trace : TraceTables) (before : List Row) (start : List Entry) (round : Round) (turn : ℕ)
    → BeginsTurn trace before start round old turn
    → BeginsTurn trace before start round new (turn + 1)
    × (committed ≡ false → IsRoundOver trace new)

-- whenever a round's first turn begins in one world, the other's history is in turns, its round is over, and
-- its history is that of the whole round
abbrev pub PlaysRound : WorldState → WorldState → Type 0
PlaysRound old new =
    (trace : TraceTables) (before : List Row) (start : List Entry) (round : Round)
    → BeginsTurn trace before start round old 0
    → InTurns new.history × (IsRoundOver trace new × RoundOf new.stage.settings trace before start round new.history)
