-- What the calls of a world do.
use Rattle.std.specs.Prelude.{◌≡◌, ◌<◌, ℕ, Some, length, slice_get, ⊤}
use Rattle.omega_model.specs.Lawful.{Lawful}
use Rattle.omega_model.specs.Policy.{schedulers}
use Rattle.omega_model.specs.Stepping.{BeginsRound, Step}
use Rattle.omega_model.specs.World.{StepAnswer}
use Rattle.omega_model.specs.World.StepAnswer.{Idle as IdleAnswer, Synced as SyncedAnswer, Committed as CommittedAnswer}
use Rattle.omega_model.specs.declared.rows.Round.{Round}
use Rattle.omega_model.specs.declared.rows.TraceTables.{TraceTables}
use Rattle.omega_model.specs.declared.wishes.Request.{Request}
use Rattle.omega_laws.specs.NextCommit.{HasNoWork, NobodyHasWork, WorksOn}
use Rattle.omega_rounds.specs.Stages.{AllHaveBegun, Stage, WorldState, next_stage, rows_begun, world_of}
use Rattle.omega_rounds.specs.declared.steps.RoundStep.{RoundStep}
use Rattle.omega_rounds.specs.declared.steps.RoundStep.TheVariants.{Begun, Unfinished, Over}
use Rattle.omega_workers.specs.declared.steps.Stepped.{Stepped}
use Rattle.omega_workers.specs.declared.steps.Stepped.TheVariants.{Synced, Committed, Idle}

-- what a step answers, in the words of the definition
abbrev pub answer_of : Stepped → StepAnswer
answer_of Synced = SyncedAnswer
answer_of (Committed place) = CommittedAnswer place
answer_of Idle = IdleAnswer

-- a scheduler does one step in the round that is under way, by the requests that it really has left
abbrev pub StepsOn : TraceTables → WorldState → ℕ → WorldState → Stepped → Type 0
StepsOn trace old scheduler new stepped =
    Step old.stage.settings trace (rows_begun old.stage) old.stage.opened_at (world_of old) scheduler (world_of new) (answer_of stepped)

-- after a step no more commits can follow than before, and after a commit fewer
abbrev pub LeavesToDo : WorldState → WorldState → Stepped → Type 0
LeavesToDo old new Synced = new.to_do ≡ old.to_do
LeavesToDo old new (Committed place) = new.to_do < old.to_do
LeavesToDo old new Idle = new.to_do ≡ old.to_do

-- nobody has work in the round that is under way
abbrev pub IsRoundOver : TraceTables → WorldState → Type 0
IsRoundOver trace world =
    NobodyHasWork world.stage.settings trace (rows_begun world.stage) world.stage.opened_at world.history

-- a scheduler is the first that has work in the round that is under way
pub record IsFirstAtWork (trace : TraceTables) (world : WorldState) (scheduler : ℕ) : Type 0 where
  pub known : scheduler < schedulers world.stage.settings
  pub request : Request
  pub works : WorksOn world.stage.settings trace (rows_begun world.stage) world.stage.opened_at world.history scheduler request
  pub before : (other : ℕ) → other < scheduler
      → HasNoWork world.stage.settings trace (rows_begun world.stage) world.stage.opened_at world.history other

-- the round of this number begins: it is the next one of the world
pub record ReachesRound (old new : WorldState) (number : ℕ) : Type 0 where
  pub round : Round
  pub next : slice_get old.stage.source.rounds old.stage.begun ≡ Some round
  pub numbered : round.number ≡ number
  pub stage : new.stage ≡ next_stage old.stage (length new.history)

-- to which stage a world goes on
abbrev pub MovesOn : WorldState → WorldState → RoundStep → Type 0
MovesOn old new (Begun number) = ReachesRound old new number
MovesOn old new (Unfinished scheduler) = new ≡ old
MovesOn old new Over = new ≡ old

-- nobody had work, the entries of the next round are appended, and nobody has synced
pub record OpensRound (trace : TraceTables) (old new : WorldState) : Type 0 where
  pub over : IsRoundOver trace old
  pub begins : (round : Round) → slice_get old.stage.source.rounds old.stage.begun ≡ Some round
      → BeginsRound trace (rows_begun old.stage) round (world_of old) (world_of new)

-- how a world goes on in the run of a trace: to its next round; not at all, since this scheduler is the
-- first that has work; or not at all, since its history is the whole run
abbrev pub GoesOn : TraceTables → WorldState → WorldState → RoundStep → Type 0
GoesOn trace old new (Begun number) = OpensRound trace old new
GoesOn trace old new (Unfinished scheduler) = IsFirstAtWork trace old scheduler
GoesOn trace old new Over = Lawful old.stage.settings trace old.history

-- where no round is left all have begun
abbrev pub IsOverAtLast : Stage → RoundStep → Type 0
IsOverAtLast stage (Begun number) = ⊤
IsOverAtLast stage (Unfinished scheduler) = ⊤
IsOverAtLast stage Over = AllHaveBegun stage
