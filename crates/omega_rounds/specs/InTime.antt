-- A world that plays a round by the clock.
use Rattle.std.specs.Prelude.{◌≡◌, ◌-◌, ◌==◌, ℕ, List, ◌++◌, Option, Some, None, option_map, slice_get, if◌then◌else◌}
use Rattle.omega_model.specs.Lawful.{opened}
use Rattle.omega_model.specs.World.{NobodySynced}
use Rattle.omega_model.specs.declared.rows.Round.{Round}
use Rattle.omega_model.specs.declared.rows.TraceTables.{TraceTables}
use Rattle.omega_laws.specs.NextCommit.{HasNoWork}
use Rattle.omega_laws.specs.Orders.{OrderedRound}
use Rattle.omega_laws.specs.Simulated.{base_of, greatest_time, until_after}
use Rattle.omega_laws.specs.VirtualTime.{KeepsTime, Timed, next_wishes, timed_commits}
use Rattle.omega_rounds.specs.Clocked.{Clocked, TimedRound, all_rows, place_of}
use Rattle.omega_rounds.specs.Going.{IsRoundOver}
use Rattle.omega_rounds.specs.Playing.{IsRoundNow}
use Rattle.omega_rounds.specs.Stages.{IsInRunOf, Stage, WorldState, rows_begun, world_of}

-- the last round that has begun, if one has
abbrev pub last_begun : Stage → Option Round
last_begun stage = if stage.begun == 0 then None else slice_get stage.source.rounds (stage.begun - 1)

-- the greatest time of its rows
abbrev pub rows_time : Stage → Option ℕ
rows_time stage = option_map (λ (round : Round). greatest_time round.rows) (last_begun stage)

-- the times of the commits of a round so far
abbrev pub times_so_far : TimedRound → WorldState → List Timed
times_so_far timed world =
    timed_commits world.stage.settings timed.trace (all_rows timed) (place_of timed) timed.base world.history

-- a round is under way and goes by the clock, and these are the times of all commits so far; some schedulers
-- are to sync now
pub record StandsInTime (timed : TimedRound) (world : WorldState) (agenda : List (Option ℕ)) (times : List Timed) (AreToSync : ℕ → Type 0) (now : ℕ) : Type 0 where
  pub here : IsRoundNow timed.trace timed.rows timed.start timed.round world.stage
  pub clocked : Clocked world.stage.settings timed (world_of world) agenda AreToSync now
  pub times_are : times ≡ timed.earlier ++ times_so_far timed world

-- so it is, and none is to sync
abbrev pub GoesByClock : TimedRound → WorldState → List (Option ℕ) → List Timed → Type 0
GoesByClock timed world agenda times = StandsInTime timed world agenda times (λ scheduler. ⊥) 0

-- the entries of a round's rows are applied, after these times: its base follows from them and from the rows
pub record BeginsInTime (timed : TimedRound) (world : WorldState) (times : List Timed) : Type 0 where
  pub here : IsRoundNow timed.trace timed.rows timed.start timed.round world.stage
  pub last : last_begun world.stage ≡ Some timed.round
  pub entries : world.history ≡ (opened timed.trace timed.rows timed.start timed.round).history
  pub nobody : NobodySynced (world_of world)
  pub earlier : timed.earlier ≡ times
  pub base : timed.base ≡ base_of (until_after 0 times) timed.round

-- the round is whole, its commits stand in order of time, and their times are behind the earlier ones
pub record EndsInTime (timed : TimedRound) (world : WorldState) (times : List Timed) : Type 0 where
  pub ordered : OrderedRound world.stage.settings timed.trace timed.rows timed.start timed.round
      (KeepsTime world.stage.settings timed.trace (all_rows timed) (place_of timed) timed.base) world.history
  pub over : IsRoundOver timed.trace world
  pub times_are : times ≡ timed.earlier ++ times_so_far timed world

-- wherever a round begins so in one world it ends so in the other
abbrev pub PlaysInTime : WorldState → List Timed → WorldState → List Timed → Type 0
PlaysInTime old earlier new times =
    (timed : TimedRound) → BeginsInTime timed old earlier → EndsInTime timed new times

-- the number of wishes of a scheduler's next attempt, by each trace in whose run the world is
abbrev pub HasWishesLeft : WorldState → ℕ → ℕ → Type 0
HasWishesLeft world scheduler left =
    (trace : TraceTables) → IsInRunOf world.stage trace
    → left ≡ next_wishes world.stage.settings trace (rows_begun world.stage) world.stage.opened_at world.history scheduler

-- it is none exactly where the scheduler has no work, by each such trace
abbrev pub IsNoneWithoutWork : WorldState → ℕ → ℕ → Type 0
IsNoneWithoutWork world scheduler left =
    (trace : TraceTables) → IsInRunOf world.stage trace
    → (left ≡ 0 → HasNoWork world.stage.settings trace (rows_begun world.stage) world.stage.opened_at world.history scheduler)
    × (HasNoWork world.stage.settings trace (rows_begun world.stage) world.stage.opened_at world.history scheduler → left ≡ 0)
