-- What a world by the free clock keeps beside the moment that is its own.
use Rattle.std.specs.Prelude.{◌≡◌, ◌≤◌, ℕ, true, All, List, Option, IfSome, drop, length, option_map, slice_get}
use Rattle.omega_laws.specs.Simulated.{greatest_time}
use Rattle.omega_model.specs.Feed.{rounds}
use Rattle.omega_model.specs.Ranges.{IsInRange}
use Rattle.omega_model.specs.Touches.{is_commit}
use Rattle.omega_model.specs.declared.rows.Round.{Round}
use Rattle.omega_model.specs.declared.rows.TraceTables.{TraceTables}
use Rattle.omega_opening.specs.Reopening.{WereQuiet}
use Rattle.omega_plan.specs.Indexes.{AreIndexesOf}
use Rattle.omega_free_laws.specs.FreeSteps.{Moment}
use Rattle.omega_free.specs.FreeLoop.{StandsOver}
use Rattle.omega_free.specs.FreeRuns.{reading_of}
use Rattle.omega_free.specs.FreeWorlds.{FreeState, Stands}
use Rattle.omega_free.specs.KeptEnds.{KeepsEndsBy}
use Rattle.omega_free.specs.declared.next_round.NextRound.{NextRound}
use Rattle.omega_free.specs.declared.world.World.{World}

-- this is the round at a place, if there is one, and when it opens
pub record IsNext (rounds : List Round) (place : ℕ) (next : Option NextRound) : Type 0 where
  pub round : option_map (λ (it : NextRound). it.round) next ≡ slice_get rounds place
  pub due : IfSome next (λ it. it.due ≡ greatest_time it.round.rows)

-- what of a world a moment tells
abbrev pub state_of : World → FreeState
state_of world = record {
  history = world.cell.history;
  asked = world.demand.wanted;
  coming = drop world.opened world.rounds;
  triggers = world.triggers;
  workers = world.workers.items;
  times = world.times;
}

-- the next round is at hand; behind a place up to which entries were looked at stand commits alone, and the jobs that aren't
-- open were quiet there; the indexes are those of the history
pub record KeepsWorld (world : World) : Type 0 where
  pub range : IsInRange world.settings
  pub next : IsNext world.rounds world.opened world.next
  pub within : world.looked_at ≤ length world.cell.history
  pub commits : All (λ entry. is_commit entry ≡ true) (drop world.looked_at world.cell.history)
  pub quiet : WereQuiet world.demand.open_jobs world.demand.wanted world.looked_at world.cell.history
  pub indexes : AreIndexesOf world.cell.history world.indexes

-- in the run of a trace as these settings have it read this moment is the world's, its rounds are the trace's, and it keeps
-- what is due to end
pub record StandsIn (world : World) (trace : TraceTables) (moment : Moment) : Type 0 where
  pub stands : Stands world.settings (reading_of world.settings trace) moment (state_of world)
  pub keeps : KeepsWorld world
  pub rounds : world.rounds ≡ rounds trace world.settings.window
  pub ends : KeepsEndsBy world.settings.ends trace moment.past.rows moment.past.history moment.times world.own
  pub due : world.due_end ≡ (reading_of world.settings trace).end_due moment.past.history moment.times

-- in the run of a trace a world stands where it is over
abbrev pub IsAtEnd : World → TraceTables → Type 0
IsAtEnd world trace = StandsOver StandsIn reading_of world.settings trace world
