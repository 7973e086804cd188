-- A turn in two halves over the schedulers: all sync, then all commit.
use Rattle.std.specs.Prelude.{◌≡◌, ℕ, List, ◌++◌, Some, None, ◌<◌, ◌≤◌, length}
use Rattle.omega_model.specs.Lawful.{opened}
use Rattle.omega_model.specs.Policy.{schedulers}
use Rattle.omega_model.specs.World.{World}
use Rattle.omega_model.specs.declared.entries.Entry.{Entry}
use Rattle.omega_model.specs.declared.rows.Row.{Row}
use Rattle.omega_model.specs.declared.rows.Round.{Round}
use Rattle.omega_model.specs.declared.rows.TraceTables.{TraceTables}
use Rattle.omega_model.specs.declared.settings.Settings.{Settings}
use Rattle.omega_model.specs.declared.wishes.Request.{Request}
use Rattle.omega_laws.specs.NextCommit.{HasNoWork, WorksOn}
use Rattle.omega_rounds.specs.Taking.{Taking}
use Rattle.omega_laws.specs.TurnOrder.{began}

-- the schedulers below next that have work have synced on this history, and nobody else
pub record Syncing (settings : Settings) (trace : TraceTables) (rows : List Row) (opened_at : ℕ) (before : List Entry) (world : World) (next : ℕ) : Type 0 where
  pub same : world.history ≡ before
  pub have : (scheduler : ℕ) → scheduler < next
      → (request : Request) → WorksOn settings trace rows opened_at before scheduler request → world.synced scheduler ≡ Some (length before)
  pub idle : (scheduler : ℕ) → scheduler < next → HasNoWork settings trace rows opened_at before scheduler → world.synced scheduler ≡ None
  pub wait : (scheduler : ℕ) → next ≤ scheduler → world.synced scheduler ≡ None

-- of the schedulers from next on those that have work have synced where the turn began, and nobody else
pub record AwaitTurn (settings : Settings) (trace : TraceTables) (rows : List Row) (opened_at : ℕ) (world : World) (turn next : ℕ) : Type 0 where
  pub have : (scheduler : ℕ) → scheduler < schedulers settings → next ≤ scheduler
      → (request : Request) → WorksOn settings trace rows opened_at world.history scheduler request → world.synced scheduler ≡ Some (began world.history turn)
  pub idle : (scheduler : ℕ) → scheduler < schedulers settings → next ≤ scheduler
      → HasNoWork settings trace rows opened_at world.history scheduler → world.synced scheduler ≡ None
  pub spent : (scheduler : ℕ) → scheduler < next → world.synced scheduler ≡ None
  pub far : (scheduler : ℕ) → schedulers settings ≤ scheduler → world.synced scheduler ≡ None

-- in this turn no commit of the schedulers below `next` is due any more, and the others that have work have synced
-- for it
pub record Committing (settings : Settings) (trace : TraceTables) (rows : List Row) (start : List Entry) (round : Round) (world : World) (turn next : ℕ) : Type 0 where
  pub taking : Taking settings trace rows start round world.history turn next
  pub await : AwaitTurn settings trace (rows ++ round.rows) (length (opened trace rows start round).history) world turn next

-- the schedulers below next have no work
abbrev pub IdleBelow : Settings → TraceTables → List Row → ℕ → List Entry → ℕ → Type 0
IdleBelow settings trace rows opened_at history next =
    (scheduler : ℕ) → scheduler < next → HasNoWork settings trace rows opened_at history scheduler
