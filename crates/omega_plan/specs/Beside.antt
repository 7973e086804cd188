-- What an overlay keeps of the claims beside its board.
use Rattle.std.specs.Prelude.{◌≡◌, ◌==◌, ℕ, false, List, None}
use Rattle.std.specs.List.{filter}
use Rattle.omega_model.specs.Cell.{is_on, task_at}
use Rattle.omega_model.specs.Legal.{Sound}
use Rattle.omega_model.specs.declared.cells.Task.{Task}
use Rattle.omega_model.specs.declared.claims.Claim.{Claim}
use Rattle.omega_running.specs.Kept.{KeysRise}
use Rattle.omega_board.specs.Board.{BoardState}
use Rattle.omega_board.specs.Numbers.{is_among}
use Rattle.omega_plan.specs.Overlays.{OverlayState, cell_after, tasks_claimed, tasks_with}
use Rattle.omega_plan.specs.Tenants.{AreBeside}
use Rattle.omega_plan.specs.declared.tenants.Tenants.{Tenants}

-- what an overlay keeps: with its tenants beside the board's tasks, just those run that run after the claims; no
-- machine is overcommitted; and machines that aren't among these have the tasks of the board
pub record IsOverlay (tenants : Tenants) (running : List Task) (machines : List ℕ) (overlay : OverlayState) : Type 0 where
  pub run : running ≡ overlay.board.tasks
  pub beside : AreBeside tenants running (tasks_claimed overlay)
  pub sound : Sound (cell_after overlay)
  pub elsewhere : (id : ℕ) → is_among machines id ≡ false
      → filter (is_on id) (tasks_claimed overlay) ≡ filter (is_on id) overlay.board.tasks

-- a claim was placed where these tasks ran: its task didn't run, only its machine has other tasks now, and with
-- these tenants beside the board's tasks just those run that run after the claim
pub record IsPlacedBeside (board : BoardState) (tenants : Tenants) (claim : Claim) (tasks : List Task) : Type 0 where
  pub ordered : KeysRise tasks
  pub absent : task_at tasks claim.key ≡ None
  pub elsewhere : (id : ℕ) → (claim.machine == id) ≡ false
      → filter (is_on id) (tasks_with tasks claim) ≡ filter (is_on id) tasks
  pub beside : AreBeside tenants board.tasks (tasks_with tasks claim)
