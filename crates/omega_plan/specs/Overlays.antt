-- Claims that are placed beside a board, which stays as it is.
use Rattle.std.specs.Prelude.{◌≡◌, List}
use Rattle.std.specs.List.{fold}
use Rattle.omega_model.specs.Cell.{Cell}
use Rattle.omega_model.specs.Judge.{judge_fine}
use Rattle.omega_model.specs.Reply.{tasks_placed}
use Rattle.omega_model.specs.declared.cells.Task.{Task}
use Rattle.omega_model.specs.declared.claims.Claim.{Claim}
use Rattle.omega_model.specs.declared.claims.Verdict.TheVariants.{Placed}
use Rattle.omega_machines.specs.Table.{machines_of}
use Rattle.omega_board.specs.Board.{BoardState}

-- an overlay: the board, and the claims beside it in order
pub record OverlayState : Type 0 where
  pub board : BoardState
  pub claims : List Claim

-- a claim would be placed, and would evict all of its victims
abbrev pub GoesInWhole : Cell → Claim → Type 0
GoesInWhole cell claim = judge_fine cell claim ≡ record { verdict = Placed; evicted = claim.victims }

-- the running tasks once a claim is placed that evicts all of its victims
abbrev pub tasks_with : List Task → Claim → List Task
tasks_with tasks claim = tasks_placed tasks claim claim.victims

-- the running tasks after the claims of an overlay
abbrev pub tasks_claimed : OverlayState → List Task
tasks_claimed overlay = fold tasks_with overlay.board.tasks overlay.claims

-- the cell after the claims of an overlay
abbrev pub cell_after : OverlayState → Cell
cell_after overlay = record { machines = machines_of overlay.board.table; tasks = tasks_claimed overlay }
