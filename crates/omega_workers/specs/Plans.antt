-- What a scheduler has planned.
use Rattle.std.specs.Prelude.{◌≡◌, ◌≢◌, ◌≤◌, ◌<◌, ◌^◌, ℕ, List, [], IfSome, length}
use Rattle.omega_machines.specs.Table.{seq_at}
use Rattle.omega_board.specs.Board.{BoardState, cell_of}
use Rattle.omega_desk.specs.Desks.{DeskState}
use Rattle.omega_model.specs.Copy.{StandsFor}
use Rattle.omega_model.specs.Policy.{schedulers}
use Rattle.omega_model.specs.Ranges.{IsInRange}
use Rattle.omega_model.specs.Touches.{copied_seqs}
use Rattle.omega_model.specs.Work.{commits_of}
use Rattle.omega_model.specs.declared.claims.Txn.{Txn}
use Rattle.omega_model.specs.declared.entries.Entry.{Entry}
use Rattle.omega_workers.specs.Workers.{IsWorker}
use Rattle.omega_workers.specs.WorkerSteps.{IsFirstAttempt}
use Rattle.omega_workers.specs.declared.plans.Plan.{Plan}
use Rattle.omega_workers.specs.declared.worker.Worker.{Worker}

-- the scheduler of a desk may plan: it is one of those of its settings, and a request is left
pub record MayPlan (desk : DeskState) : Type 0 where
  pub batch : desk.settings.batch ≤ 30
  pub known : desk.scheduler < schedulers desk.settings
  pub work : desk.requests ≢ []

-- a desk has had as many attempts as a history has commits of its scheduler
abbrev pub IsUpTo : List Entry → DeskState → Type 0
IsUpTo history desk = desk.attempts ≡ commits_of desk.scheduler history

-- a transaction is planned at a desk on a board: it is the attempt of the desk's scheduler on the first request that
-- is left there, after as many entries as the board stands for, of each history whose attempts the desk has had
abbrev pub IsPlannedOver : DeskState → BoardState → Txn → Type 0
IsPlannedOver desk board txn = (history : List Entry) (seen : ℕ) → StandsFor (cell_of board) (seq_at board.table) seen history → IsUpTo history desk
    → IsFirstAttempt desk.settings history desk.scheduler seen desk txn

-- a plan is the attempt of the desk's scheduler on the first request that is left there, after a front of the
-- history that it has seen, with the sequence numbers that the machines of its claims have there, and with the
-- request, where wishes of it are counted at the desk
pub record IsPlan (history : List Entry) (desk : DeskState) (plan : Plan) : Type 0 where
  pub within : plan.seen ≤ length history
  pub txn : IsFirstAttempt desk.settings history desk.scheduler plan.seen desk plan.txn
  pub few : length plan.txn.claims < 2 ^ 32
  pub seqs : plan.seqs.items ≡ copied_seqs history plan.seen plan.txn.claims
  pub listed : plan.listed ≡ desk.counted

-- what a worker has planned is its scheduler's plan
abbrev pub HasPlan : List Entry → Worker → Type 0
HasPlan history worker = IfSome worker.plan (IsPlan history worker.desk)

-- a worker beside a history is ready for a step of the scheduler whose desk this is: it is that scheduler's
-- under the desk's settings, and what it has planned is the scheduler's plan
pub record IsReady (desk : DeskState) (history : List Entry) (worker : Worker) : Type 0 where
  pub range : IsInRange desk.settings
  pub known : desk.scheduler < schedulers desk.settings
  pub is_worker : IsWorker desk.settings history desk.scheduler worker
  pub plan : HasPlan history worker
