-- A scheduler's worker: its desk, and how much it has seen; what its plan is stands in `Plans`.
use Rattle.std.specs.Prelude.{◌≡◌, ◌<◌, ◌≤◌, ℕ, Bool, List, [], Option, Some, IfSome, All, is_some, length, option_map, slice_get}
use Rattle.omega_model.specs.Requests.{failed}
use Rattle.omega_model.specs.Routing.{scheduler_of}
use Rattle.omega_model.specs.Work.{HasLeft, Standing, commits_of, standing_of}
use Rattle.omega_model.specs.declared.entries.Entry.{Entry}
use Rattle.omega_model.specs.declared.rows.Row.{Row}
use Rattle.omega_model.specs.declared.rows.TraceTables.{TraceTables}
use Rattle.omega_model.specs.declared.settings.Settings.{Settings}
use Rattle.omega_model.specs.declared.wishes.Request.{Request}
use Rattle.omega_desk.specs.Counts.{count_of}
use Rattle.omega_desk.specs.Desks.{DeskState, left_at}
use Rattle.omega_workers.specs.AttemptsLeft.{attempts_left}
use Rattle.omega_workers.specs.declared.plans.Plan.{Plan}
use Rattle.omega_workers.specs.declared.worker.Worker.{Worker}

-- how many entries its scheduler had seen when it planned, if it has synced since its last commit
abbrev pub synced_of : Worker → Option ℕ
synced_of worker = option_map (λ (plan : Plan). plan.seen) worker.plan

-- whether a request is left at a worker's desk
abbrev pub has_work : Worker → Bool
has_work worker = is_some (slice_get worker.desk.requests 0)

-- none is left at any desk
abbrev pub HaveNoWork : List Worker → Type 0
HaveNoWork workers = (number : ℕ) (worker : Worker) → slice_get workers number ≡ Some worker → worker.desk.requests ≡ []

-- how many attempts its scheduler can still make in this round
abbrev pub to_do_of : Worker → ℕ
to_do_of worker = attempts_left worker.desk.settings (left_at worker.desk)

-- a scheduler that has synced has seen no more than so many entries
abbrev pub SyncedWithin : Option ℕ → ℕ → Type 0
SyncedWithin synced count = IfSome synced (λ seen. seen ≤ count)

-- a worker is that of a scheduler beside a history: the desk is the scheduler's, has had as many attempts as
-- the history has commits of it, and a try left for its first request; and where the scheduler has synced, it has
-- seen a front of the history
pub record IsWorker (chosen : Settings) (history : List Entry) (number : ℕ) (worker : Worker) : Type 0 where
  pub settings : worker.desk.settings ≡ chosen
  pub scheduler : worker.desk.scheduler ≡ number
  pub attempts : worker.desk.attempts ≡ commits_of number history
  pub tries : worker.desk.taken < chosen.tries
  pub seen : SyncedWithin (synced_of worker) (length history)

-- a scheduler works on the job of a request
abbrev pub IsRoutedTo : Settings → TraceTables → ℕ → Request → Type 0
IsRoutedTo settings trace scheduler request = scheduler_of settings trace request.job ≡ scheduler

-- a scheduler's desk after these entries of a round whose rows end at this place: its requests are those
-- that the scheduler has left, the first of them has had as many attempts, they are for the scheduler's own
-- jobs, and each of these jobs has its count of commits in a row that placed nothing
pub record IsDeskOf (settings : Settings) (trace : TraceTables) (rows : List Row) (opened_at : ℕ) (history : List Entry) (scheduler : ℕ) (desk : DeskState) : Type 0 where
  pub left : HasLeft settings trace rows opened_at scheduler history desk.requests
  pub standing : Standing
  pub stands : standing_of settings trace rows opened_at scheduler history ≡ Some standing
  pub requests : standing.requests ≡ desk.requests
  pub taken : standing.taken ≡ desk.taken
  pub own : All (IsRoutedTo settings trace scheduler) desk.requests
  pub counts : (job : ℕ) → scheduler_of settings trace job ≡ scheduler → standing.failing job ≡ count_of desk.counts job
  pub failures : (job : ℕ) → scheduler_of settings trace job ≡ scheduler → failed history job ≡ count_of desk.counts job
