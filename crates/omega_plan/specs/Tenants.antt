-- The tasks on machines where claims stand beside a board.
use Rattle.std.specs.Prelude.{◌≡◌, ◌⊎◌, ℕ, Bool, true, false, List, [], ◌∷◌, Option, Some, None, if◌then◌else◌}
use Rattle.std.specs.BTreeSet.{contains}
use Rattle.std.specs.Ordering.{nat_cmp}
use Rattle.std.specs.List.{filter, AllByRecursion as Each}
use Rattle.omega_model.specs.Cell.{is_on, task_at, with_task}
use Rattle.omega_model.specs.Judge.{runs_on}
use Rattle.omega_model.specs.declared.cells.Task.{Task}
use Rattle.omega_model.specs.declared.cells.TaskKey.{TaskKey}
use Rattle.omega_model.specs.declared.claims.Claim.{Claim}
use Rattle.omega_running.specs.Kept.{KeysRise}
use Rattle.omega_plan.specs.declared.tenants.Tenants.{Tenants}

-- whether all tasks of a machine are among the tenants
abbrev pub is_whole : Tenants → ℕ → Bool
is_whole tenants id = contains nat_cmp tenants.whole id

-- a task, if there is one and its machine isn't whole
abbrev pub kept : Tenants → Option Task → Option Task
kept tenants None = None
kept tenants (Some task) = if is_whole tenants task.machine then None else Some task

-- the first task, if there is one, or else the other
abbrev pub either : Option Task → Option Task → Option Task
either None other = other
either (Some task) other = Some task

-- with these tenants beside a board's tasks, these run: each name's task is the tenants' or the board's, and
-- never both
pub record AreBeside (tenants : Tenants) (board tasks : List Task) : Type 0 where
  pub ordered : KeysRise tasks
  pub own_ordered : KeysRise tenants.own.tasks
  pub board_ordered : KeysRise board
  pub found : (key : TaskKey) → task_at tasks key ≡ either (task_at tenants.own.tasks key) (kept tenants (task_at board key))
  pub apart : (key : TaskKey) (task : Task) → task_at tenants.own.tasks key ≡ Some task → kept tenants (task_at board key) ≡ None

-- tasks with others put in, one after the other
abbrev pub put_all : List Task → List Task → List Task
put_all own [] = own
put_all own (task ∷ tasks) = put_all (with_task task own) tasks

-- none of these tasks is there when its turn comes
abbrev pub MayPutAll : List Task → List Task → Type 0
MayPutAll own [] = Unit {0}
MayPutAll own (task ∷ tasks) = (task_at own task.key ≡ None) × MayPutAll (with_task task own) tasks

-- tenants may take over the board's tasks on a machine
abbrev pub MayTakeOver : Tenants → List Task → ℕ → Type 0
MayTakeOver tenants board machine =
    is_whole tenants machine ≡ false → MayPutAll tenants.own.tasks (filter (is_on machine) board)

-- a claim may be placed where these tasks run: its task doesn't, its victims do on its machine, and where it
-- has some, the machine is whole
pub record GoesBeside (tenants : Tenants) (board : List Task) (claim : Claim) (tasks : List Task) : Type 0 where
  pub beside : AreBeside tenants board tasks
  pub absent : task_at tasks claim.key ≡ None
  pub stand : Each (λ key. runs_on tasks claim.machine key ≡ true) claim.victims
  pub whole : (claim.victims ≡ []) ⊎ (is_whole tenants claim.machine ≡ true)

-- the same, of some tasks
pub record MayPlace (tenants : Tenants) (board : List Task) (claim : Claim) : Type 0 where
  pub tasks : List Task
  pub goes : GoesBeside tenants board claim tasks
