-- The running tasks of one job.
use Rattle.std.specs.Prelude.{ℕ, Bool, List, Option, ◌==◌, ◌&&◌, option_map}
use Rattle.std.specs.List.{find}
use Rattle.omega_model.specs.Cell.{stays_on}
use Rattle.omega_model.specs.declared.cells.TaskKey.{TaskKey}
use Rattle.omega_model.specs.declared.cells.Task.{Task}

-- whether a task belongs to this job
abbrev pub is_of_job : ℕ → Task → Bool
is_of_job job task = task.key.job == job

-- whether a task of this job runs on this machine and is not among those that go
abbrev pub stays_of_job : ℕ → ℕ → List TaskKey → Task → Bool
stays_of_job job id gone task = is_of_job job task && stays_on id gone task

-- the name of the first of a job's tasks on a machine that is not among those that go
abbrev pub other_of_job : List Task → ℕ → ℕ → List TaskKey → Option TaskKey
other_of_job tasks job machine gone =
    option_map (λ task. task.key) (find (stays_of_job job machine gone) tasks)
