-- What a trace asks for after some of its rows, and the requests that come of it.
use Rattle.std.specs.Prelude.{ℕ, Bool, List, [], ◌∷◌, ◌++◌, Option, Some, None, false, ◌+◌, ◌==◌, length, map, if◌then◌else◌}
use Rattle.std.specs.List.{filter, filter_map, last_or, list_any}
use Rattle.omega_model.specs.Cell.{Cell}
use Rattle.omega_model.specs.ExtraTasks.{capacity_in_all, free_indexes, running_extras, used_in, wanted_of}
use Rattle.omega_model.specs.Extras.{extras}
use Rattle.omega_model.specs.Feed.{feed}
use Rattle.omega_model.specs.Fields.{ActivityFields, ConstraintFields, DiskFields}
use Rattle.omega_model.specs.Keys.{same_key}
use Rattle.omega_model.specs.Requests.{jobs_in_order, request_of, is_waiting}
use Rattle.omega_model.specs.Routing.{scheduler_for, scheduler_of}
use Rattle.omega_model.specs.Wanted.{WantedTask, wanted}
use Rattle.omega_model.specs.declared.cells.TaskKey.{TaskKey}
use Rattle.omega_model.specs.declared.rows.Row.{Row}
use Rattle.omega_model.specs.declared.rows.TraceTables.{TraceTables}
use Rattle.omega_model.specs.declared.settings.Extra.{Extra}
use Rattle.omega_model.specs.declared.settings.Settings.{Settings}
use Rattle.omega_model.specs.declared.wishes.Constraint.{Constraint}
use Rattle.omega_model.specs.declared.wishes.Request.{Request}
use Rattle.omega_model.specs.declared.wishes.Wish.{Wish}
use Rattle.omega_feed.specs.declared.jobs.RoutedJob.{RoutedJob}

-- the jobs of a trace in order of their first task row, the constraints of all its tasks, the disks of
-- its machines, the activities of its MapReduce jobs, how many extras these get, and the tasks that are
-- wanted now, in order of key
pub record Asked : Type 0 where
  pub jobs : List RoutedJob
  pub constraints : List ConstraintFields
  pub disks : List DiskFields
  pub activities : List ActivityFields
  pub extra : Extra
  pub tasks : List WantedTask

-- the activities of a job, by the last of these rows for it
abbrev pub activities_in : List ActivityFields → ℕ → Option ℕ
activities_in activities job = last_or None (map (λ row. row.activities) (filter (λ row. row.job == job) activities))

-- the scheduler of a job: the last one where these rows name it, else that for its class
abbrev pub home : Settings → List ActivityFields → Option ℕ → ℕ → ℕ
home settings activities class job =
    if list_any (λ row. row.job == job) activities then settings.batch + 1 else scheduler_for settings class job

-- a job with its scheduler
abbrev pub routed : Settings → TraceTables → ℕ → RoutedJob
routed settings trace job = record { job = job; scheduler = scheduler_of settings trace job }

-- what a trace asks for after these of its rows
abbrev pub asked_after : Settings → TraceTables → List Row → Asked
asked_after settings trace rows = record {
  jobs = map (routed settings trace) (jobs_in_order (feed trace));
  constraints = trace.constraints;
  disks = trace.disks;
  activities = trace.activities;
  extra = settings.extra;
  tasks = wanted rows;
}

-- whether this is a job's entry
abbrev pub is_job : ℕ → RoutedJob → Bool
is_job job other = other.job == job

-- the jobs with one more at the end, unless it is there
abbrev pub with_job : List RoutedJob → RoutedJob → List RoutedJob
with_job jobs job = if list_any (is_job job.job) jobs then jobs else jobs ++ job ∷ []

-- whether a wanted task is of this job
abbrev pub is_task_of : ℕ → WantedTask → Bool
is_task_of job task = task.key.job == job

-- the constraints of a task among those of all
abbrev pub constraints_for : List ConstraintFields → TaskKey → List Constraint
constraints_for constraints key = map (λ row. row.constraint) (filter (λ row. same_key row.key key) constraints)

-- the wish of a wanted task
abbrev pub asked_wish : List ConstraintFields → WantedTask → Wish
asked_wish constraints task =
    record { key = task.key; spec = task.spec; constraints = constraints_for constraints task.key }

-- the wish for an extra of this index, which has the need and the constraints of a wanted task
abbrev pub asked_extra : List ConstraintFields → WantedTask → ℕ → Wish
asked_extra constraints model index = record {
  key = record { job = model.key.job; index = index };
  spec = record { need = model.spec.need; prec = 0; differ = false };
  constraints = constraints_for constraints model.key;
}

-- the indexes that a job's running extras have
abbrev pub held_indexes : Cell → ℕ → List ℕ
held_indexes cell job = map (λ task. task.key.index) (running_extras cell job)

-- the wishes for extras of a job with these activities, of which these tasks are wanted
abbrev pub extras_after : Asked → Cell → ℕ → Option ℕ → List WantedTask → List Wish
extras_after asked cell job None models = []
extras_after asked cell job (Some activities) [] = []
extras_after asked cell job (Some activities) (model ∷ others) =
    map (asked_extra asked.constraints model)
    (free_indexes (held_indexes cell job)
    (extras asked.extra activities (length (model ∷ others)) (length (running_extras cell job)) model.spec.need (used_in cell) (capacity_in_all cell)))

-- the wishes for a job's extras
abbrev pub asked_extras : Asked → Cell → ℕ → List Wish
asked_extras asked cell job = extras_after asked cell job (activities_in asked.activities job) (wanted_of job asked.tasks)

-- the wishes of a job: its wanted tasks that don't run, by index, and then its extras
abbrev pub asked_wishes : Asked → Cell → ℕ → List Wish
asked_wishes asked cell job =
    map (asked_wish asked.constraints) (filter (is_waiting cell job) asked.tasks) ++ asked_extras asked cell job

-- the request of a job, unless it wishes for nothing
abbrev pub job_request : Asked → Cell → RoutedJob → Option Request
job_request asked cell job = request_of job.job (asked_wishes asked cell job.job)

-- the requests of a scheduler, also those of jobs that are given up
abbrev pub asked_requests : Asked → Cell → ℕ → List Request
asked_requests asked cell scheduler =
    filter_map (job_request asked cell) (filter (λ job. job.scheduler == scheduler) asked.jobs)
