-- Which scheduler works on a job.
use Rattle.std.specs.Prelude.{ℕ, Bool, false, Option, Some, None, ◌+◌, ◌%◌, ◌==◌, ◌||◌, if◌then◌else◌}
use Rattle.std.specs.List.{filter_map, list_any}
use Rattle.omega_model.specs.Feed.{feed}
use Rattle.omega_model.specs.Plan.{first_item}
use Rattle.omega_model.specs.declared.rows.Row.{Row}
use Rattle.omega_model.specs.declared.rows.Row.TheVariants.{Task}
use Rattle.omega_model.specs.declared.rows.TraceTables.{TraceTables}
use Rattle.omega_model.specs.declared.settings.Settings.{Settings}

-- whether a job is one of MapReduce: the table of activities names it
abbrev pub is_mapreduce : TraceTables → ℕ → Bool
is_mapreduce trace job = list_any (λ row. row.job == job) trace.activities

-- the scheduling class of a row, if it is a task row of this job
abbrev pub class_in : ℕ → Row → Option ℕ
class_in job (Task row) = if row.key.job == job then Some row.class else None
class_in job _ = None

-- the scheduling class of a job: that of its first task row, whatever the row's code
abbrev pub class_of : TraceTables → ℕ → Option ℕ
class_of trace job = first_item (filter_map (class_in job) (feed trace))

-- whether a scheduling class is that of services
abbrev pub is_service : Option ℕ → Bool
is_service None = false
is_service (Some class) = class == 2 || class == 3

-- the batch scheduler of a job that is neither of MapReduce nor a service
abbrev pub batch_scheduler : Settings → ℕ → ℕ
batch_scheduler settings job = 1 + job % settings.batch

-- the scheduler for jobs of a class: the first one for services, else a batch one
abbrev pub scheduler_for : Settings → Option ℕ → ℕ → ℕ
scheduler_for settings class job = if is_service class then 0 else batch_scheduler settings job

-- the scheduler of a job by its class alone
abbrev pub scheduler_by_class : Settings → TraceTables → ℕ → ℕ
scheduler_by_class settings trace job = scheduler_for settings (class_of trace job) job

-- the scheduler of a job: the last one for MapReduce, else that of its class
abbrev pub scheduler_of : Settings → TraceTables → ℕ → ℕ
scheduler_of settings trace job =
    if is_mapreduce trace job then settings.batch + 1 else scheduler_by_class settings trace job
