-- How jobs and wanted tasks are found.
use Rattle.std.specs.Prelude.{◌≡◌, ℕ, List, Option, Some, None, slice_get, option_map, option_and_then, ◌==◌, if◌then◌else◌, ◌↔◌, ◌<◌, not}
use Rattle.std.specs.BTreeMap as tree
use Rattle.std.specs.BTreeMap.{BTreeMap}
use Rattle.std.specs.List.{filter}
use Rattle.std.specs.Ordering.{nat_cmp, ordering_then}
use Rattle.std.specs.declared.cmp.Ordering.{Ordering}
use Rattle.omega_model.specs.ExtraTasks.{first_extra}
use Rattle.omega_model.specs.Fields.{TaskFields}
use Rattle.omega_model.specs.Wanted.{WantedTask, with_wanted, is_named}
use Rattle.omega_model.specs.declared.cells.Spec.{Spec}
use Rattle.omega_model.specs.declared.cells.TaskKey.{TaskKey}
use Rattle.omega_model.specs.Cell.{Cell}
use Rattle.omega_model.specs.declared.rows.Row.{Row}
use Rattle.omega_model.specs.declared.rows.Row.TheVariants.{Task}
use Rattle.omega_model.specs.declared.wishes.Request.{Request}
use Rattle.omega_feed.specs.Asked.{Asked, job_request}
use Rattle.omega_feed.specs.declared.jobs.RoutedJob.{RoutedJob}
use Rattle.omega_feed.specs.declared.tasks.TaskChange.{TaskChange}
use Rattle.omega_feed.specs.declared.tasks.TaskChange.TheVariants.{Want, End, Keep}

-- a wanted task from its key and what it asks for
abbrev pub wanted_task : TaskKey × Spec → WantedTask
wanted_task entry = record { key = entry.0; spec = entry.1 }

-- the order of keys: by job, then by index
abbrev pub key_cmp : TaskKey → TaskKey → Ordering
key_cmp a b = ordering_then (nat_cmp a.job b.job) (nat_cmp a.index b.index)

-- the wanted tasks after a row of a task that makes this change
abbrev pub changed_by : TaskChange → TaskFields → List WantedTask → List WantedTask
changed_by Want row tasks = with_wanted row.key row.spec tasks
changed_by End row tasks = filter (λ task. not (is_named row.key task)) tasks
changed_by Keep row tasks = tasks

-- the job at a place
abbrev pub job_at : List RoutedJob → ℕ → Option ℕ
job_at jobs place = option_map (λ job. job.job) (slice_get jobs place)

-- a job of this scheduler stands at a place
abbrev pub StandsAt : List RoutedJob → ℕ → ℕ → ℕ → Type 0
StandsAt jobs place job scheduler = slice_get jobs place ≡ Some (record { job = job; scheduler = scheduler })

-- the map gives for each job the place at which it stands, which is the only one
abbrev pub AreFound : BTreeMap ℕ ℕ → List RoutedJob → Type 0
AreFound places jobs = (job place : ℕ) → (tree.get nat_cmp places job ≡ Some place) ↔ (job_at jobs place ≡ Some job)

-- the request of a job, if there is one and it is this scheduler's
abbrev pub routed_request : Asked → Cell → ℕ → Option RoutedJob → Option Request
routed_request asked cell scheduler = option_and_then (λ job. if job.scheduler == scheduler then job_request asked cell job else None)

-- the request of the job at a place, if one stands there and is this scheduler's
abbrev pub place_request : Asked → Cell → ℕ → ℕ → Option Request
place_request asked cell scheduler place = routed_request asked cell scheduler (slice_get asked.jobs place)

-- the task of a task row is no extra task
abbrev pub HasLowTask : Row → Type 0
HasLowTask (Task row) = row.key.index < first_extra
HasLowTask _ = Unit {0}
