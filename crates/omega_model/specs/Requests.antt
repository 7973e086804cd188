-- What each scheduler is asked to place in a round.
use Rattle.std.specs.Prelude.{ℕ, Bool, List, [], ◌∷◌, ◌++◌, Option, Some, None, ◌+◌, ◌==◌, ◌&&◌, not, is_some, nat_le, map, if◌then◌else◌}
use Rattle.std.specs.List.{filter, filter_map, fold, list_any}
use Rattle.omega_model.specs.Cell.{Cell, task_at}
use Rattle.omega_model.specs.ExtraTasks.{wishes_for_extras}
use Rattle.omega_model.specs.Feed.{feed, each_once}
use Rattle.omega_model.specs.Reply.{admits}
use Rattle.omega_model.specs.Routing.{scheduler_of}
use Rattle.omega_model.specs.State.{state}
use Rattle.omega_model.specs.Wanted.{WantedTask, wanted}
use Rattle.omega_model.specs.Wishes.{wish_of}
use Rattle.omega_model.specs.declared.entries.Entry.{Entry}
use Rattle.omega_model.specs.declared.entries.Entry.TheVariants.{Commit}
use Rattle.omega_model.specs.declared.rows.Row.{Row}
use Rattle.omega_model.specs.declared.rows.Row.TheVariants.{Task as TaskEvent}
use Rattle.omega_model.specs.declared.rows.TraceTables.{TraceTables}
use Rattle.omega_model.specs.declared.settings.Settings.{Settings}
use Rattle.omega_model.specs.declared.wishes.Request.{Request}
use Rattle.omega_model.specs.declared.wishes.Wish.{Wish}

-- the job of a task row
abbrev pub job_of_row : Row → Option ℕ
job_of_row (TaskEvent row) = Some row.key.job
job_of_row _ = None

-- the jobs of some rows in order of their first task row
abbrev pub jobs_in_order : List Row → List ℕ
jobs_in_order rows = each_once (filter_map job_of_row rows)

-- whether a wanted task is of this job and doesn't run
abbrev pub is_waiting : Cell → ℕ → WantedTask → Bool
is_waiting cell job task = task.key.job == job && not (is_some (task_at cell.tasks task.key))

-- the wishes of a job: its wanted tasks that don't run, by index, and then its extras
abbrev pub wishes_of : Settings → TraceTables → Cell → List WantedTask → ℕ → List Wish
wishes_of settings trace cell asked job =
    map (wish_of trace) (filter (is_waiting cell job) asked) ++ wishes_for_extras settings trace cell asked job

-- how many commits for a job in a row placed nothing, when there were so many before this entry
abbrev pub failed_after : ℕ → ℕ → Entry → ℕ
failed_after job count (Commit scheduler seen txn reply) =
    if txn.job == job then (if list_any admits reply then 0 else count + 1) else count
failed_after job count _ = count

-- how many commits for a job there were after its last one that placed a claim
abbrev pub failed : List Entry → ℕ → ℕ
failed history job = fold (failed_after job) 0 history

-- whether a job is given up
abbrev pub given_up : Settings → List Entry → ℕ → Bool
given_up settings history job = nat_le settings.give_up (failed history job)

-- the request of a job, unless it wishes for nothing
abbrev pub request_of : ℕ → List Wish → Option Request
request_of job [] = None
request_of job (wish ∷ wishes) = Some (record { job = job; wishes = wish ∷ wishes })

-- whether a scheduler works on a job: it is routed there and not given up
abbrev pub works_on : Settings → TraceTables → List Entry → ℕ → ℕ → Bool
works_on settings trace history scheduler job =
    scheduler_of settings trace job == scheduler && not (given_up settings history job)

-- the requests of a scheduler in a round: these are all rows up to the end of the round's, and this is the
-- history after them
abbrev pub requests : Settings → TraceTables → List Row → List Entry → ℕ → List Request
requests settings trace rows history scheduler =
    filter_map (λ job. request_of job (wishes_of settings trace (state history) (wanted rows) job))
    (filter (works_on settings trace history scheduler) (jobs_in_order (feed trace)))
