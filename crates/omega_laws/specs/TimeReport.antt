-- What the lines of busyness and waiting count.
use Rattle.std.specs.Prelude.{ℕ, Bool, false, List, [], ◌∷◌, Option, Some, None, option_map, option_and_then, unwrap_or, ◌+◌, ◌-◌, ◌==◌, max, slice_get}
use Rattle.std.specs.List.{filter, filter_map, find, fold}
use Rattle.omega_model.specs.Feed.{each_once, feed, time_of}
use Rattle.omega_model.specs.Requests.{job_of_row}
use Rattle.omega_model.specs.declared.entries.Entry.{Entry}
use Rattle.omega_model.specs.declared.entries.Entry.TheVariants.{Commit}
use Rattle.omega_model.specs.declared.rows.Round.{Round}
use Rattle.omega_model.specs.declared.rows.TraceTables.{TraceTables}
use Rattle.omega_laws.specs.VirtualTime.{Timed}
use Rattle.omega_laws.specs.Simulated.{greatest_time, until_after}

-- the commits of a scheduler
abbrev pub timed_of : ℕ → List Timed → List Timed
timed_of scheduler times = filter (λ timed. timed.scheduler == scheduler) times

-- how long a scheduler decided, in microseconds
abbrev pub busy : ℕ → List Timed → ℕ
busy scheduler times = fold (λ total timed. total + (timed.time - timed.sync)) 0 (timed_of scheduler times)

-- how long it is from the first round's base to the last round's, or to the last commit, if that is later. A
-- round that begins later than its last row begins at the time of an earlier commit, so the times of the rows
-- and of the last commit are enough
abbrev pub span : List Round → List Timed → ℕ
span [] times = 0
span (first ∷ rest) times =
    max (greatest_time (fold (λ (last round : Round). round) first rest).rows) (until_after 0 times) - greatest_time first.rows

-- the job of a commit
abbrev pub job_of_entry : Entry → Option ℕ
job_of_entry (Commit scheduler seen txn reply) = Some txn.job
job_of_entry _ = None

-- the job of a timed commit of a history
abbrev pub job_at : List Entry → Timed → Option ℕ
job_at history timed = option_and_then job_of_entry (slice_get history timed.place)

-- whether this is that job
abbrev pub is_job : ℕ → Option ℕ → Bool
is_job job None = false
is_job job (Some other) = other == job

-- the jobs for which a scheduler has a commit, each once
abbrev pub committed_jobs : ℕ → List Entry → List Timed → List ℕ
committed_jobs scheduler history times = each_once (filter_map (job_at history) (timed_of scheduler times))

-- how long a job waited from its first task row until its scheduler synced for its first commit
abbrev pub waited : TraceTables → List Entry → List Timed → ℕ → ℕ
waited trace history times job =
    unwrap_or (option_map (λ (timed : Timed). timed.sync) (find (λ timed. is_job job (job_at history timed)) times)) 0
    - unwrap_or (option_map time_of (find (λ row. is_job job (job_of_row row)) (feed trace))) 0

-- how long all jobs of a scheduler waited
abbrev pub wait : TraceTables → List Entry → List Timed → ℕ → ℕ
wait trace history times scheduler = fold (λ total job. total + waited trace history times job) 0 (committed_jobs scheduler history times)
