-- The lines of a report that tell the times of each commit, and of each job's first one.
use Rattle.std.specs.Prelude.{ℕ, List, [], ◌∷◌, ◌++◌, Option, option_map, unwrap_or, map, codes}
use Rattle.std.specs.List.{enumerate_from, filter_map, find}
use Rattle.omega_model.specs.Feed.{each_once, feed}
use Rattle.omega_model.specs.Report.{Line, Name, Number}
use Rattle.omega_model.specs.declared.entries.Entry.{Entry}
use Rattle.omega_model.specs.declared.rows.TraceTables.{TraceTables}
use Rattle.omega_laws.specs.TimeReport.{is_job, job_at}
use Rattle.omega_laws.specs.VirtualTime.{Timed}
use Rattle.omega_sim.specs.Arriving.{first_time}
use Rattle.omega_sim.specs.declared.details.FirstCommit.{FirstCommit}

-- the line of a commit with its number: who committed, when that scheduler synced for it, and when it committed
abbrev pub commit_time_line : ℕ × Timed → Line
commit_time_line (number, timed) =
    Name (codes "time") ∷ Number number ∷ Number timed.scheduler ∷ Number timed.sync ∷ Number timed.time ∷ []

-- those of all commits in order, whose numbers count from 0
abbrev pub commit_time_lines : List Timed → List Line
commit_time_lines times = map commit_time_line (enumerate_from 0 times)

-- the jobs that have a commit, each once, in the order of their first ones
abbrev pub jobs_with_commit : List Entry → List Timed → List ℕ
jobs_with_commit history times = each_once (filter_map (job_at history) times)

-- the first commit of a job, if it has one
abbrev pub first_commit : List Entry → List Timed → ℕ → Option Timed
first_commit history times job = find (λ timed. is_job job (job_at history timed)) times

-- what is told of a job by its first commit, where it is known when each job comes
abbrev pub told_of : (ℕ → Option ℕ) → ℕ → Timed → FirstCommit
told_of came job timed = record {
  job = job;
  scheduler = timed.scheduler;
  arrived = unwrap_or (came job) 0;
  sync = timed.sync;
}

-- what is told of each job with a commit, where it is known when each job comes
abbrev pub first_commits_by : (ℕ → Option ℕ) → List Entry → List Timed → List FirstCommit
first_commits_by came history times =
    filter_map (λ job. option_map (told_of came job) (first_commit history times job)) (jobs_with_commit history times)

-- the same of a trace, in which a job comes with its first task row
abbrev pub first_commits_of : TraceTables → List Entry → List Timed → List FirstCommit
first_commits_of trace history times = first_commits_by (λ job. first_time job (feed trace)) history times

-- the line of a job: who made its first commit, when the job came, and when that scheduler synced for the commit
abbrev pub first_commit_line : FirstCommit → Line
first_commit_line first =
    Name (codes "first") ∷ Number first.job ∷ Number first.scheduler ∷ Number first.arrived ∷ Number first.sync ∷ []

-- the lines of these commits, and then those of these jobs
abbrev pub detail_lines : List Timed → List FirstCommit → List Line
detail_lines times firsts = commit_time_lines times ++ map first_commit_line firsts

-- the lines of the commits of a history, and then those of its jobs
abbrev pub lines_of_details : TraceTables → List Entry → List Timed → List Line
lines_of_details trace history times = detail_lines times (first_commits_of trace history times)
