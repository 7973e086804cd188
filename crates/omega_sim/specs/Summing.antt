-- What is added up of commits and jobs.
use Rattle.std.specs.Prelude.{◌≡◌, ℕ, List, Option, option_map, unwrap_or, ◌-◌, ◌+◌, ◌<◌, ◌^◌, All, length}
use Rattle.std.specs.List.{find, fold}
use Rattle.omega_model.specs.declared.entries.Entry.{Entry}
use Rattle.omega_sim.specs.Firsts.{time_at}
use Rattle.omega_laws.specs.TimeReport.{committed_jobs, is_job, job_at}
use Rattle.omega_laws.specs.VirtualTime.{Timed}
use Rattle.omega_sim.specs.declared.firsts.FirstTimes.{FirstTimes}

-- when the scheduler of a job synced for its first commit, if it has one
abbrev pub first_sync : List Entry → List Timed → ℕ → Option ℕ
first_sync history times job =
    option_map (λ (timed : Timed). timed.sync) (find (λ timed. is_job job (job_at history timed)) times)

-- for each job the map has the time at which its scheduler synced for its first commit
abbrev pub AreFirstSyncs : List Entry → List Timed → FirstTimes → Type 0
AreFirstSyncs history times syncs = (job : ℕ) → time_at syncs job ≡ first_sync history times job

-- how long a job waited, from when it came to the sync for its first commit
abbrev pub waited_between : FirstTimes → FirstTimes → ℕ → ℕ
waited_between came synced job = unwrap_or (time_at synced job) 0 - unwrap_or (time_at came job) 0

-- how long all these jobs waited
abbrev pub waited_in_all : FirstTimes → FirstTimes → List ℕ → ℕ
waited_in_all came synced jobs = fold (λ total job. total + waited_between came synced job) 0 jobs

-- a decision takes less than 2 ^ 51 microseconds, and begins before 2 ^ 101
pub record IsTimely (timed : Timed) : Type 0 where
  pub decides : timed.time - timed.sync < 2 ^ 51
  pub syncs : timed.sync < 2 ^ 101

-- what keeps all sums over these commits below 2 ^ 128
pub record SumsFit (history : List Entry) (times : List Timed) : Type 0 where
  pub each : All IsTimely times
  pub jobs : (scheduler : ℕ) → length (committed_jobs scheduler history times) < 2 ^ 21

-- all times that are noted are below 2 ^ 101
abbrev pub AreEarly : FirstTimes → Type 0
AreEarly times = (job : ℕ) → unwrap_or (time_at times job) 0 < 2 ^ 101
