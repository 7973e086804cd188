-- The jobs of which something may have to be placed: of each scheduler the places of its own among all jobs.
use Rattle.std.specs.Prelude.{◌≡◌, ◌≢◌, ◌⊎◌, ◌≤◌, ◌+◌, ◌&&◌, ◌||◌, ℕ, Bool, true, false, All, List, Option, IfSome, Some, None, is_some, length, nat_le, slice_get}
use Rattle.std.specs.BTreeSet as set
use Rattle.std.specs.BTreeSet.{BTreeSet}
use Rattle.std.specs.List.{IsDistinct, list_any}
use Rattle.std.specs.Ordering.{nat_cmp}
use Rattle.omega_model.specs.Cell.{task_at}
use Rattle.omega_model.specs.ExtraTasks.{first_extra, wanted_of}
use Rattle.omega_model.specs.Extras.{target}
use Rattle.omega_model.specs.Keys.{same_key}
use Rattle.omega_model.specs.Wanted.{WantedTask, is_named}
use Rattle.omega_model.specs.declared.cells.Task.{Task}
use Rattle.omega_model.specs.declared.cells.TaskKey.{TaskKey}
use Rattle.omega_model.specs.declared.rows.Row.{Row}
use Rattle.omega_model.specs.declared.rows.Row.TheVariants.{Machine, Attr, Task as TaskEvent}
use Rattle.omega_feed.specs.Asked.{Asked, activities_in, is_task_of}
use Rattle.omega_feed.specs.Index.{StandsAt, job_at}
use Rattle.omega_feed.specs.declared.jobs.JobPlace.{JobPlace}

-- the open places: those of each scheduler's jobs, from scheduler 0 on; of a scheduler behind the last none is open
abbrev pub OpenPlaces : Type 0
OpenPlaces = List (BTreeSet ℕ)

-- whether a place is among those of a scheduler, if it has any
abbrev pub is_among_own : Option (BTreeSet ℕ) → ℕ → Bool
is_among_own None place = false
is_among_own (Some own) place = set.contains nat_cmp own place

-- whether a place is open for a scheduler
abbrev pub is_open : OpenPlaces → ℕ → ℕ → Bool
is_open places scheduler place = is_among_own (slice_get places scheduler) place

-- if a wanted task is of this job, it is among the running ones
abbrev pub RunsIfOf : ℕ → List Task → WantedTask → Type 0
RunsIfOf job tasks task = is_task_of job task ≡ true → is_some (task_at tasks task.key) ≡ true

-- a task is an extra of a job, and runs
pub record IsRunningExtra (tasks : List Task) (job : ℕ) (key : TaskKey) : Type 0 where
  pub job_is : key.job ≡ job
  pub extra : first_extra ≤ key.index
  pub runs : is_some (task_at tasks key) ≡ true

-- a job has all the extras that it should have: these run, and together with its wanted tasks they are at
-- least as many as its target, so that it gets no more on any cell in which they run
pub record HasItsExtras (asked : Asked) (tasks : List Task) (job : ℕ) : Type 0 where
  pub activities : ℕ
  pub has : activities_in asked.activities job ≡ Some activities
  pub extras : List TaskKey
  pub once : IsDistinct same_key extras
  pub run : All (IsRunningExtra tasks job) extras
  pub enough : target asked.extra activities (length (wanted_of job asked.tasks)) ≤ length (wanted_of job asked.tasks) + length extras

-- a job gets no extras on any cell in which these tasks run: it has no activities, no task of it is wanted, or it
-- has all
abbrev pub GetsNoExtras : Asked → List Task → ℕ → Type 0
GetsNoExtras asked tasks job =
    (activities_in asked.activities job ≡ None) ⊎ ((list_any (is_task_of job) asked.tasks ≡ false) ⊎ HasItsExtras asked tasks job)

-- nothing of a job waits: each of its wanted tasks runs, and it gets no extras
pub record IsQuiet (asked : Asked) (tasks : List Task) (job : ℕ) : Type 0 where
  pub running : All (RunsIfOf job tasks) asked.tasks
  pub no_extras : GetsNoExtras asked tasks job

-- if a job stands at a place, it is quiet
abbrev pub IsQuietAt : Asked → List Task → ℕ → Type 0
IsQuietAt asked tasks place = (job : ℕ) → job_at asked.jobs place ≡ Some job → IsQuiet asked tasks job

-- what an answer says of a place: that it isn't quiet, or that it is
abbrev pub SaysWaits : Asked → List Task → ℕ → Bool → Type 0
SaysWaits asked tasks place true = IsQuietAt asked tasks place → ⊥
SaysWaits asked tasks place false = IsQuietAt asked tasks place

-- each job at a place that isn't open for its scheduler is quiet
abbrev pub OthersAreQuiet : OpenPlaces → Asked → List Task → Type 0
OthersAreQuiet places asked tasks = (place job scheduler : ℕ) → StandsAt asked.jobs place job scheduler
    → is_open places scheduler place ≡ false → IsQuiet asked tasks job

-- the place that was opened last, if it is known, is open
abbrev pub LatestIsOpen : OpenPlaces → Option JobPlace → Type 0
LatestIsOpen places latest = IfSome latest (λ it. is_open places it.scheduler it.place ≡ true)

-- at each place that is open for a scheduler stands a job, and it isn't quiet
abbrev pub NoneIsQuiet : OpenPlaces → ℕ → Asked → List Task → Type 0
NoneIsQuiet places scheduler asked tasks = (place : ℕ) → is_open places scheduler place ≡ true → IsQuietAt asked tasks place → ⊥

-- of these places those are left at which a job stands that isn't quiet
pub record IsSettled (asked : Asked) (tasks : List Task) (before after : BTreeSet ℕ) : Type 0 where
  pub left : (place : ℕ) → set.contains nat_cmp before place ≡ true → (set.contains nat_cmp after place ≡ true) ⊎ IsQuietAt asked tasks place
  pub fewer : (place : ℕ) → set.contains nat_cmp after place ≡ true → set.contains nat_cmp before place ≡ true
  pub none_quiet : (place : ℕ) → set.contains nat_cmp after place ≡ true → IsQuietAt asked tasks place → ⊥

-- the place of a job is open for its scheduler, if it stands at one
abbrev pub IsOpen : OpenPlaces → Asked → ℕ → Type 0
IsOpen places asked job = (place scheduler : ℕ) → StandsAt asked.jobs place job scheduler → is_open places scheduler place ≡ true

-- whether the end of a task may let something of its job wait: the task is wanted, or it is an extra and
-- a task of its job is wanted
abbrev pub is_missed : Asked → TaskKey → Bool
is_missed asked key =
    list_any (is_named key) asked.tasks || (nat_le first_extra key.index && list_any (is_task_of key.job) asked.tasks)

-- what was open is open
abbrev pub StayOpen : OpenPlaces → OpenPlaces → Type 0
StayOpen before after = (scheduler place : ℕ) → is_open before scheduler place ≡ true → is_open after scheduler place ≡ true

-- the same is open
abbrev pub SameIsOpen : OpenPlaces → OpenPlaces → Type 0
SameIsOpen before after = (scheduler place : ℕ) → is_open after scheduler place ≡ is_open before scheduler place

-- for all schedulers but this one the same is open
abbrev pub SameIsOpenForOthers : ℕ → OpenPlaces → OpenPlaces → Type 0
SameIsOpenForOthers scheduler before after = (other place : ℕ) → other ≢ scheduler
    → is_open after other place ≡ is_open before other place

-- what is open was open, or is the place of this job, open for its scheduler
abbrev pub OpensAtMost : OpenPlaces → OpenPlaces → Asked → ℕ → Type 0
OpensAtMost before after asked job = (scheduler place : ℕ) → is_open after scheduler place ≡ true
    → (is_open before scheduler place ≡ true) ⊎ StandsAt asked.jobs place job scheduler

-- a task row opens at most the place of its task's job, and any other row opens none
abbrev pub RowOpens : OpenPlaces → OpenPlaces → Asked → Row → Type 0
RowOpens before after asked (TaskEvent row) = OpensAtMost before after asked row.key.job
RowOpens before after asked (Machine row) = StayOpen after before
RowOpens before after asked (Attr row) = StayOpen after before
