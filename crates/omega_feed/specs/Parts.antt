-- The wanted tasks of many jobs, those of each job by themselves.
use Rattle.std.specs.Prelude.{◌≡◌, ◌<◌, ◌≤◌, ◌++◌, ℕ, List, [], ◌∷◌, get_or, is_some, length, map, not}
use Rattle.std.specs.List.{filter, AllByRecursion as Each}
use Rattle.omega_model.specs.Cell.{task_at}
use Rattle.omega_model.specs.ExtraTasks.{HasLowIndex}
use Rattle.omega_model.specs.Wanted.{WantedTask}
use Rattle.omega_model.specs.declared.cells.Task.{Task}

-- the tasks of all jobs
abbrev pub joined : List (List WantedTask) → List WantedTask
joined [] = []
joined (tasks ∷ rest) = tasks ++ joined rest

-- a task is of this job, and none of the extras
abbrev pub IsPlainTaskOf : ℕ → WantedTask → Type 0
IsPlainTaskOf job task = (task.key.job ≡ job) × HasLowIndex task

-- the jobs rise, and at the place of each stand tasks of it alone
abbrev pub AreParts : List ℕ → List (List WantedTask) → Type 0
AreParts [] [] = Unit {0}
AreParts [] (tasks ∷ rest) = ⊥
AreParts (job ∷ jobs) [] = ⊥
AreParts (job ∷ jobs) (tasks ∷ rest) = Each (λ other. job < other) jobs × Each (IsPlainTaskOf job) tasks × AreParts jobs rest

-- no job is greater than one that stands behind it
abbrev pub NeverFall : List ℕ → Type 0
NeverFall jobs = (i j : ℕ) → i ≤ j → j < length jobs → get_or jobs i 0 ≤ get_or jobs j 0

-- a job stands at this place
abbrev pub StandsAt : List ℕ → ℕ → ℕ → Type 0
StandsAt jobs job place = (place < length jobs) × (get_or jobs place 0 ≡ job)

-- a job would stand at this place: those before it are lower, and those from there on greater
abbrev pub BelongsAt : List ℕ → ℕ → ℕ → Type 0
BelongsAt jobs job place =
    (place ≤ length jobs) × ((k : ℕ) → k < place → get_or jobs k 0 < job) × ((k : ℕ) → place ≤ k → k < length jobs → job < get_or jobs k 0)

-- the jobs of those tasks that don't run
abbrev pub waiting_jobs : List Task → List WantedTask → List ℕ
waiting_jobs running tasks = map (λ task. task.key.job) (filter (λ task. not (is_some (task_at running task.key))) tasks)
