-- Other tasks of a job on a machine, by the trees of the machine.
use Rattle.std.specs.Prelude.{ℕ, Bool, List, Option, Some, None, ◌&&◌, if◌then◌else◌}
use Rattle.std.specs.List.{find}
use Rattle.std.specs.Option.{option_map}
use Rattle.omega_model.specs.Jobs.{stays_of_job}
use Rattle.omega_model.specs.Keys.{key_lt}
use Rattle.omega_model.specs.declared.cells.Task.{Task}
use Rattle.omega_model.specs.declared.cells.TaskKey.{TaskKey}
use Rattle.omega_running.specs.Order.{in_share}

-- whether a task is one of the job's on the machine that isn't among those that go, and stands in this tree of it
abbrev pub stays_in_share : ℕ → ℕ → ℕ → List TaskKey → Task → Bool
stays_in_share number job machine gone task = in_share number task && stays_of_job job machine gone task

-- the key of the first such task
abbrev pub other_in_share : ℕ → List Task → ℕ → ℕ → List TaskKey → Option TaskKey
other_in_share number tasks job machine gone = option_map (λ task. task.key) (find (stays_in_share number job machine gone) tasks)

-- the first of two keys, where both are there
abbrev pub first_of : Option TaskKey → Option TaskKey → Option TaskKey
first_of None other = other
first_of (Some a) None = Some a
first_of (Some a) (Some b) = if key_lt b a then Some b else Some a
