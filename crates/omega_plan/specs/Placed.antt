-- The tasks that claims placed beside a board, in a list or in trees.
use Rattle.std.specs.Prelude.{ℕ, List, Option, Some, None}
use Rattle.omega_model.specs.declared.cells.Task.{Task}
use Rattle.omega_running.specs.Kept.{RunningTasks}

-- what a caller sees: the trees where there are some, or else the list, and for how many more it has room
abbrev pub seen : List Task → ℕ → Option RunningTasks → RunningTasks
seen list room None = record { tasks = list; spare = room }
seen list room (Some trees) = trees
