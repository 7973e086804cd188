-- What a tree of tasks stands for.
use Rattle.std.specs.Prelude.{◌≡◌, ℕ, ◌%◌, ◌^◌, List, [], ◌∷◌, ◌++◌, length}
use Rattle.std.specs.List.{filter}
use Rattle.omega_model.specs.declared.cells.Task.{Task}
use Rattle.omega_running.specs.declared.nodes.Tree.{Tree}
use Rattle.omega_running.specs.declared.nodes.Node.{Node}
use Rattle.omega_running.specs.declared.nodes.Tree.TheVariants.{Leaf, Fork'}
use Rattle.omega_running.specs.Order.{is_extra}

-- the tasks of a tree from left to right
abbrev pub tasks_of : Tree → List Task
tasks_of Leaf = []
tasks_of (Fork' height extras p left right task) = tasks_of left ++ task ∷ tasks_of right

-- the tasks at and below a node
abbrev pub tasks_at : Node → List Task
tasks_at node = tasks_of node.left ++ node.task ∷ tasks_of node.right

-- how many of the tasks are extra ones
abbrev pub extras_in : List Task → ℕ
extras_in tasks = length (filter is_extra tasks)

-- at each fork stands how many extra tasks it has, as a remainder by 2 ^ 32
abbrev pub IsTallied : Tree → Type 0
IsTallied Leaf = Unit {0}
IsTallied (Fork' height extras p left right task) =
    (extras ≡ extras_in (tasks_of left ++ task ∷ tasks_of right) % 2 ^ 32) × IsTallied left × IsTallied right

-- so it is at both sides of a node
abbrev pub AreTallied : Node → Type 0
AreTallied node = IsTallied node.left × IsTallied node.right

-- the tally of the tasks before a task, of that task and of those behind it, by the tallies before and behind
abbrev pub IsTallyAround : ℕ → Task → ℕ → ℕ → Type 0
IsTallyAround before task behind all =
    (l r : List Task) → before ≡ extras_in l % 2 ^ 32 → behind ≡ extras_in r % 2 ^ 32 → all ≡ extras_in (l ++ task ∷ r) % 2 ^ 32
