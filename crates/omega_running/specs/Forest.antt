-- What several trees of tasks in one order stand for.
use Rattle.std.specs.Prelude.{◌≡◌, ◌+◌, ◌%◌, ◌==◌, ℕ, Bool, true, List, [], ◌∷◌, length, map}
use Rattle.std.specs.List.{All, AllByRecursion as Each}
use Rattle.omega_model.specs.declared.cells.Task.{Task}
use Rattle.omega_running.specs.declared.orders.Order.{Order}
use Rattle.omega_running.specs.declared.nodes.Tree.{Tree}
use Rattle.omega_running.specs.Order.{IsInOrder, put_in, spread}
use Rattle.omega_running.specs.Tree.{IsTallied, tasks_of}

-- tasks in an order, and among how many trees they are spread
pub record SpreadTasks : Type 0 where
  pub order : Order
  pub tasks : List Task
  pub trees : ℕ

-- whether the tree at a place, of so many, is that of a task
abbrev pub is_at : Order → ℕ → ℕ → Task → Bool
is_at order trees place task = spread order task % trees == place

-- the tasks of a list in order with those of one more tree
abbrev pub with_tree : Order → List Task → List Task → List Task
with_tree order [] others = others
with_tree order (task ∷ tasks) others = put_in order task (with_tree order tasks others)

-- the tasks of all trees in order
abbrev pub gathered : Order → List (List Task) → List Task
gathered order [] = []
gathered order (tasks ∷ rest) = with_tree order tasks (gathered order rest)

-- each tree is in order and has tasks of its place alone; the first one's place is `place`
abbrev pub IsSpread : Order → ℕ → ℕ → List (List Task) → Type 0
IsSpread order trees place [] = Unit {0}
IsSpread order trees place (tasks ∷ rest) =
    IsInOrder order tasks × Each (λ task. is_at order trees place task ≡ true) tasks × IsSpread order trees (place + 1) rest

-- each tree is in order and has tasks of its place alone, and keeps how many extra tasks it has
pub record AreTrees (order : Order) (trees : List Tree) : Type 0 where
  pub spread : IsSpread order (length trees) 0 (map tasks_of trees)
  pub tallied : All IsTallied trees
