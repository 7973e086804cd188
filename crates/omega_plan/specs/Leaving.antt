-- What the tasks on a machine leave of its capacity once some go for a wish.
use Rattle.std.specs.Prelude.{◌≡◌, ◌+◌, ℕ, Bool, false, List, Option, Some, None, ◌&&◌, not, take, drop, length, if◌then◌else◌}
use Rattle.std.specs.List.{filter, find, range_with_len}
use Rattle.omega_model.specs.Cell.{Cell, by_rank, is_on, keys_of, total}
use Rattle.omega_model.specs.Need.{fits, minus, nothing}
use Rattle.omega_model.specs.Plan.{gives_way}
use Rattle.omega_model.specs.declared.cells.Need.{Need}
use Rattle.omega_model.specs.declared.cells.Task.{Task}
use Rattle.omega_model.specs.declared.cells.TaskKey.{TaskKey}
use Rattle.omega_model.specs.declared.wishes.Wish.{Wish}

-- whether a task doesn't give way to a wish
abbrev pub stays : Wish → Task → Bool
stays wish task = not (gives_way wish task)

-- what a task takes that doesn't give way to a wish
abbrev pub need_staying : Wish → Task → Need
need_staying wish task = if stays wish task then task.spec.need else nothing

-- the tasks on a machine that may be evicted for a wish, in order of eviction
abbrev pub evictable : Cell → ℕ → Wish → List Task
evictable cell id wish = by_rank (filter (λ task. is_on id task && gives_way wish task) cell.tasks)

-- the tasks on a machine that don't give way to a wish
abbrev pub staying : Cell → ℕ → Wish → List Task
staying cell id wish = filter (stays wish) (filter (is_on id) cell.tasks)

-- whether these tasks leave enough of an amount for a need once the first of them go
abbrev pub leaves_enough : Need → Need → List Task → ℕ → Bool
leaves_enough need left tasks count = fits need (minus left (total (drop count tasks)))

-- the fewest of some tasks, from the first one on, that must go for the others to leave enough of an amount for a need
pub record GoFirst (need left : Need) (tasks gone : List Task) : Type 0 where
  pub count : ℕ
  pub least : find (leaves_enough need left tasks) (range_with_len 0 (length tasks + 1)) ≡ Some count
  pub first : gone ≡ take count tasks

-- the names of the fewest tasks that must go for a wish where these run on a machine of this capacity
pub record AreFirst (wish : Wish) (cap : Need) (own : List Task) (keys : List TaskKey) : Type 0 where
  pub gone : List Task
  pub first : GoFirst wish.spec.need (minus cap (total (filter (stays wish) own))) (by_rank (filter (gives_way wish) own)) gone
  pub named : keys ≡ keys_of gone

-- the same; none where there isn't enough even when all go that may
abbrev pub AreFewest : Wish → Need → List Task → Option (List TaskKey) → Type 0
AreFewest wish cap own None = fits wish.spec.need (minus cap (total (filter (stays wish) own))) ≡ false
AreFewest wish cap own (Some keys) = AreFirst wish cap own keys
