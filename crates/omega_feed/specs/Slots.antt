-- The wanted tasks of one job, each in its slot.
use Rattle.std.specs.Prelude.{◌≡◌, ◌≤◌, ◌&&◌, ◌==◌, ℕ, Bool, true, List, [], ◌∷◌, Option, None, Some, drop, is_some, length, not, option_map, slice_get, take, if◌then◌else◌}
use Rattle.std.specs.List.{filter_map, AllByRecursion as Each}
use Rattle.omega_model.specs.Cell.{task_at}
use Rattle.omega_model.specs.ExtraTasks.{HasLowIndex}
use Rattle.omega_model.specs.Keys.{key_lt}
use Rattle.omega_model.specs.Wanted.{WantedTask}
use Rattle.omega_model.specs.declared.cells.Spec.{Spec}
use Rattle.omega_model.specs.declared.cells.Task.{Task}
use Rattle.omega_model.specs.declared.cells.TaskKey.{TaskKey}
use Rattle.omega_running.specs.Order.{Rises}
use Rattle.omega_feed.specs.declared.task_list.Slot.{Slot}

-- the task of a slot, while it is wanted
abbrev pub task_in : Slot → Option WantedTask
task_in slot = option_map (λ spec. record { key = slot.key; spec = spec }) slot.spec

-- those of the tasks with a slot that are wanted
abbrev pub tasks_in : List Slot → List WantedTask
tasks_in slots = filter_map task_in slots

-- whether a slot's task is wanted and doesn't run
abbrev pub is_idle : List Task → Slot → Bool
is_idle running slot = is_some slot.spec && not (is_some (task_at running slot.key))

-- whether a slot's task is of this job, is wanted and doesn't run
abbrev pub is_idle_of : ℕ → List Task → Slot → Bool
is_idle_of job running slot = slot.key.job == job && is_idle running slot

-- a slot's task and what it asks for, if it is wanted and of this job
abbrev pub entry_of : ℕ → Slot → Option (TaskKey × Spec)
entry_of job slot = if slot.key.job == job then option_map (λ spec. (slot.key, spec)) slot.spec else None

-- each slot's key stands before the keys of all later slots
abbrev pub SlotsRise : List Slot → Type 0
SlotsRise slots = Rises (λ a b. key_lt a.key b.key) slots

-- how many slots stand in a block
abbrev pub block : ℕ
block = 64

-- each count is that of the wanted tasks in its block of slots, and no slot stands behind these blocks
abbrev pub AreCounted : List ℕ → List Slot → Type 0
AreCounted [] slots = slots ≡ []
AreCounted (count ∷ counts) slots = (count ≡ length (tasks_in (take block slots))) × AreCounted counts (drop block slots)

-- the keys of the slots rise; the wanted tasks are none of the extras, their number is `count`, and in the blocks
-- they are as many as `counts` says
pub record AreSlots (slots : List Slot) (counts : List ℕ) (count : ℕ) : Type 0 where
  pub rise : SlotsRise slots
  pub low : Each HasLowIndex (tasks_in slots)
  pub blocks : AreCounted counts slots
  pub counted : count ≡ length (tasks_in slots)

-- a task's slot stands at this place
abbrev pub HasSlotAt : List Slot → TaskKey → ℕ → Type 0
HasSlotAt slots key place = option_map (λ slot. slot.key) (slice_get slots place) ≡ Some key

-- a task's slot would stand at this place: the keys before it are lower, and those from there on greater
pub record GetsSlotAt (slots : List Slot) (key : TaskKey) (place : ℕ) : Type 0 where
  pub within : place ≤ length slots
  pub lower : Each (λ slot. key_lt slot.key key ≡ true) (take place slots)
  pub greater : Each (λ slot. key_lt key slot.key ≡ true) (drop place slots)
