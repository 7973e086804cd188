-- Histories whose replies are right, and cells of which no machine is overcommitted.
use Rattle.std.specs.Prelude.{◌≡◌, ℕ, ◌≤◌, List, Some, All, length, take, slice_get, IsTrue, nat_eq}
use Rattle.std.specs.List.{IsDistinct}
use Rattle.omega_model.specs.Need.{Fits}
use Rattle.omega_model.specs.Keys.{same_key}
use Rattle.omega_model.specs.Cell.{Cell, machine_at, keys_of, use_on}
use Rattle.omega_model.specs.Judge.{is_up}
use Rattle.omega_model.specs.Machines.{numbers_of}
use Rattle.omega_model.specs.State.{reply_of}
use Rattle.omega_model.specs.declared.entries.Entry.{Entry}
use Rattle.omega_model.specs.declared.entries.Entry.TheVariants.{Commit}

-- an entry may follow these entries: a commit has seen no more than them, and its reply is the one
-- that is due on them
abbrev pub Follows : List Entry → Entry → Type 0
Follows before (Commit scheduler seen txn reply) = (seen ≤ length before) × (reply ≡ reply_of before seen txn)
Follows before _ = Unit {0}

-- each entry may follow those before it
abbrev pub Legal : List Entry → Type 0
Legal history = (place : ℕ) (entry : Entry) → slice_get history place ≡ Some entry → Follows (take place history) entry

-- no task runs twice, each is on an up machine, no machine is listed twice, and what the tasks on a
-- machine use fits its capacity
pub record Sound (cell : Cell) : Type 0 where
  pub keys : IsDistinct same_key (keys_of cell.tasks)
  pub placed : All (λ task. IsTrue (is_up (machine_at cell.machines task.machine))) cell.tasks
  pub numbers : IsDistinct nat_eq (numbers_of cell.machines)
  pub within : All (λ machine. Fits (use_on cell.tasks machine.id) machine.cap) cell.machines
