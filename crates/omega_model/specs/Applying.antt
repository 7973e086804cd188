-- When an entry may be applied to a cell whose machines have these sequence numbers.
use Rattle.std.specs.Prelude.{◌≡◌, ◌<◌, ◌^◌, ◌-◌, ◌⊎◌, ℕ, List, [], ◌∷◌, Option, Some, None, length, take, slice_get, IsTrue, IfSome, IsSomeAnd}
use Rattle.std.specs.List.{zip}
use Rattle.omega_model.specs.Need.{Fits}
use Rattle.omega_model.specs.Fields.{greatest}
use Rattle.omega_model.specs.Limits.{most_machines}
use Rattle.omega_model.specs.Cell.{Cell, task_at}
use Rattle.omega_model.specs.Machines.{is_listed}
use Rattle.omega_model.specs.Judge.{judge_fine}
use Rattle.omega_model.specs.Reply.{admits, after_claim}
use Rattle.omega_model.specs.State.{state}
use Rattle.omega_model.specs.Touches.{touches, seq}
use Rattle.omega_model.specs.declared.cells.Machine.{Machine}
use Rattle.omega_model.specs.declared.cells.Need.{Need}
use Rattle.omega_model.specs.declared.cells.Task.{Task}
use Rattle.omega_model.specs.declared.claims.Claim.{Claim}
use Rattle.omega_model.specs.declared.claims.Judgement.{Judgement}
use Rattle.omega_model.specs.declared.entries.Entry.{Entry}
use Rattle.omega_model.specs.declared.entries.Entry.TheVariants.{MachineAdd, MachineUpdate, MachineRemove, AttrSet, AttrDelete, End, Commit}

-- the capacity that an entry gives a machine
abbrev pub capacity_in : Entry → Option Need
capacity_in (MachineAdd machine cap) = Some cap
capacity_in (MachineUpdate machine cap) = Some cap
capacity_in _ = None

-- the capacity that an entry gives a machine, if it gives one, is at most the greatest quantity
abbrev pub CapacityIsInRange : Entry → Type 0
CapacityIsInRange entry = IfSome (capacity_in entry) (λ cap. Fits cap greatest)

-- the machine that an entry puts into the list where it isn't there
abbrev pub machine_in : Entry → Option ℕ
machine_in (MachineAdd machine cap) = Some machine
machine_in (MachineUpdate machine cap) = Some machine
machine_in (MachineRemove machine) = Some machine
machine_in (AttrSet machine name value) = Some machine
machine_in (AttrDelete machine name) = Some machine
machine_in _ = None

-- the list has this machine, or room for one more
abbrev pub ListsOrHasRoom : List Machine → ℕ → Type 0
ListsOrHasRoom machines machine = length machines < most_machines ⊎ IsTrue (is_listed machine machines)

-- an end names a task that runs on its machine
abbrev pub EndsRunning : List Task → Entry → Type 0
EndsRunning tasks (End key machine) = IsSomeAnd (task_at tasks key) (λ task. task.machine ≡ machine)
EndsRunning tasks _ = Unit {0}

-- a claim that is placed by its answer would be placed on this cell, and would evict what the answer says
abbrev pub MayPlace : Cell → Claim × Judgement → Type 0
MayPlace cell (claim, judgement) = IsTrue (admits judgement) → judge_fine cell claim ≡ judgement

-- the placed claims can be placed one after the other
abbrev pub MayPlaceAll : Cell → List (Claim × Judgement) → Type 0
MayPlaceAll cell [] = Unit {0}
MayPlaceAll cell (decided ∷ rest) = MayPlace cell decided × MayPlaceAll (after_claim cell decided) rest

-- the placed claims of a commit can be placed one after the other
abbrev pub PlacesInOrder : Cell → Entry → Type 0
PlacesInOrder cell (Commit scheduler seen txn reply) = MayPlaceAll cell (zip txn.claims reply)
PlacesInOrder cell _ = Unit {0}

-- an entry may be applied to a cell: a capacity is at most the greatest quantity, there is room for the
-- machine, the sequence numbers that rise can rise, an end names a running task on its machine, and the
-- placed claims of a commit can be placed in order
pub record MayApply (cell : Cell) (seqs : ℕ → ℕ) (entry : Entry) : Type 0 where
  pub capacity : CapacityIsInRange entry
  pub machines : IfSome (machine_in entry) (ListsOrHasRoom cell.machines)
  pub numbers : (id : ℕ) → IsTrue (touches id entry) → seqs id < 2 ^ 64 - 1
  pub ends : EndsRunning cell.tasks entry
  pub places : PlacesInOrder cell entry

-- each entry could be applied to the state of those before it
abbrev pub EachMayApply : List Entry → Type 0
EachMayApply history = (place : ℕ) (entry : Entry) → slice_get history place ≡ Some entry
    → MayApply (state (take place history)) (seq (take place history)) entry
