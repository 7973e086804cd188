-- How the machines of a table are found by number.
use Rattle.std.specs.Prelude.{◌≡◌, ◌↔◌, ℕ, List, Some, slice_get}
use Rattle.std.specs.BTreeMap as tree
use Rattle.std.specs.BTreeMap.{BTreeMap}
use Rattle.std.specs.Ordering.{nat_cmp}
use Rattle.omega_model.specs.Machines.{numbers_of}
use Rattle.omega_model.specs.declared.cells.Machine.{Machine}
use Rattle.omega_machines.specs.Load.{AreSummed}
use Rattle.omega_machines.specs.Names.{AreIndexed}
use Rattle.omega_machines.specs.Table.{MachineState, machines_of}
use Rattle.omega_machines.specs.declared.load.Load.{Load}
use Rattle.omega_machines.specs.declared.names.NameIndex.{NameIndex}

-- the map gives for each number the place at which its machine stands, which is the only one
abbrev pub ArePlaced : BTreeMap ℕ ℕ → List Machine → Type 0
ArePlaced places machines = (id place : ℕ) → (tree.get nat_cmp places id ≡ Some place) ↔ (slice_get (numbers_of machines) place ≡ Some id)

-- the states are a table with this load, and the map finds their machines
pub record IsKept (places : BTreeMap ℕ ℕ) (states : List MachineState) (load : Load) : Type 0 where
  pub placed : ArePlaced places (machines_of states)
  pub summed : AreSummed states load

-- and each index of names that is kept is that of a machine's attributes
pub record IsWhole (places : BTreeMap ℕ ℕ) (indexes : BTreeMap ℕ NameIndex) (states : List MachineState) (load : Load) : Type 0 where
  pub kept : IsKept places states load
  pub indexed : AreIndexed indexes states
