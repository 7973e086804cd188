-- What is in use on the machines of a table that are up, and their capacity, as sums.
use Rattle.std.specs.Prelude.{◌≡◌, ◌<◌, ◌^◌, List}
use Rattle.omega_model.specs.Need.{plus, minus}
use Rattle.omega_model.specs.declared.cells.Need.{Need}
use Rattle.omega_machines.specs.Table.{MachineState, used_if_up, cap_if_up, used_by_all, capacity_of_all, IsTable}
use Rattle.omega_machines.specs.declared.load.Load.{Load}

-- the load of one machine, and of all that are in a table
abbrev pub load_of : MachineState → Load
load_of state = record { used = used_if_up state; capacity = cap_if_up state }

abbrev pub load_of_all : List MachineState → Load
load_of_all table = record { used = used_by_all table; capacity = capacity_of_all table }

-- what is left of a load when another goes
abbrev pub less : Load → Load → Load
less load other = record { used = minus load.used other.used; capacity = minus load.capacity other.capacity }

-- a load in which one comes in the place of another
abbrev pub replaced : Load → Load → Load → Load
replaced load old new = record {
  used = plus (minus load.used old.used) new.used;
  capacity = plus (minus load.capacity old.capacity) new.capacity;
}

-- each component of an amount fits 64 bits
pub record AreWords (need : Need) : Type 0 where
  pub cpu : need.cpu < 2 ^ 64
  pub mem : need.mem < 2 ^ 64
  pub disk : need.disk < 2 ^ 64

-- and so does each of a load
pub record IsInWords (load : Load) : Type 0 where
  pub used : AreWords load.used
  pub capacity : AreWords load.capacity

-- the states are a table, and the load is that of all its machines
pub record AreSummed (states : List MachineState) (load : Load) : Type 0 where
  pub table : IsTable states
  pub sum : load ≡ load_of_all states
