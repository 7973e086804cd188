-- A table of machines, as the list of their states in order of first mention.
pub use Rattle.omega_machines.specs.declared.MachineState.{MachineState}
use Rattle.std.specs.Prelude.{◌≡◌, ℕ, ◌+◌, ◌≤◌, false, List, [], ◌∷◌, ◌++◌, Option, Some, None, ◌==◌, nat_eq, map, length, if◌then◌else◌}
use Rattle.std.specs.List.{All, IsDistinct, find}
use Rattle.std.specs.Option.{option_map_or, option_and_then}
use Rattle.omega_model.specs.ExtraTasks.{sum_of}
use Rattle.omega_model.specs.Fields.{greatest}
use Rattle.omega_model.specs.Limits.{most_machines}
use Rattle.omega_model.specs.Machines.{is_listed, numbers_of, new_machine, added, updated}
use Rattle.omega_model.specs.Need.{Fits, nothing, plus, minus}
use Rattle.omega_model.specs.declared.cells.Need.{Need}
use Rattle.omega_model.specs.declared.cells.Machine.{Machine}

-- the machines alone
abbrev pub machines_of : List MachineState → List Machine
machines_of table = map (λ state. state.machine) table

-- the state of the machine of this number, if it is in the table
abbrev pub state_at : List MachineState → ℕ → Option MachineState
state_at table id = find (λ state. state.machine.id == id) table

-- what is in use on a machine: its capacity less what is free
abbrev pub used : MachineState → Need
used state = minus state.machine.cap state.free

-- what is in use on the machine of this number, nothing where it isn't in the table
abbrev pub use_at : List MachineState → ℕ → Need
use_at table id = option_map_or used (state_at table id) nothing

-- what is free on a machine, if it is up
abbrev pub free_if_up : MachineState → Option Need
free_if_up state = if state.machine.up then Some state.free else None

-- what is free on the machine of this number, if it is in the table and up
abbrev pub free_at : List MachineState → ℕ → Option Need
free_at table id = option_and_then free_if_up (state_at table id)

-- what is in use on a machine, and its capacity: nothing where it isn't up
abbrev pub used_if_up : MachineState → Need
used_if_up state = if state.machine.up then used state else nothing

abbrev pub cap_if_up : MachineState → Need
cap_if_up state = if state.machine.up then state.machine.cap else nothing

-- what is in use on all machines that are up, and the capacity of these
abbrev pub used_by_all : List MachineState → Need
used_by_all table = sum_of (map used_if_up table)

abbrev pub capacity_of_all : List MachineState → Need
capacity_of_all table = sum_of (map cap_if_up table)

-- the sequence number of the machine of this number, 0 where it isn't in the table
abbrev pub seq_at : List MachineState → ℕ → ℕ
seq_at table id = option_map_or (λ state. state.seq) (state_at table id) 0

-- the state of the machine of this number changed, all others as they are
abbrev pub change_state : ℕ → (MachineState → MachineState) → List MachineState → List MachineState
change_state id changed table = map (λ state. if state.machine.id == id then changed state else state) table

-- the state of a machine when it is first mentioned
abbrev pub new_state : ℕ → MachineState
new_state id = record { machine = new_machine id; free = nothing; seq = 0 }

-- the table, with a new machine at its end where the number isn't in it
abbrev pub ensured_states : ℕ → List MachineState → List MachineState
ensured_states id table = if is_listed id (machines_of table) then table else table ++ new_state id ∷ []

-- the machine up, with this capacity; what is in use stays in use
abbrev pub state_added : Need → MachineState → MachineState
state_added cap state = record state { machine = added cap state.machine; free = minus cap (used state) }

-- the machine with this capacity, up or down as it was; what is in use stays in use
abbrev pub state_updated : Need → MachineState → MachineState
state_updated cap state = record state { machine = updated cap state.machine; free = minus cap (used state) }

-- this machine, with so much of it in use, touched by so many entries
abbrev pub state_put : Machine → Need → ℕ → MachineState
state_put machine used seq = record { machine = machine; free = minus machine.cap used; seq = seq }

-- the machine changed, with as much free on it as before
abbrev pub with_machine : (Machine → Machine) → MachineState → MachineState
with_machine changed state = record state { machine = changed state.machine }

-- so much less is free
abbrev pub charged : Need → MachineState → MachineState
charged need state = record state { free = minus state.free need }

-- so much more is free
abbrev pub released : Need → MachineState → MachineState
released need state = record state { free = plus state.free need }

-- one more entry has touched the machine
abbrev pub touched : MachineState → MachineState
touched state = record state { seq = state.seq + 1 }

-- the bounds of a machine: its capacity is at most the greatest quantity, what is free is at most its capacity,
-- and while it is down nothing is in use
pub record IsBounded (state : MachineState) : Type 0 where
  pub cap : Fits state.machine.cap greatest
  pub free : Fits state.free state.machine.cap
  pub down : state.machine.up ≡ false → state.free ≡ state.machine.cap

-- what every table keeps: few machines, of distinct numbers, each within its bounds
pub record IsTable (table : List MachineState) : Type 0 where
  pub few : length table ≤ most_machines
  pub distinct : IsDistinct nat_eq (numbers_of (machines_of table))
  pub bounded : All IsBounded table
