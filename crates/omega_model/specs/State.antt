-- The cell after a history.
use Rattle.std.specs.Prelude.{ℕ, Bool, List, [], ◌∷◌, ◌==◌, ◌&&◌, not, if◌then◌else◌}
use Rattle.std.specs.List.{filter, fold, zip}
use Rattle.omega_model.specs.Need.{fits}
use Rattle.omega_model.specs.Keys.{same_key}
use Rattle.omega_model.specs.Cell.{Cell, empty_cell, is_on, total, by_rank, keys_of, without}
use Rattle.omega_model.specs.Machines.{change, ensured, added, updated, removed, attr_set, attr_deleted}
use Rattle.omega_model.specs.Reply.{tasks_after_claim, reply_on}
use Rattle.omega_model.specs.declared.cells.Machine.{Machine}
use Rattle.omega_model.specs.declared.cells.Need.{Need}
use Rattle.omega_model.specs.declared.cells.Task.{Task}
use Rattle.omega_model.specs.declared.cells.TaskKey.{TaskKey}
use Rattle.omega_model.specs.declared.claims.Txn.{Txn}
use Rattle.omega_model.specs.declared.claims.Judgement.{Judgement}
use Rattle.omega_model.specs.declared.entries.Entry.{Entry}
use Rattle.omega_model.specs.declared.entries.Entry.TheVariants.{Round, MachineAdd, MachineUpdate, MachineRemove, AttrSet, AttrDelete, End, Commit}

-- the shortest beginning of some tasks without which the rest fit a capacity
abbrev pub excess : Need → List Task → List Task
excess cap [] = []
excess cap (task ∷ tasks) = if fits (total (task ∷ tasks)) cap then [] else task ∷ excess cap tasks

-- the tasks on a machine in order of precedence, job, index
abbrev pub ranked_on : ℕ → List Task → List Task
ranked_on id tasks = by_rank (filter (is_on id) tasks)

-- the tasks that an entry displaces, in the order in which they stop: with a new capacity as few as
-- make the rest fit, with the removal of the machine all of them
abbrev pub displaced : List Task → Entry → List Task
displaced tasks (Round number) = []
displaced tasks (MachineAdd machine cap) = excess cap (ranked_on machine tasks)
displaced tasks (MachineUpdate machine cap) = excess cap (ranked_on machine tasks)
displaced tasks (MachineRemove machine) = ranked_on machine tasks
displaced tasks (AttrSet machine name value) = []
displaced tasks (AttrDelete machine name) = []
displaced tasks (End key machine) = []
displaced tasks (Commit scheduler seen txn reply) = []

-- the machines after an entry
abbrev pub machines_after : List Machine → Entry → List Machine
machines_after machines (Round number) = machines
machines_after machines (MachineAdd machine cap) = change machine (added cap) (ensured machine machines)
machines_after machines (MachineUpdate machine cap) = change machine (updated cap) (ensured machine machines)
machines_after machines (MachineRemove machine) = change machine removed (ensured machine machines)
machines_after machines (AttrSet machine name value) = change machine (attr_set name value) (ensured machine machines)
machines_after machines (AttrDelete machine name) = change machine (attr_deleted name) (ensured machine machines)
machines_after machines (End key machine) = machines
machines_after machines (Commit scheduler seen txn reply) = machines

-- whether this task isn't the one of this name on this machine
abbrev pub goes_on : TaskKey → ℕ → Task → Bool
goes_on key machine task = not (same_key task.key key && task.machine == machine)

-- the running tasks after an entry
abbrev pub tasks_after : List Task → Entry → List Task
tasks_after tasks (Round number) = tasks
tasks_after tasks (MachineAdd machine cap) = without (keys_of (displaced tasks (MachineAdd machine cap))) tasks
tasks_after tasks (MachineUpdate machine cap) = without (keys_of (displaced tasks (MachineUpdate machine cap))) tasks
tasks_after tasks (MachineRemove machine) = without (keys_of (displaced tasks (MachineRemove machine))) tasks
tasks_after tasks (AttrSet machine name value) = tasks
tasks_after tasks (AttrDelete machine name) = tasks
tasks_after tasks (End key machine) = filter (goes_on key machine) tasks
tasks_after tasks (Commit scheduler seen txn reply) = fold tasks_after_claim tasks (zip txn.claims reply)

-- the cell after one more entry
abbrev pub step : Cell → Entry → Cell
step cell entry = record { machines = machines_after cell.machines entry; tasks = tasks_after cell.tasks entry }

-- the cell after a history that starts from nothing
abbrev pub state : List Entry → Cell
state history = fold step empty_cell history

-- the reply to a transaction on the state of the history
abbrev pub reply_of : List Entry → ℕ → Txn → List Judgement
reply_of history seen txn = reply_on history (state history) seen txn
