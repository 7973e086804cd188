-- Worked answers: the order of the rows, the cut into rounds, the wanted tasks and the entries of rows.
use Rattle.std.proofs.Common.{◌≡◌, ℕ, Bool, true, false, List, [], ◌∷◌, refl, map}
use Rattle.omega_model.specs.Fields.{MachineFields, AttrFields, TaskFields, DiskFields}
use Rattle.omega_model.specs.Cell.{Cell, empty_cell}
use Rattle.omega_model.specs.Feed.{feed, rounds, each_once}
use Rattle.omega_model.specs.RowEntries.{row_entries}
use Rattle.omega_model.specs.Wanted.{WantedTask, wanted}
use Rattle.omega_model.specs.State.{state}
use Rattle.omega_model.specs.declared.cells.Need.{Need}
use Rattle.omega_model.specs.declared.cells.Spec.{Spec}
use Rattle.omega_model.specs.declared.cells.TaskKey.{TaskKey}
use Rattle.omega_model.specs.declared.claims.Claim.{Claim}
use Rattle.omega_model.specs.declared.claims.Judgement.{Judgement}
use Rattle.omega_model.specs.declared.claims.Mode.TheVariants.{Incremental}
use Rattle.omega_model.specs.declared.claims.Rule.TheVariants.{Fine}
use Rattle.omega_model.specs.declared.claims.Verdict.TheVariants.{Placed}
use Rattle.omega_model.specs.declared.entries.Entry.TheVariants.{MachineAdd, MachineUpdate, MachineRemove, AttrSet, AttrDelete, End, Commit}
use Rattle.omega_model.specs.declared.rows.Row.{Row}
use Rattle.omega_model.specs.declared.rows.Row.TheVariants.{Machine, Attr, Task}
use Rattle.omega_model.specs.declared.rows.Round.{Round}
use Rattle.omega_model.specs.declared.rows.TraceTables.{TraceTables}

unfoldable amount : ℕ → Need
amount n = record { cpu = n; mem = n; disk = 0 }

-- a capacity: a machine without a row of its own has the greatest disk
unfoldable room : ℕ → Need
room n = record { cpu = n; mem = n; disk = 1000000000000 }

-- a claim that is placed and evicts nothing
unfoldable placed : Judgement
placed = record { verdict = Placed; evicted = [] }

unfoldable task_key : ℕ → ℕ → TaskKey
task_key job index = record { job = job; index = index }

unfoldable spec_of : ℕ → Spec
spec_of n = record { need = amount n; prec = 1; differ = false }

unfoldable machine_row : ℕ → ℕ → ℕ → MachineFields
machine_row time machine code = record { time = time; machine = machine; code = code; cap = amount 10 }

unfoldable attr_row : ℕ → ℕ → Bool → AttrFields
attr_row time machine deleted = record { time = time; machine = machine; name = 107 ∷ []; value = 49 ∷ []; deleted = deleted }

-- a row for task 0 of job 1, or for task 1, with this code and need
unfoldable task_row : ℕ → ℕ → ℕ → ℕ → TaskFields
task_row time index code n = record { time = time; key = task_key 1 index; code = code; class = 0; spec = spec_of n }

-- three tables whose files aren't in order of time
unfoldable mixed : TraceTables
mixed = record {
  machines = machine_row 5 1 0 ∷ machine_row 0 2 0 ∷ machine_row 5 3 0 ∷ [];
  attrs = attr_row 5 1 false ∷ attr_row 0 2 false ∷ [];
  tasks = task_row 25 0 0 1 ∷ task_row 5 0 0 2 ∷ task_row 5 1 0 3 ∷ task_row 0 0 0 4 ∷ [];
  constraints = [];
  activities = [];
  disks = [];
}

-- rows of one time stand by table, and those of one table as in its file
in_order : feed mixed ≡
    Machine (machine_row 0 2 0) ∷ Attr (attr_row 0 2 false) ∷ Task (task_row 0 0 0 4)
    ∷ Machine (machine_row 5 1 0) ∷ Machine (machine_row 5 3 0) ∷ Attr (attr_row 5 1 false)
    ∷ Task (task_row 5 0 0 2) ∷ Task (task_row 5 1 0 3) ∷ Task (task_row 25 0 0 1) ∷ []
unfolding amount task_key spec_of machine_row attr_row task_row mixed
in_order = refl

-- with a window of 10 there are rounds 0 and 2, and no round 1
without_gap : rounds mixed 10 ≡
    record {
      number = 0;
      rows = Machine (machine_row 0 2 0) ∷ Attr (attr_row 0 2 false) ∷ Task (task_row 0 0 0 4)
          ∷ Machine (machine_row 5 1 0) ∷ Machine (machine_row 5 3 0) ∷ Attr (attr_row 5 1 false)
          ∷ Task (task_row 5 0 0 2) ∷ Task (task_row 5 1 0 3) ∷ [];
    }
    ∷ record { number = 2; rows = Task (task_row 25 0 0 1) ∷ [] } ∷ []
unfolding amount task_key spec_of machine_row attr_row task_row mixed
without_gap = refl

-- a row at the very end of a window is of the next round
at_the_edge : map (λ (round : Round). round.number) (rounds mixed 5) ≡ 0 ∷ 1 ∷ 5 ∷ []
unfolding amount task_key spec_of machine_row attr_row task_row mixed
at_the_edge = refl

-- each number stays where it stood first
once : each_once (3 ∷ 1 ∷ 3 ∷ 2 ∷ 1 ∷ []) ≡ 3 ∷ 1 ∷ 2 ∷ []
once = refl

-- the wanted task of this index of job 1, with this need
unfoldable asked : ℕ → ℕ → WantedTask
asked index n = record { key = task_key 1 index; spec = spec_of n }

-- a row of task 0 with this code and need
unfoldable row_of : ℕ → ℕ → Row
row_of code n = Task (task_row 0 0 code n)

-- task 1 is submitted before task 0; the wanted tasks stand in order of index
by_index : wanted (Task (task_row 0 1 0 7) ∷ row_of 0 2 ∷ []) ≡ asked 0 2 ∷ asked 1 7 ∷ []
unfolding amount task_key spec_of task_row row_of asked
by_index = refl

-- a schedule makes a task wanted, as a submission does
scheduled : wanted (row_of 1 2 ∷ []) ≡ asked 0 2 ∷ []
unfolding amount task_key spec_of task_row row_of asked
scheduled = refl

-- a second submission or schedule replaces what is asked for
replaced : wanted (row_of 0 2 ∷ row_of 1 3 ∷ row_of 0 4 ∷ []) ≡ asked 0 4 ∷ []
unfolding amount task_key spec_of task_row row_of asked
replaced = refl

-- an eviction in the trace changes nothing, whether the task is wanted or not
evicted : wanted (row_of 2 9 ∷ row_of 0 2 ∷ row_of 2 3 ∷ []) ≡ asked 0 2 ∷ []
unfolding amount task_key spec_of task_row row_of asked
evicted = refl

-- updates of a wanted task replace what is asked for
updated_pending : wanted (row_of 0 2 ∷ row_of 7 3 ∷ []) ≡ asked 0 3 ∷ []
unfolding amount task_key spec_of task_row row_of asked
updated_pending = refl

updated_running : wanted (row_of 0 2 ∷ row_of 8 3 ∷ []) ≡ asked 0 3 ∷ []
unfolding amount task_key spec_of task_row row_of asked
updated_running = refl

-- updates of a task that isn't wanted do nothing
updated_unwanted : wanted (row_of 7 3 ∷ row_of 8 3 ∷ []) ≡ []
unfolding amount task_key spec_of task_row row_of
updated_unwanted = refl

-- a task that ended isn't wanted, and an update doesn't bring it back
ended : wanted (row_of 0 2 ∷ row_of 4 2 ∷ row_of 7 3 ∷ []) ≡ []
unfolding amount task_key spec_of task_row row_of
ended = refl

-- each of the four ends takes one task away and leaves the others
failure : wanted (row_of 0 2 ∷ Task (task_row 0 1 0 7) ∷ row_of 3 2 ∷ []) ≡ asked 1 7 ∷ []
unfolding amount task_key spec_of task_row row_of asked
failure = refl

finish : wanted (row_of 0 2 ∷ Task (task_row 0 1 0 7) ∷ row_of 4 2 ∷ []) ≡ asked 1 7 ∷ []
unfolding amount task_key spec_of task_row row_of asked
finish = refl

kill : wanted (row_of 0 2 ∷ Task (task_row 0 1 0 7) ∷ row_of 5 2 ∷ []) ≡ asked 1 7 ∷ []
unfolding amount task_key spec_of task_row row_of asked
kill = refl

loss : wanted (row_of 0 2 ∷ Task (task_row 0 1 0 7) ∷ row_of 6 2 ∷ []) ≡ asked 1 7 ∷ []
unfolding amount task_key spec_of task_row row_of asked
loss = refl

-- a task that ended is wanted again once it is submitted again
again : wanted (row_of 0 2 ∷ row_of 5 2 ∷ row_of 0 3 ∷ []) ≡ asked 0 3 ∷ []
unfolding amount task_key spec_of task_row row_of asked
again = refl

-- rows of the other tables change no wish
other_tables : wanted (Machine (machine_row 0 1 1) ∷ row_of 0 2 ∷ Attr (attr_row 0 1 true) ∷ []) ≡ asked 0 2 ∷ []
unfolding amount task_key spec_of machine_row attr_row task_row row_of asked
other_tables = refl

-- the entries of machine rows: added, removed, updated
machine_added : row_entries [] empty_cell [] (Machine (machine_row 0 1 0)) ≡ MachineAdd 1 (room 10) ∷ []
unfolding amount machine_row room
machine_added = refl

machine_removed : row_entries [] empty_cell [] (Machine (machine_row 0 1 1)) ≡ MachineRemove 1 ∷ []
unfolding amount machine_row room
machine_removed = refl

machine_updated : row_entries [] empty_cell [] (Machine (machine_row 0 1 2)) ≡ MachineUpdate 1 (room 10) ∷ []
unfolding amount machine_row room
machine_updated = refl

-- machines whose disk has rows: the last one for a machine counts
unfoldable disk_row : ℕ → ℕ → DiskFields
disk_row machine disk = record { machine = machine; disk = disk }

unfoldable with_disks : List DiskFields
with_disks = disk_row 1 5 ∷ disk_row 2 7 ∷ disk_row 1 900000 ∷ disk_row 3 0 ∷ []

last_disk : row_entries with_disks empty_cell [] (Machine (machine_row 0 1 0)) ≡ MachineAdd 1 (record { cpu = 10; mem = 10; disk = 900000 }) ∷ []
unfolding amount machine_row disk_row with_disks
last_disk = refl

updated_disk : row_entries with_disks empty_cell [] (Machine (machine_row 9 2 2)) ≡ MachineUpdate 2 (record { cpu = 10; mem = 10; disk = 7 }) ∷ []
unfolding amount machine_row disk_row with_disks
updated_disk = refl

no_disk : row_entries with_disks empty_cell [] (Machine (machine_row 0 3 0)) ≡ MachineAdd 3 (record { cpu = 10; mem = 10; disk = 0 }) ∷ []
unfolding amount machine_row disk_row with_disks
no_disk = refl

any_disk : row_entries with_disks empty_cell [] (Machine (machine_row 0 4 0)) ≡ MachineAdd 4 (room 10) ∷ []
unfolding amount room machine_row disk_row with_disks
any_disk = refl

-- the entries of attribute rows: set, or deleted where the row says so
attribute_set : row_entries [] empty_cell [] (Attr (attr_row 0 1 false)) ≡ AttrSet 1 (107 ∷ []) (49 ∷ []) ∷ []
unfolding attr_row
attribute_set = refl

attribute_deleted : row_entries [] empty_cell [] (Attr (attr_row 0 1 true)) ≡ AttrDelete 1 (107 ∷ []) ∷ []
unfolding attr_row
attribute_deleted = refl

unfoldable first_task : Claim
first_task = record { key = task_key 1 0; machine = 4; spec = spec_of 2; victims = [] }

-- task 0 of job 1 runs on machine 4
unfoldable busy : Cell
busy = state (MachineAdd 4 (room 10) ∷ Commit 1 1 (record { job = 1; rule = Fine; mode = Incremental; claims = first_task ∷ [] }) (placed ∷ []) ∷ [])

-- a task that runs is ended on the machine on which it runs, by each of the four codes
ends_running : row_entries [] busy [] (row_of 4 2) ≡ End (task_key 1 0) 4 ∷ []
unfolding amount task_key spec_of task_row row_of first_task busy room placed
ends_running = refl

fails_running : row_entries [] busy [] (row_of 3 2) ≡ End (task_key 1 0) 4 ∷ []
unfolding amount task_key spec_of task_row row_of first_task busy room placed
fails_running = refl

kills_running : row_entries [] busy [] (row_of 5 2) ≡ End (task_key 1 0) 4 ∷ []
unfolding amount task_key spec_of task_row row_of first_task busy room placed
kills_running = refl

loses_running : row_entries [] busy [] (row_of 6 2) ≡ End (task_key 1 0) 4 ∷ []
unfolding amount task_key spec_of task_row row_of first_task busy room placed
loses_running = refl

-- the end of a task that doesn't run gives no entry
ends_waiting : row_entries [] busy [] (Task (task_row 0 1 4 2)) ≡ []
unfolding amount task_key spec_of task_row first_task busy room placed
ends_waiting = refl

-- the other codes give no entry and so leave a running task alone
submits_running : row_entries [] busy (asked 0 2 ∷ []) (row_of 0 2) ≡ []
unfolding amount task_key spec_of task_row row_of asked first_task busy room placed
submits_running = refl

schedules_running : row_entries [] busy (asked 0 2 ∷ []) (row_of 1 2) ≡ []
unfolding amount task_key spec_of task_row row_of asked first_task busy room placed
schedules_running = refl

evicts_running : row_entries [] busy (asked 0 2 ∷ []) (row_of 2 2) ≡ []
unfolding amount task_key spec_of task_row row_of asked first_task busy room placed
evicts_running = refl

updates_pending : row_entries [] busy (asked 0 2 ∷ []) (row_of 7 2) ≡ []
unfolding amount task_key spec_of task_row row_of asked first_task busy room placed
updates_pending = refl

updates_running : row_entries [] busy (asked 0 2 ∷ []) (row_of 8 2) ≡ []
unfolding amount task_key spec_of task_row row_of asked first_task busy room placed
updates_running = refl
