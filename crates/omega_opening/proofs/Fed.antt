-- The entries of a round and of its rows may be fed to the cell.
use Rattle.std.proofs.Common.{◌≡◌, Bool, true, false, List, [], ◌∷◌, ◌++◌, map, Option, Some, refl, ap, subst, sym, ◌∙◌}
use Rattle.std.specs.Prelude.{◌==◌, if◌then◌else◌, All, IsSomeAnd}
use Rattle.std.proofs.lemmas.List.Elements.{All-head}
use Rattle.omega_model.specs.Applying.{CapacityIsInRange}
use Rattle.omega_model.specs.Cell.{Cell, task_at}
use Rattle.omega_model.specs.Fields.{MachineFields, AttrFields, DiskFields}
use Rattle.omega_model.specs.State.{state}
use Rattle.omega_model.specs.RowEntries.{row_entries}
use Rattle.omega_model.specs.Wanted.{WantedTask, attr_entry, capacity_from, machine_entry}
use Rattle.omega_model.specs.declared.cells.Task.{Task}
use Rattle.omega_model.specs.declared.entries.Entry.{Entry}
use Rattle.omega_model.specs.declared.entries.Entry.TheVariants.{MachineAdd, MachineUpdate, MachineRemove, AttrSet, AttrDelete}
use Rattle.omega_model.specs.declared.rows.Row.{Row}
use Rattle.omega_model.specs.declared.rows.Row.TheVariants.{Machine, Attr, Task as TaskEvent}
use Rattle.omega_model.proofs.RowEnds.{EndInTurn, end_task, stop_in_turn, stopped_by, stops}
use Rattle.omega_feed.specs.Index.{HasLowTask}
use Rattle.omega_opening.specs.Opening.{MayFeed, MayFeedAll}

-- the end of a running task
end_may : (history : List Entry) (task : Task) → task_at (state history).tasks task.key ≡ Some task → MayFeed history (end_task task)
end_may history task runs = record {
  no_commit = refl;
  capacity = tt;
  ends = subst (λ (o : Option Task). IsSomeAnd o (λ (t : Task). t.machine ≡ task.machine)) (sym runs) refl;
}

-- the ends of tasks that end one after the other
ends_may : (history : List Entry) (some : List Task) → EndInTurn history some → MayFeedAll history (map end_task some)
ends_may history [] turn = tt
ends_may history (task ∷ some) turn = (end_may history task turn.0, ends_may (history ++ end_task task ∷ []) some turn.1)

machine_may : (history : List Entry) (disks : List DiskFields) (row : MachineFields) → CapacityIsInRange (machine_entry disks row)
    → MayFeed history (machine_entry disks row)
machine_may history disks row =
    elim (row.code == 0) as (λ adds. CapacityIsInRange (entry adds) → MayFeed history (entry adds)) [
      | true ↦ λ fits. record { no_commit = refl; capacity = fits; ends = tt }
      | false ↦
          elim (row.code == 1) as (λ removes. CapacityIsInRange (entry_of removes) → MayFeed history (entry_of removes)) [
            | true ↦ λ fits. record { no_commit = refl; capacity = tt; ends = tt }
            | false ↦ λ fits. record { no_commit = refl; capacity = fits; ends = tt }
          ]
    ] where
      entry_of : Bool → Entry
      entry_of removes = if removes then MachineRemove row.machine else MachineUpdate row.machine (capacity_from disks row)

      entry : Bool → Entry
      entry adds = if adds then MachineAdd row.machine (capacity_from disks row) else entry_of (row.code == 1)

attr_may : (history : List Entry) (row : AttrFields) → MayFeed history (attr_entry row)
attr_may history row =
    elim row.deleted as (λ deleted. MayFeed history (if deleted then AttrDelete row.machine row.name else AttrSet row.machine row.name row.value)) [
      | true ↦ record { no_commit = refl; capacity = tt; ends = tt }
      | false ↦ record { no_commit = refl; capacity = tt; ends = tt }
    ]

row_may : (history : List Entry) (disks : List DiskFields) (left : List WantedTask) (row : Row) → HasLowTask row
    → All CapacityIsInRange (row_entries disks (state history) left row)
    → MayFeedAll history (row_entries disks (state history) left row)
row_may history disks left (Machine row) low range = (machine_may history disks row (All-head CapacityIsInRange (machine_entry disks row) [] range), tt)
row_may history disks left (Attr row) low range = (attr_may history row, tt)
row_may history disks left (TaskEvent row) low range =
    rw (stops (state history) left row) (ends_may history (stopped_by (state history) left row) (stop_in_turn history left row low))

-- the entries of a row, made on the cell of a history, may be fed to it
pub made_may : (history : List Entry) (disks : List DiskFields) (left : List WantedTask) (row : Row) (cell : Cell) (entries : List Entry)
    → HasLowTask row → cell ≡ state history → entries ≡ row_entries disks cell left row → All CapacityIsInRange entries
    → MayFeedAll history entries × (entries ≡ row_entries disks (state history) left row)
made_may history disks left row cell entries low now made range =
    let same : entries ≡ row_entries disks (state history) left row = made ∙ ap (λ (c : Cell). row_entries disks c left row) now in (
      subst (λ (es : List Entry). MayFeedAll history es) (sym same)
          (row_may history disks left row low (subst (λ (es : List Entry). All CapacityIsInRange es) same range)),
      same,
    )
