use Rattle.std.proofs.Common.{◌≡◌, List, sym, subst}
use Rattle.std.specs.Prelude.{IfOk}
use Rattle.omega_model.specs.RowEntries.{row_entries}
use Rattle.omega_model.specs.declared.cells.Machine.{Machine}
use Rattle.omega_model.specs.declared.rows.Row.{Row}
use Rattle.omega_feed.proofs.entries.entries_of.Goals as goal

pub returns-in-Task-clause-entries : goal.returns-in-Task-clause-entries
returns-in-Task-clause-entries c =
    subst
    (λ (row : Row). IfOk c.task_entries.result (λ entries. (machines : List Machine)
    → entries ≡ row_entries c.args.disks.now (record { machines = machines; tasks = c.args.running.now.tasks }) c.args.left.now row))
    (sym c.in-Task.is) c.task_entries.ensures.entries
