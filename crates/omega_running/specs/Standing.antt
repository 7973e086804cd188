-- Whether a task is among others, with the same machine and spec.
use Rattle.std.specs.Prelude.{Bool, List, ◌==◌, ◌&&◌, not, false, if◌then◌else◌}
use Rattle.std.specs.Option.{option_map_or}
use Rattle.omega_model.specs.Cell.{task_at}
use Rattle.omega_model.specs.Keys.{same_key}
use Rattle.omega_model.specs.declared.cells.Need.{Need}
use Rattle.omega_model.specs.declared.cells.Spec.{Spec}
use Rattle.omega_model.specs.declared.cells.Task.{Task}

-- whether two tasks ask for the same amount
abbrev pub same_need : Need → Need → Bool
same_need a b = a.cpu == b.cpu && a.mem == b.mem && a.disk == b.disk

-- whether two tasks ask for the same
abbrev pub same_spec : Spec → Spec → Bool
same_spec a b = same_need a.need b.need && a.prec == b.prec && (if a.differ then b.differ else not b.differ)

-- whether two tasks have the same key, machine and spec
abbrev pub same_task : Task → Task → Bool
same_task a b = same_key a.key b.key && a.machine == b.machine && same_spec a.spec b.spec

-- whether a task is among some, with the same machine and spec
abbrev pub stands_in : List Task → Task → Bool
stands_in tasks task = option_map_or (λ other. same_task other task) (task_at tasks task.key) false
