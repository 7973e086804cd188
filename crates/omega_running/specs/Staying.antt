-- What stays in use on a machine where a wish may evict all tasks of a lower precedence.
use Rattle.std.specs.Prelude.{ℕ, Bool, List, nat_le}
use Rattle.std.specs.List.{filter}
use Rattle.omega_model.specs.Cell.{is_on, total}
use Rattle.omega_model.specs.declared.cells.Need.{Need}
use Rattle.omega_model.specs.declared.cells.Task.{Task}
use Rattle.omega_running.specs.Order.{in_share}

-- whether a wish of this precedence can't evict a task: that has at least the same
abbrev pub stays_against : ℕ → Task → Bool
stays_against prec task = nat_le prec task.spec.prec

-- what the tasks on a machine that a wish of this precedence can't evict use together
abbrev pub staying_on : ℕ → List Task → ℕ → Need
staying_on prec tasks machine = total (filter (stays_against prec) (filter (is_on machine) tasks))

-- what those of them use together that stand in one of the machine's trees
abbrev pub staying_of_share : ℕ → List Task → ℕ → ℕ → Need
staying_of_share prec tasks machine number = total (filter (stays_against prec) (filter (in_share number) (filter (is_on machine) tasks)))
