-- The wish for a task: how it is to run, and on which machines it may.
use Rattle.std.specs.Prelude.{List, map}
use Rattle.std.specs.List.{filter}
use Rattle.omega_model.specs.Keys.{same_key}
use Rattle.omega_model.specs.Wanted.{WantedTask}
use Rattle.omega_model.specs.declared.rows.TraceTables.{TraceTables}
use Rattle.omega_model.specs.declared.wishes.Constraint.{Constraint}
use Rattle.omega_model.specs.declared.wishes.Wish.{Wish}

-- the constraints of a task: those of all rows for it, whatever their times
abbrev pub constraints_of : TraceTables → WantedTask → List Constraint
constraints_of trace task = map (λ row. row.constraint) (filter (λ row. same_key row.key task.key) trace.constraints)

-- the wish of a wanted task
abbrev pub wish_of : TraceTables → WantedTask → Wish
wish_of trace task = record { key = task.key; spec = task.spec; constraints = constraints_of trace task }
