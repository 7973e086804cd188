-- The limits over all six tables.
use Rattle.std.specs.Prelude.{ℕ, ◌+◌, ◌≤◌, nat_lt, List, ◌++◌, length, map, Option, Some, None, if◌then◌else◌}
use Rattle.omega_model.specs.Feed.{each_once}
use Rattle.omega_model.specs.declared.results.Kind.{Kind}
use Rattle.omega_model.specs.declared.results.Kind.TheVariants.{Rows, Machines}
use Rattle.omega_model.specs.declared.rows.TraceTables.{TraceTables}

-- how many rows the six tables have
abbrev pub row_count : TraceTables → ℕ
row_count trace =
    length trace.machines + length trace.attrs + length trace.tasks + length trace.constraints + length trace.activities
    + length trace.disks

-- the machines that the rows of machines and those of attributes name
abbrev pub named_machines : TraceTables → List ℕ
named_machines trace = map (λ row. row.machine) trace.machines ++ map (λ row. row.machine) trace.attrs

-- how many different machines these are
abbrev pub machine_count : TraceTables → ℕ
machine_count trace = length (each_once (named_machines trace))

-- how many rows all tables may have
abbrev pub most_rows : ℕ
most_rows = 2000000

-- how many machines there may be
abbrev pub most_machines : ℕ
most_machines = 65536

-- the tables keep both limits
pub record IsWithinLimits (trace : TraceTables) : Type 0 where
  pub rows : row_count trace ≤ most_rows
  pub machines : machine_count trace ≤ most_machines

-- the number of different machines, where it passes its limit
abbrev pub machines_passed : TraceTables → Option (Kind × ℕ)
machines_passed trace =
    if nat_lt most_machines (machine_count trace) then Some (Machines, machine_count trace) else None

-- the first number that passes its limit: that of the rows, then that of the different machines
abbrev pub limit_passed : TraceTables → Option (Kind × ℕ)
limit_passed trace = if nat_lt most_rows (row_count trace) then Some (Rows, row_count trace) else machines_passed trace
