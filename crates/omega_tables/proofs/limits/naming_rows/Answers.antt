use Rattle.std.proofs.Common.{length, length-append, map, ap, arith}
use Rattle.std.proofs.lemmas.List.{length-map}
use Rattle.omega_model.specs.Limits.{named_machines}
use Rattle.omega_model.proofs.Fewer.{once_fewer}
use Rattle.omega_tables.proofs.limits.naming_rows.Goals as goal

pub returns : goal.returns
returns c =
    let tables = c.args.tables.now in
    let once = once_fewer (named_machines tables) in
    let both = length-append (map (λ row. row.machine) tables.machines) (map (λ row. row.machine) tables.attrs) in
    let machines = length-map tables.machines (λ row. row.machine) in
    let attrs = length-map tables.attrs (λ row. row.machine) in
    let first = ap length c.as_slice.ensures in
    let second = ap length c.as_slice-2.ensures in
    omega (arith, once, both, machines, attrs, first, second)
