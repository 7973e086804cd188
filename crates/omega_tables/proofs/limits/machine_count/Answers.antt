use Rattle.std.proofs.Common.{◌∙◌, [], refl}
use Rattle.omega_tables.specs.Checking.{Holds}
use Rattle.omega_tables.proofs.limits.machine_count.Goals as goal

pub returns : goal.returns
returns c =
    let none : Holds c.new-named.result [] = record { count = c.new-named.ensures.len; members = λ id. rw c.new-named.ensures.empty refl } in
    let first = c.in_ok-add_machines.ensures [] none in
    let both = c.in_ok-add_attr_machines.ensures _ first in
    c.len.ensures.len ∙ rw (c.as_slice.ensures, c.as_slice-2.ensures) at both.count
