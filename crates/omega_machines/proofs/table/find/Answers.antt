use Rattle.std.proofs.Common.{◌∙◌, sym}
use Rattle.omega_machines.specs.Table.{machines_of}
use Rattle.omega_machines.proofs.Places.{found_position}
use Rattle.omega_machines.proofs.table.find.Goals as goal

pub returns-in-Some : goal.returns-in-Some
returns-in-Some c =
    let machines = machines_of c.args.states.now in
    sym ((c.requires c.args.id c.in-Some.place).1 c.in-Some.ensures) ∙ found_position c.args.id c.args.places.now machines c.requires

pub returns : goal.returns
returns c =
    c.copied.ensures ∙ c.get.ensures.value ∙ found_position c.args.id c.args.places.now (machines_of c.args.states.now) c.requires
