use Rattle.std.proofs.Common.{◌∙◌, ap}
use Rattle.std.specs.Prelude.{is_some}
use Rattle.omega_model.specs.Machines.{is_listed}
use Rattle.omega_machines.specs.Table.{machines_of}
use Rattle.omega_machines.proofs.Places.{listed_position}
use Rattle.omega_machines.proofs.table.MachineTable.position.Goals as goal

pub find-requires : goal.find-requires
find-requires c = rw c.deref.ensures.value c.self.invariant.kept.placed

pub returns-clause-listed : goal.returns-clause-listed
returns-clause-listed c =
    ap is_some c.find.ensures
    ∙ listed_position c.args.id (machines_of c.deref.result.now)
    ∙ ap (λ table. is_listed c.args.id (machines_of table)) (c.deref.ensures.value ∙ c.self.view_is)

pub returns-clause-place : goal.returns-clause-place
returns-clause-place c = rw (← c.self.view_is, ← c.deref.ensures.value) c.find.ensures
