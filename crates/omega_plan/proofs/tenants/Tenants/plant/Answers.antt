use Rattle.std.proofs.Common.{refl}
use Rattle.omega_plan.specs.declared.tenants.Tenants.{Tenants}
use Rattle.omega_plan.proofs.Placing.{beside_same}
use Rattle.omega_plan.proofs.tenants.Tenants.plant.Goals as goal

pub returns : goal.returns
returns c = λ board tasks beside.
    let next : Tenants = record { own = c.plant.new.self; whole = c.args.self.now.whole } in
    beside_same c.args.self.now next board tasks c.plant.ensures refl beside
