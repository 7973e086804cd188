use Rattle.omega_plan.proofs.Begins.{serves_alike}
use Rattle.omega_plan.proofs.progress.Progress.advance.Goals as goal

pub returns-then-are_alike-clause-serves : goal.returns-then-are_alike-clause-serves
returns-then-are_alike-clause-serves c cell serves =
    serves_alike cell c.args.from.now c.args.to.now c.args.self (c.are_alike.ensures.0 c.if-are_alike.true) serves
