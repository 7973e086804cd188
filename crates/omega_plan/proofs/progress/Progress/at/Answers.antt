use Rattle.omega_plan.proofs.Begins.{serves_at_start}
use Rattle.omega_plan.proofs.progress.Progress.at.Goals as goal

pub returns-clause-serves : goal.returns-clause-serves
returns-clause-serves c cell wish within = serves_at_start cell wish c.args.start within
