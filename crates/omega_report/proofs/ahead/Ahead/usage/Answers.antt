use Rattle.std.proofs.Common.{Some, None, refl}
use Rattle.omega_report.proofs.RoundUsage.{usage_ahead}
use Rattle.omega_report.proofs.ahead.Ahead.usage.Goals as goal

pub returns-in-Some : goal.returns-in-Some
returns-in-Some c = usage_ahead (Some c.in-Some.usage.now) c.in-Some.usage.now c.args.self c.in-Some.ensures.value refl

pub returns-in-None : goal.returns-in-None
returns-in-None c = usage_ahead None c.args.self.last c.args.self c.in-None.ensures.value refl
