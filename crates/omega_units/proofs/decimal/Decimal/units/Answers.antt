use Rattle.std.proofs.Common.{sym, ◌∙◌, ap}
use Rattle.omega_units.specs.Units.{rounded}
use Rattle.omega_units.proofs.Parts.{value_negative, value_positive}
use Rattle.omega_units.proofs.decimal.Decimal.units.Goals as goal

pub returns-then-self-clause-value : goal.returns-then-self-clause-value
returns-then-self-clause-value c = c.scaled.ensures.value ∙ ap (λ v. rounded c.args.rounding v) (sym (value_negative c.args.self c.if-self.true))

pub returns-else-self-clause-value : goal.returns-else-self-clause-value
returns-else-self-clause-value c = c.scaled-else-self.ensures.value ∙ ap (λ v. rounded c.args.rounding v) (sym (value_positive c.args.self c.if-self.false))
