use Rattle.std.proofs.Common.{◌+◌, ◌-◌, sym, ◌∙◌, arith}
use Rattle.omega_units.proofs.Tens.{rounded_raised, rounded_lowered, up_to}
use Rattle.omega_units.proofs.decimal.scaled.Goals as goal

pub returns-then-lower-units-clause-value : goal.returns-then-lower-units-clause-value
returns-then-lower-units-clause-value c =
    up_to _ _ _ _ c.raised.ensures.value ∙ sym (rounded_raised c.args.rounding c.args.number c.args.raise c.args.lower (c.args.raise + 9 - c.args.lower) (omega arith))

pub returns-else-lower-units-clause-value : goal.returns-else-lower-units-clause-value
returns-else-lower-units-clause-value c =
    up_to _ _ _ _ c.lowered.ensures.value ∙ sym (rounded_lowered c.args.rounding c.args.number c.args.raise c.args.lower (c.args.lower - (c.args.raise + 9)) (omega arith))
