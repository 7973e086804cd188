use Rattle.std.proofs.Common.{◌^◌, ◌*◌, ◌≤◌, arith}
use Rattle.std.proofs.Math.Nat.{le-mul_of_pos_right}
use Rattle.omega_units.proofs.Tens.{ten_pos, too_high}
use Rattle.omega_units.proofs.decimal.raised.Goals as goal

pub returns-then-power-gt12-clause-value : goal.returns-then-power-gt12-clause-value
returns-then-power-gt12-clause-value c =
    let above = too_high c.args.number c.args.power c.requires c.if-power-gt12.true in
    λ within. omega (arith, above, within)

pub returns-then-number-gt-MOST-clause-value : goal.returns-then-number-gt-MOST-clause-value
returns-then-number-gt-MOST-clause-value c =
    let more : c.args.number ≤ c.args.number * 10 ^ c.args.power = le-mul_of_pos_right c.args.number (ten_pos c.args.power) in
    λ within. omega (arith, more, within, c.if-number-gt-MOST.true)
