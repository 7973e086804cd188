use Rattle.std.proofs.Common.{◌/◌, ◌^◌, ◌≤◌, ap, ◌∙◌, arith}
use Rattle.std.proofs.Math.Nat.{pow-le-pow_right}
use Rattle.std.specs.Int.{div_ceil}
use Rattle.omega_units.specs.declared.Rounding.TheVariants.{Up, Down}
use Rattle.omega_units.proofs.Tens.{ten_pos, quotient_capped, above_most, within_most}
use Rattle.omega_units.proofs.decimal.lowered.Goals as goal

pub pow-divisor-requires : goal.pow-divisor-requires
pow-divisor-requires c =
    let low : c.min.result ≤ 32 = omega (arith, c.min.ensures) in
    let power : 10 ^ c.min.result ≤ 10 ^ 32 = pow-le-pow_right (omega arith) low in
    omega (arith, power)

pub div_ceil-up-requires : goal.div_ceil-up-requires
div_ceil-up-requires c = rw c.pow-divisor.ensures (ten_pos c.min.result)

pub nonzero_div-result : goal.nonzero_div-result
nonzero_div-result c = rw c.pow-divisor.ensures (ten_pos c.min.result)

pub returns-then-up-gt-MOST-clause-value : goal.returns-then-up-gt-MOST-clause-value
returns-then-up-gt-MOST-clause-value c =
    let divisor = c.pow-divisor.ensures ∙ ap (λ i. 10 ^ i) c.min.ensures in
    let up = c.div_ceil-up.ensures ∙ ap (λ d. div_ceil c.args.number d) divisor ∙ quotient_capped Up c.args.number c.args.power c.requires in
    let above = above_most c.args.number c.args.power c.div_ceil-up.result up c.if-up-gt-MOST.true in
    λ within. omega (arith, above, within)

pub returns-in-Up-clause-value : goal.returns-in-Up-clause-value
returns-in-Up-clause-value c =
    let divisor = c.pow-divisor.ensures ∙ ap (λ i. 10 ^ i) c.min.ensures in
    let up = c.div_ceil-up.ensures ∙ ap (λ d. div_ceil c.args.number d) divisor ∙ quotient_capped Up c.args.number c.args.power c.requires in
    (within_most c.args.number c.args.power c.div_ceil-up.result up c.if-up-gt-MOST.false, rw c.in-Up.is up)

pub returns-in-Down-clause-value : goal.returns-in-Down-clause-value
returns-in-Down-clause-value c =
    let divisor = c.pow-divisor.ensures ∙ ap (λ i. 10 ^ i) c.min.ensures in
    let up = c.div_ceil-up.ensures ∙ ap (λ d. div_ceil c.args.number d) divisor ∙ quotient_capped Up c.args.number c.args.power c.requires in
    let down = ap (λ d. c.args.number / d) divisor ∙ quotient_capped Down c.args.number c.args.power c.requires in
    (within_most c.args.number c.args.power c.div_ceil-up.result up c.if-up-gt-MOST.false, rw c.in-Down.is down)
