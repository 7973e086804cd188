use Rattle.std.proofs.Common.{◌≢◌, length, option_and_then, sym, ◌∙◌, ap, arith}
use Rattle.std.proofs.lemmas.Bool.{eqb-false}
use Rattle.omega_units.specs.Units.{rounded}
use Rattle.omega_units.specs.Parts.{value_of}
use Rattle.omega_units.proofs.Parts.{units_of_parts}
use Rattle.omega_units.proofs.read_quantity.Goals as goal

pub returns-clause-value : goal.returns-clause-value
returns-clause-value c =
    let text = c.args.text.now in
    let some : length text ≢ 0 = eqb-false (length text) 0 (sym c.if-is_empty.ensures) in
    sym c.ok_or.ensures.ok_part ∙ c.units.ensures.value
    ∙ sym (units_of_parts c.args.rounding text (omega (arith, some)) (omega arith)
    ∙ ap (λ d. option_and_then (λ decimal. rounded c.args.rounding (value_of decimal)) d) (sym c.in-Some.ensures.value))
