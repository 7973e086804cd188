use Rattle.std.proofs.Common.{◌+◌, ◌<◌, Some, option_map, length, take, drop, sym, ◌∙◌, ap, arith}
use Rattle.std.specs.List.{position_or_len}
use Rattle.omega_model.specs.Numbers.{is_exponent_mark, exponent_text}
use Rattle.omega_units.specs.Parts.{significand_of, exponent_of}
use Rattle.omega_units.proofs.Parts.{alone, joined, decimal_whole, decimal_marked}
use Rattle.omega_units.proofs.decimal.read_decimal.Goals as goal

pub returns-then-mark-text-clause-value : goal.returns-then-mark-text-clause-value
returns-then-mark-text-clause-value c =
    let text = c.args.text.now in
    let place = c.exponent_place-mark.ensures.place in
    let significand = c.in_ok-mantissa.ensures.value ∙ ap (λ n. significand_of (take n text)) place in
    sym (decimal_whole text (sym place ∙ c.if-mark-text.true) ∙ ap (λ s. option_map alone s) (sym significand))

pub returns-in_err-is_negative-clause-value : goal.returns-in_err-is_negative-clause-value
returns-in_err-is_negative-clause-value c =
    let text = c.args.text.now in
    let place = c.exponent_place-mark.ensures.place in
    let here : position_or_len is_exponent_mark text < length text = omega (arith, place, c.exponent_place-mark.ensures.bound, c.if-mark-text.false) in
    let significand = c.in_ok-mantissa.ensures.value ∙ ap (λ n. significand_of (take n text)) place in
    let exponent = c.in_err-is_negative.ensures.value ∙ ap (λ bytes. exponent_of bytes) (c.behind.ensures ∙ ap (λ n. drop (n + 1) text) place) in
    c.from_residual-in_err-is_negative.ensures
    ∙ sym (decimal_marked text here ∙ ap (λ s. joined s (exponent_of (exponent_text text))) (sym significand)
    ∙ ap (λ e. joined (Some (c.in_ok-mantissa.mantissa, c.in_ok-mantissa.places)) e) (sym exponent))
