use Rattle.std.proofs.Common.{◌≡◌, ◌∙◌, ℕ, Option, Some, length, ap, arith}
use Rattle.std.specs.Option.{option_eq}
use Rattle.std.proofs.lemmas.Bool.Decides.{nat_tests}
use lib.Dec.{eqb}
use Rattle.omega_tables.specs.Cutting.{mark_byte}
use Rattle.omega_tables.proofs.Cutting.{none_found}
use Rattle.omega_tables.proofs.LongLines.{no_front, lines_front}
use Rattle.omega_tables.proofs.long.ends_record.Goals as goal

pub returns-then-is_empty : goal.returns-then-is_empty
returns-then-is_empty c = λ e.
    let none : length c.args.front.now ≡ 0 = grind (arith, nat_tests, c.is_empty.ensures, c.if-is_empty.true) in
    no_front c.args.front.now c.args.back.now none
    (c.if-eq.ensures ∙ ap (λ (byte : Option ℕ). option_eq eqb byte (Some mark_byte)) (c.copied.ensures ∙ c.first.ensures.value))

pub returns : goal.returns
returns c = λ e.
    lines_front c.args.front.now c.args.back.now c.if-front-lt4.false
    (c.if-not-ended.ensures ∙ ap (λ (byte : Option ℕ). option_eq eqb byte (Some 10)) (c.copied-2.ensures ∙ c.last.ensures.value))
    (none_found _ c.memchr.result c.if-is_some.ensures c.memchr.ensures)
    (c.if-eq.ensures ∙ ap (λ (byte : Option ℕ). option_eq eqb byte (Some mark_byte)) (c.copied.ensures ∙ c.first.ensures.value))
