use Rattle.std.proofs.Common.{◌∙◌, ◌/◌, ℕ, Option, Some, ap, length}
use Rattle.std.specs.Option.{option_eq}
use Rattle.omega_tables.specs.Cutting.{mark_byte}
use lib.Dec.{eqb}
use Rattle.omega_tables.proofs.Cutting.{may_cut, none_found}
use Rattle.omega_tables.proofs.pieces.cut.Goals as goal

pub returns : goal.returns
returns c =
    may_cut c.args.text.now c.split_at.result.1.now c.split_at-2.result.0.now c.split_at-2.result.1.now (length c.args.text.now / 2) c.in_ok-end.field-0
    c.split_at.ensures.back c.in_ok-end.ensures.0.high c.in_ok-end.ensures.1 c.split_at-2.ensures.front c.split_at-2.ensures.back c.if-front-lt4.false
    (none_found _ c.memchr-else-marked.result c.if-is_some.ensures c.memchr-else-marked.ensures)
    (c.if-marked.ensures ∙ ap (λ (byte : Option ℕ). option_eq eqb byte (Some mark_byte)) (c.copied.ensures ∙ c.first.ensures.value))
