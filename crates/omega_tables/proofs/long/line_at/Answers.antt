use Rattle.std.proofs.Common.{◌≡◌, ◌≢◌, ◌<◌, ◌+◌, sym, refl, arith}
use Rattle.omega_tables.proofs.LongLines.{line_behind}
use Rattle.omega_tables.proofs.long.line_at.Goals as goal

pub returns : goal.returns
returns c = (
  line_behind c.args.text.now c.split_at.result.0.now c.split_at.result.1.now c.args.start c.in_ok-commas.commas
      c.split_at.ensures.front c.split_at.ensures.back (c.if-not-ends_record.ensures refl) (sym c.in_ok-commas.ensures.value) (omega (arith, c.if-commas-eq0.false)),
  λ e. omega (arith, e, c.if-commas-columns.false),
)
