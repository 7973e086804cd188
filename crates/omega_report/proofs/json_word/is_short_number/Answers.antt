use Rattle.std.proofs.Common.{get_or, refl, sym}
use Rattle.omega_report.proofs.ShortNumbers.{digit_more, digit_stops, digits_all}
use Rattle.omega_report.proofs.json_word.is_short_number.Goals as goal

pub returns-in-None : goal.returns-in-None
returns-in-None c =
    sym (digit_stops c.args.word.now c.loop-byte.byte-index c.loop-byte.value (get_or c.args.word.now c.loop-byte.byte-index 0)
    c.loop-byte-test.true refl c.loop-byte.invariant (sym c.in-None.ensures))

pub loop-byte-preserved : goal.loop-byte-preserved
loop-byte-preserved c =
    digit_more c.args.word.now c.loop-byte.byte-index c.loop-byte.value (get_or c.args.word.now c.loop-byte.byte-index 0)
    c.loop-byte-test.true refl c.loop-byte.invariant c.in-Some.next (sym c.in-Some.ensures)

pub returns : goal.returns
returns c = sym (digits_all c.args.word.now c.loop-byte.byte-index c.loop-byte.value c.loop-byte-test.false c.loop-byte.invariant)
