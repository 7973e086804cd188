use Rattle.std.proofs.Common.{rules, ◌≡◌, length, arith, true, get_or, sym, ◌∙◌}
use Rattle.std.specs.Char.{is_ascii_digit, IsAsciiDigit}
use Rattle.omega_units.proofs.Reading.{number_after_place, room_now, room_after, room_last}
use Rattle.omega_units.proofs.digits.read_short.Goals as goal

pub overflow_mul-value : goal.overflow_mul-value
overflow_mul-value c =
    let room = room_now c.loop-byte.value c.loop-byte.byte-index (length c.args.text.now) _ c.loop-byte-test.true c.loop-byte.invariant.room in
    omega arith

pub returns-clause-bound : goal.returns-clause-bound
returns-clause-bound c = room_last c.loop-byte.value c.loop-byte.byte-index (length c.args.text.now) _ c.loop-byte-test.false c.loop-byte.invariant.room

pub overflow_add-value : goal.overflow_add-value
overflow_add-value c =
    let room = room_now c.loop-byte.value c.loop-byte.byte-index (length c.args.text.now) _ c.loop-byte-test.true c.loop-byte.invariant.room in
    omega (arith, c.if-not-is_ascii_digit.ensures.cases, c.from.ensures)

pub loop-byte-preserved : goal.loop-byte-preserved
loop-byte-preserved c =
    let text = c.args.text.now in
    let place = c.loop-byte.byte-index in
    let digit : IsAsciiDigit (get_or text place 0) = search (rules, c.if-not-is_ascii_digit.ensures.cases) in
    let test : is_ascii_digit (get_or text place 0) ≡ true = sym c.if-not-is_ascii_digit.ensures.value in
    record {
      rest = number_after_place c.loop-byte.value c.from.result place text c.loop-byte-test.true digit test c.from.ensures ∙ c.loop-byte.invariant.rest;
      room = room_after c.loop-byte.value c.from.result place (length text) _ c.loop-byte-test.true (omega (arith, digit, c.from.ensures)) c.loop-byte.invariant.room;
    }
