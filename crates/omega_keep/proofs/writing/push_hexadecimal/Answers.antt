use Rattle.std.proofs.Common.{◌++◌, ◌+◌, ap, sym, ◌∙◌, drop, append_assoc}
use Rattle.std.proofs.lemmas.List.{append-nil}
use Rattle.hex.specs.Hex.{encode_lower}
use Rattle.omega_keep.proofs.Hexadecimal.{bytes_from, next_byte, no_byte}
use Rattle.omega_keep.proofs.writing.push_hexadecimal.Goals as goal

pub loop-byte-preserved : goal.loop-byte-preserved
loop-byte-preserved c =
    let next = next_byte c.args.bytes.now c.loop-byte.byte-index c.loop-byte-test.true in
    record {
      text = ap (λ z. z ++ encode_lower (drop (c.loop-byte.byte-index + 1) c.args.bytes.now)) c.in_ok-push_byte.ensures.text
          ∙ append_assoc c.loop-byte.out.items _ (encode_lower (drop (c.loop-byte.byte-index + 1) c.args.bytes.now))
          ∙ ap (λ z. c.loop-byte.out.items ++ z) (sym next)
          ∙ c.loop-byte.invariant.text;
      range = λ more. c.loop-byte.invariant.range (bytes_from c.args.bytes.now c.loop-byte.byte-index c.loop-byte-test.true c.in_ok-push_byte.ensures.range more);
    }

pub returns-clause-text : goal.returns-clause-text
returns-clause-text c =
    let none = no_byte c.args.bytes.now c.loop-byte.byte-index c.loop-byte-test.false in
    sym (ap (λ z. c.loop-byte.out.items ++ z) none ∙ append-nil c.loop-byte.out.items) ∙ c.loop-byte.invariant.text
