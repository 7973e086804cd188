use Rattle.std.proofs.Common.{◌≡◌, ◌++◌, drop}
use Rattle.hex.specs.Hex.{encode_lower, IsBytes}
use Rattle.omega_keep.proofs.writing.push_hexadecimal.Given as goal

abbrev pub invariant-loop-byte : goal.invariant-loop-byte
invariant-loop-byte l = record {
  text : l.out.items ++ encode_lower (drop l.byte-index l.bytes) ≡ l.fn.out.items ++ encode_lower l.bytes;
  range : IsBytes (drop l.byte-index l.bytes) → IsBytes l.bytes;
}
