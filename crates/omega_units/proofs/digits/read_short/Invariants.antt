use Rattle.std.proofs.Common.{◌≡◌, ◌+◌, ◌-◌, ◌*◌, ◌^◌, ◌≤◌, length, drop}
use Rattle.omega_units.specs.Digits.{number_after}
use Rattle.omega_units.proofs.digits.read_short.Given as goal

abbrev pub invariant-loop-byte : goal.invariant-loop-byte
invariant-loop-byte l = record {
  rest : number_after l.value (drop l.byte-index l.text) ≡ number_after l.fn.start l.text;
  room : (l.value + 1) * 10 ^ (length l.text - l.byte-index) ≤ (l.fn.start + 1) * 10 ^ length l.text;
}
