use Rattle.std.proofs.Common.{◌≡◌, ◌≤◌, drop}
use Rattle.omega_tables.specs.Cutting.{commas_before_end}
use Rattle.omega_tables.proofs.long.commas_in.Given as goal

abbrev pub invariant-loop-byte : goal.invariant-loop-byte
invariant-loop-byte l = (commas_before_end l.commas (drop l.byte-index l.text) ≡ commas_before_end 0 l.text) × (l.commas ≤ l.byte-index)
