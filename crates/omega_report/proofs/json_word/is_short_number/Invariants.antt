use Rattle.omega_report.proofs.ShortNumbers.{IsReadTo}
use Rattle.omega_report.proofs.json_word.is_short_number.Given as goal

abbrev pub invariant-loop-byte : goal.invariant-loop-byte
invariant-loop-byte l = IsReadTo l.word l.byte-index l.value
