use Rattle.std.proofs.Common.{◌≡◌, [], take}
use Rattle.std.specs.Prelude.{fold}
use Rattle.omega_report.specs.Writing.{after_byte}
use Rattle.omega_report.specs.declared.json_of_text.Position.TheVariants.{Beginning}
use Rattle.omega_report.proofs.json_of_text.json_of.Given as goal

abbrev pub invariant-loop-byte : goal.invariant-loop-byte
invariant-loop-byte l = l.writing ≡ fold after_byte (record { json = []; word = []; position = Beginning }) (take l.byte-index l.text)
