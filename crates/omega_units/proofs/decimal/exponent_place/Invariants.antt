use Rattle.std.proofs.Common.{◌≡◌, ◌+◌, drop}
use Rattle.std.specs.List.{position_or_len}
use Rattle.omega_model.specs.Numbers.{is_exponent_mark}
use Rattle.omega_units.proofs.decimal.exponent_place.Given as goal

abbrev pub invariant-loop-place : goal.invariant-loop-place
invariant-loop-place l = l.place + position_or_len is_exponent_mark (drop l.place l.text) ≡ position_or_len is_exponent_mark l.text
