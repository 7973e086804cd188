use Rattle.std.proofs.Common.{◌≡◌, ◌+◌, drop}
use Rattle.std.specs.List.{position_or_len}
use Rattle.omega_model.specs.Numbers.{is_point}
use Rattle.omega_units.proofs.decimal.point_place.Given as goal

abbrev pub invariant-loop-place : goal.invariant-loop-place
invariant-loop-place l = l.place + position_or_len is_point (drop l.place l.text) ≡ position_or_len is_point l.text
