use Rattle.std.proofs.Common.{◌≡◌, ◌++◌, drop}
use Rattle.std.specs.List.{flat_map}
use Rattle.std.specs.String.{string_bytes}
use Rattle.omega_sim.specs.TimeLines.{text_of_totals}
use Rattle.omega_sim.proofs.lines.push_lines.Given as goal

abbrev pub invariant-loop-of_one : goal.invariant-loop-of_one
invariant-loop-of_one l =
    string_bytes l.text ++ flat_map text_of_totals (drop l.of_one-index l.totals)
    ≡ string_bytes l.initial.text ++ flat_map text_of_totals l.totals
