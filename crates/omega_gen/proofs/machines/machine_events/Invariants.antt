use Rattle.std.proofs.Common.{◌≡◌}
use Rattle.std.specs.List.{flat_map, range_with_len}
use Rattle.std.specs.String.{string_bytes}
use Rattle.omega_model.specs.Generated.{machine_text}
use Rattle.omega_gen.specs.Words.{left_after, word_of}
use Rattle.omega_gen.proofs.machines.machine_events.Given as goal

abbrev pub invariant-loop-place : goal.invariant-loop-place
invariant-loop-place g l = record {
  rows : string_bytes l.out ≡ flat_map (machine_text (word_of (g.R.Rng.stream l.fn.words))) (range_with_len 0 l.place);
  left : g.R.Rng.stream l.words ≡ left_after l.place (g.R.Rng.stream l.fn.words);
}
