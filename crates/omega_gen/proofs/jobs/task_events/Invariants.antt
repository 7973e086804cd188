use Rattle.std.proofs.Common.{◌≡◌, ℕ, ◌*◌}
use Rattle.std.specs.List.{flat_map, range_with_len}
use Rattle.std.specs.String.{string_bytes}
use Rattle.rand_core.specs.Stream.{Stream}
use Rattle.omega_model.specs.Generated.{job_at}
use Rattle.omega_gen.specs.Words.{left_after, word_of}
use Rattle.omega_gen.proofs.jobs.task_events.Given as goal

abbrev pub invariant-loop-place : goal.invariant-loop-place
invariant-loop-place g l = record {
  rows : (stream : Stream) (first : ℕ) → g.R.Rng.stream l.fn.words ≡ left_after first stream
      → string_bytes l.out ≡ flat_map (job_at (word_of stream) first) (range_with_len 0 l.place);
  left : g.R.Rng.stream l.words ≡ left_after (6 * l.place) (g.R.Rng.stream l.fn.words);
}
