use Rattle.std.proofs.Common.{◌≡◌, ◌++◌, [], ap, ◌∙◌}
use Rattle.std.specs.String.{string_bytes}
use Rattle.rand_core.specs.Stream.{next_u32}
use Rattle.omega_model.specs.Generated.{machine_text}
use Rattle.omega_gen.specs.Words.{left_after, word_of}
use Rattle.omega_gen.proofs.Drawn.{left_later}
use Rattle.omega_gen.proofs.Ranges.{rows_more}
use Rattle.omega_gen.proofs.machines.machine_events.Goals as goal

pub loop-place-preserved : goal.loop-place-preserved
loop-place-preserved g c =
    let place = c.loop-place.place in
    let before = c.loop-place.invariant in
    let written = string_bytes c.loop-place.out in
    let all = g.R.Rng.stream c.args.words.now in
    let word : c.next_u32-word.result ≡ word_of all place =
    ap (λ step. step.0) c.next_u32-word.ensures ∙ ap (λ s. (next_u32 s).0) before.left in
    record {
      rows =
          rows_more (machine_text (word_of all)) place [] _ _ before.rows
          (c.in_ok-push_machine.ensures ∙ ap (λ w. written ++ machine_text (λ _. w) place) word);
      left =
          ap (λ step. step.1) c.next_u32-word.ensures
          ∙ ap (λ s. left_after 1 s) before.left
          ∙ left_later 1 place all;
    }
