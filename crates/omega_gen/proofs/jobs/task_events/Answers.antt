use Rattle.std.proofs.Common.{◌≡◌, ◌+◌, ◌*◌, ◌++◌, [], ap, ◌∙◌, arith}
use Rattle.std.specs.String.{string_bytes}
use Rattle.omega_model.specs.Generated.{job_at, job_text, made_job}
use Rattle.omega_gen.specs.Words.{left_after, word_of}
use Rattle.omega_gen.proofs.Drawn.{job_later, left_later}
use Rattle.omega_gen.proofs.Ranges.{rows_more}
use Rattle.omega_gen.proofs.jobs.task_events.Goals as goal

pub loop-place-preserved : goal.loop-place-preserved
loop-place-preserved g c =
    let place = c.loop-place.place in
    let before = c.loop-place.invariant in
    let written = string_bytes c.loop-place.out in
    let all = g.R.Rng.stream c.args.words.now in
    record {
      rows = λ stream first same.
          let left : g.R.Rng.stream c.loop-place.words ≡ left_after (first + 6 * place) stream =
          before.left ∙ ap (λ s. left_after (6 * place) s) same ∙ left_later (6 * place) first stream in
          let made : c.draw-job.result ≡ made_job (word_of stream) (first + 6 * place) =
          c.draw-job.ensures.job
          ∙ ap (λ s. made_job (word_of s) 0) left
          ∙ job_later (first + 6 * place) stream in
          rows_more (job_at (word_of stream) first) place [] _ _ (before.rows stream first same)
          (c.in_ok-push_job.ensures
          ∙ ap (λ n. written ++ job_text c.draw-job.result (n + 1)) c.from.ensures
          ∙ ap (λ job. written ++ job_text job (place + 1)) made);
      left =
          let words : 6 * place + 6 ≡ 6 * (place + 1) = omega arith in
          c.draw-job.ensures.left
          ∙ ap (λ s. left_after 6 s) before.left
          ∙ left_later 6 (6 * place) all
          ∙ ap (λ n. left_after n all) words;
    }
