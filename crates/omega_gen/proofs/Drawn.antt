-- Words that are drawn one after the other.
use Rattle.std.proofs.Common.{◌≡◌, ℕ, zero, suc, ◌+◌, ◌%◌, refl, ap, ◌∙◌, zero-add, suc-add, add-zero}
use Rattle.rand_core.specs.Steps.{steps_u32, stream_of}
use Rattle.rand_core.specs.Stream.{Stream, next_u32}
use Rattle.rand_core.proofs.StepsLemmas.{next_u32-stream_of}
use Rattle.rand_pcg.specs.Lcg.{Lcg, advance, next, state_after}
use Rattle.rand_pcg.specs.Pcg.{multiplier_64, pcg32}
use Rattle.omega_model.specs.Draws.{word_at}
use Rattle.omega_model.specs.Generated.{made_job}
use Rattle.omega_gen.specs.Words.{left_after, word_of}

-- words are drawn, and then more of them
pub left_later : (more words : ℕ) (stream : Stream) → left_after more (left_after words stream) ≡ left_after (words + more) stream
left_later more zero stream = rw zero-add refl
left_later more (suc words) stream = left_later more words (next_u32 stream).1 ∙ rw suc-add refl

-- the words of what is left are later words of all
pub word_later : (words number : ℕ) (stream : Stream) → word_of (left_after words stream) number ≡ word_of stream (words + number)
word_later words number stream = ap (λ left. (next_u32 left).0) (left_later number words stream)

-- the job of the next six words is that of the words from there on
pub job_later : (words : ℕ) (stream : Stream) → made_job (word_of (left_after words stream)) 0 ≡ made_job (word_of stream) words
job_later words stream =
    let first : word_of (left_after words stream) 0 ≡ word_of stream words = word_later words 0 stream ∙ rw add-zero refl in
    λ i. record {
      tasks = 1 + first i % 8;
      class = word_later words 1 stream i % 4;
      priority = word_later words 2 stream i % 12;
      cpu = 1 + word_later words 3 stream i % 50;
      mem = 1 + word_later words 4 stream i % 50;
      life = 1 + word_later words 5 stream i % 20;
    }

-- what the generator of a state gives after some words is what it gives from a later state
left_of_generator : (words : ℕ) (generator : Lcg)
    → left_after words (stream_of (steps_u32 pcg32) generator) ≡ stream_of (steps_u32 pcg32) (advance 64 multiplier_64 words generator)
unfolding state_after
left_of_generator zero generator = refl
left_of_generator (suc words) generator =
    ap (λ step. left_after words step.1) (next_u32-stream_of (steps_u32 pcg32) generator)
    ∙ left_of_generator words (next 64 multiplier_64 generator)

-- the words that a generator will give are those of its state
pub words_of_generator : (generator : Lcg) → word_of (stream_of (steps_u32 pcg32) generator) ≡ word_at generator
words_of_generator generator = λ i number. word number i where
  word : (number : ℕ) → word_of (stream_of (steps_u32 pcg32) generator) number ≡ word_at generator number
  word number =
      ap (λ left. (next_u32 left).0) (left_of_generator number generator)
      ∙ ap (λ step. step.0) (next_u32-stream_of (steps_u32 pcg32) (advance 64 multiplier_64 number generator))
