-- The words that a generator will give.
use Rattle.std.specs.Prelude.{ℕ, zero, suc}
use Rattle.rand_core.specs.Stream.{Stream, next_u32}

-- what a generator will give after so many more words
abbrev pub left_after : ℕ → Stream → Stream
left_after zero stream = stream
left_after (suc words) stream = left_after words (next_u32 stream).1

-- the word of this number, from 0, that a generator will give
abbrev pub word_of : Stream → ℕ → ℕ
word_of stream number = (next_u32 (left_after number stream)).0
