-- A line as its first word and the others, each after a space.
use Rattle.std.proofs.Common.{◌≡◌, List, [], ◌∷◌, ◌++◌, ℕ, ap, refl}
use Rattle.std.proofs.lemmas.List.{append-nil}
use Rattle.omega_model.specs.Report.{Line, Word, word_text}
use Rattle.omega_model.specs.declared.entries.Entry.{Entry}
use Rattle.omega_keep.specs.KeptLines.{entry_words, entry_text, parted}
use Rattle.omega_keep.specs.Writing.{more_text, spaced}

joined : (word : Word) (words : Line) → word_text word ++ more_text words ≡ parted (word ∷ words)
joined word [] = append-nil (word_text word)
joined word (next ∷ words) = ap (λ (t : List ℕ). word_text word ++ 32 ∷ t) (joined next words)

spaced_is : (words : Line) → spaced words ≡ parted words
spaced_is [] = refl
spaced_is (word ∷ words) = joined word words

pub entry_spaced : (entry : Entry) → spaced (entry_words entry) ≡ entry_text entry
entry_spaced entry = spaced_is (entry_words entry)
