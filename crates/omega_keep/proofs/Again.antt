-- What is written is read again.
use Rattle.std.proofs.Common.{◌≡◌, ℕ, suc, ◌+◌, ◌^◌, ◌<◌, ◌≤◌, ◌/◌, ◌%◌, Bool, true, false, not, ◌&&◌, ◌==◌, List, [], ◌∷◌, ◌++◌, Some, map, length, take, drop, refl, sym, ap, subst, arith, codes, decimal, eqb-true}
use Rattle.std.specs.List.{join_with_byte, list_all, position_or_len, slice_index}
use Rattle.std.specs.Str.{all_ascii_digits, bytes_eq}
use Rattle.std.specs.Str.Parse.{AllDigits}
use Rattle.std.proofs.lemmas.List.{take_at}
use Rattle.std.proofs.lemmas.Bool.{lt-ltb, le-leb}
use Rattle.std.proofs.lemmas.Bool.Decides.{nat_tests}
use Rattle.std.proofs.lemmas.Fmt.{decimal_is_IsNumeral, digits_decimal, length-decimal-le}
use Rattle.std.proofs.lemmas.Str.Parse.{digit_from_value, numerals_by_value, tells_all_ascii_digits}
use Rattle.hex.specs.Hex.{encode_lower, encode_with, lower_digits, hex_digit_value, IsBytes}
use Rattle.hex.proofs.HexLemmas.{decode_of-encode_lower, IsDigits-lower_digits}
use Rattle.omega_model.specs.Numbers.{whole}
use Rattle.omega_model.specs.Report.{Line, Number, word_text}
use Rattle.omega_model.specs.declared.cells.Need.{Need}
use Rattle.omega_model.specs.declared.cells.TaskKey.{TaskKey}
use Rattle.omega_keep.specs.KeptLines.{need_words, key_words, bytes_text, bytes_word, parted, IsNeed, IsKey}
use Rattle.omega_keep.specs.Reading.{is_space, word_at, rest_at, number_at, short_at, need_at, key_at, bytes_of, bytes_at}

-- ---- words

-- a word without a space
abbrev pub AreLetters : List ℕ → Type 0
AreLetters [] = Unit {0}
AreLetters (byte ∷ bytes) = (is_space byte ≡ false) × AreLetters bytes

first_place : (word rest : List ℕ) → AreLetters word → position_or_len is_space (word ++ 32 ∷ rest) ≡ length word
first_place [] rest h = refl
first_place (byte ∷ bytes) rest h = rw h.0 (omega (arith, first_place bytes rest h.1))

no_place : (word : List ℕ) → AreLetters word → position_or_len is_space word ≡ length word
no_place [] h = refl
no_place (byte ∷ bytes) h = rw h.0 (omega (arith, no_place bytes h.1))

take_whole : (xs : List ℕ) → take (length xs) xs ≡ xs
take_whole [] = refl
take_whole (x ∷ xs) = ap (λ (ys : List ℕ). x ∷ ys) (take_whole xs)

pub word_again : (word : List ℕ) (words : List (List ℕ)) → AreLetters word → word_at (join_with_byte 32 (word ∷ words)) ≡ word
unfolding word_at
word_again word [] h = rw (no_place word h) (take_whole word)
word_again word (next ∷ words) h =
    rw (first_place word (join_with_byte 32 (next ∷ words)) h) (take_at word (32 ∷ join_with_byte 32 (next ∷ words)) (length word) refl)

behind : (word more : List ℕ) → drop (length word + 1) (word ++ 32 ∷ more) ≡ more
behind [] more = refl
behind (byte ∷ bytes) more = let one : length (byte ∷ bytes) + 1 ≡ suc (length bytes + 1) = omega arith in rw one (behind bytes more)

nothing_behind : (word : List ℕ) → drop (length word + 1) word ≡ []
nothing_behind [] = refl
nothing_behind (byte ∷ bytes) = let one : length (byte ∷ bytes) + 1 ≡ suc (length bytes + 1) = omega arith in rw one (nothing_behind bytes)

pub rest_again : (word : List ℕ) (words : List (List ℕ)) → AreLetters word → rest_at (join_with_byte 32 (word ∷ words)) ≡ join_with_byte 32 words
unfolding rest_at
rest_again word [] h = rw (no_place word h) (nothing_behind word)
rest_again word (next ∷ words) h =
    rw (first_place word (join_with_byte 32 (next ∷ words)) h) (behind word (join_with_byte 32 (next ∷ words)))

-- a word of known bytes
one_letter : (byte : ℕ) (bytes : List ℕ) (b : Bool) → is_space byte ≡ b → (list_all (λ byte. not (is_space byte)) bytes ≡ true → AreLetters bytes)
    → (not b && list_all (λ byte. not (is_space byte)) bytes) ≡ true → AreLetters (byte ∷ bytes)
one_letter byte bytes true e more h = absurd cc
one_letter byte bytes false e more h = (e, more h)

pub letters_if : (word : List ℕ) → list_all (λ byte. not (is_space byte)) word ≡ true → AreLetters word
letters_if [] h = tt
letters_if (byte ∷ bytes) h = one_letter byte bytes (is_space byte) refl (letters_if bytes) h

-- ---- numbers

no_space_digit : (byte : ℕ) → 48 ≤ byte → is_space byte ≡ false
no_space_digit byte above = grind (arith, nat_tests)

digit_letters : (digits : List ℕ) → AllDigits 10 digits → AreLetters digits
digit_letters [] all = tt
digit_letters (digit ∷ digits) all =
    let range = digit_from_value digit all.0 in (no_space_digit digit (omega arith), digit_letters digits all.1)

pub number_again : (n : ℕ) (words : Line) → n < 2 ^ 64 → number_at (parted (Number n ∷ words)) ≡ Some (n, parted words)
unfolding number_at
number_again n words h =
    let numeral = decimal_is_IsNumeral n h in
    let letters = digit_letters (decimal n) numeral.0.1 in
    let digits : all_ascii_digits (decimal n) ≡ true = digits_decimal (numerals_by_value (λ ds. all_ascii_digits ds ≡ true) tells_all_ascii_digits) n h in
    let some = lt-ltb 0 (length (decimal n)) numeral.0.0 in
    let short = le-leb (length (decimal n)) 32 (length-decimal-le 32 n (omega arith) (omega (arith, h)) h) in
    let small = lt-ltb n (2 ^ 64) h in
    let is : whole (decimal n) ≡ Some n = rw (some, digits, short, numeral.1, small) refl in
    rw (word_again (decimal n) (map word_text words) letters, rest_again (decimal n) (map word_text words) letters, is) refl

pub short_again : (n : ℕ) (words : Line) → n < 2 ^ 32 → short_at (parted (Number n ∷ words)) ≡ Some (n, parted words)
unfolding short_at
short_again n words h =
    let small = lt-ltb n (2 ^ 32) h in
    rw (number_again n words (omega (arith, h)), small) refl

pub need_again : (need : Need) (words : Line) → IsNeed need → need_at (parted (need_words need ++ words)) ≡ Some (need, parted words)
unfolding need_at
need_again need words h =
    rw (number_again need.cpu (Number need.mem ∷ Number need.disk ∷ words) h.cpu, number_again need.mem (Number need.disk ∷ words) h.mem, number_again need.disk words h.disk) refl

pub key_again : (key : TaskKey) (words : Line) → IsKey key → key_at (parted (key_words key ++ words)) ≡ Some (key, parted words)
unfolding key_at
key_again key words h =
    rw (number_again key.job (Number key.index ∷ words) h.job, short_again key.index words h.index) refl

-- ---- bytes

no_space_hex : (c d : ℕ) → hex_digit_value c ≡ Some d → is_space c ≡ false
no_space_hex c d h = elim (c == 32) as (λ b. (c == 32) ≡ b → b ≡ false) [
  | true ↦ λ e. absurd (none_there (sym (eqb-true c 32 e)))
  | false ↦ λ e. refl
] refl
  where
    none_there : 32 ≡ c → ⊥
    none_there e = let n : hex_digit_value 32 ≡ Some d = subst (λ (x : ℕ). hex_digit_value x ≡ Some d) (sym e) h in absurd cc

hex_letters : (bytes : List ℕ) → IsBytes bytes → AreLetters (encode_lower bytes)
unfolding encode_with
hex_letters [] h = tt
hex_letters (byte ∷ bytes) h =
    let fits : byte < 256 = h 0 in (
      no_space_hex _ (byte / 16) (IsDigits-lower_digits (byte / 16) (omega arith)),
      (
        no_space_hex _ (byte % 16) (IsDigits-lower_digits (byte % 16) (omega arith)),
        hex_letters bytes (λ k. h (suc k)),
      ),
    )

bytes_letters : (bytes : List ℕ) → IsBytes bytes → AreLetters (bytes_text bytes)
bytes_letters [] h = (refl, tt)
bytes_letters (byte ∷ bytes) h = hex_letters (byte ∷ bytes) h

two_no_dash : (x y : ℕ) (more : List ℕ) → bytes_eq (x ∷ y ∷ more) (codes "-") ≡ false
two_no_dash x y more = elim (x == 45) as (λ b. (b && false) ≡ false) [
  | true ↦ refl
  | false ↦ refl
]

is_long : (byte : ℕ) (bytes : List ℕ) → bytes_eq (encode_lower (byte ∷ bytes)) (codes "-") ≡ false
unfolding encode_with
is_long byte bytes = two_no_dash (slice_index lower_digits (byte / 16)) (slice_index lower_digits (byte % 16)) (encode_lower bytes)

bytes_of_again : (bytes : List ℕ) → IsBytes bytes → bytes_of (bytes_text bytes) ≡ Some bytes
unfolding bytes_of
bytes_of_again [] h = refl
bytes_of_again (byte ∷ bytes) h = rw (is_long byte bytes, decode_of-encode_lower (byte ∷ bytes) h) refl

pub bytes_again : (bytes : List ℕ) (words : Line) → IsBytes bytes → bytes_at (parted (bytes_word bytes ∷ words)) ≡ Some (bytes, parted words)
unfolding bytes_at
bytes_again bytes words h =
    let letters = bytes_letters bytes h in
    rw (word_again (bytes_text bytes) (map word_text words) letters, rest_again (bytes_text bytes) (map word_text words) letters, bytes_of_again bytes h) refl
