-- Numbers that are read digit by digit.
use Rattle.std.proofs.Common.{◌≡◌, ℕ, ◌+◌, ◌*◌, ◌-◌, ◌^◌, ◌<◌, ◌≤◌, true, false, List, [], ◌∷◌, ◌++◌, length, get_or, take, Some, None, refl, sym, subst, ap, ap₂, ◌∙◌, arith}
use Rattle.std.specs.Prelude.{nat_le, nat_lt}
use Rattle.std.specs.Char.{digit_value}
use Rattle.std.specs.List.{list_all}
use Rattle.std.specs.Str.Parse.{digits_value}
use Rattle.std.proofs.lemmas.Bool.{and_parts, le-ltb, leb-true, lt-ltb, ltb-false, ltb-true}
use Rattle.std.proofs.lemmas.Bool.Decides.{nat_tests}
use Rattle.std.proofs.lemmas.Int.Digits.{digits_value_push}
use Rattle.std.proofs.lemmas.Str.Parse.{digits_value-take-le}
use Rattle.std.proofs.lemmas.List.{take_all, take_more}
use Rattle.std.proofs.lemmas.List.Folds.{list_all_at, list_all_more}
use Rattle.std.proofs.lemmas.Option.{none-some}
use Rattle.omega_model.proofs.Lists.{by_answer}
use Rattle.omega_report.specs.JsonOfText.{is_short_number}
use Rattle.omega_report.specs.Readings.{is_digit}
use Rattle.omega_report.specs.Writing.{with_digit}

-- the value of a byte that is a digit
digit_is : (byte : ℕ) → is_digit byte ≡ true → digit_value byte ≡ byte - 48
digit_is byte digit =
    let parts = and_parts (nat_le 48 byte) (nat_le byte 57) digit in
    let low = leb-true 48 byte parts.0 in
    let high = leb-true byte 57 parts.1 in
    let first : nat_lt byte 48 ≡ false = grind (arith, nat_tests) in
    let last : nat_lt byte 58 ≡ true = grind (arith, nat_tests) in
    rw (first, last) refl

-- a front of digits, and the number that they write
pub record IsReadTo (word : List ℕ) (place value : ℕ) : Type 0 where
  pub digits : list_all is_digit (take place word) ≡ true
  pub reads : value ≡ digits_value 10 (take place word)
  pub short : value < 2 ^ 64

pub nothing_read : (word : List ℕ) → IsReadTo word 0 0
nothing_read word = record { digits = refl; reads = refl; short = omega arith }

module _ (word : List ℕ) (place value byte : ℕ) (below : place < length word) (is : byte ≡ get_or word place 0) (so : IsReadTo word place value) where
  front : take (place + 1) word ≡ take place word ++ byte ∷ []
  front = take_more word place 0 below ∙ ap (λ (b : ℕ). take place word ++ b ∷ []) (sym is)

  value_more : is_digit byte ≡ true → digits_value 10 (take (place + 1) word) ≡ value * 10 + (byte - 48)
  value_more digit =
      ap (digits_value 10) front ∙ digits_value_push 10 (take place word) byte
      ∙ ap₂ (λ (v d : ℕ). v * 10 + d) (sym so.reads) (digit_is byte digit)

  pub digit_more : (next : ℕ) → with_digit value byte ≡ Some next → IsReadTo word (place + 1) next
  digit_more next reads =
      by_answer (is_digit byte)
      (λ t. by_answer (nat_lt (value * 10 + (byte - 48)) (2 ^ 64))
      (λ fits.
      let found : Some (value * 10 + (byte - 48)) ≡ Some next = rw (t, fits) at reads in
      let same : value * 10 + (byte - 48) ≡ next = cc in
      record {
        digits = list_all_more is_digit word place 0 below ∙ rw (so.digits, ← is, t) refl;
        reads = sym (value_more t ∙ same);
        short = subst (λ (n : ℕ). n < 2 ^ 64) same (ltb-true (value * 10 + (byte - 48)) (2 ^ 64) fits);
      })
      (λ over. absurd (none-some next (rw (t, over) at reads))))
      (λ f. absurd (none-some next (rw f at reads)))

  pub digit_stops : with_digit value byte ≡ None → is_short_number word ≡ false
  digit_stops stops =
      by_answer (is_digit byte)
      (λ t. by_answer (nat_lt (value * 10 + (byte - 48)) (2 ^ 64))
      (λ fits. absurd (none-some (value * 10 + (byte - 48)) (sym (rw (t, fits) at stops))))
      (λ over.
      let many : 2 ^ 64 ≤ value * 10 + (byte - 48) = ltb-false (value * 10 + (byte - 48)) (2 ^ 64) over in
      let part : digits_value 10 (take (place + 1) word) ≤ digits_value 10 word = digits_value-take-le 10 word (place + 1) (omega arith) in
      let same = value_more t in
      let long : nat_lt (digits_value 10 word) (2 ^ 64) ≡ false = le-ltb (digits_value 10 word) (2 ^ 64) (omega (arith, many, part, same)) in
      by_answer (list_all is_digit word) (λ all. rw (all, long) refl) (λ some. rw some refl)))
      (λ f.
      let not_all : list_all is_digit word ≡ false = list_all_at is_digit word place 0 below (ap is_digit (sym is) ∙ f) in
      rw not_all refl)

pub digits_all : (word : List ℕ) (place value : ℕ) → length word ≤ place → IsReadTo word place value → is_short_number word ≡ true
digits_all word place value past so =
    let below = so.short in
    let all : take place word ≡ word = take_all place word past in
    let digits : list_all is_digit word ≡ true = ap (list_all is_digit) (sym all) ∙ so.digits in
    let same : value ≡ digits_value 10 word = so.reads ∙ ap (digits_value 10) all in
    let short : nat_lt (digits_value 10 word) (2 ^ 64) ≡ true = lt-ltb (digits_value 10 word) (2 ^ 64) (omega (arith, below, same)) in
    rw (digits, short) refl
