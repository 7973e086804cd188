-- Rows for each number of a range.
use Rattle.std.proofs.Common.{◌≡◌, ℕ, zero, suc, ◌+◌, List, ◌++◌, sym, ap, ◌∙◌, append_assoc, add-zero, add-one, arith}
use Rattle.std.specs.List.{flat_map, range_with_len}
use Rattle.std.proofs.lemmas.List.{append-nil}

range_grows : (f : ℕ → List ℕ) (low count : ℕ)
    → flat_map f (range_with_len low (suc count)) ≡ flat_map f (range_with_len low count) ++ f (low + count)
range_grows f low zero = rw add-zero (append-nil (f low))
range_grows f low (suc count) =
    let number : low + 1 + count ≡ low + suc count = omega arith in
    ap (λ rows. f low ++ rows) (range_grows f (low + 1) count ∙ ap (λ n. flat_map f (range_with_len (low + 1) count) ++ f n) number)
    ∙ sym (append_assoc (f low) (flat_map f (range_with_len (low + 1) count)) (f (low + suc count)))

-- one more number of a range from 0
pub range_more : (f : ℕ → List ℕ) (count : ℕ)
    → flat_map f (range_with_len 0 (count + 1)) ≡ flat_map f (range_with_len 0 count) ++ f count
range_more f count =
    let number : 0 + count ≡ count = omega arith in
    rw add-one (range_grows f 0 count ∙ ap (λ n. flat_map f (range_with_len 0 count) ++ f n) number)

-- the rows so far, and those of one more number
pub rows_more : (f : ℕ → List ℕ) (count : ℕ) (before so_far now : List ℕ)
    → so_far ≡ before ++ flat_map f (range_with_len 0 count) → now ≡ so_far ++ f count
    → now ≡ before ++ flat_map f (range_with_len 0 (count + 1))
rows_more f count before so_far now rows more =
    more
    ∙ ap (λ text. text ++ f count) rows
    ∙ append_assoc before (flat_map f (range_with_len 0 count)) (f count)
    ∙ ap (λ text. before ++ text) (sym (range_more f count))
