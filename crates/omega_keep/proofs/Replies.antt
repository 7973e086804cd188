-- Lists that are compared item by item.
use Rattle.std.proofs.Common.{◌≡◌, ℕ, ◌≤◌, List, length, take, sym, ◌∙◌, arith}
use Rattle.std.proofs.lemmas.List.{take_all}

-- two lists of one length whose first items are the same, for so many that all are among them
pub all_same : {X : Type 0} (xs ys : List X) (n : ℕ) → length xs ≡ length ys → length xs ≤ n → take n xs ≡ take n ys → xs ≡ ys
all_same xs ys n same h e = sym (take_all n xs h) ∙ e ∙ take_all n ys (omega arith)
