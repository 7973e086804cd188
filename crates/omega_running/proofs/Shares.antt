-- The tasks of a machine that stand in the first of its trees: what one more tree brings in, and that all of the
-- machine's trees together have all of its tasks.
use Rattle.std.proofs.Common.{◌≡◌, ℕ, ◌+◌, nat_lt, Bool, true, false, List, [], ◌∷◌, ◌++◌, refl, sym, ap, subst, ◌∙◌, append-nil, append_assoc, arith}
use Rattle.std.specs.List.{filter}
use Rattle.std.specs.List.Sorted.{IsPermutation}
use Rattle.std.proofs.lemmas.Bool.{both_ways, eq-eqb, eqb-true, le-ltb, lt-ltb, ltb-false, ltb-true, ne_eqb}
use Rattle.std.proofs.lemmas.List.Sorted.{IsPermutation-append_left, IsPermutation-append_right, IsPermutation-cons, IsPermutation-middle, IsPermutation-refl, IsPermutation-sym, IsPermutation-trans}
use Rattle.omega_model.specs.Cell.{total}
use Rattle.omega_model.specs.Need.{minus, nothing, plus}
use Rattle.omega_model.specs.declared.cells.Need.{Need}
use Rattle.omega_model.specs.declared.cells.Task.{Task}
use Rattle.omega_model.proofs.Amounts.{need_is, plus-assoc, plus-swap, total-cons, share as taken}
use Rattle.omega_model.proofs.Lists.{by_answer, each_of, filter_every, filter_none}
use Rattle.omega_running.specs.Order.{in_share, share}
use Rattle.omega_running.proofs.Staying.{left_by_both}

-- whether a task stands in a tree of a lower number than this
abbrev pub below : ℕ → Task → Bool
below number task = nat_lt (share task) number

-- two tests that no task passes both of, and the test that is passed by what passes one of them
record AreTwoParts (p q both : Task → Bool) : Type 0 where
  pub first : (x : Task) → p x ≡ true → (q x ≡ false) × (both x ≡ true)
  pub second : (x : Task) → p x ≡ false → both x ≡ q x

one_more : (number : ℕ) → AreTwoParts (below number) (in_share number) (below (number + 1))
one_more number = record {
  first = λ x low. let less = ltb-true _ _ low in (ne_eqb _ _ (λ e. omega (arith, less, e)), lt-ltb _ _ (omega (arith, less)));
  second = λ x high.
      let above = ltb-false _ _ high in
      by_answer (in_share number x)
      (λ own. let same = eqb-true _ _ own in lt-ltb _ _ (omega (arith, same)) ∙ sym own)
      (λ other. le-ltb _ _ (omega (arith, above, differs x other)) ∙ sym other);
} where
  differs : (x : Task) → in_share number x ≡ false → share x ≡ number → ⊥
  differs x other same = both_ways _ other (eq-eqb _ _ same)

-- the tasks of both parts are those of the whole, in another order
moved : (p q both : Task → Bool) → AreTwoParts p q both → (xs : List Task) → IsPermutation (filter both xs) (filter p xs ++ filter q xs)
moved p q both parts [] = IsPermutation-refl []
moved p q both parts (x ∷ xs) =
    let rest = moved p q both parts xs in
    by_answer (p x)
    (λ yes. rw (yes, (parts.first x yes).0, (parts.first x yes).1) (IsPermutation-cons x (filter both xs) (filter p xs ++ filter q xs) rest))
    (λ no. by_answer (q x)
    (λ yes. rw (no, parts.second x no ∙ yes, yes)
    (IsPermutation-trans (x ∷ filter both xs) (x ∷ (filter p xs ++ filter q xs)) (filter p xs ++ x ∷ filter q xs)
    (IsPermutation-cons x (filter both xs) (filter p xs ++ filter q xs) rest)
    (IsPermutation-sym (filter p xs ++ x ∷ filter q xs) (x ∷ (filter p xs ++ filter q xs)) (IsPermutation-middle (filter p xs) x (filter q xs)))))
    (λ neither. rw (no, parts.second x no ∙ neither, neither) rest))

-- and need together what the whole needs
summed : (p q both : Task → Bool) → AreTwoParts p q both → (s : Task → Bool) (xs : List Task) → total (filter s (filter both xs)) ≡ plus (total (filter s (filter p xs))) (total (filter s (filter q xs)))
summed p q both parts s [] = refl
summed p q both parts s (x ∷ xs) =
    let rest = summed p q both parts s xs in
    let first = total (filter s (filter p xs)) in
    let second = total (filter s (filter q xs)) in
    let own = total-cons s x (filter both xs) ∙ ap (plus (taken s x)) rest in
    by_answer (p x)
    (λ yes. rw (yes, (parts.first x yes).0, (parts.first x yes).1)
    (own ∙ sym (plus-assoc (taken s x) first second) ∙ ap (λ n. plus n second) (sym (total-cons s x (filter p xs)))))
    (λ no. by_answer (q x)
    (λ yes. rw (no, parts.second x no ∙ yes, yes) (own ∙ plus-swap (taken s x) first second ∙ ap (plus first) (sym (total-cons s x (filter q xs)))))
    (λ neither. rw (no, parts.second x no ∙ neither, neither) rest))

none_below : (xs : List Task) → filter (below 0) xs ≡ []
none_below xs = filter_none (below 0) xs (each_of (λ x. below 0 x ≡ false) (λ x. le-ltb _ _ (omega arith)) xs)

all_below : (xs : List Task) → filter (below 8) xs ≡ xs
all_below xs = filter_every (below 8) xs (each_of (λ x. below 8 x ≡ true) (λ x. lt-ltb _ _ (omega arith)) xs)

-- the tasks of a machine are found tree by tree, behind those that were there
pub found_none : (found xs : List Task) → IsPermutation (found ++ filter (below 0) xs) found
found_none found xs =
    subst (λ zs. IsPermutation zs found) (sym (ap (λ zs. found ++ zs) (none_below xs) ∙ append-nil found)) (IsPermutation-refl found)

pub found_more : (number : ℕ) (old found new xs : List Task) → IsPermutation (old ++ filter (below number) xs) found → new ≡ found ++ filter (in_share number) xs
    → IsPermutation (old ++ filter (below (number + 1)) xs) new
found_more number old found new xs so_far is =
    let before = filter (below number) xs in
    let own = filter (in_share number) xs in
    let later = filter (below (number + 1)) xs in
    subst (λ zs. IsPermutation (old ++ later) zs) (sym is)
    (IsPermutation-trans (old ++ later) (old ++ (before ++ own)) (found ++ own)
    (IsPermutation-append_right old later (before ++ own) (moved (below number) (in_share number) (below (number + 1)) (one_more number) xs))
    (subst (λ zs. IsPermutation zs (found ++ own)) (append_assoc old before own) (IsPermutation-append_left own (old ++ before) found so_far)))

pub found_all : (old found xs : List Task) → IsPermutation (old ++ filter (below 8) xs) found → IsPermutation (old ++ xs) found
found_all old found xs all = subst (λ zs. IsPermutation (old ++ zs) found) (all_below xs) all

-- and what they need is taken off tree by tree
pub left_none : (s : Task → Bool) (amount : Need) (xs : List Task) → amount ≡ minus amount (total (filter s (filter (below 0) xs)))
left_none s amount xs =
    need_is amount (minus amount nothing) (omega arith) (omega arith) (omega arith) ∙ ap (λ zs. minus amount (total (filter s zs))) (sym (none_below xs))

pub left_more : (number : ℕ) (s : Task → Bool) (amount left new : Need) (xs : List Task) → left ≡ minus amount (total (filter s (filter (below number) xs)))
    → new ≡ minus left (total (filter s (filter (in_share number) xs))) → new ≡ minus amount (total (filter s (filter (below (number + 1)) xs)))
left_more number s amount left new xs so_far is =
    let before = total (filter s (filter (below number) xs)) in
    let own = total (filter s (filter (in_share number) xs)) in
    is
    ∙ ap (λ n. minus n own) so_far
    ∙ sym (left_by_both amount before own)
    ∙ ap (minus amount) (sym (summed (below number) (in_share number) (below (number + 1)) (one_more number) s xs))

pub left_all : (s : Task → Bool) (amount left : Need) (xs : List Task) → left ≡ minus amount (total (filter s (filter (below 8) xs))) → left ≡ minus amount (total (filter s xs))
left_all s amount left xs all = all ∙ ap (λ zs. minus amount (total (filter s zs))) (all_below xs)
