-- Lists of entries that grow at their ends.
use Rattle.std.proofs.Common.{◌≡◌, ◌≢◌, ℕ, zero, suc, ◌≤◌, List, [], ◌∷◌, ◌++◌, length, drop, sym, refl, ap, ◌∙◌, arith, Some, Option, eq-eqb, ne_eqb, length-append, append_assoc}
use Rattle.std.specs.Prelude.{sum_by}
use Rattle.std.proofs.lemmas.List.{append-nil}
use Rattle.std.proofs.lemmas.List.Elements.{filter-append}
use Rattle.std.proofs.lemmas.List.Sums.{sum_by-cons}
use Rattle.omega_lock.specs.Lists.{EachBelow, EachHasItsEntries, EachIs, StartsWith, StartsWithEach, entries_of, entries_since, is_by, same}
use Rattle.omega_lock.proofs.Sums.{same-same}

module _ {E : Type 0} where
  -- a list goes on from itself
  pub starts_self : (l : List E) → StartsWith l l
  starts_self l = ([], sym (append-nil l))

  -- what goes on from a longer list goes on from a shorter
  pub starts_trans : (a b c : List E) → StartsWith a b → StartsWith b c → StartsWith a c
  starts_trans a b c x y = (y.0 ++ x.0, x.1 ∙ ap (λ l. l ++ x.0) y.1 ∙ append_assoc c y.0 x.0)

  -- what is dropped of a longer list
  pub drop_starts : (n : ℕ) (a b : List E) → StartsWith a b → StartsWith (drop n a) (drop n b)
  drop_starts n a b s = more n b s.0 a s.1
    where
      grown : (n : ℕ) (b c : List E) → StartsWith (drop n (b ++ c)) (drop n b)
      grown zero b c = (c, refl)
      grown (suc n) [] c = (drop (suc n) c, refl)
      grown (suc n) (x ∷ xs) c = grown n xs c

      more : (n : ℕ) (b c a : List E) → a ≡ b ++ c → StartsWith (drop n a) (drop n b)
      more n b c a e = rw e (grown n b c)

  -- what comes behind the first so many entries, of a list that is joined to
  pub drop_more : (n : ℕ) (a b : List E) → n ≤ length a → drop n (a ++ b) ≡ drop n a ++ b
  drop_more zero a b h = refl
  drop_more (suc n) [] b h = absurd (omega arith)
  drop_more (suc n) (x ∷ xs) b h = drop_more n xs b (omega arith)

  -- a list that goes on from another is no shorter
  pub starts_length : (a b : List E) → StartsWith a b → length b ≤ length a
  starts_length a b s = let h = ap length s.1 ∙ length-append b s.0 in omega (arith, h)

  -- a list without a length
  none_left : (l : List E) → length l ≡ 0 → l ≡ []
  none_left [] h = refl
  none_left (x ∷ xs) h = absurd (omega arith)

  -- a list between two equal ones
  pub starts_between : (a b c : List E) → StartsWith a b → StartsWith b c → a ≡ c → b ≡ c
  starts_between a b c x y e =
      let p = ap length x.1 ∙ length-append b x.0 in
      let q = ap length y.1 ∙ length-append c y.0 in
      let r : length a ≡ length c = ap length e in
      y.1 ∙ ap (λ l. c ++ l) (none_left y.0 (omega (arith, p, q, r))) ∙ append-nil c

module _ {E : Type 0} (number : E → Option ℕ) where
  -- the entries of a number in a list that goes on
  pub since_starts : (base n : ℕ) (a b : List E) → StartsWith a b
      → StartsWith (entries_since number base n a) (entries_since number base n b)
  since_starts base n a b s = let d = drop_starts base a b s in
      (entries_of number n d.0, ap (entries_of number n) d.1 ∙ filter-append (λ f. is_by n (number f)) (drop base b) d.0)

  -- one more entry
  pub since_more : (base n : ℕ) (log : List E) (e : E) → base ≤ length log
      → entries_since number base n (log ++ e ∷ []) ≡ entries_since number base n log ++ entries_of number n (e ∷ [])
  since_more base n log e h = ap (entries_of number n) (drop_more base log (e ∷ []) h) ∙ filter-append (λ f. is_by n (number f)) (drop base log) (e ∷ [])

  -- an entry of the number
  pub one_mine : (n : ℕ) (e : E) → number e ≡ Some n → entries_of number n (e ∷ []) ≡ e ∷ []
  one_mine n e by = rw (by, eq-eqb n n refl) refl

  -- an entry of another number
  pub one_other : (n m : ℕ) (e : E) → number e ≡ Some m → n ≢ m → entries_of number n (e ∷ []) ≡ []
  one_other n m e by ne = rw (by, ne_eqb n m ne) refl

  -- one more entry of the number
  pub since_mine : (base n : ℕ) (log : List E) (e : E) → base ≤ length log → number e ≡ Some n
      → entries_since number base n (log ++ e ∷ []) ≡ entries_since number base n log ++ e ∷ []
  since_mine base n log e h by = since_more base n log e h ∙ ap (λ z. entries_since number base n log ++ z) (one_mine n e by)

  -- one more entry of another number changes nothing
  pub since_other : (base n m : ℕ) (log : List E) (e : E) → base ≤ length log → number e ≡ Some m
      → n ≢ m → entries_since number base n (log ++ e ∷ []) ≡ entries_since number base n log
  since_other base n m log e h by ne = since_more base n log e h ∙ ap (λ z. entries_since number base n log ++ z) (one_other n m e by ne) ∙ append-nil (entries_since number base n log)

  -- lists of other number_keeps stay
  pub listed_other : (base m : ℕ) (log : List E) (e : E) (ps : List (ℕ × List E))
      → base ≤ length log → number e ≡ Some m
      → sum_by (λ (p : ℕ × List E). same m p.0) ps ≡ 0 → EachHasItsEntries number base log ps
      → EachHasItsEntries number base (log ++ e ∷ []) ps
  listed_other base m log e [] h by none l = tt
  listed_other base m log e (p ∷ ps) h by none l =
      let f : ℕ × List E → ℕ = λ p. same m p.0 in
      let c = sum_by-cons f p ps in
      let ne : p.0 ≢ m = λ q. let one : same m p.0 ≡ 1 = rw q (same-same m) in omega (arith, c, one, none) in
      (l.0 ∙ sym (since_other base p.0 m log e h by ne), listed_other base m log e ps h by (omega (arith, c, none)) l.1)

  -- the lists of two seats together
  pub listed_both : (base : ℕ) (log : List E) (ps qs : List (ℕ × List E))
      → EachHasItsEntries number base log ps → EachHasItsEntries number base log qs
      → EachHasItsEntries number base log (ps ++ qs)
  listed_both base log [] qs a b = b
  listed_both base log (p ∷ ps) qs a b = (a.0, listed_both base log ps qs a.1 b)

  -- numbers below a bound are below a greater one
  pub given_more : (n m : ℕ) (es : List E) → n ≤ m → EachBelow number n es → EachBelow number m es
  given_more n m [] h g = tt
  given_more n m (e ∷ es) h g = let lt = g.0.2 in ((g.0.0, g.0.1, omega (arith, lt)), given_more n m es h g.1)

  -- the entries of two lists
  pub given_both : (n : ℕ) (es fs : List E) → EachBelow number n es → EachBelow number n fs
      → EachBelow number n (es ++ fs)
  given_both n [] fs a b = b
  given_both n (e ∷ es) fs a b = (a.0, given_both n es fs a.1 b)

  -- no entry has a number that was not given
  pub given_none : (n m : ℕ) (es : List E) → n ≤ m → EachBelow number n es → entries_of number m es ≡ []
  given_none n m [] h g = refl
  given_none n m (e ∷ es) h g = let lt = g.0.2 in let ne : m ≢ g.0.0 = λ q. omega (arith, lt) in
      let rest = given_none n m es h g.1 in rw (g.0.1, ne_eqb m g.0.0 ne) rest

module _ {E : Type 0} where
  -- a longer list goes on from the same
  pub starts_each_more : (log : List E) (e : E) (xs : List (List E)) → StartsWithEach log xs
      → StartsWithEach (log ++ e ∷ []) xs
  starts_each_more log e [] a = tt
  starts_each_more log e (x ∷ xs) a = (starts_trans (log ++ e ∷ []) log x (e ∷ [], refl) a.0, starts_each_more log e xs a.1)

  -- the beginnings of two seats together
  pub starts_each_both : (log : List E) (xs ys : List (List E)) → StartsWithEach log xs
      → StartsWithEach log ys → StartsWithEach log (xs ++ ys)
  starts_each_both log [] ys a b = b
  starts_each_both log (x ∷ xs) ys a b = (a.0, starts_each_both log xs ys a.1 b)

-- the numbers of two seats together
pub each_is_both : (n : ℕ) (xs ys : List ℕ) → EachIs n xs → EachIs n ys → EachIs n (xs ++ ys)
each_is_both n [] ys a b = b
each_is_both n (x ∷ xs) ys a b = (a.0, each_is_both n xs ys a.1 b)
