-- Lists of which each element has a property, and what a filter or a search makes of them.
use Rattle.std.proofs.Common.{◌≡◌, ◌<◌, ℕ, zero, suc, ◌+◌, Bool, true, false, ◌&&◌, cond, List, [], ◌∷◌, ◌++◌, map, length, get_or, take, drop, Some, None, refl, sym, ap, subst, ◌∙◌, arith}
use Rattle.std.specs.List.{All, filter, find, list_any, range_with_len, AllByRecursion as Each}
use Rattle.std.proofs.lemmas.Bool.{both_ways, or_from}
use Rattle.std.proofs.lemmas.List.{take_all}
use Rattle.std.proofs.lemmas.List.Elements.{All-head, All-tail, All-cons, All-nil}
use Rattle.std.proofs.lemmas.Option.{none-some, same_Some}
use Rattle.omega_model.specs.Keys.{beginnings}
use Rattle.omega_model.specs.declared.cells.TaskKey.{TaskKey}

-- either answer of a test
pub by_answer : {P : Type 0} (b : Bool) → (b ≡ true → P) → (b ≡ false → P) → P
by_answer true t f = t refl
by_answer false t f = f refl

module _ {X : Type 0} where
  pub each_of : (P : X → Type 0) → ((x : X) → P x) → (xs : List X) → Each P xs
  each_of P f [] = tt
  each_of P f (x ∷ xs) = (f x, each_of P f xs)

  pub each_map : (P Q : X → Type 0) → ((x : X) → P x → Q x) → (xs : List X) → Each P xs → Each Q xs
  each_map P Q f [] e = tt
  each_map P Q f (x ∷ xs) e = (f x e.0, each_map P Q f xs e.1)

  pub each_both : (P Q R : X → Type 0) → ((x : X) → P x → Q x → R x) → (xs : List X) → Each P xs → Each Q xs → Each R xs
  each_both P Q R f [] e g = tt
  each_both P Q R f (x ∷ xs) e g = (f x e.0 g.0, each_both P Q R f xs e.1 g.1)

  pub each_append : (P : X → Type 0) (xs ys : List X) → Each P xs → Each P ys → Each P (xs ++ ys)
  each_append P [] ys e f = f
  each_append P (x ∷ xs) ys e f = (e.0, each_append P xs ys e.1 f)

  pub each_front : (P : X → Type 0) (xs ys : List X) → Each P (xs ++ ys) → Each P xs
  each_front P [] ys e = tt
  each_front P (x ∷ xs) ys e = (e.0, each_front P xs ys e.1)

  pub each_back : (P : X → Type 0) (xs ys : List X) → Each P (xs ++ ys) → Each P ys
  each_back P [] ys e = e
  each_back P (x ∷ xs) ys e = each_back P xs ys e.1

  pub each_take : (P : X → Type 0) (n : ℕ) (xs : List X) → Each P xs → Each P (take n xs)
  each_take P zero xs e = tt
  each_take P (suc n) [] e = tt
  each_take P (suc n) (x ∷ xs) e = (e.0, each_take P n xs e.1)

  pub each_drop : (P : X → Type 0) (n : ℕ) (xs : List X) → Each P xs → Each P (drop n xs)
  each_drop P zero xs e = e
  each_drop P (suc n) [] e = tt
  each_drop P (suc n) (x ∷ xs) e = each_drop P n xs e.1

  -- what holds of each element holds of the one at a place
  pub each_at : (P : X → Type 0) (xs : List X) (i : ℕ) (d : X) → Each P xs → i < length xs → P (get_or xs i d)
  each_at P [] i d e below = absurd (omega (arith, below))
  each_at P (x ∷ xs) zero d e below = e.0
  each_at P (x ∷ xs) (suc i) d e below = each_at P xs i d e.1 (omega (arith, below))

  -- each element by recursion, and each by its place
  pub each_of_all : (P : X → Type 0) (xs : List X) → All P xs → Each P xs
  each_of_all P [] all = tt
  each_of_all P (x ∷ xs) all = (All-head P x xs all, each_of_all P xs (All-tail P x xs all))

  pub all_of_each : (P : X → Type 0) (xs : List X) → Each P xs → All P xs
  all_of_each P [] each = All-nil P
  all_of_each P (x ∷ xs) each = All-cons P x xs each.0 (all_of_each P xs each.1)

  -- what holds of each element holds of each that a filter leaves
  pub each_filter : (P : X → Type 0) (p : X → Bool) (xs : List X) → Each P xs → Each P (filter p xs)
  each_filter P p [] e = tt
  each_filter P p (x ∷ xs) e =
      by_answer (p x) (λ t. rw t (e.0, each_filter P p xs e.1)) (λ f. rw f (each_filter P p xs e.1))

  -- what a filter leaves passes
  pub each_passes : (p : X → Bool) (xs : List X) → Each (λ x. p x ≡ true) (filter p xs)
  each_passes p [] = tt
  each_passes p (x ∷ xs) = by_answer (p x) (λ t. rw t (t, each_passes p xs)) (λ f. rw f (each_passes p xs))

  -- what holds of all that a filter leaves holds of all where they pass
  pub each_where : (P : X → Type 0) (p : X → Bool) (xs : List X) → Each P (filter p xs) → Each (λ x. p x ≡ true → P x) xs
  each_where P p [] e = tt
  each_where P p (x ∷ xs) e =
      by_answer (p x)
      (λ t. let all : Each P (x ∷ filter p xs) = rw t at e in (λ _. all.0, each_where P p xs all.1))
      (λ f. (λ passes. absurd (both_ways (p x) f passes), each_where P p xs (rw f at e)))

  -- what a search finds is an element that passes
  pub each_found : (P : X → Type 0) (p : X → Bool) (xs : List X) (y : X) → Each P xs → find p xs ≡ Some y → P y × (p y ≡ true)
  each_found P p [] y e found = absurd (none-some y found)
  each_found P p (x ∷ xs) y e found =
      by_answer (p x)
      (λ t. let same : x ≡ y = same_Some x y (rw t at found) in (subst P same e.0, ap p (sym same) ∙ t))
      (λ f. each_found P p xs y e.1 (rw f at found))

  -- where a search finds nothing, no element passes
  pub each_absent : (p : X → Bool) (xs : List X) → find p xs ≡ None → Each (λ x. p x ≡ false) xs
  each_absent p [] none = tt
  each_absent p (x ∷ xs) none =
      by_answer (p x) (λ t. absurd (none-some x (sym (rw t at none)))) (λ f. (f, each_absent p xs (rw f at none)))

  pub filter_none : (p : X → Bool) (xs : List X) → Each (λ x. p x ≡ false) xs → filter p xs ≡ []
  filter_none p [] e = refl
  filter_none p (x ∷ xs) e = rw e.0 (filter_none p xs e.1)

  pub filter_every : (p : X → Bool) (xs : List X) → Each (λ x. p x ≡ true) xs → filter p xs ≡ xs
  filter_every p [] e = refl
  filter_every p (x ∷ xs) e = rw e.0 (ap (λ ys. x ∷ ys) (filter_every p xs e.1))

  -- two filters that agree on each element, and two that agree everywhere
  pub filter_where : (p q : X → Bool) (xs : List X) → Each (λ x. p x ≡ q x) xs → filter p xs ≡ filter q xs
  filter_where p q [] e = refl
  filter_where p q (x ∷ xs) e = rw (e.0, filter_where p q xs e.1) refl

  pub filter_alike : (p q : X → Bool) → ((x : X) → p x ≡ q x) → (xs : List X) → filter p xs ≡ filter q xs
  filter_alike p q same xs = filter_where p q xs (each_of (λ x. p x ≡ q x) same xs)

  pub find_none : (p : X → Bool) (xs : List X) → Each (λ x. p x ≡ false) xs → find p xs ≡ None
  find_none p [] e = refl
  find_none p (x ∷ xs) e = rw e.0 (find_none p xs e.1)

  pub any_none : (p : X → Bool) (xs : List X) → Each (λ x. p x ≡ false) xs → list_any p xs ≡ false
  any_none p [] e = refl
  any_none p (x ∷ xs) e = rw e.0 (any_none p xs e.1)

  -- a search for what a filter leaves
  pub find_filtered : (q s : X → Bool) → ((x : X) → q x ≡ true → s x ≡ true) → (xs : List X) → find q (filter s xs) ≡ find q xs
  find_filtered q s leaves [] = refl
  find_filtered q s leaves (x ∷ xs) =
      by_answer (s x)
      (λ t. rw t (ap (λ o. cond (q x) (Some x) o) (find_filtered q s leaves xs)))
      (λ f. by_answer (q x) (λ u. absurd (both_ways (s x) f (leaves x u))) (λ u. rw (f, u) (find_filtered q s leaves xs)))

  -- a filter after a filter
  pub filter_and : (p q : X → Bool) (xs : List X) → filter p (filter q xs) ≡ filter (λ x. p x && q x) xs
  filter_and p q [] = refl
  filter_and p q (x ∷ xs) =
      by_answer (q x)
      (λ t. by_answer (p x) (λ u. rw (t, u) (ap (λ ys. x ∷ ys) (filter_and p q xs))) (λ u. rw (t, u) (filter_and p q xs)))
      (λ f. by_answer (p x) (λ u. rw (f, u) (filter_and p q xs)) (λ u. rw (f, u) (filter_and p q xs)))

  -- two filters in either order
  pub filter_turned : (p q : X → Bool) (xs : List X) → filter p (filter q xs) ≡ filter q (filter p xs)
  filter_turned p q [] = refl
  filter_turned p q (x ∷ xs) =
      by_answer (q x)
      (λ t. by_answer (p x) (λ u. rw (t, u) (rw t (ap (λ ys. x ∷ ys) (filter_turned p q xs)))) (λ u. rw (t, u) (filter_turned p q xs)))
      (λ f. by_answer (p x) (λ u. rw (f, u) (rw f (filter_turned p q xs))) (λ u. rw (f, u) (filter_turned p q xs)))

  -- where a search finds nothing, nothing passes
  pub none_passes : (p : X → Bool) (xs : List X) → find p xs ≡ None → list_any p xs ≡ false
  none_passes p [] none = refl
  none_passes p (x ∷ xs) none =
      by_answer (p x)
      (λ t. absurd (none-some x (sym (rw t at none))))
      (λ f. or_from (p x) (list_any p xs) f (none_passes p xs (rw f at none)))

  -- what a search finds passes
  pub found_passes : (p : X → Bool) (xs : List X) (y : X) → find p xs ≡ Some y → p y ≡ true
  found_passes p [] y found = absurd (none-some y found)
  found_passes p (x ∷ xs) y found =
      by_answer (p x)
      (λ t. let same : x ≡ y = same_Some x y (rw t at found) in ap p (sym same) ∙ t)
      (λ f. found_passes p xs y (rw f at found))

-- what a search found, which passes
abbrev pub Finds : {X : Type 0} → (X → Bool) → List X → Type 0
Finds {X} p xs = (x : X) × ((find p xs ≡ Some x) × (p x ≡ true))

finds_later : {X : Type 0} (p : X → Bool) (x : X) (xs : List X) → Finds p xs → Finds p (x ∷ xs)
finds_later p x xs found = by_answer (p x) (λ t. (x, (rw t refl, t))) (λ f. (found.0, (rw f found.1.0, found.1.1)))

-- a search among the values at some numbers finds one that passes, where the last of them does
found_at_last : {X : Type 0} (p : X → Bool) (f : ℕ → X) (start more : ℕ) → p (f (start + more)) ≡ true
    → Finds p (map f (range_with_len start (suc more)))
found_at_last p f start zero last =
    let same : start + 0 ≡ start = omega arith in
    let here : p (f start) ≡ true = rw same at last in
    (f start, (rw here refl, here))
found_at_last p f start (suc more) last =
    let same : start + suc more ≡ (start + 1) + more = omega arith in
    finds_later p (f start) (map f (range_with_len (start + 1) (suc more))) (found_at_last p f (start + 1) more (rw same at last))

-- a beginning of some names passes where all of them do
pub beginning_found : (p : List TaskKey → Bool) (keys : List TaskKey) → p keys ≡ true → Finds p (beginnings keys)
beginning_found p keys all =
    let same : suc (length keys) ≡ length keys + 1 = omega arith in
    subst (λ n. Finds p (map (λ k. take k keys) (range_with_len 0 n))) same
    (found_at_last p (λ n. take n keys) 0 (length keys) (ap p (take_all (0 + length keys) keys (omega arith)) ∙ all))
