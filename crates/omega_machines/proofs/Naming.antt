-- An index of names, as names come and leave.
use Rattle.std.proofs.Common.{◌≡◌, ℕ, zero, suc, ◌+◌, ◌-◌, ◌<◌, ◌≤◌, Bool, true, false, true≢false, cond, not, List, [], ◌∷◌, ◌++◌, map, length, get_or, remove, slice_get, position, Option, None, Some, bytes_eq, IfOk, IfSome, SomeIff, nat_cmp, Less, Ok, Err, MatchResult, Result, refl, sym, ap, ◌∙◌, subst, inl, inr, arith, length-append, map-id, is_some, nat_lt, if◌then◌else◌}
use Rattle.std.specs.BTreeMap as tree
use Rattle.std.specs.BTreeMap.{BTreeMap}
use Rattle.std.specs.Cmp.{eq_by_cmp_equiv, nat_cmp_total}
use Rattle.std.specs.Cmp.Lexicographic.{slice_cmp, bytes_decides, nat_list_cmp_total, nat_list_eq_equiv}
use Rattle.std.specs.List.{AllByRecursion, IsDistinct, filter, list_any, position_or_len, zip}
use Rattle.std.specs.List.Sorted.{IsStrictlySortedBy, IsBinarySearchResult}
use Rattle.std.specs.Map.{lookup, remove_entry, IsKeyTest, AreApart, KeepsOthers}
use Rattle.std.specs.Option.{option_or}
use Rattle.std.specs.Ordering.{is_eq, eq_by_cmp}
use Rattle.std.specs.Prelude.{Vec}
use Rattle.std.specs.Result.{result_ok}
use Rattle.std.proofs.lemmas.Bool.{cases_order, lt-ltb, le-ltb, ltb-true, ltb-false}
use Rattle.std.proofs.lemmas.List.Edits.{length-remove}
use Rattle.std.proofs.lemmas.List.Sorted.{searched}
use Rattle.std.proofs.lemmas.Map.{lookup-remove_entry}
use Rattle.std.proofs.lemmas.Map.Keys.{IsDistinct-push, IsDistinct-cons, IsDistinct-head, IsDistinct-tail, below_from_sorted}
use Rattle.std.proofs.lemmas.Map.Made.{is_some-lookup, keys_of-zip}
use Rattle.std.proofs.lemmas.Map.Text.{is_eq-slice_cmp}
use Rattle.std.proofs.lemmas.Option.{cond_some, none-some, same_Some, slice_get_within, get_or_from_slice_get}
use Rattle.omega_machines.specs.Names.{IsIndexOf, number_of}
use Rattle.omega_machines.specs.declared.names.NameIndex.{NameIndex}
use Rattle.omega_model.proofs.Lists.{by_answer, each_append}

-- the place of a name among some items that have names
module _ {X : Type 0} (f : X → List ℕ) (n : List ℕ) where
  abbrev pub named : X → Bool
  named x = bytes_eq (f x) n

  -- how many stand before the first item of the name
  abbrev pub first : List X → ℕ
  first [] = zero
  first (x ∷ xs) = if named x then zero else suc (first xs)

  first_is : (xs : List X) → position_or_len named xs ≡ first xs
  first_is [] = refl
  first_is (x ∷ xs) = by_answer (named x) (λ t. rw t refl) (λ f. let rest = first_is xs in rw f (omega (arith, rest)))

  -- that is its position
  pub position_first : (xs : List X) → first xs < length xs → position named xs ≡ Some (first xs)
  position_first xs within = rw (first_is xs, lt-ltb (first xs) (length xs) within) refl

  -- and there is none where no item has the name
  pub position_nowhere : (xs : List X) → length xs ≤ first xs → position named xs ≡ None
  position_nowhere xs past = rw (first_is xs, le-ltb (first xs) (length xs) past) refl

  pub first_at : (xs : List X) (place : ℕ) → position named xs ≡ Some place → (first xs ≡ place) × (place < length xs)
  first_at xs place is =
      let parts = cond_some _ _ _ is in
      let at : position_or_len named xs ≡ place = parts.1 in
      let within : position_or_len named xs < length xs = ltb-true _ _ parts.0 in
      (sym (first_is xs) ∙ at, omega (arith, at, within))

  pub first_past : (xs : List X) → position named xs ≡ None → length xs ≤ first xs
  first_past xs is =
      by_answer (nat_lt (position_or_len named xs) (length xs))
      (λ t. let some : Some (position_or_len named xs) ≡ None = rw t at is in absurd (none-some _ (sym some)))
      (λ f. let past = ltb-false _ _ f in let at = first_is xs in omega (arith, past, at))

  others_named : (x : X) → named x ≡ true → (xs : List X) → AllByRecursion (λ y. bytes_eq (f x) y ≡ false) (map f xs) → filter (λ y. not (named y)) xs ≡ xs
  others_named x own [] apart = refl
  others_named x own (y ∷ ys) apart =
      let other : named y ≡ false = nat_list_eq_equiv.symm (f y) n ∙ ap (λ m. bytes_eq m (f y)) (sym ((bytes_decides (f x) n).0 own)) ∙ apart.0 in
      rw other (ap (λ rest. y ∷ rest) (others_named x own ys apart.1))

  -- among distinct names, the removal of the item at the place of a name leaves those of other names
  pub removed : (xs : List X) → IsDistinct bytes_eq (map f xs) → first xs < length xs → remove xs (first xs) ≡ filter (λ x. not (named x)) xs
  removed [] distinct within = absurd (omega (arith, within))
  removed (x ∷ xs) distinct within =
      by_answer (named x)
      (λ t. rw t (sym (others_named x t xs (IsDistinct-head bytes_eq (f x) (map f xs) distinct))))
      (λ f. let inside = rw f at within in rw f (ap (λ rest. x ∷ rest) (removed xs (IsDistinct-tail bytes_eq _ _ distinct) (omega (arith, inside)))))

  -- where no item has the name all stay
  pub unremoved : (xs : List X) → length xs ≤ first xs → filter (λ x. not (named x)) xs ≡ xs
  unremoved [] past = refl
  unremoved (x ∷ xs) past =
      by_answer (named x)
      (λ t. let inside = rw t at past in absurd (omega (arith, inside)))
      (λ f. let inside = rw f at past in rw f (ap (λ rest. x ∷ rest) (unremoved xs (omega (arith, inside)))))

  -- the names of what is left
  pub names_filtered : (xs : List X) → map f (filter (λ x. not (named x)) xs) ≡ filter (λ m. not (bytes_eq m n)) (map f xs)
  names_filtered [] = refl
  names_filtered (x ∷ xs) = by_answer (named x) (λ t. rw t (names_filtered xs)) (λ g. rw g (ap (λ rest. f x ∷ rest) (names_filtered xs)))

-- distinct names of which some leave are distinct
distinct_filtered : (p : List ℕ → Bool) (xs : List (List ℕ)) → IsDistinct bytes_eq xs → IsDistinct bytes_eq (filter p xs)
distinct_filtered p [] distinct = distinct
distinct_filtered p (x ∷ xs) distinct =
    let rest = distinct_filtered p xs (IsDistinct-tail bytes_eq x xs distinct) in
    by_answer (p x)
    (λ t. rw t (IsDistinct-cons bytes_eq x (filter p xs) (all xs (IsDistinct-head bytes_eq x xs distinct)) rest))
    (λ f. rw f rest)
  where
    all : (ys : List (List ℕ)) → AllByRecursion (λ y. bytes_eq x y ≡ false) ys → AllByRecursion (λ y. bytes_eq x y ≡ false) (filter p ys)
    all [] apart = tt
    all (y ∷ ys) apart = by_answer (p y) (λ t. rw t (apart.0, all ys apart.1)) (λ f. rw f (all ys apart.1))

-- a number behind the last one is behind them all
all_below : (xs : List ℕ) (next : ℕ) → ((last : ℕ) → slice_get xs (length xs - 1) ≡ Some last → nat_cmp last next ≡ Less) → IsStrictlySortedBy nat_cmp xs → AllByRecursion (λ x. nat_cmp x next ≡ Less) xs
unfolding IsStrictlySortedBy
all_below [] next behind rising = tt
all_below (x ∷ []) next behind rising = (behind x refl, tt)
all_below (x ∷ y ∷ ys) next behind rising =
    let later : length (x ∷ y ∷ ys) - 1 ≡ suc (length (y ∷ ys) - 1) = omega arith in
    let rest = all_below (y ∷ ys) next (λ last at. behind last (ap (slice_get (x ∷ y ∷ ys)) later ∙ at)) rising.1 in
    (nat_cmp_total.trans x y next rising.0.0 rest.0, rest)

-- so they rise with it at the end
pub rising_push : (xs : List ℕ) (next : ℕ) → ((last : ℕ) → slice_get xs (length xs - 1) ≡ Some last → nat_cmp last next ≡ Less) → IsStrictlySortedBy nat_cmp xs → IsStrictlySortedBy nat_cmp (xs ++ next ∷ [])
unfolding IsStrictlySortedBy
rising_push xs next behind rising = by xs (all_below xs next behind rising) rising
  where
    by : (ys : List ℕ) → AllByRecursion (λ y. nat_cmp y next ≡ Less) ys → IsStrictlySortedBy nat_cmp ys → IsStrictlySortedBy nat_cmp (ys ++ next ∷ [])
    by [] below rising = (tt, tt)
    by (y ∷ ys) below rising = (each_append (λ z. nat_cmp y z ≡ Less) ys (next ∷ []) rising.0 (below.0, tt), by ys below.1 rising.1)

-- what is left rises when one goes
rising_removed : (xs : List ℕ) (i : ℕ) → IsStrictlySortedBy nat_cmp xs → IsStrictlySortedBy nat_cmp (remove xs i)
unfolding IsStrictlySortedBy
rising_removed [] zero rising = rising
rising_removed [] (suc i) rising = rising
rising_removed (x ∷ xs) zero rising = rising.1
rising_removed (x ∷ xs) (suc i) rising = (all xs i rising.0, rising_removed xs i rising.1)
  where
    all : (ys : List ℕ) (j : ℕ) → AllByRecursion (λ y. nat_cmp x y ≡ Less) ys → AllByRecursion (λ y. nat_cmp x y ≡ Less) (remove ys j)
    all [] zero less = tt
    all [] (suc j) less = tt
    all (y ∷ ys) zero less = less.1
    all (y ∷ ys) (suc j) less = (less.0, all ys j less.1)

-- names beside their numbers, and the look-up of one of the names
module _ (n : List ℕ) where
  abbrev pub place : List (List ℕ) → ℕ
  place names = first (λ m. m) n names

  -- a number that a look-up finds stands at the place of the name
  found_number : (names : List (List ℕ)) (numbers : List ℕ) (number : ℕ) → lookup (bytes_eq n) (zip names numbers) ≡ Some number → (place names < length names) × (slice_get numbers (place names) ≡ Some number)
  found_number [] numbers number found = absurd (none-some _ found)
  found_number (x ∷ xs) [] number found = absurd (none-some _ found)
  found_number (x ∷ xs) (k ∷ ks) number found =
      by_answer (bytes_eq x n)
      (λ t. let own = nat_list_eq_equiv.symm n x ∙ t in let same = rw own at found in rw t (omega arith, same))
      (λ f.
      let other = nat_list_eq_equiv.symm n x ∙ f in
      let rest = found_number xs ks number (rw other at found) in
      let within = rest.0 in
      rw f (omega (arith, within), rest.1))

  -- a name that a look-up doesn't find isn't there
  lost_number : (names : List (List ℕ)) (numbers : List ℕ) → length numbers ≡ length names → lookup (bytes_eq n) (zip names numbers) ≡ None → length names ≤ place names
  lost_number [] numbers long lost = omega arith
  lost_number (x ∷ xs) [] long lost = absurd (omega (arith, long))
  lost_number (x ∷ xs) (k ∷ ks) long lost =
      by_answer (bytes_eq x n)
      (λ t. let own = nat_list_eq_equiv.symm n x ∙ t in absurd (none-some _ (sym (rw own at lost))))
      (λ f.
      let other = nat_list_eq_equiv.symm n x ∙ f in
      let rest = lost_number xs ks (omega (arith, long)) (rw other at lost) in
      rw f (omega (arith, rest)))

  -- the entries without that of the name
  entries_removed : (names : List (List ℕ)) (numbers : List ℕ) → length numbers ≡ length names → remove_entry (bytes_eq n) (zip names numbers) ≡ zip (remove names (place names)) (remove numbers (place names))
  entries_removed [] [] long = refl
  entries_removed [] (k ∷ ks) long = absurd (omega (arith, long))
  entries_removed (x ∷ xs) [] long = absurd (omega (arith, long))
  entries_removed (x ∷ xs) (k ∷ ks) long =
      by_answer (bytes_eq x n)
      (λ t. let own = nat_list_eq_equiv.symm n x ∙ t in rw (own, t) refl)
      (λ f.
      let other = nat_list_eq_equiv.symm n x ∙ f in
      rw (other, f) (ap (λ rest. (x, k) ∷ rest) (entries_removed xs ks (omega (arith, long)))))

-- a look-up with one more name at the end
lookup_push : (q n : List ℕ) (names : List (List ℕ)) (numbers : List ℕ) (next : ℕ) → length numbers ≡ length names
    → lookup (bytes_eq q) (zip (names ++ n ∷ []) (numbers ++ next ∷ [])) ≡ option_or (lookup (bytes_eq q) (zip names numbers)) (cond (bytes_eq q n) (Some next) None)
lookup_push q n [] [] next long = refl
lookup_push q n [] (k ∷ ks) next long = absurd (omega (arith, long))
lookup_push q n (x ∷ xs) [] next long = absurd (omega (arith, long))
lookup_push q n (x ∷ xs) (k ∷ ks) next long =
    by_answer (bytes_eq q x)
    (λ t. rw t refl)
    (λ f. rw f (lookup_push q n xs ks next (omega (arith, long))))

-- a binary search finds the place of a number among those that rise
pub number_place : (numbers : List ℕ) (number at : ℕ) (answer : Result ℕ ℕ) → IsStrictlySortedBy nat_cmp numbers → slice_get numbers at ≡ Some number
    → IsBinarySearchResult (λ y. nat_cmp y number) numbers answer → result_ok answer ≡ Some at
number_place numbers number at answer rising there answered = by answer (searched numbers number answer answered below)
  where
    below : (i j : ℕ) → i ≤ j → j < length numbers → get_or numbers i 0 ≤ get_or numbers j 0
    below i j upto within =
        elim (cases_order i j) [
          | inl same ↦ let equal : get_or numbers i 0 ≡ get_or numbers j 0 = ap (λ k. get_or numbers k 0) same in omega (arith, equal)
          | inr (inl less) ↦ let under = below_from_sorted numbers i j 0 rising less within in omega (arith, under)
          | inr (inr more) ↦ absurd (omega (arith, upto, more))
        ]

    inside : at < length numbers
    inside = slice_get_within numbers at number there

    is : get_or numbers at 0 ≡ number
    is = get_or_from_slice_get numbers at number 0 there

    by : (r : Result ℕ ℕ) → MatchResult r (λ i. (i < length numbers) × (get_or numbers i 0 ≡ number)) (λ i. (i ≤ length numbers) × ((k : ℕ) → k < i → get_or numbers k 0 < number) × ((k : ℕ) → i ≤ k → k < length numbers → number < get_or numbers k 0)) → result_ok r ≡ Some at
    by (Ok i) found =
        elim (cases_order i at) [
          | inl same ↦ ap Some same
          | inr (inl less) ↦ let under = below_from_sorted numbers i at 0 rising less inside in absurd (omega (arith, under, found.1, is))
          | inr (inr more) ↦ let over = below_from_sorted numbers at i 0 rising more found.0 in absurd (omega (arith, over, found.1, is))
        ]
    by (Err i) lost =
        elim (cases_order at i) [
          | inl same ↦ let under = lost.2 at (omega (arith, same)) inside in absurd (omega (arith, under, is))
          | inr (inl less) ↦ let under = lost.1 at less in absurd (omega (arith, under, is))
          | inr (inr more) ↦ let over = lost.2 at (omega (arith, more)) inside in absurd (omega (arith, over, is))
        ]

-- the map by names, after a change of one of them
module _ {A : Type 0} (n : List ℕ) (old new : BTreeMap (Vec ℕ A) ℕ) (w : Option ℕ)
    (changed : tree.UpdatesBy (λ x y. slice_cmp nat_cmp x.items y.items) (λ k. slice_cmp nat_cmp n k.items) old new w) where
  abbrev at_name : BTreeMap (Vec ℕ A) ℕ → List ℕ → Option ℕ
  at_name m q = tree.get_by (λ k. slice_cmp nat_cmp q k.items) m

  other_entries : (other : Vec ℕ A → Bool) → IsKeyTest (eq_by_cmp (λ (x y : Vec ℕ A). slice_cmp nat_cmp x.items y.items)) other → AreApart (λ k. is_eq (slice_cmp nat_cmp n k.items)) other → lookup other new.entries ≡ lookup other old.entries
  unfolding KeepsOthers
  other_entries = changed.3

  other_name : (q k : List ℕ) → bytes_eq n q ≡ false → is_eq (slice_cmp nat_cmp n k) ≡ true → is_eq (slice_cmp nat_cmp q k) ≡ false
  other_name q k ne own =
      let same : bytes_eq n k ≡ true = sym (is_eq-slice_cmp n k) ∙ own in
      is_eq-slice_cmp q k ∙ nat_list_eq_equiv.symm q k ∙ sym (nat_list_eq_equiv.congr n k q same) ∙ ne

  pub changed_at : (q : List ℕ) → at_name new q ≡ cond (bytes_eq n q) w (at_name old q)
  changed_at q =
      by_answer (bytes_eq n q)
      (λ t. rw t (ap (at_name new) (sym ((bytes_decides n q).0 t)) ∙ changed.1))
      (λ f. rw f (other_entries (λ k. is_eq (slice_cmp nat_cmp q k.items)) (λ x y. (eq_by_cmp_equiv nat_list_cmp_total).congr q x.items y.items) (λ k. other_name q k.items f)))

-- a name that the map doesn't find is none of the list, and one that it finds has its place and stands there once
module _ (index : NameIndex) (names : List (List ℕ)) (held : IsIndexOf index names) (n : List ℕ) where
  pub nowhere : number_of index n ≡ None → length names ≤ place n names
  nowhere lost = lost_number n names index.numbers.items held.long (sym (held.found n) ∙ lost)

  pub somewhere : (number : ℕ) → number_of index n ≡ Some number → (place n names < length names) × (slice_get index.numbers.items (place n names) ≡ Some number)
  somewhere number found = found_number n names index.numbers.items number (sym (held.found n) ∙ found)

  none_equal : number_of index n ≡ None → list_any (bytes_eq n) names ≡ false
  none_equal lost =
      ap (list_any (bytes_eq n)) (sym (keys_of-zip names index.numbers.items held.long))
      ∙ sym (is_some-lookup (bytes_eq n) (zip names index.numbers.items)) ∙ ap is_some (sym (held.found n) ∙ lost)

  -- one more name at the end
  pub index_push : (next : NameIndex) (number : ℕ) → number_of index n ≡ None → next.numbers.items ≡ index.numbers.items ++ number ∷ [] → IsStrictlySortedBy nat_cmp next.numbers.items
      → ((q : List ℕ) → number_of next q ≡ cond (bytes_eq n q) (Some number) (number_of index q)) → IsIndexOf next (names ++ n ∷ [])
  index_push next number lost numbers rising changed = record {
    distinct = IsDistinct-push nat_list_eq_equiv names n held.distinct (none_equal lost);
    long =
        let more : length next.numbers.items ≡ length (index.numbers.items ++ number ∷ []) = ap length numbers in
        let long = held.long in
        omega (arith, length-append {A = ℕ}, length-append {A = List ℕ}, more, long);
    rising = rising;
    found = λ q. changed q ∙ sym (ap (λ ks. lookup (bytes_eq q) (zip (names ++ n ∷ []) ks)) numbers ∙ lookup_push q n names index.numbers.items number held.long ∙ either q);
  }
    where
      or_none : (o : Option ℕ) → option_or o None ≡ o
      or_none None = refl
      or_none (Some x) = refl

      either : (q : List ℕ) → option_or (lookup (bytes_eq q) (zip names index.numbers.items)) (cond (bytes_eq q n) (Some number) None) ≡ cond (bytes_eq n q) (Some number) (number_of index q)
      either q =
          by_answer (bytes_eq n q)
          (λ t.
          let own = nat_list_eq_equiv.symm q n ∙ t in
          let gone : lookup (bytes_eq q) (zip names index.numbers.items) ≡ None = sym (held.found q) ∙ ap (number_of index) (sym ((bytes_decides n q).0 t)) ∙ lost in
          rw (gone, own, t) refl)
          (λ f. let other = nat_list_eq_equiv.symm q n ∙ f in rw (other, f) (or_none _ ∙ sym (held.found q)))

  -- one name less
  pub index_removed : (next : NameIndex) → place n names < length names → next.numbers.items ≡ remove index.numbers.items (place n names)
      → ((q : List ℕ) → number_of next q ≡ cond (bytes_eq n q) None (number_of index q)) → IsIndexOf next (filter (λ m. not (bytes_eq m n)) names)
  index_removed next within numbers changed = subst (IsIndexOf next) rest (record {
    distinct = subst (IsDistinct bytes_eq) (sym rest) (distinct_filtered (λ m. not (bytes_eq m n)) names held.distinct);
    long =
        let fewer : length next.numbers.items ≡ length (remove index.numbers.items (place n names)) = ap length numbers in
        let long = held.long in
        let inside : place n names < length index.numbers.items = omega (arith, within, long) in
        omega (arith, length-remove names (place n names) within, length-remove index.numbers.items (place n names) inside, fewer, long);
    rising = subst (IsStrictlySortedBy nat_cmp) (sym numbers) (rising_removed index.numbers.items (place n names) held.rising);
    found = λ q. changed q ∙ sym (
        ap (λ ks. lookup (bytes_eq q) (zip (remove names (place n names)) ks)) numbers
        ∙ ap (lookup (bytes_eq q)) (sym (entries_removed n names index.numbers.items held.long))
        ∙ lookup-remove_entry nat_list_eq_equiv (bytes_eq n) (λ x y. nat_list_eq_equiv.congr n x y) q (zip names index.numbers.items)
        (subst (IsDistinct bytes_eq) (sym (keys_of-zip names index.numbers.items held.long)) held.distinct)
        ∙ ap (cond (bytes_eq n q) None) (sym (held.found q)));
  })
    where
      rest : remove names (place n names) ≡ filter (λ m. not (bytes_eq m n)) names
      rest = removed (λ m. m) n names (subst (IsDistinct bytes_eq) (sym (map-id names)) held.distinct) within

  -- none less where the name isn't there
  pub index_unremoved : (next : NameIndex) → number_of index n ≡ None → next.numbers.items ≡ index.numbers.items → tree.IsUnchanged index.by_name next.by_name
      → IsIndexOf next (filter (λ m. not (bytes_eq m n)) names)
  index_unremoved next lost numbers same = subst (IsIndexOf next) (sym (unremoved (λ m. m) n names (nowhere lost))) (record {
    distinct = held.distinct;
    long = ap length numbers ∙ held.long;
    rising = subst (IsStrictlySortedBy nat_cmp) (sym numbers) held.rising;
    found = λ q. ap (lookup (λ k. is_eq (slice_cmp nat_cmp q k.items))) same ∙ held.found q ∙ ap (λ ks. lookup (bytes_eq q) (zip names ks)) (sym numbers);
  })

no_names : IsDistinct bytes_eq []
unfolding IsDistinct
no_names = tt

none_rise : IsStrictlySortedBy nat_cmp []
unfolding IsStrictlySortedBy
none_rise = tt

-- the index of no names
pub index_none : (index : NameIndex) → index.numbers.items ≡ [] → tree.IsEmpty index.by_name → IsIndexOf index []
index_none index numbers empty = record {
  distinct = no_names;
  long = ap length numbers;
  rising = subst (IsStrictlySortedBy nat_cmp) (sym numbers) none_rise;
  found = λ q. ap (lookup (λ k. is_eq (slice_cmp nat_cmp q k.items))) empty;
}

less_is : (a b : ℕ) → a < b → nat_cmp a b ≡ Less
less_is a b less = rw (lt-ltb a b less) refl

-- the number after the last one, where there is one
pub next_rises : (numbers : List ℕ) (last : ℕ) (P : Type 0) (next : Option ℕ) → slice_get numbers (length numbers - 1) ≡ Some last → SomeIff next P (last + 1)
    → IfSome next (λ number. IsStrictlySortedBy nat_cmp numbers → IsStrictlySortedBy nat_cmp (numbers ++ number ∷ []))
next_rises numbers last P None at is = tt
next_rises numbers last P (Some number) at is = rising_push numbers number behind
  where
    behind : (l : ℕ) → slice_get numbers (length numbers - 1) ≡ Some l → nat_cmp l number ≡ Less
    behind l there =
        let same : last ≡ l = same_Some _ _ (sym at ∙ there) in
        let one_more : number ≡ last + 1 = is.1 in
        less_is l number (omega (arith, same, one_more))

-- and any number, where none is there
pub first_rises : (numbers : List ℕ) (number : ℕ) → slice_get numbers (length numbers - 1) ≡ None → IsStrictlySortedBy nat_cmp numbers → IsStrictlySortedBy nat_cmp (numbers ++ number ∷ [])
first_rises numbers number none = rising_push numbers number (λ l there. absurd (none-some _ (sym none ∙ there)))

-- what holds of an answer holds of its value
pub ok_holds : {A E : Type 0} (P : A → Type 0) (answer : Result A E) (value : A) → Some value ≡ result_ok answer → IfOk answer P → P value
ok_holds P (Ok a) value is held = subst P (sym (same_Some _ _ is)) held
ok_holds P (Err e) value is held = absurd (none-some _ (sym is))

pub none_is : (o : Option ℕ) → false ≡ is_some o → o ≡ None
none_is None isnt = refl
none_is (Some x) isnt = absurd (true≢false (sym isnt))
