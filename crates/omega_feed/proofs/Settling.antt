-- Open places that are looked at one after the other: those whose job is quiet go.
use Rattle.std.proofs.Common.{◌≡◌, ◌<◌, ◌≤◌, ◌⊎◌, ℕ, Bool, true, false, List, [], ◌∷◌, Some, length, refl, ap, sym, subst, ◌∙◌, inl, inr, arith}
use Rattle.std.specs.Prelude.{option_map, set, slice_get}
use Rattle.std.specs.BTreeMap.{is_at}
use Rattle.std.specs.BTreeSet as tree
use Rattle.std.specs.BTreeSet.{BTreeSet}
use Rattle.std.specs.List.{All, items_where_true, list_any}
use Rattle.std.specs.List.Retain.{IsFiltered, ReturnsInTurn}
use Rattle.std.specs.Ordering.{nat_cmp}
use Rattle.std.proofs.lemmas.Bool.{cases_Bool, cases_eq, both_ways, or_cases, or_left, or_right}
use Rattle.std.proofs.lemmas.Fn.{All-from_retain}
use Rattle.std.proofs.lemmas.List.Elements.{All-head, All-tail}
use Rattle.std.proofs.lemmas.Option.{slice_get_past}
use Rattle.omega_model.specs.declared.cells.Task.{Task}
use Rattle.omega_feed.specs.Asked.{Asked}
use Rattle.omega_feed.specs.Open.{IsQuietAt, IsSettled, NoneIsQuiet, OpenPlaces, OthersAreQuiet, SameIsOpenForOthers, SaysWaits, StayOpen, is_among_own, is_open}
use Rattle.omega_feed.specs.declared.jobs.RoutedJob.{RoutedJob}
use Rattle.omega_feed.proofs.OpenSets.{one_place, open_set_other, open_set_own}

-- what is retained of some items
module _ {X F : Type 0} (R : F → X → Bool → F → Type 0) (P : X → Type 0) (f : F) (h : (x : X) (b : Bool) (f' : F) → R f x b f' → (b ≡ false → P x) × (f' ≡ f)) (test : X → Bool) where
  told_each : (bs : List Bool) (xs : List X) (q : F) → length bs ≡ length xs → ReturnsInTurn R f bs xs q → list_any test xs ≡ true
      → (list_any test (items_where_true bs xs) ≡ true) ⊎ ((x : X) × (test x ≡ true) × P x)
  told_each [] [] q e t any = absurd (both_ways _ refl any)
  told_each [] (x ∷ xs) q e t any = absurd (omega arith)
  told_each (b ∷ bs) [] q e t any = absurd t
  told_each (true ∷ bs) (x ∷ xs) q e t any =
      let later = told_each bs xs q (omega arith) (subst (λ (g : F). ReturnsInTurn R g bs xs q) (h x true t.0 t.1).1 t.2) in
      elim (or_cases (test x) (list_any test xs) any) [
        | inl here ↦ inl (or_left (test x) _ here)
        | inr there ↦ elim (later there) [
          | inl stays ↦ inl (or_right (test x) _ stays)
          | inr gone ↦ inr gone
        ]
      ]
  told_each (false ∷ bs) (x ∷ xs) q e t any =
      let one = h x false t.0 t.1 in
      let later = told_each bs xs q (omega arith) (subst (λ (g : F). ReturnsInTurn R g bs xs q) one.1 t.2) in
      elim (or_cases (test x) (list_any test xs) any) [
        | inl here ↦ inr (x, here, one.0 refl)
        | inr there ↦ later there
      ]

  -- an item that passes a test stays, or one that passes it goes
  stays_or_goes : (xs ys : List X) → IsFiltered R f xs ys → list_any test xs ≡ true → (list_any test ys ≡ true) ⊎ ((x : X) × (test x ≡ true) × P x)
  stays_or_goes xs ys k any = elim (told_each k.0 xs k.1 k.2 k.3 any) [
    | inl stays ↦ inl (ap (list_any test) k.4 ∙ stays)
    | inr gone ↦ inr gone
  ]

-- what holds of all places holds of one that is among them
of_place : (P : ℕ → Type 0) (places : List ℕ) → All P places → (p : ℕ) → list_any (is_at (nat_cmp p)) places ≡ true → P p
of_place P [] all p e = absurd (both_ways _ refl e)
of_place P (q ∷ places) all p e = elim (or_cases (is_at (nat_cmp p) q) _ e) [
  | inl at ↦ subst P (one_place p q at) (All-head P q places all)
  | inr later ↦ of_place P places (All-tail P q places all) p later
]

-- places are settled where each is looked at in turn, and stays if its job isn't quiet
pub settled : (asked : Asked) (tasks : List Task) {F : Type 0} (R : F → ℕ → Bool → F → Type 0) (f : F)
    → ((p : ℕ) (b : Bool) (f' : F) → R f p b f' → SaysWaits asked tasks p b × (f' ≡ f))
    → (before after : BTreeSet ℕ) → IsFiltered R f before.keys after.keys
    → ((p : ℕ) → tree.contains nat_cmp after p ≡ true → tree.contains nat_cmp before p ≡ true)
    → IsSettled asked tasks before after
settled asked tasks R f told before after filtered fewer = record {
  left = λ p there.
      elim (stays_or_goes R (IsQuietAt asked tasks) f (λ q b f' k. let one = told q b f' k in (λ e. subst (SaysWaits asked tasks q) e one.0, one.1)) (is_at (nat_cmp p)) before.keys after.keys filtered there) [
        | inl stays ↦ inl stays
        | inr gone ↦ inr (subst (IsQuietAt asked tasks) (one_place p gone.0 gone.1) gone.2)
      ];
  fewer = fewer;
  none_quiet = λ p there.
      of_place (λ q. IsQuietAt asked tasks q → ⊥) after.keys
      (All-from_retain R (λ q. IsQuietAt asked tasks q → ⊥) f (λ q b f' k. let one = told q b f' k in (λ e. subst (SaysWaits asked tasks q) e one.0, one.1)) before.keys after.keys filtered) p there;
}

-- of a scheduler behind the last none is open
pub none_past : (asked : Asked) (tasks : List Task) (places : OpenPlaces) (s : ℕ) → length places ≤ s → NoneIsQuiet places s asked tasks
none_past asked tasks places s past place e = absurd (both_ways _ (ap (λ o. is_among_own o place) (slice_get_past places s past)) e)

-- the places of one scheduler are settled
module _ (asked : Asked) (tasks : List Task) (places : OpenPlaces) (s : ℕ) (own new : BTreeSet ℕ) (here : slice_get places s ≡ Some own) (within : s < length places) (is : IsSettled asked tasks own new) where
  at_own : (place : ℕ) → is_open (set places s new) s place ≡ tree.contains nat_cmp new place
  at_own place = open_set_own places s new within place

  was_own : (place : ℕ) → is_open places s place ≡ tree.contains nat_cmp own place
  was_own place = ap (λ o. is_among_own o place) here

  pub settled_fewer : StayOpen (set places s new) places
  settled_fewer scheduler place e = elim (cases_eq scheduler s) [
    | inl one ↦
        subst (λ (n : ℕ). is_open places n place ≡ true) (sym one)
        (was_own place ∙ is.fewer place (sym (at_own place) ∙ subst (λ (n : ℕ). is_open (set places s new) n place ≡ true) one e))
    | inr other ↦ sym (open_set_other places s new scheduler place other) ∙ e
  ]

  pub settled_closed : NoneIsQuiet (set places s new) s asked tasks
  settled_closed place e = is.none_quiet place (sym (at_own place) ∙ e)

  pub settled_others : SameIsOpenForOthers s places (set places s new)
  settled_others scheduler place other = open_set_other places s new scheduler place other

  pub settled_quiet : OthersAreQuiet places asked tasks → OthersAreQuiet (set places s new) asked tasks
  settled_quiet quiet place job scheduler at closed = elim (cases_eq scheduler s) [
    | inl one ↦ elim (cases_Bool (tree.contains nat_cmp own place)) [
      | inl was ↦ elim (is.left place was) [
        | inl stays ↦ absurd (both_ways _ (subst (λ (n : ℕ). is_open (set places s new) n place ≡ false) one closed) (at_own place ∙ stays))
        | inr now ↦ now job (ap (option_map (λ (it : RoutedJob). it.job)) at)
      ]
      | inr was ↦ quiet place job scheduler at (subst (λ (n : ℕ). is_open places n place ≡ false) (sym one) (was_own place ∙ was))
    ]
    | inr other ↦ quiet place job scheduler at (sym (open_set_other places s new scheduler place other) ∙ closed)
  ]
