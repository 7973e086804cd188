-- What the first of a round says as `find`: for a caller whose test has one answer at each position.
use Rattle.std.proofs.Common.{◌≡◌, ◌∙◌, ◌+◌, ◌++◌, ◌∷◌, ℕ, zero, suc, Bool, true, false, List, [], Option, Some, None, length, drop, take, ap, sym, subst, refl, arith}
use Rattle.std.specs.List.{All, AllZip, find, range_with_len, slice_get}
use Rattle.std.proofs.lemmas.List.Elements.{All-head, All-tail, All-weaker}
use Rattle.omega_model.specs.declared.cells.Need.{Need}
use Rattle.omega_model.specs.Plan.{wrapped_from}
use Rattle.omega_fit.specs.Needs.{Holds, WithRoom}
use Rattle.omega_fit.specs.Wrapped.{positions_from, FirstBetween, IsFirst}
use Rattle.omega_fit.proofs.Middles.{below_or_not}

-- the same item for answers that follow
pub first_follows : {X : Type 0} (answers others : X → Bool → Type 0) (items : List X) (found : Option X)
    → IsFirst answers items found → ((x : X) (b : Bool) → answers x b → others x b) → IsFirst others items found
unfolding IsFirst
first_follows answers others items None f follows =
    All-weaker (λ x. answers x false) (λ x. others x false) (λ x. follows x false) items f
first_follows answers others items (Some x) f follows = record {
  before = f.before;
  after = f.after;
  split = f.split;
  passed_over = All-weaker (λ y. answers y false) (λ y. others y false) (λ y. follows y false) f.before f.passed_over;
  taken = follows x true f.taken;
}

-- the same of the numbers from one up to another
pub between_follows : (answers others : ℕ → Bool → Type 0) (from to : ℕ) (found : Option ℕ) → ((i : ℕ) (b : Bool) → answers i b → others i b)
    → FirstBetween answers from to found → FirstBetween others from to found
between_follows answers others from to None follows f = λ n a b. follows n false (f n a b)
between_follows answers others from to (Some i) follows f = (f.0, f.1, follows i true f.2, λ n a b. follows n false (f.3 n a b))

-- what may be answered where room counts too
pub with_room_follows : (free : List (Option Need)) (need : Need) (answers others : ℕ → Bool → Type 0) → ((i : ℕ) (b : Bool) → answers i b → others i b)
    → (i : ℕ) (b : Bool) → WithRoom free need answers i b → WithRoom free need others i b
with_room_follows free need answers others follows i true w = (w.0, follows i true w.1)
with_room_follows free need answers others follows i false w = λ h. follows i false (w h)

-- a need has room or it hasn't
pub room_or_not : {R : Type 0} (need : Need) (free : Option Need) → (Holds need free → R) → ((Holds need free → ⊥) → R) → R
room_or_not need None room none = none (λ h. h)
room_or_not need (Some free) room none =
    below_or_not free.cpu need.cpu (λ lt. none (λ h. absurd (omega (arith, lt, h.0))))
    (λ cpu. below_or_not free.mem need.mem (λ lt. none (λ h. absurd (omega (arith, lt, h.1.0))))
    (λ mem. below_or_not free.disk need.disk (λ lt. none (λ h. absurd (omega (arith, lt, h.1.1))))
    (λ disk. room (cpu, (mem, disk)))))

-- over the items that stand at the positions
find_none : {X : Type 0} (p : X → Bool) (at : ℕ → Option X) (is : List ℕ) (xs : List X) → AllZip (λ i x. at i ≡ Some x) is xs
    → All (λ i. (x : X) → at i ≡ Some x → p x ≡ false) is → find p xs ≡ None
find_none p at [] [] zip none = refl
find_none p at [] (x ∷ xs) zip none = absurd zip
find_none p at (i ∷ is) [] zip none = absurd zip
find_none p at (i ∷ is) (x ∷ xs) zip none =
    let here : p x ≡ false = All-head (λ j. (y : _) → at j ≡ Some y → p y ≡ false) i is none x zip.0 in
    rw here (find_none p at is xs zip.1 (All-tail (λ j. (y : _) → at j ≡ Some y → p y ≡ false) i is none))

one_item : {X : Type 0} (x y : X) → Some x ≡ Some y → x ≡ y
one_item x y is = cc

find_some : {X : Type 0} (p : X → Bool) (at : ℕ → Option X) (before after : List ℕ) (i : ℕ) (x : X) (xs : List X)
    → AllZip (λ j y. at j ≡ Some y) (before ++ i ∷ after) xs → at i ≡ Some x → p x ≡ true
    → All (λ j. (y : X) → at j ≡ Some y → p y ≡ false) before → find p xs ≡ Some x
find_some p at [] after i x [] zip is hit none = absurd zip
find_some p at [] after i x (y ∷ xs) zip is hit none =
    let same : y ≡ x = one_item y x (sym zip.0 ∙ is) in
    let here : p y ≡ true = subst (λ z. p z ≡ true) (sym same) hit in
    rw here (ap Some same)
find_some p at (j ∷ before) after i x [] zip is hit none = absurd zip
find_some p at (j ∷ before) after i x (y ∷ xs) zip is hit none =
    let here : p y ≡ false = All-head (λ k. (z : _) → at k ≡ Some z → p z ≡ false) j before none y zip.0 in
    rw here (find_some p at before after i x xs zip.1 is hit (All-tail (λ k. (z : _) → at k ≡ Some z → p z ≡ false) j before none))

zip_drop : {X : Type 0} (R : ℕ → X → Type 0) (n : ℕ) (is : List ℕ) (xs : List X) → AllZip R is xs → AllZip R (drop n is) (drop n xs)
zip_drop R zero is xs zip = zip
zip_drop R (suc n) [] [] zip = tt
zip_drop R (suc n) [] (x ∷ xs) zip = absurd zip
zip_drop R (suc n) (i ∷ is) [] zip = absurd zip
zip_drop R (suc n) (i ∷ is) (x ∷ xs) zip = zip_drop R n is xs zip.1

zip_take : {X : Type 0} (R : ℕ → X → Type 0) (n : ℕ) (is : List ℕ) (xs : List X) → AllZip R is xs → AllZip R (take n is) (take n xs)
zip_take R zero is xs zip = tt
zip_take R (suc n) [] [] zip = tt
zip_take R (suc n) [] (x ∷ xs) zip = absurd zip
zip_take R (suc n) (i ∷ is) [] zip = absurd zip
zip_take R (suc n) (i ∷ is) (x ∷ xs) zip = (zip.0, zip_take R n is xs zip.1)

zip_append : {X : Type 0} (R : ℕ → X → Type 0) (is js : List ℕ) (xs ys : List X) → AllZip R is xs → AllZip R js ys → AllZip R (is ++ js) (xs ++ ys)
zip_append R [] js [] ys one other = other
zip_append R [] js (x ∷ xs) ys one other = absurd one
zip_append R (i ∷ is) js [] ys one other = absurd one
zip_append R (i ∷ is) js (x ∷ xs) ys one other = (one.0, zip_append R is js xs ys one.1 other)

zip_range : {X : Type 0} (at : ℕ → Option X) (a : ℕ) (xs : List X) → ((i : ℕ) → at (a + i) ≡ slice_get xs i)
    → AllZip (λ i x. at i ≡ Some x) (range_with_len a (length xs)) xs
zip_range at a [] same = tt
zip_range at a (x ∷ xs) same =
    let here : a + 0 ≡ a = omega arith in (
      subst (λ z. at z ≡ Some x) here (same 0),
      zip_range at (a + 1) xs (λ i. let e : a + suc i ≡ a + 1 + i = omega arith in subst (λ z. at z ≡ slice_get xs i) e (same (suc i))),
    )

zip_wrapped : {X : Type 0} (xs : List X) (start : ℕ) → AllZip (λ i x. slice_get xs i ≡ Some x) (positions_from start (length xs)) (wrapped_from start xs)
zip_wrapped xs start =
    let all : AllZip (λ i x. slice_get xs i ≡ Some x) (range_with_len 0 (length xs)) xs =
    zip_range (slice_get xs) 0 xs (λ i. let e : 0 + i ≡ i = omega arith in ap (slice_get xs) e) in
    zip_append (λ i x. slice_get xs i ≡ Some x) _ _ _ _
    (zip_drop (λ i x. slice_get xs i ≡ Some x) start _ xs all) (zip_take (λ i x. slice_get xs i ≡ Some x) start _ xs all)

-- what a test of items says of a position
abbrev pub OfItem : {X : Type 0} → (X → Bool) → List X → ℕ → Bool → Type 0
OfItem {X} p items i b = (x : X) → slice_get items i ≡ Some x → p x ≡ b

-- the first position round from a start has the first item of the round
pub find_wrapped : {X : Type 0} (p : X → Bool) (items : List X) (start i : ℕ) (x : X) → slice_get items i ≡ Some x
    → IsFirst (OfItem p items) (positions_from start (length items)) (Some i) → find p (wrapped_from start items) ≡ Some x
unfolding IsFirst
find_wrapped p items start i x is f =
    find_some p (slice_get items) f.before f.after i x (wrapped_from start items)
    (subst (λ z. AllZip (λ j y. slice_get items j ≡ Some y) z (wrapped_from start items)) f.split (zip_wrapped items start))
    is (f.taken x is) f.passed_over

pub none_in_round : {X : Type 0} (p : X → Bool) (items : List X) (start : ℕ)
    → IsFirst (OfItem p items) (positions_from start (length items)) None → find p (wrapped_from start items) ≡ None
unfolding IsFirst
none_in_round p items start f =
    find_none p (slice_get items) (positions_from start (length items)) (wrapped_from start items) (zip_wrapped items start) f
