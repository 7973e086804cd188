-- What a filter or a search makes of two lists, where one of them can't pass.
use Rattle.std.proofs.Common.{◌≡◌, Bool, true, false, cond, List, [], ◌∷◌, ◌++◌, Some, None, refl, ap}
use Rattle.std.specs.List.{filter, find, AllByRecursion as Each}
use Rattle.omega_model.proofs.Lists.{filter_none, find_none}

-- a search and a filter where one side of a middle element can't pass
pub find_left : {X : Type 0} (p : X → Bool) (l r : List X) → Each (λ y. p y ≡ false) r → find p (l ++ r) ≡ find p l
find_left p [] r e = find_none p r e
find_left p (x ∷ l) r e = ap (λ o. cond (p x) (Some x) o) (find_left p l r e)

pub find_right : {X : Type 0} (p : X → Bool) (l r : List X) → Each (λ y. p y ≡ false) l → find p (l ++ r) ≡ find p r
find_right p [] r e = refl
find_right p (x ∷ l) r e = rw e.0 (find_right p l r e.1)

pub find_first : {X : Type 0} (p : X → Bool) (l r : List X) (y : X) → find p l ≡ Some y → find p (l ++ r) ≡ Some y
find_first p [] r y e = absurd (cc)
find_first p (x ∷ l) r y e = first_in (p x) (find_first p l r y) e where
  first_in : (b : Bool) → (find p l ≡ Some y → find p (l ++ r) ≡ Some y) → cond b (Some x) (find p l) ≡ Some y → cond b (Some x) (find p (l ++ r)) ≡ Some y
  first_in true f e = e
  first_in false f e = f e

pub find_past : {X : Type 0} (p : X → Bool) (l r : List X) → find p l ≡ None → find p (l ++ r) ≡ find p r
find_past p [] r e = refl
find_past p (x ∷ l) r e = past_in (p x) (find_past p l r) e where
  past_in : (b : Bool) → (find p l ≡ None → find p (l ++ r) ≡ find p r) → cond b (Some x) (find p l) ≡ None → cond b (Some x) (find p (l ++ r)) ≡ find p r
  past_in true f e = absurd (cc)
  past_in false f e = f e

pub filter_left : {X : Type 0} (p : X → Bool) (l r : List X) → Each (λ y. p y ≡ false) r → filter p (l ++ r) ≡ filter p l
filter_left p [] r e = filter_none p r e
filter_left p (x ∷ l) r e = rw (filter_left p l r e) refl

pub filter_right : {X : Type 0} (p : X → Bool) (l r : List X) → Each (λ y. p y ≡ false) l → filter p (l ++ r) ≡ filter p r
filter_right p [] r e = refl
filter_right p (x ∷ l) r e = rw e.0 (filter_right p l r e.1)
