-- Lists that rise in a strict order, round an element in their middle.
use Rattle.std.proofs.Common.{◌≡◌, Bool, true, false, ◌||◌, not, List, [], ◌∷◌, ◌++◌, refl, ap, sym, ◌∙◌, append_assoc, append-nil, Some, inl, inr}
use Rattle.std.specs.List.{filter, find, AllByRecursion as Each}
use Rattle.std.proofs.lemmas.Bool.{both_ways, or_cases, or_left, or_right, or_from, not_from_true, not_from_false, false_from_ne_true}
use Rattle.std.proofs.lemmas.List.Elements.{filter-append}
use Rattle.omega_running.specs.Order.{Rises}
use Rattle.omega_running.proofs.Lists.{find_left, find_right}
use Rattle.omega_model.proofs.Lists.{each_front}
use Rattle.omega_model.proofs.Lists.{each_back}
use Rattle.omega_model.proofs.Lists.{each_map}
use Rattle.omega_model.proofs.Lists.{filter_none}
use Rattle.omega_model.proofs.Lists.{filter_every}

-- an order in which each element stands on one side at least of two that differ
pub record IsStrict {X : Type 0} (lt : X → X → Bool) : Type 0 where
  pub asym : (a b : X) → lt a b ≡ true → lt b a ≡ false
  pub link : (a b c : X) → lt a b ≡ true → (lt a c || lt c b) ≡ true

pub trans : {X : Type 0} (lt : X → X → Bool) → IsStrict lt → (a b c : X) → lt a b ≡ true → lt b c ≡ true → lt a c ≡ true
trans lt s a b c p q =
    elim (or_cases (lt a c) (lt c b) (s.link a b c p)) [ inl e ↦ e | inr e ↦ absurd (both_ways _ (s.asym b c q) e) ]

-- what stands before neither of two stands with both
pub behind : {X : Type 0} (lt : X → X → Bool) → IsStrict lt → (a b c : X) → lt a b ≡ true → lt c b ≡ false → lt a c ≡ true
behind lt s a b c p q =
    elim (or_cases (lt a c) (lt c b) (s.link a b c p)) [ inl e ↦ e | inr e ↦ absurd (both_ways _ q e) ]

pub ahead : {X : Type 0} (lt : X → X → Bool) → IsStrict lt → (a b c : X) → lt a b ≡ true → lt a c ≡ false → lt c b ≡ true
ahead lt s a b c p q =
    elim (or_cases (lt a c) (lt c b) (s.link a b c p)) [ inl e ↦ absurd (both_ways _ q e) | inr e ↦ e ]

pub record AreSides {X : Type 0} (lt : X → X → Bool) (l : List X) (x : X) (r : List X) : Type 0 where
  pub before : Each (λ y. lt y x ≡ true) l
  pub after : Each (λ y. lt x y ≡ true) r
  pub left : Rises lt l
  pub right : Rises lt r

pub sides : {X : Type 0} (lt : X → X → Bool) (l : List X) (x : X) (r : List X) → Rises lt (l ++ x ∷ r) → AreSides lt l x r
sides lt [] x r u = record { before = tt; after = u.0; left = tt; right = u.1 }
sides lt (y ∷ l) x r u =
    let s = sides lt l x r u.1 in
    let back = each_back (λ z. lt y z ≡ true) l (x ∷ r) u.0 in
    record { before = (back.0, s.before); after = s.after; left = (each_front (λ z. lt y z ≡ true) l (x ∷ r) u.0, s.left); right = s.right }

-- the list with one more, behind those that it does not stand before
abbrev pub put : {X : Type 0} → (X → X → Bool) → X → List X → List X
put lt t xs = filter (λ y. not (lt t y)) xs ++ t ∷ filter (λ y. lt t y) xs

pub put_left : {X : Type 0} (lt : X → X → Bool) → IsStrict lt → (t : X) (l : List X) (x : X) (r : List X) → Rises lt (l ++ x ∷ r) → lt t x ≡ true → put lt t (l ++ x ∷ r) ≡ put lt t l ++ x ∷ r
put_left lt s t l x r u p =
    let at = sides lt l x r u in
    let later : Each (λ y. lt t y ≡ true) (x ∷ r) = (p, each_map (λ y. lt x y ≡ true) (λ y. lt t y ≡ true) (λ y q. trans lt s t x y p q) r at.after) in
    let none = filter_none (λ y. not (lt t y)) (x ∷ r) (each_map (λ y. lt t y ≡ true) (λ y. not (lt t y) ≡ false) (λ y q. not_from_true _ q) (x ∷ r) later) in
    let every = filter_every (λ y. lt t y) (x ∷ r) later in
    let front : filter (λ y. not (lt t y)) (l ++ x ∷ r) ≡ filter (λ y. not (lt t y)) l = filter-append _ l (x ∷ r) ∙ ap (λ z. filter (λ y. not (lt t y)) l ++ z) none ∙ append-nil _ in
    let back : filter (λ y. lt t y) (l ++ x ∷ r) ≡ filter (λ y. lt t y) l ++ x ∷ r = filter-append _ l (x ∷ r) ∙ ap (λ z. filter (λ y. lt t y) l ++ z) every in
    ap (λ z. z ++ t ∷ filter (λ y. lt t y) (l ++ x ∷ r)) front
    ∙ ap (λ z. filter (λ y. not (lt t y)) l ++ t ∷ z) back
    ∙ sym (append_assoc (filter (λ y. not (lt t y)) l) (t ∷ filter (λ y. lt t y) l) (x ∷ r))

pub put_right : {X : Type 0} (lt : X → X → Bool) → IsStrict lt → (t : X) (l : List X) (x : X) (r : List X) → Rises lt (l ++ x ∷ r) → lt t x ≡ false → put lt t (l ++ x ∷ r) ≡ l ++ x ∷ put lt t r
put_right lt s t l x r u p =
    let at = sides lt l x r u in
    let earlier : Each (λ y. lt t y ≡ false) l = each_map (λ y. lt y x ≡ true) (λ y. lt t y ≡ false) (λ y q. false_from_ne_true _ (λ e. both_ways _ p (trans lt s t y x e q))) l at.before in
    let every = filter_every (λ y. not (lt t y)) l (each_map (λ y. lt t y ≡ false) (λ y. not (lt t y) ≡ true) (λ y q. not_from_false _ q) l earlier) in
    let none = filter_none (λ y. lt t y) l earlier in
    let front : filter (λ y. not (lt t y)) (l ++ x ∷ r) ≡ l ++ x ∷ filter (λ y. not (lt t y)) r = filter-append _ l (x ∷ r) ∙ rw (every, p) refl in
    let back : filter (λ y. lt t y) (l ++ x ∷ r) ≡ filter (λ y. lt t y) r = filter-append _ l (x ∷ r) ∙ rw (none, p) refl in
    ap (λ z. z ++ t ∷ filter (λ y. lt t y) (l ++ x ∷ r)) front
    ∙ ap (λ z. (l ++ x ∷ filter (λ y. not (lt t y)) r) ++ t ∷ z) back
    ∙ append_assoc l (x ∷ filter (λ y. not (lt t y)) r) (t ∷ filter (λ y. lt t y) r)

-- whether two elements stand at different places
abbrev pub apart : {X : Type 0} → (X → X → Bool) → X → X → Bool
apart lt a b = lt a b || lt b a

pub keep_left : {X : Type 0} (lt : X → X → Bool) → IsStrict lt → (t : X) (l : List X) (x : X) (r : List X) → Rises lt (l ++ x ∷ r) → lt t x ≡ true → filter (apart lt t) (l ++ x ∷ r) ≡ filter (apart lt t) l ++ x ∷ r
keep_left lt s t l x r u p =
    let at = sides lt l x r u in
    let later : Each (λ y. apart lt t y ≡ true) (x ∷ r) = (or_left _ _ p, each_map (λ y. lt x y ≡ true) (λ y. apart lt t y ≡ true) (λ y q. or_left _ _ (trans lt s t x y p q)) r at.after) in
    filter-append _ l (x ∷ r) ∙ ap (λ z. filter (apart lt t) l ++ z) (filter_every (apart lt t) (x ∷ r) later)

pub keep_right : {X : Type 0} (lt : X → X → Bool) → IsStrict lt → (t : X) (l : List X) (x : X) (r : List X) → Rises lt (l ++ x ∷ r) → lt x t ≡ true → filter (apart lt t) (l ++ x ∷ r) ≡ l ++ x ∷ filter (apart lt t) r
keep_right lt s t l x r u p =
    let at = sides lt l x r u in
    let earlier = filter_every (apart lt t) l (each_map (λ y. lt y x ≡ true) (λ y. apart lt t y ≡ true) (λ y q. or_right _ _ (trans lt s y x t q p)) l at.before) in
    let here : apart lt t x ≡ true = or_right _ _ p in
    filter-append _ l (x ∷ r) ∙ rw (earlier, here) refl

pub keep_here : {X : Type 0} (lt : X → X → Bool) → IsStrict lt → (t : X) (l : List X) (x : X) (r : List X) → Rises lt (l ++ x ∷ r) → lt t x ≡ false → lt x t ≡ false → filter (apart lt t) (l ++ x ∷ r) ≡ l ++ r
keep_here lt s t l x r u p q =
    let at = sides lt l x r u in
    let earlier = filter_every (apart lt t) l (each_map (λ y. lt y x ≡ true) (λ y. apart lt t y ≡ true) (λ y e. or_right _ _ (behind lt s y x t e p)) l at.before) in
    let later = filter_every (apart lt t) r (each_map (λ y. lt x y ≡ true) (λ y. apart lt t y ≡ true) (λ y e. or_left _ _ (ahead lt s x y t e q)) r at.after) in
    let here : apart lt t x ≡ false = or_from _ _ p q in
    filter-append _ l (x ∷ r) ∙ rw (earlier, here, later) refl

-- who stands at the place of t
pub look_left : {X : Type 0} (lt : X → X → Bool) → IsStrict lt → (t : X) (l : List X) (x : X) (r : List X) → Rises lt (l ++ x ∷ r) → lt t x ≡ true → find (λ y. not (apart lt t y)) (l ++ x ∷ r) ≡ find (λ y. not (apart lt t y)) l
look_left lt s t l x r u p =
    let at = sides lt l x r u in
    find_left (λ y. not (apart lt t y)) l (x ∷ r)
    (not_from_true _ (or_left _ _ p), each_map (λ y. lt x y ≡ true) (λ y. not (apart lt t y) ≡ false) (λ y q. not_from_true _ (or_left _ _ (trans lt s t x y p q))) r at.after)

pub look_right : {X : Type 0} (lt : X → X → Bool) → IsStrict lt → (t : X) (l : List X) (x : X) (r : List X) → Rises lt (l ++ x ∷ r) → lt x t ≡ true → find (λ y. not (apart lt t y)) (l ++ x ∷ r) ≡ find (λ y. not (apart lt t y)) r
look_right lt s t l x r u p =
    let at = sides lt l x r u in
    let earlier : Each (λ y. not (apart lt t y) ≡ false) l = each_map (λ y. lt y x ≡ true) (λ y. not (apart lt t y) ≡ false) (λ y q. not_from_true _ (or_right _ _ (trans lt s y x t q p))) l at.before in
    let here : not (apart lt t x) ≡ false = not_from_true _ (or_right _ _ p) in
    find_right (λ y. not (apart lt t y)) l (x ∷ r) earlier ∙ rw here refl

pub look_here : {X : Type 0} (lt : X → X → Bool) → IsStrict lt → (t : X) (l : List X) (x : X) (r : List X) → Rises lt (l ++ x ∷ r) → lt t x ≡ false → lt x t ≡ false → find (λ y. not (apart lt t y)) (l ++ x ∷ r) ≡ Some x
look_here lt s t l x r u p q =
    let at = sides lt l x r u in
    let earlier : Each (λ y. not (apart lt t y) ≡ false) l = each_map (λ y. lt y x ≡ true) (λ y. not (apart lt t y) ≡ false) (λ y e. not_from_true _ (or_right _ _ (behind lt s y x t e p))) l at.before in
    let here : not (apart lt t x) ≡ true = not_from_false _ (or_from _ _ p q) in
    find_right (λ y. not (apart lt t y)) l (x ∷ r) earlier ∙ rw here refl
