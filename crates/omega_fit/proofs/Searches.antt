-- What a search in the parts of a tree says of the whole tree.
use Rattle.std.proofs.Common.{◌≡◌, ℕ, zero, suc, List, [], ◌∷◌, ◌++◌, ◌+◌, ◌-◌, ◌<◌, ◌≤◌, length, take, drop, Option, Some, None, Bool, true, false, subst, sym, ap, refl, arith}
use Rattle.std.specs.Prelude.{get_or, max}
use Rattle.std.proofs.Math.Nat.{le-max_left, le-max_right}
use Rattle.std.proofs.lemmas.List.{length-take-le, length-drop, take-append-drop, length-map}
use Rattle.omega_model.specs.declared.cells.Need.{Need}
use Rattle.omega_fit.specs.declared.nodes.FitNode.{FitNode}
use Rattle.omega_fit.specs.Needs.{greater, Holds, IsFirstWithRoom, IsNextWithRoom, WithRoom}
use Rattle.omega_fit.specs.Wrapped.{positions_from, IsFirst, FirstBetween}
use Rattle.omega_fit.specs.Tree.{frees, middle, most_of, root, Tree, FirstWithin}
use Rattle.omega_fit.proofs.Firsts.{found_from_start, none_from_start}
use Rattle.omega_fit.proofs.Found.{between_follows, with_room_follows}
use Rattle.omega_fit.proofs.Middles.{middle_within}
use Rattle.omega_fit.proofs.Trees.{tree_parts}

left_max : (n a b : ℕ) → n ≤ a → n ≤ max a b
left_max n a b le = omega (arith, le, le-max_left a b)

right_max : (n a b : ℕ) → n ≤ b → n ≤ max a b
right_max n a b le = omega (arith, le, le-max_right a b)

holds_left : (need : Need) (a b : Option Need) → Holds need a → Holds need (greater a b)
holds_left need None b h = absurd h
holds_left need (Some a) None h = h
holds_left need (Some a) (Some b) h = (left_max _ _ _ h.0, (left_max _ _ _ h.1.0, left_max _ _ _ h.1.1))

holds_right : (need : Need) (a b : Option Need) → Holds need b → Holds need (greater a b)
holds_right need None b h = h
holds_right need (Some a) None h = absurd h
holds_right need (Some a) (Some b) h = (right_max _ _ _ h.0, (right_max _ _ _ h.1.0, right_max _ _ _ h.1.1))

get_left : (left : List FitNode) (rest : List FitNode) (i : ℕ) → i < length left → get_or (frees (left ++ rest)) i None ≡ get_or (frees left) i None
get_left [] rest i lt = absurd (omega arith)
get_left (x ∷ left) rest zero lt = refl
get_left (x ∷ left) rest (suc i) lt = get_left left rest i (omega arith)

get_here : (left : List FitNode) (node : FitNode) (right : List FitNode) (i : ℕ) → i ≡ length left → get_or (frees (left ++ node ∷ right)) i None ≡ node.free
get_here [] node right zero is = refl
get_here [] node right (suc i) is = absurd (omega arith)
get_here (x ∷ left) node right zero is = absurd (omega arith)
get_here (x ∷ left) node right (suc i) is = get_here left node right i (omega arith)

get_right : (left : List FitNode) (node : FitNode) (right : List FitNode) (i j : ℕ) → i ≡ suc (length left + j) → get_or (frees (left ++ node ∷ right)) i None ≡ get_or (frees right) j None
get_right [] node right zero j is = absurd (omega arith)
get_right [] node right (suc i) j is = let e : i ≡ j = omega arith in rw e refl
get_right (x ∷ left) node right zero j is = absurd (omega arith)
get_right (x ∷ left) node right (suc i) j is = get_right left node right i j (omega arith)

-- where what holds somewhere holds: left of the middle, at it or right of it
at_fork : {R : Type 0} (P : Option Need → Type 0) (left : List FitNode) (node : FitNode) (right : List FitNode) (i : ℕ) → P (get_or (frees (left ++ node ∷ right)) i None)
    → ((j : ℕ) → P (get_or (frees left) j None) → R) → (P node.free → R) → ((j : ℕ) → P (get_or (frees right) j None) → R) → R
at_fork P [] node right zero h l m r = m h
at_fork P [] node right (suc i) h l m r = r i h
at_fork P (x ∷ left) node right zero h l m r = l 0 h
at_fork P (x ∷ left) node right (suc i) h l m r = at_fork P left node right i h (λ j. l (suc j)) m r

cases_at : {R : Type 0} (i n : ℕ) → (i < n → R) → (i ≡ n → R) → ((j : ℕ) → i ≡ suc (n + j) → R) → R
cases_at zero zero l m r = m refl
cases_at zero (suc n) l m r = l (omega arith)
cases_at (suc i) zero l m r = r i (omega arith)
cases_at (suc i) (suc n) l m r = cases_at i n (λ p. l (omega arith)) (λ e. m (ap suc e)) (λ j e. r j (omega arith))

-- what fits somewhere fits the greater
bounds_parts : (need : Need) (nodes rest : List FitNode) → Tree nodes → drop (middle (length nodes)) nodes ≡ rest
    → (i : ℕ) → Holds need (get_or (frees (take (middle (length nodes)) nodes ++ rest)) i None)
    → length (take (middle (length nodes)) nodes) < length nodes → length rest ≤ length nodes → zero < length rest
    → ((xs : List FitNode) → length xs < length nodes → Tree xs → (j : ℕ) → Holds need (get_or (frees xs) j None) → Holds need (root xs))
    → Holds need (most_of rest)
bounds_parts need nodes [] t is i h shorter lr some below = absurd (omega arith)
bounds_parts need nodes (node ∷ right) t is i h shorter lr some below =
    let p = tree_parts nodes node right t is in
    subst (λ z. Holds need z) (sym p.0)
    (at_fork (λ z. Holds need z) (take (middle (length nodes)) nodes) node right i h
    (λ j g. holds_left need _ _ (below (take (middle (length nodes)) nodes) shorter p.1 j g))
    (λ g. holds_right need (root (take (middle (length nodes)) nodes)) _ (holds_left need _ _ g))
    (λ j g. holds_right need (root (take (middle (length nodes)) nodes)) _ (holds_right need node.free _ (below right (omega arith) p.2 j g))))

bounds : (k : ℕ) (need : Need) (nodes : List FitNode) → length nodes ≤ k → Tree nodes → (i : ℕ) → Holds need (get_or (frees nodes) i None) → Holds need (root nodes)
bounds k need [] le t i h = absurd h
bounds zero need (x ∷ xs) le t i h = absurd (omega arith)
bounds (suc k) need (x ∷ xs) le t i h =
    let w : middle (length (x ∷ xs)) < length (x ∷ xs) = middle_within (length (x ∷ xs)) (omega arith) in
    let a : length (take (middle (length (x ∷ xs))) (x ∷ xs)) ≡ middle (length (x ∷ xs)) = length-take-le (middle (length (x ∷ xs))) (x ∷ xs) (omega (arith, w)) in
    let d : length (drop (middle (length (x ∷ xs))) (x ∷ xs)) ≡ length (x ∷ xs) - middle (length (x ∷ xs)) = length-drop (middle (length (x ∷ xs))) (x ∷ xs) in
    bounds_parts need (x ∷ xs) (drop (middle (length (x ∷ xs))) (x ∷ xs)) t refl i
    (subst (λ z. Holds need (get_or (frees z) i None)) (sym (take-append-drop (middle (length (x ∷ xs))) (x ∷ xs))) h)
    (omega (arith, a, w)) (omega (arith, d)) (omega (arith, d, w))
    (λ ys lt u j g. bounds k need ys (omega arith) u j g)

-- a tree whose greater has no room has none
pub pruned : (post : ℕ → Bool → Type 0) (need : Need) (nodes : List FitNode) (base from to : ℕ) → Tree nodes → (Holds need (root nodes) → ⊥) → FirstWithin post need nodes base from to None
unfolding FirstWithin
pruned post need nodes base from to t none = λ j a b h. absurd (none (bounds (length nodes) need nodes (omega arith) t j h))

found_left : (post : ℕ → Bool → Type 0) (need : Need) (left rest : List FitNode) (base from to part i : ℕ)
    → part ≤ to → part ≤ length left → FirstWithin post need left base from part (Some i) → FirstWithin post need (left ++ rest) base from to (Some i)
unfolding FirstWithin
found_left post need left rest base from to part i le fits f = (
  f.0,
  omega (arith, f.1),
  (subst (λ z. Holds need z) (sym (get_left left rest i (omega (arith, f.1)))) f.2.0, f.2.1),
  λ j a b h. f.3 j a b (subst (λ z. Holds need z) (get_left left rest j (omega (arith, f.1))) h),
)

none_fork : (post : ℕ → Bool → Type 0) (need : Need) (left : List FitNode) (node : FitNode) (right : List FitNode) (base from to part : ℕ)
    → ((j : ℕ) → j < to → j < length left → j < part)
    → FirstWithin post need left base from part None
    → (from ≤ length left → length left < to → Holds need node.free → post (base + length left) false)
    → FirstWithin post need right (base + suc (length left)) (from - suc (length left)) (to - suc (length left)) None
    → FirstWithin post need (left ++ node ∷ right) base from to None
unfolding FirstWithin
none_fork post need left node right base from to part within l m r = λ j a b h.
    cases_at j (length left)
    (λ lt. l j a (within j b lt) (subst (λ z. Holds need z) (get_left left (node ∷ right) j lt) h))
    (λ e. subst (λ z. post (base + z) false) (sym e) (m (omega arith) (omega arith) (subst (λ z. Holds need z) (get_here left node right j e) h)))
    (λ k e. let at : base + suc (length left) + k ≡ base + j = omega arith in
    subst (λ z. post z false) at (r k (omega arith) (omega arith) (subst (λ z. Holds need z) (get_right left node right j k e) h)))

found_here : (post : ℕ → Bool → Type 0) (need : Need) (left : List FitNode) (node : FitNode) (right : List FitNode) (base from to part i : ℕ)
    → ((j : ℕ) → j < to → j < length left → j < part)
    → FirstWithin post need left base from part None
    → i ≡ length left → from ≤ i → i < to → Holds need node.free → post (base + i) true
    → FirstWithin post need (left ++ node ∷ right) base from to (Some i)
unfolding FirstWithin
found_here post need left node right base from to part i within l is a b h p = (
  a,
  b,
  (subst (λ z. Holds need z) (sym (get_here left node right i is)) h, p),
  λ j c d g. l j c (within j (omega arith) (omega arith)) (subst (λ z. Holds need z) (get_left left (node ∷ right) j (omega arith)) g),
)

found_right : (post : ℕ → Bool → Type 0) (need : Need) (left : List FitNode) (node : FitNode) (right : List FitNode) (base from to part i : ℕ)
    → ((j : ℕ) → j < to → j < length left → j < part)
    → FirstWithin post need left base from part None
    → (from ≤ length left → length left < to → Holds need node.free → post (base + length left) false)
    → FirstWithin post need right (base + suc (length left)) (from - suc (length left)) (to - suc (length left)) (Some i)
    → FirstWithin post need (left ++ node ∷ right) base from to (Some (suc (length left) + i))
unfolding FirstWithin
found_right post need left node right base from to part i within l m r =
    let q : base + suc (length left) + i ≡ base + (suc (length left) + i) = omega arith in
    let at : suc (length left) + i ≡ suc (length left + i) = omega arith in (
      omega (arith, r.0),
      omega (arith, r.1),
      (subst (λ z. Holds need z) (sym (get_right left node right (suc (length left) + i) i at)) r.2.0, subst (λ z. post z true) q r.2.1),
      none_fork post need left node right base from (suc (length left) + i) part
          (λ j c d. within j (omega (arith, r.1)) d) l
          (λ c d h. m c (omega (arith, r.1)) h)
          (λ j c d h. r.3 j c (omega arith) h),
    )

-- the same, of a list that was split
pub nothing_asked : (post : ℕ → Bool → Type 0) (need : Need) (nodes : List FitNode) (base from to : ℕ) → to ≤ from → FirstWithin post need nodes base from to None
unfolding FirstWithin
nothing_asked post need nodes base from to le = λ j a b h. absurd (omega arith)

pub in_left : (post : ℕ → Bool → Type 0) (need : Need) (nodes left : List FitNode) (node : FitNode) (right : List FitNode) (base from to part i : ℕ)
    → nodes ≡ left ++ node ∷ right → part ≤ to → part ≤ length left → FirstWithin post need left base from part (Some i) → FirstWithin post need nodes base from to (Some i)
in_left post need nodes left node right base from to part i is le fits f =
    subst (λ z. FirstWithin post need z base from to (Some i)) (sym is) (found_left post need left (node ∷ right) base from to part i le fits f)

pub in_middle : (post : ℕ → Bool → Type 0) (need : Need) (nodes left : List FitNode) (node : FitNode) (right : List FitNode) (base from to part : ℕ)
    → nodes ≡ left ++ node ∷ right
    → ((j : ℕ) → j < to → j < length left → j < part)
    → FirstWithin post need left base from part None
    → from ≤ length left → length left < to → Holds need node.free → post (base + length left) true
    → FirstWithin post need nodes base from to (Some (length left))
in_middle post need nodes left node right base from to part is within l a b h p =
    subst (λ z. FirstWithin post need z base from to (Some (length left))) (sym is) (found_here post need left node right base from to part (length left) within l refl a b h p)

pub in_right : (post : ℕ → Bool → Type 0) (need : Need) (nodes left : List FitNode) (node : FitNode) (right : List FitNode) (base from to part i : ℕ)
    → nodes ≡ left ++ node ∷ right
    → ((j : ℕ) → j < to → j < length left → j < part)
    → FirstWithin post need left base from part None
    → (from ≤ length left → length left < to → Holds need node.free → post (base + length left) false)
    → FirstWithin post need right (base + (length left + 1)) (from - (length left + 1)) (to - (length left + 1)) (Some i)
    → FirstWithin post need nodes base from to (Some (length left + 1 + i))
in_right post need nodes left node right base from to part i is within l m r =
    let e : length left + 1 ≡ suc (length left) = omega arith in
    subst (λ z. FirstWithin post need z base from to (Some (length left + 1 + i))) (sym is)
    (subst (λ n. FirstWithin post need (left ++ node ∷ right) base from to (Some (n + i))) (sym e)
    (found_right post need left node right base from to part i within l m
    (subst (λ n. FirstWithin post need right (base + n) (from - n) (to - n) (Some i)) e r)))

pub in_none : (post : ℕ → Bool → Type 0) (need : Need) (nodes left : List FitNode) (node : FitNode) (right : List FitNode) (base from to part : ℕ)
    → nodes ≡ left ++ node ∷ right
    → ((j : ℕ) → j < to → j < length left → j < part)
    → FirstWithin post need left base from part None
    → (from ≤ length left → length left < to → Holds need node.free → post (base + length left) false)
    → FirstWithin post need right (base + (length left + 1)) (from - (length left + 1)) (to - (length left + 1)) None
    → FirstWithin post need nodes base from to None
in_none post need nodes left node right base from to part is within l m r =
    let e : length left + 1 ≡ suc (length left) = omega arith in
    subst (λ z. FirstWithin post need z base from to None) (sym is)
    (none_fork post need left node right base from to part within l m
    (subst (λ n. FirstWithin post need right (base + n) (from - n) (to - n) None) e r))

-- a search in the whole tree
whole : (answers : ℕ → Bool → Type 0) (need : Need) (nodes : List FitNode) (from to : ℕ) (found : Option ℕ)
    → FirstWithin answers need nodes 0 from to found → FirstBetween (WithRoom (frees nodes) need answers) from to found
unfolding FirstWithin
whole answers need nodes from to None f = λ n a b h. let e : 0 + n ≡ n = omega arith in subst (λ z. answers z false) e (f n a b h)
whole answers need nodes from to (Some i) f =
    let e : 0 + i ≡ i = omega arith in (
      f.0,
      f.1,
      (f.2.0, subst (λ z. answers z true) e f.2.1),
      λ n a b h. let d : 0 + n ≡ n = omega arith in subst (λ z. answers z false) d (f.3 n a b h),
    )

-- what a search from the start on finds, and one before the start where that one finds nothing
pub found_wrapped : (answers : ℕ → Bool → Type 0) (need : Need) (nodes : List FitNode) (start i : ℕ) → start ≤ length nodes
    → FirstWithin answers need nodes 0 start (length nodes) (Some i)
    → IsFirstWithRoom (frees nodes) need answers start (Some i)
unfolding IsFirstWithRoom
found_wrapped answers need nodes start i le f =
    let e : length (frees nodes) ≡ length nodes = rw length-map refl in
    subst (λ n. IsFirst (WithRoom (frees nodes) need answers) (positions_from start n) (Some i)) (sym e)
    (found_from_start (WithRoom (frees nodes) need answers) start (length nodes) i le
    (whole answers need nodes start (length nodes) (Some i) f))

pub none_wrapped : (answers : ℕ → Bool → Type 0) (need : Need) (nodes : List FitNode) (start : ℕ) (found : Option ℕ) → start ≤ length nodes
    → FirstWithin answers need nodes 0 start (length nodes) None → FirstWithin answers need nodes 0 0 start found
    → IsFirstWithRoom (frees nodes) need answers start found
unfolding IsFirstWithRoom
none_wrapped answers need nodes start found le none f =
    let e : length (frees nodes) ≡ length nodes = rw length-map refl in
    subst (λ n. IsFirst (WithRoom (frees nodes) need answers) (positions_from start n) found) (sym e)
    (none_from_start (WithRoom (frees nodes) need answers) start (length nodes) found le
    (whole answers need nodes start (length nodes) None none) (whole answers need nodes 0 start found f))

-- a search that tests nothing finds the next with room
pub next_with_room : (answers : ℕ → Bool → Type 0) (need : Need) (nodes : List FitNode) (from to : ℕ) (found : Option ℕ) → FirstWithin answers need nodes 0 from to found
    → ((i : ℕ) (b : Bool) → answers (0 + i) b → b ≡ true) → IsNextWithRoom (frees nodes) need from to found
unfolding FirstWithin IsNextWithRoom
next_with_room answers need nodes from to found f tested =
    between_follows (WithRoom (frees nodes) need (λ i. answers (0 + i))) (WithRoom (frees nodes) need (λ i b. b ≡ true)) from to found
    (with_room_follows (frees nodes) need (λ i. answers (0 + i)) (λ i b. b ≡ true) tested) f
