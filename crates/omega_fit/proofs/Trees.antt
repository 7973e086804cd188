-- Trees, put together and taken apart.
use Rattle.std.proofs.Common.{◌≡◌, ℕ, zero, suc, List, [], ◌∷◌, ◌++◌, ◌+◌, ◌-◌, ◌<◌, ◌≤◌, length, take, drop, subst, sym, ap, ◌∙◌, refl, arith}
use Rattle.std.proofs.lemmas.List.{length-take-le, length-drop, take_at, drop_at}
use Rattle.std.proofs.lemmas.Grind.{common_steps}
use Rattle.omega_fit.specs.declared.nodes.FitNode.{FitNode}
use Rattle.omega_fit.specs.Needs.{greater}
use Rattle.omega_fit.specs.Tree.{middle, root, Forks, Tidy, Tree}
use Rattle.omega_fit.proofs.Middles.{middle_within, below_last}

forks_less : (P Q : List FitNode → Type 0) (m : ℕ) (left rest : List FitNode) → ((xs : List FitNode) → length xs ≤ m → P xs → Q xs)
    → length left ≤ m → length rest ≤ suc m → Forks P left rest → Forks Q left rest
forks_less P Q m left [] step a b t = tt
forks_less P Q m left (node ∷ right) step a b t = (t.0, step left a t.1, step right (omega arith) t.2)

drop_none : (n : ℕ) (nodes : List FitNode) → nodes ≡ [] → drop n nodes ≡ []
drop_none zero nodes is = is
drop_none (suc n) [] is = refl
drop_none (suc n) (x ∷ xs) is = absurd (cc)

forks_none : (P : List FitNode → Type 0) → Forks P (take (middle 0) []) (drop (middle 0) [])
forks_none P = subst (λ z. Forks P (take (middle 0) []) z) (sym (drop_none (middle 0) [] refl)) tt

-- the number of levels doesn't matter where it is at least the length
tidy_less : (k j : ℕ) (nodes : List FitNode) → length nodes ≤ k → length nodes ≤ j → Tidy k nodes → Tidy j nodes
unfolding Tidy
tidy_less k zero nodes a b t = tt
tidy_less zero (suc j) [] a b t = forks_none (Tidy j)
tidy_less zero (suc j) (x ∷ xs) a b t = absurd (omega arith)
tidy_less (suc k) (suc j) [] a b t = forks_none (Tidy j)
tidy_less (suc k) (suc j) (x ∷ xs) a b t =
    let w : middle (length (x ∷ xs)) < length (x ∷ xs) = middle_within (length (x ∷ xs)) (omega arith) in
    let h : length (take (middle (length (x ∷ xs))) (x ∷ xs)) ≡ middle (length (x ∷ xs)) = length-take-le (middle (length (x ∷ xs))) (x ∷ xs) (omega (arith, w)) in
    let d : length (drop (middle (length (x ∷ xs))) (x ∷ xs)) ≡ length (x ∷ xs) - middle (length (x ∷ xs)) = length-drop (middle (length (x ∷ xs))) (x ∷ xs) in
    forks_less (Tidy k) (Tidy j) (length xs) (take (middle (length (x ∷ xs))) (x ∷ xs)) (drop (middle (length (x ∷ xs))) (x ∷ xs))
    (λ ys c u. tidy_less k j ys (omega arith) (omega arith) u)
    (omega (arith, h, w)) (omega (arith, d)) t

-- two trees and the root between them are a tree
pub tree_fork : (left : List FitNode) (node : FitNode) (right : List FitNode)
    → length left ≡ middle (length (left ++ node ∷ right))
    → node.most ≡ greater (root left) (greater node.free (root right))
    → Tree left → Tree right → Tree (left ++ node ∷ right)
unfolding Tidy Tree
tree_fork left node right half most l r =
    let n : length (left ++ node ∷ right) ≡ suc (length left + length right) = grind (arith, common_steps) in
    let t : take (middle (length (left ++ node ∷ right))) (left ++ node ∷ right) ≡ left = take_at left (node ∷ right) _ half in
    let d : drop (middle (length (left ++ node ∷ right))) (left ++ node ∷ right) ≡ node ∷ right = drop_at left (node ∷ right) _ half in
    let f : Forks (Tidy (length left + length right)) left (node ∷ right) = (
      most,
      tidy_less (length left) (length left + length right) left (omega arith) (omega arith) l,
      tidy_less (length right) (length left + length right) right (omega arith) (omega arith) r,
    ) in
    subst (λ z. Tidy z (left ++ node ∷ right)) (sym n)
    (subst (λ z. Forks (Tidy (length left + length right)) z (drop (middle (length (left ++ node ∷ right))) (left ++ node ∷ right))) (sym t)
    (subst (λ z. Forks (Tidy (length left + length right)) left z) (sym d) f))

nil_apart : (node : FitNode) (right : List FitNode) → [] ≡ node ∷ right → ⊥
nil_apart node right is = cc

-- a tree, when its root is looked at
pub tree_parts : (nodes : List FitNode) (node : FitNode) (right : List FitNode) → Tree nodes
    → drop (middle (length nodes)) nodes ≡ node ∷ right
    → (node.most ≡ greater (root (take (middle (length nodes)) nodes)) (greater node.free (root right)))
    × Tree (take (middle (length nodes)) nodes) × Tree right
unfolding Tidy Tree
tree_parts [] node right t is = absurd (nil_apart node right (sym (drop_none (middle 0) [] refl) ∙ is))
tree_parts (x ∷ xs) node right t is =
    let w : middle (length (x ∷ xs)) < length (x ∷ xs) = middle_within (length (x ∷ xs)) (omega arith) in
    let h : length (take (middle (length (x ∷ xs))) (x ∷ xs)) ≡ middle (length (x ∷ xs)) = length-take-le (middle (length (x ∷ xs))) (x ∷ xs) (omega (arith, w)) in
    let d : length (drop (middle (length (x ∷ xs))) (x ∷ xs)) ≡ length (x ∷ xs) - middle (length (x ∷ xs)) = length-drop (middle (length (x ∷ xs))) (x ∷ xs) in
    let e : length (drop (middle (length (x ∷ xs))) (x ∷ xs)) ≡ suc (length right) = ap length is in
    let f : Forks (Tidy (length xs)) (take (middle (length (x ∷ xs))) (x ∷ xs)) (node ∷ right) = subst (λ z. Forks (Tidy (length xs)) (take (middle (length (x ∷ xs))) (x ∷ xs)) z) is t in (
      f.0,
      tidy_less (length xs) (length (take (middle (length (x ∷ xs))) (x ∷ xs))) _ (omega (arith, h, w)) (omega arith) f.1,
      tidy_less (length xs) (length right) _ (omega (arith, d, e)) (omega arith) f.2,
    )

-- the empty list
pub tree_nil : (nodes : List FitNode) → length nodes ≡ 0 → Tree nodes
unfolding Tidy Tree
tree_nil [] none = tt
tree_nil (x ∷ nodes) none = absurd (omega arith)

-- the parts of a tree that was split are trees
pub tree_left : (nodes left : List FitNode) (node : FitNode) (right : List FitNode) → Tree nodes → nodes ≡ left ++ node ∷ right → length left ≡ middle (length nodes) → Tree left
tree_left nodes left node right t whole half =
    let d : drop (middle (length nodes)) nodes ≡ node ∷ right = subst (λ z. drop (middle (length nodes)) z ≡ node ∷ right) (sym whole) (drop_at left (node ∷ right) (middle (length nodes)) half) in
    let e : take (middle (length nodes)) nodes ≡ left = subst (λ z. take (middle (length nodes)) z ≡ left) (sym whole) (take_at left (node ∷ right) (middle (length nodes)) half) in
    subst (λ z. Tree z) e (tree_parts nodes node right t d).1

pub tree_right : (nodes left : List FitNode) (node : FitNode) (right : List FitNode) → Tree nodes → nodes ≡ left ++ node ∷ right → length left ≡ middle (length nodes) → Tree right
tree_right nodes left node right t whole half =
    let d : drop (middle (length nodes)) nodes ≡ node ∷ right = subst (λ z. drop (middle (length nodes)) z ≡ node ∷ right) (sym whole) (drop_at left (node ∷ right) (middle (length nodes)) half) in
    (tree_parts nodes node right t d).2

take_past : (left right : List FitNode) (n k : ℕ) → n ≡ length left + k → take n (left ++ right) ≡ left ++ take k right
take_past [] right n k is = let e : n ≡ k = omega (arith, is) in rw e refl
take_past (x ∷ left) right zero k is = absurd (omega (arith, is))
take_past (x ∷ left) right (suc n) k is = ap (λ z. x ∷ z) (take_past left right n k (omega (arith, is)))

-- without its last node, a list has this root and these parts, where something is right of its own root
grown : (left : List FitNode) (node : FitNode) (right nodes : List FitNode) → nodes ≡ left ++ node ∷ right → length left ≡ middle (length nodes) → 0 < length right
    → (take (length nodes - 1) nodes ≡ left ++ node ∷ take (length right - 1) right) × (length left ≡ middle (length (take (length nodes - 1) nodes)))
grown left node right nodes whole half some =
    let n : length nodes ≡ suc (length left + length right) = ap length whole ∙ grind (arith, common_steps) in
    let before : middle (length nodes - 1) ≡ length left = below_last (length nodes - 1) (length left)
    (subst (λ z. length left ≡ middle z) (omega (arith, n)) half) (omega (arith, n)) in
    let t : take (length nodes - 1) nodes ≡ left ++ node ∷ take (length right - 1) right =
    subst (λ z. take (length nodes - 1) z ≡ left ++ node ∷ take (length right - 1) right) (sym whole)
    (take_past left (node ∷ right) (length nodes - 1) (suc (length right - 1)) (omega (arith, n))) in
    (t, sym (subst (λ z. middle z ≡ length left) (sym (length-take-le (length nodes - 1) nodes (omega arith))) before))

none_right : (left : List FitNode) (node : FitNode) (nodes : List FitNode) → nodes ≡ left ++ node ∷ [] → take (length nodes - 1) nodes ≡ left
none_right left node nodes whole =
    let n : length nodes ≡ suc (length left) = ap length whole ∙ grind (arith, common_steps) in
    subst (λ z. take (length nodes - 1) z ≡ left) (sym whole) (take_at left (node ∷ []) (length nodes - 1) (omega (arith, n)))

-- the parts of a list that is a tree without its last node
pub grown_left : (left : List FitNode) (node : FitNode) (right nodes : List FitNode) → nodes ≡ left ++ node ∷ right → length left ≡ middle (length nodes)
    → Tree (take (length nodes - 1) nodes) → Tree left
grown_left left node [] nodes whole half t = subst Tree (none_right left node nodes whole) t
grown_left left node (x ∷ right) nodes whole half t =
    let g = grown left node (x ∷ right) nodes whole half (omega arith) in
    tree_left _ left node _ t g.0 g.1

pub grown_right : (left : List FitNode) (node : FitNode) (right nodes : List FitNode) → nodes ≡ left ++ node ∷ right → length left ≡ middle (length nodes)
    → Tree (take (length nodes - 1) nodes) → Tree (take (length right - 1) right)
grown_right left node [] nodes whole half t = tree_nil [] refl
grown_right left node (x ∷ right) nodes whole half t =
    let g = grown left node (x ∷ right) nodes whole half (omega arith) in
    tree_right _ left node _ t g.0 g.1
