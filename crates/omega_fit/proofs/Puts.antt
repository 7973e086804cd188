-- What one written node changes.
use Rattle.std.proofs.Common.{◌≡◌, ℕ, zero, suc, List, [], ◌∷◌, ◌++◌, ◌+◌, ◌<◌, length, set, Option, ap, refl, arith}
use Rattle.std.proofs.lemmas.List.{map-append, length-map}
use Rattle.omega_model.specs.declared.cells.Need.{Need}
use Rattle.omega_fit.specs.declared.nodes.FitNode.{FitNode}
use Rattle.omega_fit.specs.Tree.{frees}

set_left : {X : Type 0} (xs : List X) (y : X) (ys zs : List X) (i : ℕ) (a : X) → i < length xs → zs ≡ set xs i a → zs ++ y ∷ ys ≡ set (xs ++ y ∷ ys) i a
set_left [] y ys zs i a lt e = absurd (omega arith)
set_left (x ∷ xs) y ys zs zero a lt e = rw e refl
set_left (x ∷ xs) y ys zs (suc i) a lt e = rw e (ap (λ z. x ∷ z) (set_left xs y ys (set xs i a) i a (omega arith) refl))

set_here : {X : Type 0} (xs : List X) (y : X) (ys : List X) (i : ℕ) (a : X) → length xs ≡ i → xs ++ a ∷ ys ≡ set (xs ++ y ∷ ys) i a
set_here [] y ys zero a is = refl
set_here [] y ys (suc i) a is = absurd (omega arith)
set_here (x ∷ xs) y ys zero a is = absurd (omega arith)
set_here (x ∷ xs) y ys (suc i) a is = ap (λ z. x ∷ z) (set_here xs y ys i a (omega arith))

set_right : {X : Type 0} (xs : List X) (y : X) (ys : List X) (i j : ℕ) (a : X) → i ≡ suc (length xs + j) → xs ++ y ∷ set ys j a ≡ set (xs ++ y ∷ ys) i a
set_right [] y ys zero j a is = absurd (omega arith)
set_right [] y ys (suc i) j a is = let e : i ≡ j = omega arith in rw e refl
set_right (x ∷ xs) y ys zero j a is = absurd (omega arith)
set_right (x ∷ xs) y ys (suc i) j a is = ap (λ z. x ∷ z) (set_right xs y ys i j a (omega arith))

pub put_left : (left : List FitNode) (node : FitNode) (right : List FitNode) (after : List FitNode) (most : Option Need) (p : ℕ) (free : Option Need)
    → p < length left → frees after ≡ set (frees left) p free
    → frees (after ++ record { free = node.free; most = most } ∷ right) ≡ set (frees (left ++ node ∷ right)) p free
put_left left node right after most p free lt is =
    rw (map-append, map-append) (set_left (frees left) node.free (frees right) (frees after) p free (rw length-map lt) is)

pub put_here : (left : List FitNode) (node : FitNode) (right : List FitNode) (most : Option Need) (p : ℕ) (free : Option Need)
    → length left ≡ p
    → frees (left ++ record { free = free; most = most } ∷ right) ≡ set (frees (left ++ node ∷ right)) p free
put_here left node right most p free is =
    rw (map-append, map-append) (set_here (frees left) node.free (frees right) p free (rw length-map is))

pub put_right : (left : List FitNode) (node : FitNode) (right after : List FitNode) (most : Option Need) (p j : ℕ) (free : Option Need)
    → p ≡ suc (length left + j) → frees after ≡ set (frees right) j free
    → frees (left ++ record { free = node.free; most = most } ∷ after) ≡ set (frees (left ++ node ∷ right)) p free
put_right left node right after most p j free is e =
    rw (map-append, map-append, e) (set_right (frees left) node.free (frees right) p j free (rw length-map is))
