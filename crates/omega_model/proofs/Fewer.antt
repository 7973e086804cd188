-- What a filter leaves of a list, and what is left where each stands once, is no longer than the list.
use Rattle.std.proofs.Common.{ℕ, ◌≤◌, Bool, List, [], ◌∷◌, length, arith}
use Rattle.std.proofs.lemmas.List.Sums.{count_by-le-length, length-filter}
use Rattle.std.specs.Prelude.{◌==◌, not}
use Rattle.std.specs.List.{filter}
use Rattle.omega_model.specs.Feed.{each_once}

pub filter_fewer : {X : Type 0} (test : X → Bool) (xs : List X) → length (filter test xs) ≤ length xs
filter_fewer test xs = omega (arith, length-filter test xs, count_by-le-length test xs)

pub once_fewer : (ns : List ℕ) → length (each_once ns) ≤ length ns
once_fewer [] = omega arith
once_fewer (n ∷ ns) =
    let rest = once_fewer ns in
    let fewer = filter_fewer (λ m. not (m == n)) (each_once ns) in
    omega arith
