-- Lists of entries that grow at their ends, and which entries are those of a seat.
use Rattle.std.specs.Prelude.{◌≡◌, ℕ, zero, suc, ◌+◌, ◌<◌, Bool, false, List, [], ◌∷◌, ◌++◌, drop, filter, Option, Some, None, if◌then◌else◌, ◌==◌}

-- a list goes on from another
abbrev pub StartsWith : {E : Type 0} → List E → List E → Type 0
StartsWith {E} whole beginning = (more : List E) × (whole ≡ beginning ++ more)

-- a list goes on from each of these
abbrev pub StartsWithEach : {E : Type 0} → List E → List (List E) → Type 0
StartsWithEach whole [] = Unit {0}
StartsWithEach whole (x ∷ xs) = StartsWith whole x × StartsWithEach whole xs

-- each of these numbers is this one
abbrev pub EachIs : ℕ → List ℕ → Type 0
EachIs n [] = Unit {0}
EachIs n (m ∷ ms) = (m ≡ n) × EachIs n ms

-- 1 where the numbers are the same, and else 0
abbrev pub same : ℕ → ℕ → ℕ
same n m = if n == m then 1 else 0

-- 1 where n is below m, and else 0
abbrev pub below : ℕ → ℕ → ℕ
below n zero = 0
below n (suc m) = below n m + same n m

-- whether an entry's number is n
abbrev pub is_by : ℕ → Option ℕ → Bool
is_by n None = false
is_by n (Some m) = n == m

module _ {E : Type 0} (number : E → Option ℕ) where
  -- the entries of a seat's number, in order
  abbrev pub entries_of : ℕ → List E → List E
  entries_of n es = filter (λ e. is_by n (number e)) es

  -- those of them that came after the first so many entries
  abbrev pub entries_since : ℕ → ℕ → List E → List E
  entries_since first_length n es = entries_of n (drop first_length es)

  -- each of these numbers has all entries of it that came since the lock began, in order
  abbrev pub EachHasItsEntries : ℕ → List E → List (ℕ × List E) → Type 0
  EachHasItsEntries first_length log [] = Unit {0}
  EachHasItsEntries first_length log (p ∷ ps) = (p.1 ≡ entries_since first_length p.0 log) × EachHasItsEntries first_length log ps

  -- each entry has a number below n
  abbrev pub EachBelow : ℕ → List E → Type 0
  EachBelow n [] = Unit {0}
  EachBelow n (e ∷ es) = ((m : ℕ) × (number e ≡ Some m) × (m < n)) × EachBelow n es
