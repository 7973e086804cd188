-- One component of the cell: CPU, memory or disk.
use Rattle.std.specs.Prelude.{ℕ, ◌+◌, ◌*◌, ◌<◌, ◌≤◌, ◌↔◌}

-- so many more tasks keep the use of a component within this percentage of its capacity
abbrev pub KeepsWithin : ℕ → ℕ → ℕ → ℕ → ℕ → Type 0
KeepsWithin percent need used capacity count = (used + count * need) * 100 ≤ capacity * percent

-- of the numbers from 1 up to `count`, those are fine that are at most `most`, and no others
abbrev pub FineUpTo : (ℕ → Type 0) → ℕ → ℕ → Type 0
FineUpTo IsFine count most = (number : ℕ) → 0 < number → number ≤ count → number ≤ most ↔ IsFine number
