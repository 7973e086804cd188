-- Seats that were joined to one.
use Rattle.std.specs.Prelude.{◌≡◌, ℕ, ◌≤◌, ◌⊎◌, List, [], ◌∷◌, Option, Some, sum_by}
use Rattle.omega_lock.specs.declared.seat_view.SeatView.{SeatView}
use Rattle.omega_lock.specs.Lists.{same}
use Rattle.omega_lock.specs.Seats.{SeatState}
use Rattle.omega_lock.specs.Views.{lists}

-- an item is in a list
abbrev pub In : {A : Type 0} → A → List A → Type 0
In x [] = ⊥
In x (y ∷ ys) = (x ≡ y) ⊎ In x ys

-- a seat's number with its own list
abbrev pub pair_of : {E : Type 0} → SeatState E → ℕ × List E
pair_of seat = (seat.number, seat.own)

-- the view keeps a seat's number with its own list, what it had seen, and how long it knew the first list to be
abbrev pub Has : {E : Type 0} → SeatView E → SeatState E → Type 0
Has v seat = In (pair_of seat) (lists v) × In seat.seen (v.seen ∷ v.also_seen)
    × In seat.first_length (v.first_length ∷ v.also_first)

-- it keeps those of all these seats
abbrev pub HasAll : {E : Type 0} → SeatView E → List (SeatState E) → Type 0
HasAll v [] = Unit {0}
HasAll v (seat ∷ seats) = Has v seat × HasAll v seats

-- each entry has the number of one of the pairs
abbrev pub EachIsKnown : {E : Type 0} → (E → Option ℕ) → List (ℕ × List E) → List E → Type 0
EachIsKnown number ps [] = Unit {0}
EachIsKnown {E} number ps (e ∷ es) =
    ((m : ℕ) × (number e ≡ Some m) × (1 ≤ sum_by (λ (p : ℕ × List E). same m p.0) ps)) × EachIsKnown number ps es
