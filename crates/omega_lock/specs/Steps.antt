-- What each kind of step tells the seat that makes it. A seat is its view, and the slot while it has that.
use Rattle.std.specs.Prelude.{◌≡◌, ◌≢◌, ℕ, ◌+◌, true, false, List, [], ◌∷◌, ◌++◌, length, Option, Some}
use Rattle.atomic_table.specs.Table.{Me, Step, rest}
use Rattle.omega_lock.specs.declared.seat_view.SeatView.{SeatView}
use Rattle.omega_lock.specs.Lists.{StartsWith, entries_since}

-- the seat after its turn
abbrev pub turned_over : {E : Type 0} → SeatView E → SeatView E
turned_over v = record v { has_ticket = false; holds = false; read = false; told = false; held = [] }

-- the seat gets the number that it asked for, with its turns; where the word was another nothing changes
abbrev pub Numbers : {T E : Type 0} → Step (Option T) → Me (Option T) (SeatView E) → ℕ
    → Me (Option T) (SeatView E) → Type 0
Numbers step old found new =
    (found ≡ step.first → new ≡ (record old.0 { has_number = true; number = step.first; turns = old.0.allotted; own = [] }, old.1))
    × (found ≢ step.first → new ≡ old)

-- its ticket is the number found, and it has one turn less
abbrev pub Draws : {T E : Type 0} → Step (Option T) → Me (Option T) (SeatView E) → ℕ
    → Me (Option T) (SeatView E) → Type 0
Draws step old found new =
    (new.0 ≡ record old.0 { turns = new.0.turns; has_ticket = true; ticket = found })
    × (new.0.turns + 1 ≡ old.0.turns) × (new.1 ≡ old.1)

-- where its ticket is served it holds the turn and has the slot; where it isn't nothing changes
abbrev pub Looks : {T E : Type 0} → (T → List E) → Step (Option T) → Me (Option T) (SeatView E) → ℕ
    → Me (Option T) (SeatView E) → Type 0
Looks {T} entries step old found new =
    (found ≡ old.0.ticket → (y : T) × (new ≡ (record old.0 { holds = true; held = entries y }, (0, Some y) ∷ old.1)))
    × (found ≢ old.0.ticket → new ≡ old)

-- it has now seen the whole list behind the value that it holds. That goes on from what it had seen, and what
-- it has of the seat's number is the own list
abbrev pub Reads : {T E : Type 0} → (E → Option ℕ) → Step (Option T) → Me (Option T) (SeatView E) → ℕ
    → Me (Option T) (SeatView E) → Type 0
Reads number step old found new =
    (new ≡ (record old.0 { read = true; seen = old.0.held }, old.1)) × (found ≡ length old.0.held)
    × StartsWith old.0.held old.0.seen × (old.0.own ≡ entries_since number old.0.first_length old.0.number old.0.held)

-- where the value in its slot has one entry more, the seat has seen that one too, and it is the last of its own
abbrev pub HasPublished : {T E : Type 0} → (T → List E) → (E → Option ℕ) → Me (Option T) (SeatView E)
    → Me (Option T) (SeatView E) → Type 0
HasPublished {T} {E} entries number old new =
    (y : T) (e : E) → old.1 ≡ (0, Some y) ∷ [] → entries y ≡ old.0.held ++ e ∷ []
    → (new ≡ (record old.0 { told = true; held = entries y; seen = entries y; own = old.0.own ++ e ∷ [] }, old.1))
    × (old.0.own ++ e ∷ [] ≡ entries_since number old.0.first_length old.0.number (entries y))

-- the seat publishes the entry that the value in its slot has more
abbrev pub Publishes : {T E : Type 0} → (T → List E) → (E → Option ℕ) → Step (Option T)
    → Me (Option T) (SeatView E) → ℕ → Me (Option T) (SeatView E) → Type 0
Publishes entries number step old found new = HasPublished entries number old new

-- the slot, the ticket and the turn are given back
abbrev pub Passes : {T E : Type 0} → Step (Option T) → Me (Option T) (SeatView E) → ℕ
    → Me (Option T) (SeatView E) → Type 0
Passes step old found new = new ≡ (turned_over old.0, rest old.1)
