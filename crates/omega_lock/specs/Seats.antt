-- A lock and a seat as callers see them.
use Rattle.std.specs.Prelude.{◌≡◌, ℕ, zero, suc, ◌*◌, ◌<◌, ◌≤◌, ◌^◌, ◌⊎◌, Bool, true, false, List, [], ◌∷◌, ◌++◌, length, Option, Some, None}
use Rattle.atomic_table.specs.Seated.{TableId}
use Rattle.atomic_table.specs.Table.{Me}
use Rattle.omega_lock.specs.declared.rule.Terms.{Terms}
use Rattle.omega_lock.specs.declared.seat_view.SeatView.{SeatView}
use Rattle.omega_lock.specs.Lists.{entries_since}

-- a seat: the lock that it is of, its number, and how long the list was when the lock began, which never
-- change; whether it holds the turn, how many turns it has left, the list that it has seen, and its own
-- entries since the lock began
pub record SeatState (E : Type 0) : Type 0 where
  pub of : TableId
  pub number : ℕ
  pub first_length : ℕ
  pub holds : Bool
  pub turns : ℕ
  pub seen : List E
  pub own : List E

-- a lock: which it is, for how many callers, how many turns each was given, and the list when it began
pub record LockState (E : Type 0) : Type 0 where
  pub of : TableId
  pub callers : ℕ
  pub turns : ℕ
  pub first : List E

-- a lock over a table that was made under these terms
abbrev pub lock_state : {T E : Type 0} → (T → List E) → TableId → Terms T → LockState E
lock_state entries of terms = record {
  of = of;
  callers = terms.callers;
  turns = terms.turns;
  first = entries terms.first.value;
}

-- what every lock keeps; by the last two no word ever overflows
pub record IsLock {T E : Type 0} (entries : T → List E) (of : TableId) (terms : Terms T) : Type 0 where
  pub four_words : of.words ≡ 4
  pub one_slot : of.slots ≡ 1
  pub callers : 1 ≤ terms.callers
  pub few_turns : terms.callers * terms.turns < 2 ^ 62
  pub short : length (entries terms.first.value) < 2 ^ 63

-- a seat at the table `of`, by what it knows
abbrev pub seat_state : {E : Type 0} → TableId → SeatView E → SeatState E
seat_state of v = record {
  of = of;
  number = v.number;
  first_length = v.first_length;
  holds = v.holds;
  turns = v.turns;
  seen = v.seen;
  own = v.own;
}

-- the seat is the same one: its lock, its number and the first length stay
pub record IsSameSeat {E : Type 0} (old new : SeatState E) : Type 0 where
  pub of : new.of ≡ old.of
  pub number : new.number ≡ old.number
  pub first_length : new.first_length ≡ old.first_length

-- what the seat has seen of its number since the lock began is its own list, in order
abbrev pub OwnIsSeen : {E : Type 0} → (E → Option ℕ) → SeatState E → Type 0
OwnIsSeen number seat = seat.own ≡ entries_since number seat.first_length seat.number seat.seen

-- a list is another, or that and one more entry of this number
abbrev pub AddsAtMostOne : {E : Type 0} → (E → Option ℕ) → ℕ → List E → List E → Type 0
AddsAtMostOne {E} number n old new = (new ≡ old) ⊎ ((e : E) × (new ≡ old ++ e ∷ []) × (number e ≡ Some n))

-- the seat of this number of a new lock
abbrev pub new_seat : {E : Type 0} → TableId → ℕ → List E → ℕ → SeatState E
new_seat of turns es n = record {
  of = of;
  number = n;
  first_length = length es;
  holds = false;
  turns = turns;
  seen = es;
  own = [];
}

-- the seats of a new lock, by number
abbrev pub new_seats : {E : Type 0} → TableId → ℕ → List E → ℕ → List (SeatState E)
new_seats of turns es zero = []
new_seats of turns es (suc n) = new_seats of turns es n ++ new_seat of turns es n ∷ []

-- what every seat keeps between calls, where `count` is how long the list was when it was handed out last
pub record IsSeat {T E : Type 0} (number : E → Option ℕ) (me : Me (Option T) (SeatView E)) (count : ℕ) : Type 0 where
  pub has_number : me.0.has_number ≡ true
  -- no seat was joined to it
  pub kept : me.0.kept ≡ []
  pub also_seen : me.0.also_seen ≡ []
  pub also_first : me.0.also_first ≡ []
  -- it has a ticket, and has read, exactly while it holds the turn
  pub has_ticket : me.0.has_ticket ≡ me.0.holds
  pub read : me.0.read ≡ me.0.holds
  pub told : me.0.told ≡ false
  -- its own list is what it has seen of its number since the lock began
  pub own : me.0.own ≡ entries_since number me.0.first_length me.0.number me.0.seen
  -- the slot is out with it, and empty, exactly while it holds the turn
  pub home : me.0.holds ≡ false → me.1 ≡ []
  pub out : me.0.holds ≡ true → (me.1 ≡ (0, None) ∷ []) × (me.0.held ≡ me.0.seen) × (count ≡ length me.0.seen)
