-- What seats know, counted over all of them.
use Rattle.std.specs.Prelude.{◌≡◌, ℕ, ◌+◌, false, List, [], ◌∷◌, ◌++◌, length, leb, if◌then◌else◌, sum_by}
use Rattle.omega_lock.specs.declared.seat_view.SeatView.{SeatView}
use Rattle.omega_lock.specs.Lists.{same}

module _ {E : Type 0} where
  -- a seat's own number with its own list, once it has a number
  abbrev pub own_list : SeatView E → List (ℕ × List E)
  own_list v = if v.has_number then (v.number, v.own) ∷ [] else []

  -- the numbers that a seat answers for, each with its list: its own, and those of the seats joined to it
  abbrev pub lists : SeatView E → List (ℕ × List E)
  lists v = own_list v ++ v.kept

  -- how often a seat answers for the number n
  abbrev pub answers : ℕ → SeatView E → ℕ
  answers n v = sum_by (λ (p : ℕ × List E). same n p.0) (lists v)

  -- 1 where the seat has the ticket n
  abbrev pub ticket_is : ℕ → SeatView E → ℕ
  ticket_is n v = if v.has_ticket then same n v.ticket else 0

  -- 1 where it has a ticket
  abbrev pub ticketed : SeatView E → ℕ
  ticketed v = if v.has_ticket then 1 else 0

  -- 1 where it holds the turn
  abbrev pub holding : SeatView E → ℕ
  holding v = if v.holds then 1 else 0

  -- 1 where it has published an entry in this turn
  abbrev pub telling : SeatView E → ℕ
  telling v = if v.told then 1 else 0

  -- the first seat of a lock, which gets no number: it has seen the first list
  abbrev pub first_view : ℕ → List E → SeatView E
  first_view turns es = record {
    has_number = false;
    number = 0;
    first_length = length es;
    allotted = turns;
    turns = 0;
    has_ticket = false;
    ticket = 0;
    holds = false;
    read = false;
    told = false;
    held = [];
    seen = es;
    own = [];
    kept = [];
    also_seen = [];
    also_first = [];
  }

  -- a seat that is split off has seen what the other has, and has neither number nor ticket
  abbrev pub split_off : SeatView E → SeatView E
  split_off v = record (first_view v.allotted v.seen) { first_length = v.first_length }

  -- what a seat is left with when it is joined to another: nothing
  abbrev pub spent : SeatView E
  spent = first_view 0 []

  -- the longer of two lists
  abbrev pub longer : List E → List E → List E
  longer xs ys = if leb (length ys) (length xs) then xs else ys

  -- a seat that another is joined to has the longer of what the two had seen, keeps both, and how long each
  -- knew the first list to be, and answers for the numbers of both
  abbrev pub joined : SeatView E → SeatView E → SeatView E
  joined v w = record v {
    turns = v.turns + w.turns;
    seen = longer v.seen w.seen;
    kept = v.kept ++ lists w;
    also_seen = (v.seen ∷ w.seen ∷ v.also_seen) ++ w.also_seen;
    also_first = (w.first_length ∷ v.also_first) ++ w.also_first;
  }

  -- a seat that has no ticket and no turn
  abbrev pub Rests : SeatView E → Type 0
  Rests v = (v.has_ticket ≡ false) × (v.holds ≡ false) × (v.read ≡ false) × (v.told ≡ false)
