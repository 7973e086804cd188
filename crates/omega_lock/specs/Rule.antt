-- The rule of the lock: what holds of its words, its slot and its seats between any two steps.
use Rattle.std.specs.Prelude.{◌≡◌, ℕ, ◌+◌, ◌*◌, ◌≤◌, true, false, List, length, drop, Option, Some, slice_index_or, sum_by}
use mathlib.Core.Option.{some}
use lib.ListN.{get_elem?}
use Rattle.atomic_table.specs.Table.{State}
use Rattle.omega_lock.specs.declared.rule.Terms.{Terms}
use Rattle.omega_lock.specs.declared.seat_view.SeatView.{SeatView}
use Rattle.omega_lock.specs.Lists.{StartsWith, StartsWithEach, below, entries_since, EachHasItsEntries, EachBelow, EachIs}
use Rattle.omega_lock.specs.Views.{lists, answers, ticket_is, ticketed, holding, telling}

module _ {T E : Type 0} where
  -- word 0: how many numbers were given to seats
  abbrev pub numbers_given : State (Option T) (SeatView E) → ℕ
  numbers_given s = slice_index_or s.words 0 0

  -- word 1: the ticket that is drawn next
  abbrev pub next_ticket : State (Option T) (SeatView E) → ℕ
  next_ticket s = slice_index_or s.words 1 0

  -- word 2: the ticket that is served
  abbrev pub served : State (Option T) (SeatView E) → ℕ
  served s = slice_index_or s.words 2 0

  -- word 3: the length of the list
  abbrev pub list_length : State (Option T) (SeatView E) → ℕ
  list_length s = slice_index_or s.words 3 0

  -- the turns that all seats have left
  abbrev pub turns_left : State (Option T) (SeatView E) → ℕ
  turns_left s = sum_by (λ (v : SeatView E). v.turns) s.views

module _ {E : Type 0} (number : E → Option ℕ) where
  -- what the rule says of one seat, where the list behind the lock is `log`
  pub record Fits (first_length served : ℕ) (log : List E) (v : SeatView E) : Type 0 where
    -- the list goes on from what the seat has seen
    pub seen : StartsWith log v.seen
    -- without a number the seat has neither turns nor a ticket
    pub idle : v.has_number ≡ false → (v.turns ≡ 0) × (v.has_ticket ≡ false)
    -- with a number it knows how long the first list was
    pub based : v.has_number ≡ true → v.first_length ≡ first_length
    -- its own list is what it has seen of its number since the lock began
    pub mine : v.has_number ≡ true → v.own ≡ entries_since number first_length v.number v.seen
    -- each number that it answers for has all its entries since the lock began
    pub listed : EachHasItsEntries number first_length log (lists v)
    -- the list goes on from what each seat had seen that was joined to it
    pub also_seen : StartsWithEach log v.also_seen
    -- each of these knew how long the first list was
    pub also_first : EachIs first_length v.also_first
    -- where it holds the turn, its ticket is served, and the list behind the value that it holds is the list
    pub turn : v.holds ≡ true → (v.has_ticket ≡ true) × (v.ticket ≡ served) × (v.held ≡ log)
    -- only the holder reads, and has then seen all of the list
    pub read : v.read ≡ true → (v.holds ≡ true) × (v.seen ≡ log)
    -- only who has read publishes
    pub tells : v.told ≡ true → v.read ≡ true

-- the list at the beginning
abbrev pub first_list : {T E : Type 0} → (T → List E) → Terms T → List E
first_list entries terms = entries terms.first.value

module _ {T E : Type 0} (entries : T → List E) (number : E → Option ℕ) where
  -- the rule, for a lock that was made under these terms
  pub record LockRule (terms : Terms T) (s : State (Option T) (SeatView E)) : Type 0 where
    -- there is one list, which goes on from the first
    pub log : List E
    pub from_first : StartsWith log (first_list entries terms)
    pub four_words : length s.words ≡ 4
    pub one_slot : length s.homes ≡ 1
    -- no more numbers are given than there are callers
    pub few : numbers_given s ≤ terms.callers
    -- each number below those given is answered for in one place, and no other is anywhere
    pub numbers : (n : ℕ) → sum_by (answers n) s.views ≡ below n (numbers_given s)
    -- each number brought its turns, of which each ticket that was drawn took one
    pub turns : next_ticket s + turns_left s ≡ numbers_given s * terms.turns
    -- each ticket from the one served up to the next to be drawn is with one seat, and no other is with any
    pub tickets : (n : ℕ) → sum_by (ticket_is n) s.views + below n (served s) ≡ below n (next_ticket s)
    -- so as many seats have a ticket as lie between the two
    pub queue : next_ticket s ≡ served s + sum_by ticketed s.views
    -- at most one seat holds the turn
    pub single : sum_by holding s.views ≤ 1
    -- while none does, the value is in the slot, and the list behind it is the list
    pub home : sum_by holding s.views ≡ 0
        → (y : T) × (get_elem? s.homes 0 ≡ some (some (Some y))) × (entries y ≡ log)
    -- the length is that of the list, which a turn makes longer by one entry at most
    pub long : list_length s ≡ length log
    pub slow : list_length s ≤ length (first_list entries terms) + served s + sum_by telling s.views
    -- each entry since the beginning has a number that was given
    pub given : EachBelow number (numbers_given s) (drop (length (first_list entries terms)) log)
    -- each seat fits
    pub fits : (j : ℕ) (v : SeatView E) → get_elem? s.views j ≡ some v
        → Fits number (length (first_list entries terms)) (served s) log v
