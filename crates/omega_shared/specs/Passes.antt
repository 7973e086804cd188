-- A shared cell and a pass as callers see them.
use Rattle.std.specs.Prelude.{◌≡◌, ℕ, zero, suc, ◌≤◌, false, List, [], ◌∷◌, ◌++◌, length}
use Rattle.atomic_table.specs.Seated.{TableId}
use Rattle.omega_lock.specs.Seats.{SeatState}
use Rattle.omega_model.specs.declared.entries.Entry.{Entry}
use Rattle.omega_shared.specs.Commits.{commits_since}

-- a shared cell: which it is, how many passes it has, and the history when it was shared
pub record SharedState : Type 0 where
  pub of : TableId
  pub callers : ℕ
  pub first : List Entry

-- a pass: the shared cell that it is of, its number, and how long the history was when the cell was shared,
-- which never change; how many turns it has left, the history that it has seen, and its own commits since
-- the cell was shared
pub record PassState : Type 0 where
  pub of : TableId
  pub number : ℕ
  pub first_length : ℕ
  pub turns : ℕ
  pub seen : List Entry
  pub own : List Entry

-- what a pass has seen of its number since the cell was shared are its own commits, each once, in order
abbrev pub OwnIsSeen : PassState → Type 0
OwnIsSeen pass = pass.own ≡ commits_since pass.first_length pass.number pass.seen

-- a pass has seen at least as many entries as the cell had when it was shared
abbrev pub HasSeenFirst : PassState → Type 0
HasSeenFirst pass = pass.first_length ≤ length pass.seen

-- the pass of this number of a cell that was shared with this history
abbrev pub new_pass : TableId → ℕ → List Entry → ℕ → PassState
new_pass of turns history n = record {
  of = of;
  number = n;
  first_length = length history;
  turns = turns;
  seen = history;
  own = [];
}

-- the passes of a new shared cell, by number
abbrev pub new_passes : TableId → ℕ → List Entry → ℕ → List PassState
new_passes of turns history zero = []
new_passes of turns history (suc n) = new_passes of turns history n ++ new_pass of turns history n ∷ []

-- the pass whose seat at the lock this is
abbrev pub pass_at : SeatState Entry → PassState
pass_at seat = record {
  of = seat.of;
  number = seat.number;
  first_length = seat.first_length;
  turns = seat.turns;
  seen = seat.seen;
  own = seat.own;
}

-- what the seat of a pass keeps between calls: it doesn't hold the turn
pub record IsPassSeat (seat : SeatState Entry) : Type 0 where
  pub free : seat.holds ≡ false
  pub own : OwnIsSeen (pass_at seat)
  pub first : HasSeenFirst (pass_at seat)
