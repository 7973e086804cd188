-- A seat that has a number answers for it first, with its own list.
use Rattle.std.proofs.Common.{◌≡◌, ℕ, List, [], ◌∷◌, ◌++◌, ap, subst, true, Bool, Option}
use Rattle.std.specs.Prelude.{if◌then◌else◌}
use Rattle.omega_lock.specs.declared.seat_view.SeatView.{SeatView}
use Rattle.omega_lock.specs.Lists.{entries_since, EachHasItsEntries}
use Rattle.omega_lock.specs.Views.{lists}

module _ {E : Type 0} where
  pub own_first : (v : SeatView E) → v.has_number ≡ true → lists v ≡ (v.number, v.own) ∷ v.kept
  own_first v is = ap (λ (z : Bool). (if z then (v.number, v.own) ∷ [] else []) ++ v.kept) is

module _ {E : Type 0} (number : E → Option ℕ) where
  -- its own list, and those of the seats joined to it
  pub own_and_kept : (v : SeatView E) (first_length : ℕ) (log : List E) → v.has_number ≡ true
      → EachHasItsEntries number first_length log (lists v)
      → EachHasItsEntries number first_length log ((v.number, v.own) ∷ v.kept)
  own_and_kept v first_length log is l = subst (EachHasItsEntries number first_length log) (own_first v is) l

  -- its own list is all that the list has of its number
  pub own_is_all : (v : SeatView E) (first_length : ℕ) (log : List E) → v.has_number ≡ true
      → EachHasItsEntries number first_length log (lists v)
      → v.own ≡ entries_since number first_length v.number log
  own_is_all v first_length log is l = (own_and_kept v first_length log is l).0
