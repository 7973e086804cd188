-- The seat that holds the turn.
use Rattle.std.proofs.Common.{◌≡◌, ℕ, ◌≤◌, List, refl, arith, true, false, Bool}
use Rattle.std.specs.Prelude.{sum_by}
use mathlib.Core.Option.{some}
use mathlib.Core.Logic.{dite}
use native.Mathlib.Decide.{ℕ_discrete}
use lib.ListN.{get_elem?}
use Rattle.omega_lock.specs.declared.seat_view.SeatView.{SeatView}
use Rattle.omega_lock.specs.Views.{holding, telling}
use Rattle.omega_lock.proofs.Sums.{terms_le}

module _ {E : Type 0} where
  -- where at most one seat holds the turn, two that hold it are one
  pub one_holder : (views : List (SeatView E)) (i j : ℕ) (u v : SeatView E) → sum_by holding views ≤ 1
      → get_elem? views i ≡ some u → get_elem? views j ≡ some v → u.holds ≡ true → v.holds ≡ true → i ≡ j
  one_holder views i j u v single at at' holds holds' = dite (ℕ_discrete i j) (λ e. e) (λ ne.
      let both = terms_le holding views j i v u ne at' at in
      let one : holding u ≡ 1 = rw holds refl in
      let other : holding v ≡ 1 = rw holds' refl in
      absurd (omega (arith, both, one, other, single)))

  -- a seat counts once at most among those that have told
  pub telling_le : (v : SeatView E) (told : Bool) → v.told ≡ told → telling v ≤ 1
  telling_le v false is = rw is (omega arith)
  telling_le v true is = rw is (omega arith)
