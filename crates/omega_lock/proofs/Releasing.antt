-- A value that is put back with one more entry.
use Rattle.std.proofs.Common.{◌≡◌, ℕ, ap, sym, ◌∙◌, ◌∷◌, ◌++◌, [], List, Some, Option, true, ⊎_elim, length}
use Rattle.atomic_table.specs.Table.{Me}
use Rattle.omega_lock.specs.declared.seat_view.SeatView.{SeatView}
use Rattle.omega_lock.specs.Seats.{AddsAtMostOne}

module _ {E : Type 0} (number : E → Option ℕ) where
  -- a list of another length has one more entry
  pub one_more : (n : ℕ) (old new : List E) → AddsAtMostOne number n old new → ¬ (length new ≡ length old)
      → (e : E) × (new ≡ old ++ e ∷ []) × (number e ≡ Some n)
  one_more n old new may differs = ⊎_elim
      (λ (h : new ≡ old). absurd (differs (ap length h)))
      (λ (h : (e : E) × (new ≡ old ++ e ∷ []) × (number e ≡ Some n)). h) may

-- what a seat knows that has put the value back and then told of its entry
pub has_told : {T E : Type 0} (v : SeatView E) (slot : List (ℕ × Option T)) (mid new : Me (Option T) (SeatView E)) (es own own' : List E)
    → mid ≡ (v, slot)
    → new ≡ (record mid.0 { told = true; held = es; seen = es; own = own }, mid.1) → own ≡ own'
    → new ≡ (record v { told = new.0.told; held = es; seen = es; own = own' }, slot)
has_told {T} {E} v slot mid new es own own' put told is =
    let now = told ∙ ap (λ (m : Me (Option T) (SeatView E)). (record m.0 { told = true; held = es; seen = es; own = own }, m.1)) put in
    now ∙ ap (λ o. (record v { told = true; held = es; seen = es; own = o }, slot)) is
    ∙ ap (λ t. (record v { told = t; held = es; seen = es; own = own' }, slot)) (sym (ap (λ (m : Me (Option T) (SeatView E)). m.0.told) told))
