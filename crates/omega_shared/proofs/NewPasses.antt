-- The passes of a new shared cell.
use Rattle.std.proofs.Common.{◌≡◌, ℕ, zero, suc, ◌<◌, List, [], ◌∷◌, ◌++◌, length, map, refl, sym, ap, ◌∙◌, arith}
use Rattle.std.specs.Prelude.{All, Some, option_map, slice_get}
use Rattle.std.proofs.Math.Seq.{drop-length}
use Rattle.std.proofs.lemmas.List.{length-map, map-append}
use Rattle.std.proofs.lemmas.List.Elements.{All-nil, All-push}
use Rattle.std.proofs.lemmas.Option.{slice_get-map}
use Rattle.std.specs.List.{filter}
use Rattle.atomic_table.specs.Seated.{TableId}
use Rattle.omega_lock.specs.Seats.{new_seat, new_seats}
use Rattle.omega_lock.proofs.NewSeats.{seats_at, seats_count}
use Rattle.omega_model.specs.Work.{is_commit_of}
use Rattle.omega_model.specs.declared.entries.Entry.{Entry}
use Rattle.omega_shared.specs.Passes.{IsPassSeat, new_pass, new_passes, pass_at}

module _ (of : TableId) (turns : ℕ) (history : List Entry) where
  -- a new seat is that of a pass
  is_new : (n : ℕ) → IsPassSeat (new_seat of turns history n)
  is_new n = record {
    free = refl;
    own = sym (ap (filter (is_commit_of n)) (drop-length history));
    first = omega arith;
  }

  -- so are all new seats
  pub are_new : (n : ℕ) → All IsPassSeat (new_seats of turns history n)
  are_new zero = All-nil IsPassSeat
  are_new (suc n) = All-push IsPassSeat (new_seats of turns history n) (new_seat of turns history n) (are_new n) (is_new n)

  -- the passes at them are the new passes
  pub at_new : (n : ℕ) → map pass_at (new_seats of turns history n) ≡ new_passes of turns history n
  at_new zero = refl
  at_new (suc n) =
      map-append pass_at (new_seats of turns history n) (new_seat of turns history n ∷ [])
      ∙ ap (λ ps. ps ++ new_pass of turns history n ∷ []) (at_new n)

  -- there are as many as callers
  pub passes_count : (n : ℕ) → length (new_passes of turns history n) ≡ n
  passes_count n = ap length (sym (at_new n)) ∙ length-map (new_seats of turns history n) pass_at ∙ seats_count of turns history n

  -- the pass at a place has its number
  pub passes_at : (n i : ℕ) → i < n → slice_get (new_passes of turns history n) i ≡ Some (new_pass of turns history i)
  passes_at n i within =
      ap (λ ps. slice_get ps i) (sym (at_new n)) ∙ slice_get-map pass_at (new_seats of turns history n) i
      ∙ ap (option_map pass_at) (seats_at of turns history n i within)
