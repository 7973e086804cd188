-- The arrivals of rounds, with one more.
use Rattle.std.proofs.Common.{◌≡◌, List, [], ◌∷◌, ◌++◌, Some, refl, ap, ◌∙◌, append-nil}
use Rattle.std.specs.List.{fold}
use Rattle.std.proofs.lemmas.Grind.{flat_map-append}
use Rattle.omega_model.specs.Lawful.{rows_of}
use Rattle.omega_model.specs.declared.rows.Round.{Round}
use Rattle.omega_model.specs.declared.rows.Row.{Row}
use Rattle.omega_laws.specs.Simulated.{greatest_time}
use Rattle.omega_sim.specs.Arriving.{row_times, with_row_time}

last_is : (first last : Round) (rounds : List Round) → fold (λ (before round : Round). round) first (rounds ++ last ∷ []) ≡ last
last_is first last [] = refl
last_is first last (round ∷ rounds) = last_is round last rounds

-- the greatest times of the first and the last round's rows, once there is one more
pub row_times_push : (rounds : List Round) (last : Round) → row_times (rounds ++ last ∷ []) ≡ with_row_time (row_times rounds) (greatest_time last.rows)
row_times_push [] last = refl
row_times_push (first ∷ rounds) last = ap (λ (round : Round). Some (greatest_time first.rows, greatest_time round.rows)) (last_is first last rounds)

-- the rows of rounds, once there is one more
pub rows_of_push : (rounds : List Round) (last : Round) → rows_of (rounds ++ last ∷ []) ≡ rows_of rounds ++ last.rows
rows_of_push rounds last =
    flat_map-append (λ (round : Round). round.rows) rounds (last ∷ []) ∙ ap (λ (rows : List Row). rows_of rounds ++ rows) (append-nil last.rows)
