-- The machines that entries touch, by their places in the list.
use Rattle.std.specs.Prelude.{◌≡◌, ℕ, ◌||◌, Bool, false, List, length, slice_get}
use Rattle.std.specs.List.{filter, range_with_len}
use Rattle.std.specs.Option.{option_map_or}
use Rattle.omega_board.specs.Numbers.{is_among}
use Rattle.omega_model.specs.Touches.{is_touched}
use Rattle.omega_model.specs.declared.cells.Machine.{Machine}
use Rattle.omega_model.specs.declared.entries.Entry.{Entry}

-- whether there is a machine at a place whose number passes
abbrev pub passes_at : (ℕ → Bool) → List Machine → ℕ → Bool
passes_at test machines place = option_map_or (λ row. test row.id) (slice_get machines place) false

-- the later places are the earlier ones and those of machines whose numbers pass
abbrev pub Adds : (ℕ → Bool) → List Machine → List ℕ → List ℕ → Type 0
Adds test machines before after = (place : ℕ) → is_among after place ≡ (is_among before place || passes_at test machines place)

-- the places of the machines that entries touch, in order
abbrev pub touched_places : List Machine → List Entry → List ℕ
touched_places machines entries = filter (passes_at (is_touched entries) machines) (range_with_len 0 (length machines))
