-- Lists of the numbers of machines.
use Rattle.std.specs.Prelude.{◌≡◌, ℕ, Bool, ◌||◌, List}
use Rattle.omega_model.specs.Touches.{is_touched}
use Rattle.omega_model.specs.declared.entries.Entry.{Entry}
use Rattle.omega_board.specs.Numbers.{is_among}

-- the later numbers are the earlier ones and those that pass
abbrev pub Names : (ℕ → Bool) → List ℕ → List ℕ → Type 0
Names test before after = (id : ℕ) → is_among after id ≡ (is_among before id || test id)

-- numbers are those of the machines that entries touch
abbrev pub NameTouched : List Entry → List ℕ → Type 0
NameTouched entries machines = (id : ℕ) → is_among machines id ≡ is_touched entries id
