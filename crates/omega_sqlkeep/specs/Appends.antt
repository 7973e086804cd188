-- What an append that is refused leaves.
use Rattle.std.specs.Prelude.{◌≡◌, IsTrue}
use Rattle.sqlite.specs.State.{State}

-- what is still open shows what it showed, and what it has committed is what it had
abbrev pub IsAsBefore : State → State → Type 0
IsAsBefore old new = IsTrue new.is_open → (new.now ≡ old.now) × (new.committed ≡ old.committed)
