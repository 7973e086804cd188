-- Who commits first.
use Rattle.std.specs.Prelude.{◌≡◌, ℕ, List, Option, Some, None, ◌<◌, ◌≤◌, ◌⊎◌, nat_le, length, slice_get, if◌then◌else◌}

-- a time goes before another: it is less, or the same and its scheduler isn't greater
abbrev pub IsNoLater : ℕ → ℕ → ℕ → ℕ → Type 0
IsNoLater scheduler time other later = (time < later) ⊎ ((time ≡ later) × (scheduler ≤ other))

-- of the first so many schedulers of an agenda this one commits first, at this time; or none has a time
abbrev pub IsFirstBelow : List (Option ℕ) → ℕ → Option (ℕ × ℕ) → Type 0
IsFirstBelow agenda count None = (other : ℕ) → other < count → (time : ℕ) → slice_get agenda other ≡ Some (Some time) → ⊥
IsFirstBelow agenda count (Some (scheduler, time)) =
    (scheduler < count) × ((slice_get agenda scheduler ≡ Some (Some time))
    × ((other : ℕ) → other < count → (later : ℕ) → slice_get agenda other ≡ Some (Some later) → IsNoLater scheduler time other later))

-- of all schedulers of an agenda this one commits first, at this time; or none has a time
abbrev pub IsFirst : List (Option ℕ) → Option (ℕ × ℕ) → Type 0
IsFirst agenda first = IsFirstBelow agenda (length agenda) first

-- of one scheduler with its time, if there is one, and another with a greater number and its time, the one
-- that commits first
abbrev pub sooner : Option (ℕ × ℕ) → ℕ → Option ℕ → Option (ℕ × ℕ)
sooner first scheduler None = first
sooner None scheduler (Some time) = Some (scheduler, time)
sooner (Some (one, earlier)) scheduler (Some time) =
    if nat_le earlier time then Some (one, earlier) else Some (scheduler, time)
