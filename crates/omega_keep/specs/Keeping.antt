-- What passes between the program and a keeper: lines, a path, and a count of faults.
use Rattle.std.specs.Prelude.{◌≡◌, ℕ, List, ◌++◌, ◌-◌, ◌^◌, ◌<◌, ◌≤◌, ◌⊎◌, Option, Some, option_map}
use Rattle.omega_keep.specs.declared.keeper.KeepRefusal.{KeepRefusal}
use Rattle.omega_keep.specs.declared.keeper.KeepRefusal.TheVariants.{Failed}

-- a count of faults rose, or stands at its greatest value and can rise no further
abbrev pub Rose : ℕ → ℕ → Type 0
Rose before now = (before < now) ⊎ (2 ^ 64 - 1 ≤ now)

-- a refusal says that the keeper failed only where its count of faults rose
abbrev pub FailsFor : ℕ → ℕ → KeepRefusal → Type 0
FailsFor before now refusal = refusal ≡ Failed → Rose before now

-- this path is the one entered last, where the keeper tells a path
abbrev pub Enters : List ℕ → Option (Option (List ℕ)) → Option (Option (List ℕ)) → Type 0
Enters path before now = now ≡ option_map (λ last. Some path) before

-- these lines were put at the end of the list, where it is told
abbrev pub Adds : List (List ℕ) → Option (List (List ℕ)) → Option (List (List ℕ)) → Type 0
Adds lines before now = now ≡ option_map (λ list. list ++ lines) before
