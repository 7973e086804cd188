-- What words say.
use Rattle.std.specs.Prelude.{◌≡◌, ℕ, ◌==◌, Bool, List, [], ◌∷◌, Some, codes, if◌then◌else◌}
use Rattle.std.specs.List.{before_first, after_first}
use Rattle.omega_model.specs.Numbers.{is_point, whole}
use Rattle.omega_model.specs.declared.cells.Need.{Need}
use Rattle.omega_model.specs.declared.cells.Spec.{Spec}
use Rattle.omega_model.specs.declared.cells.TaskKey.{TaskKey}
use Rattle.omega_model.specs.declared.claims.Claim.{Claim}

-- whether a byte is a comma
abbrev pub is_comma : ℕ → Bool
is_comma byte = byte == 44

-- whether a byte is a slash
abbrev pub is_slash : ℕ → Bool
is_slash byte = byte == 47

-- a text is that of an amount: its three components, parted by commas
abbrev pub IsNeed : List ℕ → Need → Type 0
IsNeed text need =
    (whole (before_first is_comma text) ≡ Some need.cpu)
    × (whole (before_first is_comma (after_first is_comma text)) ≡ Some need.mem)
    × (whole (after_first is_comma (after_first is_comma text)) ≡ Some need.disk)

-- a text is that of a task's name: its job and its index, parted by a point
abbrev pub IsKey : List ℕ → TaskKey → Type 0
IsKey text key = (whole (before_first is_point text) ≡ Some key.job) × (whole (after_first is_point text) ≡ Some key.index)

-- two texts are those of what a task asks for: an amount, and a precedence, behind which a slash parts `differ`
abbrev pub IsSpec : List ℕ → List ℕ → Spec → Type 0
IsSpec amount prec spec =
    IsNeed amount spec.need
    × (whole (before_first is_slash prec) ≡ Some spec.prec)
    × (after_first is_slash prec ≡ (if spec.differ then codes "differ" else []))

-- five texts are those of a claim; what the last one says of its victims is left open
abbrev pub IsClaim : List (List ℕ) → Claim → Type 0
IsClaim (key ∷ machine ∷ amount ∷ prec ∷ victims ∷ []) claim =
    IsKey key claim.key × (whole machine ≡ Some claim.machine) × IsSpec amount prec claim.spec
IsClaim _ claim = ⊥
