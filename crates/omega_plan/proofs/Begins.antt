-- Where a search may begin.
use Rattle.std.proofs.Common.{◌≡◌, ◌≤◌, ℕ, Bool, false, Option, Some, None, length, refl, subst, inl, inr}
use Rattle.omega_fit.specs.Wrapped.{IsFirst, positions_from}
use Rattle.omega_fit.proofs.Found.{first_follows}
use Rattle.omega_fit.proofs.Later.{later}
use Rattle.omega_model.specs.Cell.{Cell}
use Rattle.omega_model.specs.declared.wishes.Wish.{Wish}
use Rattle.omega_plan.specs.Kinds.{MayBegin, Serves, kind_of}
use Rattle.omega_plan.specs.declared.progress.Progress.{Progress}

module _ (P : ℕ → Type 0) where
  -- at the start at any rate
  pub begins_at_start : (start len : ℕ) → start ≤ len → MayBegin P start len (Some start)
  unfolding MayBegin
  begins_at_start start len within = (within, inl refl)

  -- where an earlier search found something, or nothing
  pub begins_where_found : (answers : ℕ → Bool → Type 0) (start len : ℕ) (found : Option ℕ) → ((place : ℕ) → found ≡ Some place → place ≤ len)
      → ((i : ℕ) → answers i false → P i) → IsFirst answers (positions_from start len) found → MayBegin P start len found
  unfolding MayBegin
  begins_where_found answers start len None within fails first =
      first_follows answers (λ i b. b ≡ false → P i) (positions_from start len) None first (λ i b a is. fails i (subst (answers i) is a))
  begins_where_found answers start len (Some place) within fails first = (
    within place refl,
    inr (first_follows answers (λ i b. b ≡ false → P i) (positions_from start len) (Some place) first (λ i b a is. fails i (subst (answers i) is a))),
  )

  -- what begins there is what begins at the start
  pub found_from : (answers : ℕ → Bool → Type 0) (start len place : ℕ) (found : Option ℕ) → start ≤ len → MayBegin P start len (Some place)
      → ((i : ℕ) → P i → answers i false) → IsFirst answers (positions_from place len) found → IsFirst answers (positions_from start len) found
  unfolding MayBegin
  found_from answers start len place found le may fails first = elim may.1 [
    | inl same ↦ subst (λ n. IsFirst answers (positions_from n len) found) same first
    | inr earlier ↦ later (λ i b. b ≡ false → P i) answers start place len found le (λ i p. fails i (p refl)) earlier first
  ]

  pub found_nowhere : (answers : ℕ → Bool → Type 0) (start len : ℕ) → MayBegin P start len None
      → ((i : ℕ) → P i → answers i false) → IsFirst answers (positions_from start len) None
  unfolding MayBegin IsFirst
  found_nowhere answers start len may fails = λ k d below. fails _ (may k d below refl)

  pub begins_within : (start len place : ℕ) → MayBegin P start len (Some place) → place ≤ len
  unfolding MayBegin
  begins_within start len place may = may.0

-- it may begin there for what fails wherever something else does
pub begins_still : (P Q : ℕ → Type 0) (start len : ℕ) (begin : Option ℕ) → ((i : ℕ) → P i → Q i) → MayBegin P start len begin → MayBegin Q start len begin
unfolding MayBegin
begins_still P Q start len None more may =
    first_follows (λ i b. b ≡ false → P i) (λ i b. b ≡ false → Q i) (positions_from start len) None may (λ i b p is. more i (p is))
begins_still P Q start len (Some place) more may = (
  may.0,
  elim may.1 [
    | inl same ↦ inl same
    | inr earlier ↦ inr (first_follows (λ i b. b ≡ false → P i) (λ i b. b ≡ false → Q i) (positions_from start len) (Some place) earlier (λ i b p is. more i (p is)))
  ],
)

-- a progress at the start serves any wish
pub serves_at_start : (cell : Cell) (wish : Wish) (start : ℕ) → start ≤ length cell.machines
    → Serves cell wish (record { start = start; as_is = Some start; evicting = Some start })
serves_at_start cell wish start within = record {
  start = within;
  as_is = begins_at_start _ start (length cell.machines) within;
  evicting = begins_at_start _ start (length cell.machines) within;
}

-- one that serves a wish serves all of its kind
pub serves_alike : (cell : Cell) (a b : Wish) (progress : Progress) → kind_of a ≡ kind_of b → Serves cell a progress → Serves cell b progress
serves_alike cell a b progress alike serves =
    let of_kind : Serves cell (kind_of a) progress = record { start = serves.start; as_is = serves.as_is; evicting = serves.evicting } in
    let other : Serves cell (kind_of b) progress = subst (λ (w : Wish). Serves cell w progress) alike of_kind in
    record { start = other.start; as_is = other.as_is; evicting = other.evicting }
