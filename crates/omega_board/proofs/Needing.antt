-- The walk along the victims that stand, up to the first beginning that makes room.
use Rattle.std.proofs.Common.{◌≡◌, ℕ, ◌+◌, ◌-◌, ◌<◌, ◌≤◌, Bool, true, false, not, ◌&&◌, List, [], ◌∷◌, length, get_or, take, drop, Some, None, is_some, IsTrue, refl, sym, ap, ◌∙◌, subst, arith}
use Rattle.std.specs.List.{find, list_any}
use Rattle.std.specs.Option.{option_map}
use Rattle.std.proofs.lemmas.List.{take_rest}
use Rattle.omega_model.specs.Fields.{greatest}
use Rattle.omega_model.specs.Need.{Fits, fits, plus}
use Rattle.omega_model.specs.Keys.{beginnings}
use Rattle.omega_model.specs.Cell.{task_at}
use Rattle.omega_model.specs.Judge.{makes_room, standing_victims, evicted_for, would_be_placed, verdict_given}
use Rattle.omega_model.specs.declared.cells.Need.{Need}
use Rattle.omega_model.specs.declared.cells.TaskKey.{TaskKey}
use Rattle.omega_model.specs.declared.claims.Claim.{Claim}
use Rattle.omega_machines.specs.Table.{free_at}
use Rattle.omega_board.specs.Board.{BoardState, IsBoard, cell_of, Stand}
use Rattle.omega_board.proofs.Standing.{are_standing, stand}
use Rattle.omega_board.proofs.Evicted.{first_from, first_from_start, is_named_of, evicted_here, evicted_later, makes_room_is}
use Rattle.omega_board.proofs.Parts.{IsFreed, some_free, freed_none, freed_more, freed_bounded, freed_all, stands_there}
use Rattle.omega_board.proofs.Placed.{IsPlaceable, placeable_fine, is_placed-Placed}

-- so much is free once the first of these are off the machine, and no shorter beginning makes room
abbrev pub Walking : BoardState → Claim → List TaskKey → ℕ → Need → Type 0
Walking board claim told n free =
    IsFreed board claim.machine (take n told) free
    × (first_from (makes_room (cell_of board) claim) told n ≡ find (makes_room (cell_of board) claim) (beginnings told))

-- whether so much is enough, and none of the job is among those that are spared where the claim must be alone
abbrev pub enough : Claim → List TaskKey → ℕ → Need → Bool
enough claim told n free = fits claim.spec.need free && not (claim.spec.differ && list_any (is_named_of claim.key.job) (drop n told))

-- read off the rest of a slice
pub enough_is : (claim : Claim) (told : List TaskKey) (n : ℕ) (free : Need) (answer : Bool)
    → answer ≡ (fits claim.spec.need free && not (claim.spec.differ && list_any (is_named_of claim.key.job) (take (length told - n) (drop n told)))) → enough claim told n free ≡ answer
enough_is claim told n free answer is =
    ap (λ ks. fits claim.spec.need free && not (claim.spec.differ && list_any (is_named_of claim.key.job) ks)) (sym (take_rest told n)) ∙ sym is

module _ (board : BoardState) (kept : IsBoard board.table board.tasks) (claim : Claim) (placed : IsTrue (would_be_placed (cell_of board) claim)) where
  known : IsPlaceable None (cell_of board) claim
  known = placeable_fine (cell_of board) claim (is_placed-Placed (verdict_given None (cell_of board) claim) placed)

  standing : List TaskKey
  standing = standing_victims board.tasks claim

  walk_up : is_some (free_at board.table claim.machine) ≡ true
  walk_up = some_free board.table claim.machine known.up

  tested : (n : ℕ) (free : Need) → Walking board claim standing n free → enough claim standing n free ≡ makes_room (cell_of board) claim (take n standing)
  unfolding standing
  tested n free so =
      ap (λ f. fits claim.spec.need f && not (claim.spec.differ && list_any (is_named_of claim.key.job) (drop n standing))) (freed_all board kept claim.machine (take n standing) free so.0)
      ∙ makes_room_is (cell_of board) claim n known.room (are_standing board.tasks claim)

  module _ (told : List TaskKey) (is : told ≡ standing_victims board.tasks claim) where
    there : Stand board.tasks claim.machine told
    there = subst (Stand board.tasks claim.machine) (sym is) (stand board.tasks claim.machine (standing_victims board.tasks claim) (are_standing board.tasks claim))

    pub walk_none : (free : Need) → free_at board.table claim.machine ≡ Some free → Walking board claim told 0 free
    walk_none free at = (freed_none board kept claim.machine free at, first_from_start (makes_room (cell_of board) claim) told)

    pub walk_found : (n : ℕ) (free : Need) → n ≤ length told → enough claim told n free ≡ true → Walking board claim told n free → take n told ≡ evicted_for (cell_of board) claim
    unfolding standing
    walk_found n free within room so =
        subst (λ (ks : List TaskKey). n ≤ length ks → enough claim ks n free ≡ true → Walking board claim ks n free → take n ks ≡ evicted_for (cell_of board) claim) (sym is)
        (λ within room so. evicted_here (cell_of board) claim n within so.1 (sym (tested n free so) ∙ room))
        within room so

    pub walk_more : (n : ℕ) (key : TaskKey) (free need : Need) → n < length told → get_or told n key ≡ key → Some need ≡ option_map (λ t. t.spec.need) (task_at board.tasks key)
        → enough claim told n free ≡ false → Walking board claim told n free → Walking board claim told (n + 1) (plus free need)
    unfolding standing
    walk_more n key free need below here needs no_room so = (
      freed_more board kept claim.machine told there n key below here free need needs so.0,
      subst (λ (ks : List TaskKey). n < length ks → enough claim ks n free ≡ false → Walking board claim ks n free
          → first_from (makes_room (cell_of board) claim) ks (n + 1) ≡ find (makes_room (cell_of board) claim) (beginnings ks)) (sym is)
          (λ below no_room so. evicted_later (cell_of board) claim n (omega (arith, below)) so.1 (sym (tested n free so) ∙ no_room))
          below no_room so,
    )

    pub walk_bounded : (n : ℕ) (free : Need) → Walking board claim told n free → Fits free greatest
    walk_bounded n free so = freed_bounded board kept claim.machine (take n told) free walk_up so.0

    pub walk_runs : (n : ℕ) (key : TaskKey) → n < length told → get_or told n key ≡ key → IsTrue (is_some (task_at board.tasks key))
    walk_runs n key below here = stands_there board kept claim.machine told there n key below here

    pub walk_end : (n : ℕ) (free : Need) → n ≡ length told → Walking board claim told n free → take (length told) told ≡ evicted_for (cell_of board) claim
    unfolding standing
    walk_end n free all so =
        subst (λ (ks : List TaskKey). n ≡ length ks → Walking board claim ks n free → take (length ks) ks ≡ evicted_for (cell_of board) claim) (sym is)
        (λ all so.
        let whole : take n standing ≡ standing = ap (λ k. take k standing) all ∙ take_whole standing in
        ap (λ k. take k standing) (sym all) ∙ evicted_here (cell_of board) claim n (omega (arith, all)) so.1 (ap (makes_room (cell_of board) claim) whole ∙ known.room))
        all so
      where
        take_whole : (ks : List TaskKey) → take (length ks) ks ≡ ks
        take_whole [] = refl
        take_whole (k ∷ ks) = ap (λ rest. k ∷ rest) (take_whole ks)
