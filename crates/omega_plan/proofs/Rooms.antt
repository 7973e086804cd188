-- Where a machine hasn't the room that a wish needs, it doesn't take the wish as it is.
use Rattle.std.proofs.Common.{◌≡◌, ◌&&◌, ℕ, Bool, true, false, not, List, [], get_or, length, nat_eq, slice_get, Option, Some, None, sym, ap, subst, ◌∙◌}
use Rattle.std.specs.List.{IsDistinct}
use Rattle.std.specs.Prelude.{option_map}
use Rattle.std.proofs.lemmas.Bool.{and_parts, and_right}
use Rattle.std.proofs.lemmas.List.{length-map}
use Rattle.std.proofs.lemmas.Option.{get_or_from_slice_get, slice_get-map}
use Rattle.omega_model.specs.Cell.{Cell, machine_at, rest_on, task_at, use_on}
use Rattle.omega_model.specs.Judge.{capacity_of, free_without, has_rival, is_up, makes_room}
use Rattle.omega_model.specs.Machines.{numbers_of}
use Rattle.omega_model.specs.Need.{Fits, fits, minus}
use Rattle.omega_model.specs.Plan.{claim_of, goes_in}
use Rattle.omega_model.specs.Planning.{suits}
use Rattle.omega_model.specs.declared.cells.Machine.{Machine}
use Rattle.omega_model.specs.declared.cells.Need.{Need}
use Rattle.omega_model.specs.declared.wishes.Wish.{Wish}
use Rattle.omega_model.proofs.Amounts.{fits_tested, rest_is}
use Rattle.omega_model.proofs.Lists.{by_answer}
use Rattle.omega_board.proofs.Claims.{without_none}
use Rattle.omega_board.proofs.Numbered.{machine_there}
use Rattle.omega_board.proofs.Parts.{not_refused}
use Rattle.omega_board.proofs.Placed.{is_placed-Placed, placeable_fine}
use Rattle.omega_plan.specs.Telling.{free_on, frees_of}
use Rattle.omega_board.proofs.Ranks.{fits_true}
use Rattle.omega_fit.proofs.Found.{first_follows, room_or_not}
use Rattle.omega_fit.specs.Needs.{Holds, IsFirstWithRoom, WithRoom}
use Rattle.omega_fit.specs.Wrapped.{IsFirst, positions_from}
use Rattle.omega_plan.specs.Trying.{IsFirstToTake, SuitsAlone, Takes, suits_alone, takes}
use Rattle.omega_plan.proofs.KindsOf.{takes_is}

-- a machine on which a wish goes as it is: it is up, and what it has free holds the need
pub record HasRoom (cell : Cell) (wish : Wish) (id : ℕ) : Type 0 where
  pub up : is_up (machine_at cell.machines id) ≡ true
  pub fits : fits wish.spec.need (minus (capacity_of (machine_at cell.machines id)) (use_on cell.tasks id)) ≡ true

pub has_room : (cell : Cell) (wish : Wish) (id : ℕ) → goes_in cell wish [] id ≡ true → HasRoom cell wish id
has_room cell wish id goes =
    let claim = claim_of wish [] id in
    let known = placeable_fine cell claim (is_placed-Placed _ goes) in
    let used : rest_on cell.tasks id [] ≡ use_on cell.tasks id = rest_is cell.tasks id [] ∙ ap (λ ts. use_on ts id) (without_none cell.tasks) in
    let room : fits wish.spec.need (free_without cell claim []) ≡ true = (and_parts _ _ known.room).0 in
    record {
      up = not_refused (is_up (machine_at cell.machines id)) known.up;
      fits = subst (λ (n : Need). fits wish.spec.need (minus (capacity_of (machine_at cell.machines id)) n) ≡ true) used room;
    }

-- where the index says that there is no room, the machine doesn't take the wish
pub takes_where_room : (cell : Cell) (wish : Wish) → IsDistinct nat_eq (numbers_of cell.machines) → (frees : List (Option Need)) → frees ≡ frees_of cell
    → (place : ℕ) → (Holds wish.spec.need (get_or frees place None) → ⊥)
    → (machine : Machine) → slice_get cell.machines place ≡ Some machine → takes cell wish machine ≡ false
takes_where_room cell wish distinct frees told place none machine is =
    let found : machine_at cell.machines machine.id ≡ Some machine = machine_there cell.machines place machine distinct is in
    let here : get_or frees place None ≡ free_on cell.tasks machine =
    ap (λ fs. get_or fs place None) told
    ∙ get_or_from_slice_get (frees_of cell) place (free_on cell.tasks machine) None
    (slice_get-map (free_on cell.tasks) cell.machines place ∙ ap (option_map (free_on cell.tasks)) is) in
    by_answer (goes_in cell wish [] machine.id)
    (λ goes.
    let room = has_room cell wish machine.id goes in
    let up : machine.up ≡ true = ap is_up (sym found) ∙ room.up in
    let fitting : fits wish.spec.need (minus machine.cap (use_on cell.tasks machine.id)) ≡ true =
    subst (λ (o : Option Machine). fits wish.spec.need (minus (capacity_of o) (use_on cell.tasks machine.id)) ≡ true) found room.fits in
    let held : Holds wish.spec.need (free_on cell.tasks machine) = rw up (fits_tested wish.spec.need (minus machine.cap (use_on cell.tasks machine.id)) fitting) in
    absurd (none (subst (λ (o : Option Need). Holds wish.spec.need o) (sym here) held)))
    (λ stays. and_right _ _ stays)

-- where it says that there is room, the machine takes the wish exactly where it suits it, alone of its job where
-- it must be
pub takes_with_room : (cell : Cell) (wish : Wish) → IsDistinct nat_eq (numbers_of cell.machines) → task_at cell.tasks wish.key ≡ None → (frees : List (Option Need)) → frees ≡ frees_of cell
    → (place : ℕ) → Holds wish.spec.need (get_or frees place None)
    → (machine : Machine) → slice_get cell.machines place ≡ Some machine → takes cell wish machine ≡ suits_alone cell wish machine
takes_with_room cell wish distinct absent frees told place holds machine is =
    let found : machine_at cell.machines machine.id ≡ Some machine = machine_there cell.machines place machine distinct is in
    let here : get_or frees place None ≡ free_on cell.tasks machine =
    ap (λ fs. get_or fs place None) told
    ∙ get_or_from_slice_get (frees_of cell) place (free_on cell.tasks machine) None
    (slice_get-map (free_on cell.tasks) cell.machines place ∙ ap (option_map (free_on cell.tasks)) is) in
    let held : Holds wish.spec.need (free_on cell.tasks machine) = subst (λ (o : Option Need). Holds wish.spec.need o) here holds in
    let up : machine.up ≡ true = up_where_held machine held in
    let room : Fits wish.spec.need (minus machine.cap (use_on cell.tasks machine.id)) = rw up at held in
    let used : rest_on cell.tasks machine.id [] ≡ use_on cell.tasks machine.id = rest_is cell.tasks machine.id [] ∙ ap (λ ts. use_on ts machine.id) (without_none cell.tasks) in
    let fitting : fits wish.spec.need (free_without cell (claim_of wish [] machine.id) []) ≡ true =
    subst (λ (o : Option Machine). fits wish.spec.need (minus (capacity_of o) (rest_on cell.tasks machine.id [])) ≡ true) (sym found)
    (subst (λ (n : Need). fits wish.spec.need (minus machine.cap n) ≡ true) (sym used) (fits_true _ _ room)) in
    takes_is cell wish absent machine
    ∙ ap (λ b. suits wish machine.attrs && (b && makes_room cell (claim_of wish [] machine.id) [])) (ap is_up found ∙ up)
    ∙ ap (λ b. suits wish machine.attrs && (b && not (has_rival cell (claim_of wish [] machine.id) []))) fitting
  where
    up_where_held : (m : Machine) → Holds wish.spec.need (free_on cell.tasks m) → m.up ≡ true
    up_where_held m h = by_answer m.up (λ t. t) (λ f. absurd (rw f at h))

-- so a search by the index for what suits finds what takes
pub takes_first : (cell : Cell) (wish : Wish) → IsDistinct nat_eq (numbers_of cell.machines) → task_at cell.tasks wish.key ≡ None → (frees : List (Option Need)) → frees ≡ frees_of cell
    → (answers : ℕ → Bool → Type 0) (begin : ℕ) (found : Option ℕ) → IsFirstWithRoom frees wish.spec.need answers begin found
    → ((i : ℕ) (b : Bool) → answers i b → SuitsAlone cell wish i b) → IsFirstToTake cell wish begin found
unfolding IsFirstWithRoom IsFirstToTake
takes_first cell wish distinct absent frees told answers begin found first follows =
    let same : length frees ≡ length cell.machines = ap length told ∙ length-map cell.machines (free_on cell.tasks) in
    subst (λ n. IsFirst (Takes cell wish) (positions_from begin n) found) same
    (first_follows (WithRoom frees wish.spec.need answers) (Takes cell wish) (positions_from begin (length frees)) found first there)
  where
    there : (i : ℕ) (b : Bool) → WithRoom frees wish.spec.need answers i b → Takes cell wish i b
    there i true w = λ machine at. takes_with_room cell wish distinct absent frees told i w.0 machine at ∙ follows i true w.1 machine at
    there i false w = room_or_not wish.spec.need (get_or frees i None)
        (λ h machine at. takes_with_room cell wish distinct absent frees told i h machine at ∙ follows i false (w h) machine at)
        (λ none machine at. takes_where_room cell wish distinct frees told i none machine at)
