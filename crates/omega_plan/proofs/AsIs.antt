-- The first machine that takes a wish as it is has the claim of the wish.
use Rattle.std.proofs.Common.{arith, ◌≡◌, ℕ, ◌<◌, Bool, ◌&&◌, List, [], ◌∷◌, length, slice_get, Option, Some, None, refl, sym, ap, ◌∙◌, if◌then◌else◌}
use Rattle.std.specs.List.{filter, find}
use Rattle.std.specs.Prelude.{option_map}
use Rattle.std.proofs.lemmas.List.{length-map}
use Rattle.std.proofs.lemmas.Option.{none-some, slice_get-get_or}
use Rattle.omega_model.specs.Cell.{Cell}
use Rattle.omega_model.specs.Plan.{claim_of, goes_in, wrapped_from}
use Rattle.omega_model.specs.Planning.{claim_as_is, suits}
use Rattle.omega_model.specs.declared.cells.Machine.{Machine}
use Rattle.omega_model.specs.declared.wishes.Wish.{Wish}
use Rattle.omega_model.proofs.Lists.{by_answer}
use Rattle.omega_machines.specs.Table.{machines_of}
use Rattle.omega_machines.specs.declared.MachineState.{MachineState}
use Rattle.omega_fit.proofs.Found.{find_wrapped, none_in_round}
use Rattle.omega_plan.specs.Trying.{IsFirstToTake, takes}

-- a search in what a filter keeps
pub find_kept : {X : Type 0} (p q : X → Bool) (xs : List X) → find p (filter q xs) ≡ find (λ x. q x && p x) xs
find_kept p q [] = refl
find_kept p q (x ∷ xs) =
    by_answer (q x)
    (λ t. rw t (ap (λ (o : Option _). if p x then Some x else o) (find_kept p q xs)))
    (λ f. rw f (find_kept p q xs))

kept : (cell : Cell) (start : ℕ) (wish : Wish)
    → claim_as_is cell start wish ≡ option_map (λ (machine : Machine). claim_of wish [] machine.id) (find (takes cell wish) (wrapped_from start cell.machines))
kept cell start wish =
    ap (option_map (λ (machine : Machine). claim_of wish [] machine.id))
    (find_kept (λ (machine : Machine). goes_in cell wish [] machine.id) (λ (machine : Machine). suits wish machine.attrs) (wrapped_from start cell.machines))

pub as_is_found : (cell : Cell) (start : ℕ) (wish : Wish) (place : ℕ) (machine : Machine) → IsFirstToTake cell wish start (Some place)
    → slice_get cell.machines place ≡ Some machine → Some (claim_of wish [] machine.id) ≡ claim_as_is cell start wish
unfolding IsFirstToTake
as_is_found cell start wish place machine first is =
    sym (kept cell start wish
    ∙ ap (option_map (λ (m : Machine). claim_of wish [] m.id)) (find_wrapped (takes cell wish) cell.machines start place machine is first))

pub as_is_none : (cell : Cell) (start : ℕ) (wish : Wish) → IsFirstToTake cell wish start None → None ≡ claim_as_is cell start wish
unfolding IsFirstToTake
as_is_none cell start wish first =
    sym (kept cell start wish
    ∙ ap (option_map (λ (m : Machine). claim_of wish [] m.id)) (none_in_round (takes cell wish) cell.machines start first))

-- a machine stands at each position
pub stands : (table : List MachineState) (place : ℕ) → place < length table → slice_get (machines_of table) place ≡ None → ⊥
stands [] place below none = absurd (omega arith)
stands (state ∷ table) place below none =
    let within : place < length (machines_of (state ∷ table)) = omega (arith, below, length-map (state ∷ table) (λ (s : MachineState). s.machine)) in
    none-some _ (sym none ∙ slice_get-get_or (machines_of (state ∷ table)) place state.machine within)
