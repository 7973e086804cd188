-- The first machine on which evictions make room has the claim of the wish.
use Rattle.std.proofs.Common.{◌≡◌, ℕ, Bool, true, false, List, [], ◌∷◌, slice_get, Option, Some, None, is_some, refl, sym, ap, ◌∙◌, if◌then◌else◌}
use Rattle.std.specs.List.{cons_option, filter, filter_map, find}
use Rattle.std.specs.Prelude.{option_map}
use Rattle.std.proofs.lemmas.Option.{none-some, same_Some}
use Rattle.omega_model.specs.Cell.{Cell}
use Rattle.omega_model.specs.Plan.{claim_of, first_item, wrapped_from, victims}
use Rattle.omega_model.specs.Planning.{claim_with_victims, suits}
use Rattle.omega_model.specs.declared.cells.Machine.{Machine}
use Rattle.omega_model.specs.declared.wishes.Wish.{Wish}
use Rattle.omega_model.proofs.Lists.{by_answer}
use Rattle.omega_fit.proofs.Found.{find_wrapped, none_in_round}
use Rattle.omega_model.specs.declared.cells.TaskKey.{TaskKey}
use Rattle.omega_plan.specs.Trying.{AreVictimsAt, IsFirstToYield, Yields, claim_on}

-- what comes of what a filter keeps
mapped_kept : {X Y : Type 0} (f : X → Option Y) (q : X → Bool) (xs : List X) → filter_map f (filter q xs) ≡ filter_map (λ x. if q x then f x else None) xs
mapped_kept f q [] = refl
mapped_kept f q (x ∷ xs) =
    by_answer (q x)
    (λ t. rw t (ap (cons_option (f x)) (mapped_kept f q xs)))
    (λ f'. rw f' (mapped_kept f q xs))

-- the first of what comes of some items comes of the first of which something comes
first_mapped : {X Y : Type 0} (f : X → Option Y) (xs : List X) (x : X) → find (λ y. is_some (f y)) xs ≡ Some x → first_item (filter_map f xs) ≡ f x
first_mapped f [] x found = absurd (none-some x found)
first_mapped {X} {Y} f (y ∷ xs) x found = by (f y) refl (λ later. first_mapped f xs x later)
  where
    by : (o : Option Y) → f y ≡ o → (find (λ z. is_some (f z)) xs ≡ Some x → first_item (filter_map f xs) ≡ f x) → first_item (cons_option (f y) (filter_map f xs)) ≡ f x
    by None is later =
        ap (λ o. first_item (cons_option o (filter_map f xs))) is
        ∙ later (sym (ap (λ o. if is_some o then Some y else find (λ z. is_some (f z)) xs) is) ∙ found)
    by (Some v) is later =
        let same : y ≡ x = same_Some y x (sym (ap (λ o. if is_some o then Some y else find (λ z. is_some (f z)) xs) is) ∙ found) in
        ap (λ o. first_item (cons_option o (filter_map f xs))) is ∙ sym is ∙ ap f same

none_mapped_first : {X Y : Type 0} (f : X → Option Y) (xs : List X) → find (λ y. is_some (f y)) xs ≡ None → first_item (filter_map f xs) ≡ None
none_mapped_first f [] none = refl
none_mapped_first {X} {Y} f (y ∷ xs) none = by (f y) refl (λ later. none_mapped_first f xs later)
  where
    by : (o : Option Y) → f y ≡ o → (find (λ z. is_some (f z)) xs ≡ None → first_item (filter_map f xs) ≡ None) → first_item (cons_option (f y) (filter_map f xs)) ≡ None
    by None is later =
        ap (λ o. first_item (cons_option o (filter_map f xs))) is
        ∙ later (sym (ap (λ o. if is_some o then Some y else find (λ z. is_some (f z)) xs) is) ∙ none)
    by (Some v) is later = absurd (none-some y (sym none ∙ ap (λ o. if is_some o then Some y else find (λ z. is_some (f z)) xs) is))

kept : (cell : Cell) (start : ℕ) (wish : Wish) → claim_with_victims cell start wish ≡ first_item (filter_map (claim_on cell wish) (wrapped_from start cell.machines))
kept cell start wish =
    ap first_item
    (mapped_kept (λ (machine : Machine). option_map (λ keys. claim_of wish keys machine.id) (victims cell machine.id wish))
    (λ (machine : Machine). suits wish machine.attrs) (wrapped_from start cell.machines))

pub yield_found : (cell : Cell) (start : ℕ) (wish : Wish) (place : ℕ) (machine : Machine) → IsFirstToYield cell wish start (Some place)
    → slice_get cell.machines place ≡ Some machine → claim_with_victims cell start wish ≡ claim_on cell wish machine
unfolding IsFirstToYield
yield_found cell start wish place machine first is =
    kept cell start wish
    ∙ first_mapped (claim_on cell wish) (wrapped_from start cell.machines) machine
    (find_wrapped (λ (m : Machine). is_some (claim_on cell wish m)) cell.machines start place machine is first)

pub yield_none : (cell : Cell) (start : ℕ) (wish : Wish) → IsFirstToYield cell wish start None → claim_with_victims cell start wish ≡ None
unfolding IsFirstToYield
yield_none cell start wish first =
    kept cell start wish
    ∙ none_mapped_first (claim_on cell wish) (wrapped_from start cell.machines)
    (none_in_round (λ (m : Machine). is_some (claim_on cell wish m)) cell.machines start first)

-- evictions make room where there are victims
pub yields_some : (cell : Cell) (wish : Wish) (place : ℕ) (keys : Option (List TaskKey)) (some : List TaskKey) → AreVictimsAt cell wish place keys → keys ≡ Some some
    → Yields cell wish place true
yields_some cell wish place keys some are is machine at = ap is_some (are machine at ∙ ap (option_map (λ v. claim_of wish v machine.id)) is)

pub yields_none : (cell : Cell) (wish : Wish) (place : ℕ) (keys : Option (List TaskKey)) → AreVictimsAt cell wish place keys → keys ≡ None → Yields cell wish place false
yields_none cell wish place keys are is machine at = ap is_some (are machine at ∙ ap (option_map (λ v. claim_of wish v machine.id)) is)
