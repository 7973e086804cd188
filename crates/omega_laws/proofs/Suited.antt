-- A plan puts each wish on a machine that meets its constraints.
use Rattle.std.proofs.Common.{◌≡◌, ℕ, zero, suc, Bool, true, false, List, [], ◌∷◌, length, map, take, drop, nat_eq, Option, Some, None, refl, sym, subst, ◌∙◌, ◌==◌, if◌then◌else◌}
use Rattle.std.specs.List.{cons_option, filter_map, find, IsDistinct, AllByRecursion as Each}
use Rattle.std.specs.Prelude.{IsSomeAnd, IsTrue, option_map}
use Rattle.std.proofs.lemmas.Bool.{eq-eqb}
use Rattle.std.proofs.lemmas.Map.Keys.{IsDistinct-head, IsDistinct-tail}
use Rattle.omega_model.specs.Cell.{Cell, machine_at}
use Rattle.omega_model.specs.Machines.{numbers_of}
use Rattle.omega_model.specs.Plan.{after_planned, and_claims, claim_of, first_item, goes_in, or_else, wrapped_from, victims, whole_or_none}
use Rattle.omega_model.specs.Planning.{claim_as_is, claim_for_wish, claim_with_victims, claims_for_wishes, plan_for, suiting_from, suits}
use Rattle.omega_model.specs.declared.cells.Machine.{Machine}
use Rattle.omega_model.specs.declared.cells.TaskKey.{TaskKey}
use Rattle.omega_model.specs.declared.claims.Claim.{Claim}
use Rattle.omega_model.specs.declared.claims.Mode.{Mode}
use Rattle.omega_model.specs.declared.claims.Mode.TheVariants.{Incremental, Gang}
use Rattle.omega_model.specs.declared.claims.Policy.{Policy}
use Rattle.omega_model.specs.declared.wishes.Wish.{Wish}
use Rattle.omega_model.proofs.Lists.{by_answer, each_append, each_both, each_drop, each_filter, each_map, each_passes, each_take}
use Rattle.omega_laws.specs.Constraints.{SuitsItsWish}

-- what holds of a value, if there is one
abbrev pub OfValue : {X : Type 0} → (X → Type 0) → Option X → Type 0
OfValue P None = Unit {0}
OfValue P (Some x) = P x

module _ {X : Type 0} (P : X → Type 0) where
  each_wrapped_from : (n : ℕ) (xs : List X) → Each P xs → Each P (wrapped_from n xs)
  each_wrapped_from n xs each = each_append P (drop n xs) (take n xs) (each_drop P n xs each) (each_take P n xs each)

  pub found : (test : X → Bool) (xs : List X) → Each P xs → OfValue P (find test xs)
  found test [] each = tt
  found test (x ∷ xs) each = by_answer (test x) (λ t. rw t each.0) (λ f. rw f (found test xs each.1))

  pub first_of : (xs : List X) → Each P xs → OfValue P (first_item xs)
  first_of [] each = tt
  first_of (x ∷ xs) each = each.0

module _ {X Y : Type 0} (P : X → Type 0) (Q : Y → Type 0) where
  pub of_map : (f : X → Y) → ((x : X) → P x → Q (f x)) → (o : Option X) → OfValue P o → OfValue Q (option_map f o)
  of_map f gives None is = tt
  of_map f gives (Some x) is = gives x is

  pub each_mapped : (f : X → Option Y) → ((x : X) → P x → OfValue Q (f x)) → (xs : List X) → Each P xs → Each Q (filter_map f xs)
  each_mapped f gives [] each = tt
  each_mapped f gives (x ∷ xs) each = by_value (f x) (gives x each.0) (each_mapped f gives xs each.1) where
    by_value : (o : Option Y) → OfValue Q o → Each Q (filter_map f xs) → Each Q (cons_option o (filter_map f xs))
    by_value None is rest = rest
    by_value (Some y) is rest = (is, rest)

pub or_both : (Q : Claim → Type 0) (one other : Option Claim) → OfValue Q one → OfValue Q other → OfValue Q (or_else one other)
or_both Q None other is_one is_other = is_other
or_both Q (Some claim) other is_one is_other = is_one

pub and_each : (Q : Claim → Type 0) (one : Option Claim) (claims : List Claim) → OfValue Q one → Each Q claims → Each Q (and_claims one claims)
and_each Q None claims is each = each
and_each Q (Some claim) claims is each = (is, each)

pub each_unmapped : {X Y : Type 0} (P : Y → Type 0) (f : X → Y) (xs : List X) → Each P (map f xs) → Each (λ x. P (f x)) xs
each_unmapped P f [] each = tt
each_unmapped P f (x ∷ xs) each = (each.0, each_unmapped P f xs each.1)

-- each machine is the one that its number finds
each_at_its_number : (machines : List Machine) → IsDistinct nat_eq (numbers_of machines)
    → Each (λ machine. machine_at machines machine.id ≡ Some machine) machines
each_at_its_number [] distinct = tt
each_at_its_number (machine ∷ machines) distinct =
    let itself : (machine.id == machine.id) ≡ true = eq-eqb machine.id machine.id refl in
    let differ : Each (λ other. nat_eq machine.id other.id ≡ false) machines =
    each_unmapped (λ n. nat_eq machine.id n ≡ false) (λ (other : Machine). other.id) machines (IsDistinct-head nat_eq machine.id (numbers_of machines) distinct) in (
      rw itself refl,
      each_both (λ other. nat_eq machine.id other.id ≡ false) (λ other. machine_at machines other.id ≡ Some other)
          (λ other. machine_at (machine ∷ machines) other.id ≡ Some other) later machines differ
          (each_at_its_number machines (IsDistinct-tail nat_eq machine.id (numbers_of machines) distinct)),
    ) where
      later : (other : Machine) → nat_eq machine.id other.id ≡ false → machine_at machines other.id ≡ Some other → machine_at (machine ∷ machines) other.id ≡ Some other
      later other apart is = let past : (machine.id == other.id) ≡ false = apart in rw past is

-- a machine of a list meets the constraints of a wish
record IsSuited (machines : List Machine) (wish : Wish) (machine : Machine) : Type 0 where
  listed : machine_at machines machine.id ≡ Some machine
  suited : suits wish machine.attrs ≡ true

each_suited : (machines : List Machine) (wish : Wish) (start : ℕ) → IsDistinct nat_eq (numbers_of machines)
    → Each (IsSuited machines wish) (suiting_from machines wish start)
each_suited machines wish start distinct =
    let test : Machine → Bool = λ machine. suits wish machine.attrs in
    each_both (λ machine. machine_at machines machine.id ≡ Some machine) (λ machine. suits wish machine.attrs ≡ true) (IsSuited machines wish)
    (λ machine listed suited. record { listed = listed; suited = suited })
    (suiting_from machines wish start)
    (each_filter (λ machine. machine_at machines machine.id ≡ Some machine) test (wrapped_from start machines)
    (each_wrapped_from (λ machine. machine_at machines machine.id ≡ Some machine) start machines (each_at_its_number machines distinct)))
    (each_passes test (wrapped_from start machines))

module _ (machines : List Machine) (wish : Wish) (wishes : List Wish) where
  -- the claim of a wish on such a machine
  claims_suited : (keys : List TaskKey) (machine : Machine) → IsSuited machines wish machine
      → SuitsItsWish machines (wish ∷ wishes) (claim_of wish keys machine.id)
  claims_suited keys machine is = record {
    wish = wish;
    number = 0;
    wished = refl;
    is_for = refl;
    suited = subst (λ (o : Option Machine). IsSomeAnd o (λ machine. IsTrue (suits wish machine.attrs))) (sym is.listed) is.suited;
  }

  -- of more wishes
  wishes_more : (claim : Claim) → SuitsItsWish machines wishes claim → SuitsItsWish machines (wish ∷ wishes) claim
  wishes_more claim is = record {
    wish = is.wish;
    number = suc is.number;
    wished = is.wished;
    is_for = is.is_for;
    suited = is.suited;
  }

claim_suited : (cell : Cell) (start : ℕ) (preempts : Bool) (wish : Wish) (wishes : List Wish) → IsDistinct nat_eq (numbers_of cell.machines)
    → OfValue (SuitsItsWish cell.machines (wish ∷ wishes)) (claim_for_wish cell start preempts wish)
claim_suited cell start preempts wish wishes distinct =
    let each = each_suited cell.machines wish start distinct in
    or_both (SuitsItsWish cell.machines (wish ∷ wishes)) (claim_as_is cell start wish) (if preempts then claim_with_victims cell start wish else None)
    (of_map (IsSuited cell.machines wish) (SuitsItsWish cell.machines (wish ∷ wishes)) (λ (machine : Machine). claim_of wish [] machine.id)
    (claims_suited cell.machines wish wishes []) _
    (found (IsSuited cell.machines wish) (λ (machine : Machine). goes_in cell wish [] machine.id) (suiting_from cell.machines wish start) each))
    (by_policy preempts (first_of (SuitsItsWish cell.machines (wish ∷ wishes)) _
    (each_mapped (IsSuited cell.machines wish) (SuitsItsWish cell.machines (wish ∷ wishes))
    (λ (machine : Machine). option_map (λ keys. claim_of wish keys machine.id) (victims cell machine.id wish))
    (λ machine is. of_keys machine is (victims cell machine.id wish)) (suiting_from cell.machines wish start) each))) where
      of_keys : (machine : Machine) → IsSuited cell.machines wish machine → (o : Option (List TaskKey))
          → OfValue (SuitsItsWish cell.machines (wish ∷ wishes)) (option_map (λ keys. claim_of wish keys machine.id) o)
      of_keys machine is None = tt
      of_keys machine is (Some keys) = claims_suited cell.machines wish wishes keys machine is

      by_policy : (test : Bool) → OfValue (SuitsItsWish cell.machines (wish ∷ wishes)) (claim_with_victims cell start wish)
          → OfValue (SuitsItsWish cell.machines (wish ∷ wishes)) (if test then claim_with_victims cell start wish else None)
      by_policy true is = is
      by_policy false is = tt

-- planning a claim changes no machine
planned_machines : (cell : Cell) (planned : Option Claim) → (after_planned cell planned).machines ≡ cell.machines
planned_machines cell None = refl
planned_machines cell (Some claim) = refl

claims_each_suited : (machines : List Machine) (cell : Cell) (start : ℕ) (preempts : Bool) (wishes : List Wish)
    → cell.machines ≡ machines → IsDistinct nat_eq (numbers_of machines)
    → Each (SuitsItsWish machines wishes) (claims_for_wishes cell start preempts wishes)
claims_each_suited machines cell start preempts [] same distinct = tt
claims_each_suited machines cell start preempts (wish ∷ wishes) same distinct =
    let here : OfValue (SuitsItsWish machines (wish ∷ wishes)) (claim_for_wish cell start preempts wish) =
    subst (λ (ms : List Machine). OfValue (SuitsItsWish ms (wish ∷ wishes)) (claim_for_wish cell start preempts wish)) same
    (claim_suited cell start preempts wish wishes (subst (λ (ms : List Machine). IsDistinct nat_eq (numbers_of ms)) (sym same) distinct)) in
    and_each (SuitsItsWish machines (wish ∷ wishes)) (claim_for_wish cell start preempts wish) _ here
    (each_map (SuitsItsWish machines wishes) (SuitsItsWish machines (wish ∷ wishes)) (wishes_more machines wish wishes) _
    (claims_each_suited machines (after_planned cell (claim_for_wish cell start preempts wish)) start preempts wishes
    (planned_machines cell (claim_for_wish cell start preempts wish) ∙ same) distinct))

-- each claim of a plan is for one of the wishes, on a machine that meets its constraints
pub plan_suited : (cell : Cell) (wishes : List Wish) (start : ℕ) (policy : Policy) → IsDistinct nat_eq (numbers_of cell.machines)
    → Each (SuitsItsWish cell.machines wishes) (plan_for cell wishes start policy)
plan_suited cell wishes start policy distinct =
    by_mode policy.mode _ (claims_each_suited cell.machines cell start policy.preempt wishes refl distinct) where
      by_test : (test : Bool) (claims : List Claim) → Each (SuitsItsWish cell.machines wishes) claims
          → Each (SuitsItsWish cell.machines wishes) (if test then claims else [])
      by_test true claims each = each
      by_test false claims each = tt

      by_mode : (mode : Mode) (claims : List Claim) → Each (SuitsItsWish cell.machines wishes) claims
          → Each (SuitsItsWish cell.machines wishes) (whole_or_none mode (length wishes) claims)
      by_mode Incremental claims each = each
      by_mode Gang claims each = by_test (length claims == length wishes) claims each
