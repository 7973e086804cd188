-- What one more entry does to a history.
use Rattle.std.proofs.Common.{◌≡◌, ℕ, zero, suc, List, [], ◌∷◌, ◌++◌, take, Some, subst, arith}
use Rattle.std.specs.Prelude.{slice_get}
use Rattle.std.proofs.lemmas.Grind.{common_steps}
use Rattle.omega_model.specs.State.{state, step}
use Rattle.omega_model.specs.Legal.{Legal, Follows}
use Rattle.omega_model.specs.declared.entries.Entry.{Entry}

-- the state after one more entry is one step on
pub state_push : (history : List Entry) (entry : Entry) → state (history ++ entry ∷ []) ≡ step (state history) entry
state_push history entry = grind (arith, common_steps)

-- what holds at some places, of the item there and those before it, holds at these places after one more
-- item of which it holds
pub by_place_push_where : {X : Type 0} (C : ℕ → Type 0) (P : List X → X → Type 0) (xs : List X) (x : X)
    → ((place : ℕ) (y : X) → slice_get xs place ≡ Some y → C place → P (take place xs) y)
    → P xs x
    → (place : ℕ) (y : X) → slice_get (xs ++ x ∷ []) place ≡ Some y → C place → P (take place (xs ++ x ∷ [])) y
by_place_push_where C P [] x old new zero y is here =
    let same : x ≡ y = cc in subst (λ z. P [] z) same new
by_place_push_where C P [] x old new (suc place) y is here = cc
by_place_push_where C P (a ∷ xs) x old new zero y is here = old zero y is here
by_place_push_where C P (a ∷ xs) x old new (suc place) y is here =
    by_place_push_where (λ at. C (suc at)) (λ before. P (a ∷ before)) xs x (λ at z found allowed. old (suc at) z found allowed) new place y is here

-- what holds of each item and those before it holds after one more item of which it holds
pub by_place_push : {X : Type 0} (P : List X → X → Type 0) (xs : List X) (x : X)
    → ((place : ℕ) (y : X) → slice_get xs place ≡ Some y → P (take place xs) y)
    → P xs x
    → (place : ℕ) (y : X) → slice_get (xs ++ x ∷ []) place ≡ Some y → P (take place (xs ++ x ∷ [])) y
by_place_push P [] x old new zero y is =
    let same : x ≡ y = cc in subst (λ z. P [] z) same new
by_place_push P [] x old new (suc place) y is = cc
by_place_push P (a ∷ xs) x old new zero y is = old zero y is
by_place_push P (a ∷ xs) x old new (suc place) y is =
    by_place_push (λ before. P (a ∷ before)) xs x (λ at z found. old (suc at) z found) new place y is

-- a legal history is legal with one more entry that may follow it
pub legal_push : (history : List Entry) (entry : Entry) → Legal history → Follows history entry → Legal (history ++ entry ∷ [])
legal_push history entry legal follows = by_place_push Follows history entry legal follows
