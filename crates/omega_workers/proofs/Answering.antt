-- What is planned for some wishes answers them in order.
use Rattle.std.proofs.Common.{◌≡◌, ℕ, Bool, true, List, [], ◌∷◌, length, Option, Some, None, refl, ap, ◌==◌}
use Rattle.std.proofs.lemmas.Bool.{eq-eqb}
use Rattle.omega_model.specs.Cell.{Cell}
use Rattle.omega_model.specs.Keys.{same_key}
use Rattle.omega_model.specs.Draws.{drawn_start}
use Rattle.omega_model.specs.Plan.{after_planned, and_claims, whole_or_none}
use Rattle.omega_model.specs.Planning.{claim_for_wish, claims_for_wishes}
use Rattle.omega_model.specs.Policy.{policy_of}
use Rattle.omega_model.specs.State.{state}
use Rattle.omega_model.specs.Work.{outcomes_of, planned}
use Rattle.omega_model.specs.declared.cells.TaskKey.{TaskKey}
use Rattle.omega_model.specs.declared.claims.Claim.{Claim}
use Rattle.omega_model.specs.declared.claims.Judgement.{Judgement}
use Rattle.omega_model.specs.declared.claims.Mode.{Mode}
use Rattle.omega_model.specs.declared.claims.Mode.TheVariants.{Incremental, Gang}
use Rattle.omega_model.specs.declared.claims.Outcome.{Outcome}
use Rattle.omega_model.specs.declared.entries.Entry.{Entry}
use Rattle.omega_model.specs.declared.settings.Settings.{Settings}
use Rattle.omega_model.specs.declared.wishes.Wish.{Wish}
use Rattle.omega_model.proofs.Lists.{by_answer}
use Rattle.omega_desk.specs.Walks.{are_wished}
use Rattle.omega_laws.proofs.OtherJobs.{IsFor, claim_is_for}
use Rattle.omega_laws.proofs.Suited.{OfValue}

-- outcomes for some of the wishes are so with one more wish in front, where fewer outcomes are so too
with_wish : (outcomes : List Outcome) (wish : Wish) (wishes : List Wish)
    → ((outcome : Outcome) (rest : List Outcome) → are_wished (outcome ∷ rest) wishes ≡ true → are_wished rest wishes ≡ true)
    → are_wished outcomes wishes ≡ true → are_wished outcomes (wish ∷ wishes) ≡ true
unfolding are_wished
with_wish [] wish wishes fewer answers = refl
with_wish (outcome ∷ rest) wish wishes fewer answers =
    by_answer (same_key outcome.key wish.key) (λ t. rw t (fewer outcome rest answers)) (λ f. rw f answers)

fewer_wished : (outcome : Outcome) (rest : List Outcome) (wishes : List Wish) → are_wished (outcome ∷ rest) wishes ≡ true → are_wished rest wishes ≡ true
unfolding are_wished
fewer_wished outcome rest [] answers = absurd (cc)
fewer_wished outcome rest (wish ∷ wishes) answers =
    by_answer (same_key outcome.key wish.key)
    (λ t. with_wish rest wish wishes (λ o os. fewer_wished o os wishes) (rw t at answers))
    (λ f. with_wish rest wish wishes (λ o os. fewer_wished o os wishes) (fewer_wished outcome rest wishes (rw f at answers)))

-- one name twice
key_itself : (one other : TaskKey) → one ≡ other → same_key one other ≡ true
key_itself one other same =
    rw (eq-eqb one.job other.job (ap (λ (k : TaskKey). k.job) same), eq-eqb one.index other.index (ap (λ (k : TaskKey). k.index) same)) refl

-- claims with one more, if there is one, for a wish in front
more_answers : (wish : Wish) (wishes : List Wish) (one : Option Claim) (claims : List Claim) → OfValue (IsFor wish) one
    → ((reply : List Judgement) → are_wished (outcomes_of claims reply) wishes ≡ true)
    → (reply : List Judgement) → are_wished (outcomes_of (and_claims one claims) reply) (wish ∷ wishes) ≡ true
unfolding are_wished
more_answers wish wishes None claims is answers reply =
    with_wish (outcomes_of claims reply) wish wishes (λ o os. fewer_wished o os wishes) (answers reply)
more_answers wish wishes (Some claim) claims is answers [] = refl
more_answers wish wishes (Some claim) claims is answers (judgement ∷ reply) = rw (key_itself claim.key wish.key is.0) (answers reply)

claims_answer : (cell : Cell) (start : ℕ) (preempts : Bool) (wishes : List Wish) (reply : List Judgement)
    → are_wished (outcomes_of (claims_for_wishes cell start preempts wishes) reply) wishes ≡ true
unfolding are_wished
claims_answer cell start preempts [] reply = refl
claims_answer cell start preempts (wish ∷ wishes) reply =
    more_answers wish wishes (claim_for_wish cell start preempts wish)
    (claims_for_wishes (after_planned cell (claim_for_wish cell start preempts wish)) start preempts wishes)
    (claim_is_for cell start preempts wish)
    (λ told. claims_answer (after_planned cell (claim_for_wish cell start preempts wish)) start preempts wishes told) reply

whole_answers : (mode : Mode) (wishes : List Wish) (claims : List Claim) (reply : List Judgement)
    → are_wished (outcomes_of claims reply) wishes ≡ true
    → are_wished (outcomes_of (whole_or_none mode (length wishes) claims) reply) wishes ≡ true
unfolding are_wished
whole_answers Incremental wishes claims reply answers = answers
whole_answers Gang wishes claims reply answers = by_answer (length claims == length wishes) (λ t. rw t answers) (λ f. rw f refl)

-- the outcomes of what is planned for some wishes are for wishes among them, in their order
pub planned_answers : (settings : Settings) (scheduler attempts : ℕ) (entries : List Entry) (wishes : List Wish) (reply : List Judgement)
    → are_wished (outcomes_of (planned settings scheduler attempts entries wishes) reply) wishes ≡ true
planned_answers settings scheduler attempts entries wishes reply =
    let start : ℕ = drawn_start settings scheduler attempts (length (state entries).machines) in
    whole_answers (policy_of settings scheduler).mode wishes (claims_for_wishes (state entries) start (policy_of settings scheduler).preempt wishes) reply
    (claims_answer (state entries) start (policy_of settings scheduler).preempt wishes reply)
