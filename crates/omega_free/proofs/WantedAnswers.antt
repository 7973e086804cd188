-- What is committed of a plan answers some wishes of its request, in their order.
use Rattle.std.proofs.Common.{◌≡◌, ℕ, Bool, true, false, List, [], ◌∷◌, refl, filter}
use Rattle.omega_model.specs.Keys.{same_key}
use Rattle.omega_model.specs.Wanted.{WantedTask}
use Rattle.omega_model.specs.Work.{outcomes_of, planned}
use Rattle.omega_model.specs.declared.claims.Claim.{Claim}
use Rattle.omega_model.specs.declared.claims.Judgement.{Judgement}
use Rattle.omega_model.specs.declared.claims.Outcome.{Outcome}
use Rattle.omega_model.specs.declared.claims.Verdict.TheVariants.{Placed}
use Rattle.omega_model.specs.declared.entries.Entry.{Entry}
use Rattle.omega_model.specs.declared.settings.Settings.{Settings}
use Rattle.omega_model.specs.declared.wishes.Request.{Request}
use Rattle.omega_model.specs.declared.wishes.Wish.{Wish}
use Rattle.omega_model.proofs.Lists.{by_answer}
use Rattle.omega_desk.specs.Walks.{are_wished}
use Rattle.omega_workers.proofs.Answering.{planned_answers}
use Rattle.omega_free_laws.specs.StillWanted.{is_still_wanted, wanted_claims, wanted_wishes}

-- outcomes for some of the wishes are so with one more wish in front, where fewer outcomes are so too
with_wish : (outcomes : List Outcome) (wish : Wish) (wishes : List Wish)
    → ((outcome : Outcome) (rest : List Outcome) → are_wished (outcome ∷ rest) wishes ≡ true → are_wished rest wishes ≡ true)
    → are_wished outcomes wishes ≡ true → are_wished outcomes (wish ∷ wishes) ≡ true
unfolding are_wished
with_wish [] wish wishes fewer answers = refl
with_wish (outcome ∷ rest) wish wishes fewer answers =
    by_answer (same_key outcome.key wish.key) (λ t. rw t (fewer outcome rest answers)) (λ f. rw f answers)

fewer_wished : (outcome : Outcome) (rest : List Outcome) (wishes : List Wish) → are_wished (outcome ∷ rest) wishes ≡ true → are_wished rest wishes ≡ true
unfolding are_wished
fewer_wished outcome rest [] answers = absurd (cc)
fewer_wished outcome rest (wish ∷ wishes) answers =
    by_answer (same_key outcome.key wish.key)
    (λ t. with_wish rest wish wishes (λ o os. fewer_wished o os wishes) (rw t at answers))
    (λ f. with_wish rest wish wishes (λ o os. fewer_wished o os wishes) (fewer_wished outcome rest wishes (rw f at answers)))

-- claims of which some are left out answer the wishes still
abbrev AnswersAny : List Claim → List Wish → Type 0
AnswersAny claims wishes = (reply : List Judgement) → are_wished (outcomes_of claims reply) wishes ≡ true

any_judgement : Judgement
any_judgement = record { verdict = Placed; evicted = [] }

none_wished : (wishes : List Wish) → are_wished [] wishes ≡ true
unfolding are_wished
none_wished [] = refl
none_wished (wish ∷ wishes) = refl

some_left : (q : Claim → Bool) (wishes : List Wish) (claims : List Claim) → AnswersAny claims wishes → AnswersAny (filter q claims) wishes
unfolding are_wished
some_left q [] [] answers = answers
some_left q [] (claim ∷ claims) answers = absurd (let clash = answers (any_judgement ∷ []) in cc)
some_left q (wish ∷ wishes) [] answers = answers
some_left q (wish ∷ wishes) (claim ∷ claims) answers =
    by_answer (same_key claim.key wish.key)
    (λ t.
    let later : AnswersAny (filter q claims) wishes = some_left q wishes claims (λ reply. rw t at (answers (any_judgement ∷ reply))) in
    by_answer (q claim)
    (λ kept. rw kept (first_kept t later))
    (λ out. rw out (λ reply. with_wish (outcomes_of (filter q claims) reply) wish wishes (λ o os. fewer_wished o os wishes) (later reply))))
    (λ f.
    let later : AnswersAny (filter q (claim ∷ claims)) wishes = some_left q wishes (claim ∷ claims) (all_later f) in
    λ reply. with_wish (outcomes_of (filter q (claim ∷ claims)) reply) wish wishes (λ o os. fewer_wished o os wishes) (later reply)) where
      first_kept : same_key claim.key wish.key ≡ true → AnswersAny (filter q claims) wishes → AnswersAny (claim ∷ filter q claims) (wish ∷ wishes)
      first_kept t later [] = refl
      first_kept t later (judgement ∷ reply) = rw t (later reply)

      all_later : same_key claim.key wish.key ≡ false → AnswersAny (claim ∷ claims) wishes
      all_later f [] = none_wished wishes
      all_later f (judgement ∷ reply) = rw f at (answers (judgement ∷ reply))

-- what answers some of the wishes answers all of them
all_wishes : (p : Wish → Bool) (wishes : List Wish) (outcomes : List Outcome) → are_wished outcomes (filter p wishes) ≡ true → are_wished outcomes wishes ≡ true
unfolding are_wished
all_wishes p [] outcomes answers = answers
all_wishes p (wish ∷ wishes) [] answers = refl
all_wishes p (wish ∷ wishes) (outcome ∷ rest) answers =
    by_answer (p wish)
    (λ t. by_answer (same_key outcome.key wish.key)
    (λ same. rw same (all_wishes p wishes rest (rw same at (rw t at answers))))
    (λ apart. rw apart (all_wishes p wishes (outcome ∷ rest) (rw apart at (rw t at answers)))))
    (λ f. with_wish (outcome ∷ rest) wish wishes (λ o os. fewer_wished o os wishes) (all_wishes p wishes (outcome ∷ rest) (rw f at answers)))

-- the outcomes of what is committed of an attempt are for wishes of its request, in their order
pub free_answers : (settings : Settings) (scheduler attempts : ℕ) (entries : List Entry) (asked_then asked_now : List WantedTask) (request : Request) (reply : List Judgement)
    → are_wished (outcomes_of (wanted_claims asked_now (planned settings scheduler attempts entries (wanted_wishes asked_then request))) reply) request.wishes ≡ true
free_answers settings scheduler attempts entries asked_then asked_now request reply =
    all_wishes (λ (wish : Wish). is_still_wanted asked_then wish.key) request.wishes _
    (some_left (λ (claim : Claim). is_still_wanted asked_now claim.key) (wanted_wishes asked_then request)
    (planned settings scheduler attempts entries (wanted_wishes asked_then request))
    (planned_answers settings scheduler attempts entries (wanted_wishes asked_then request)) reply)
