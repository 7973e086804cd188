-- What is answered on a board is what the rule answers on the history, and replies as what a board may apply.
use Rattle.std.proofs.Common.{◌≡◌, ℕ, zero, suc, ◌+◌, Bool, true, false, cond, not, ◌||◌, List, [], ◌∷◌, length, map, take, drop, Option, Some, IsTrue, refl, sym, ap, ap₂, ◌∙◌, arith, ◌==◌}
use Rattle.std.specs.List.{list_any, count_by, zip}
use Rattle.std.proofs.lemmas.Bool.{both_ways, eq-eqb, eqb-true, ne_eqb}
use Rattle.std.proofs.lemmas.List.Sums.{sum_by-cons}
use Rattle.omega_model.specs.Applying.{MayPlaceAll}
use Rattle.omega_model.specs.Cell.{Cell}
use Rattle.omega_model.specs.Judge.{refusal_if, first_that_applies, no_machine, already_running, victim_rank, same_job, full, changed, known_of, judged_given, verdict_given, with_evicted, judge, judge_fine}
use Rattle.omega_board.specs.Judging.{changed_on, judge_on}
use Rattle.omega_model.specs.Reply.{admits, after_claim, judgements, withdrawn_for, first_refused, by_mode, reply_on}
use Rattle.omega_model.specs.Touches.{is_placed, touches, seq}
use Rattle.omega_model.specs.declared.cells.TaskKey.{TaskKey}
use Rattle.omega_model.specs.declared.claims.Claim.{Claim}
use Rattle.omega_model.specs.declared.claims.Judgement.{Judgement}
use Rattle.omega_model.specs.declared.claims.Mode.{Mode}
use Rattle.omega_model.specs.declared.claims.Mode.TheVariants.{Incremental, Gang}
use Rattle.omega_model.specs.declared.claims.Rule.{Rule}
use Rattle.omega_model.specs.declared.claims.Rule.TheVariants.{Fine, Coarse}
use Rattle.omega_model.specs.declared.claims.Txn.{Txn}
use Rattle.omega_model.specs.declared.claims.Verdict.{Verdict}
use Rattle.omega_model.specs.declared.claims.Verdict.TheVariants.{Placed, NoMachine, Changed}
use Rattle.omega_model.specs.declared.entries.Entry.{Entry}
use Rattle.omega_board.proofs.Placed.{refuses_change, is_placed-Placed, placed_without}
use Rattle.omega_model.proofs.Lists.{by_answer}
use Rattle.omega_model.proofs.Admitted.{Refuses, refuses_if}

-- some entry passes a test where more than none do
some_counted : {X : Type 0} (p : X → Bool) (xs : List X) → list_any p xs ≡ not (0 == count_by p xs)
some_counted p [] = refl
some_counted p (x ∷ xs) =
    by_answer (p x)
    (λ t.
    let more : count_by p (x ∷ xs) ≡ suc (count_by p xs) = sum_by-cons (λ y. cond (p y) 1 0) x xs ∙ rw t (omega arith) in
    let differ : (0 == count_by p (x ∷ xs)) ≡ false = ne_eqb 0 (count_by p (x ∷ xs)) (λ e. absurd (omega (arith, e, more))) in
    ap (λ b. b || list_any p xs) t ∙ sym (ap not differ))
    (λ f.
    let same : count_by p (x ∷ xs) ≡ count_by p xs = sum_by-cons (λ y. cond (p y) 1 0) x xs ∙ rw f (omega arith) in
    ap (λ b. b || list_any p xs) f ∙ some_counted p xs ∙ ap (λ n. not (0 == n)) (sym same))

-- some entry from a place on passes a test exactly where the counts up to the place and of all differ
pub later_counted : {X : Type 0} (p : X → Bool) (seen : ℕ) (xs : List X) → list_any p (drop seen xs) ≡ not (count_by p (take seen xs) == count_by p xs)
later_counted p zero xs = some_counted p xs
later_counted p (suc seen) [] = refl
later_counted p (suc seen) (x ∷ xs) =
    later_counted p seen xs
    ∙ ap not (both_more (count_by p (take seen xs)) (count_by p xs) (cond (p x) 1 0))
    ∙ ap₂ (λ a b. not (a == b)) (sym (sum_by-cons (λ y. cond (p y) 1 0) x (take seen xs))) (sym (sum_by-cons (λ y. cond (p y) 1 0) x xs))
  where
    both_more : (a b c : ℕ) → (a == b) ≡ (c + a == c + b)
    both_more a b c =
        by_answer (a == b)
        (λ t. t ∙ sym (eq-eqb (c + a) (c + b) (ap (λ n. c + n) (eqb-true a b t))))
        (λ f. f ∙ sym (ne_eqb (c + a) (c + b) (λ e. both_ways _ f (eq-eqb a b (omega (arith, e))))))

-- the change of a machine, by its sequence number now and in the copy as the rule hands it in
change_is : (history : List Entry) (seen : ℕ) (rule : Rule) (claim : Claim)
    → changed_on (seq history claim.machine) (known_of history seen rule claim.machine) ≡ changed history seen rule claim
change_is history seen Fine claim = refl
change_is history seen Coarse claim =
    ap (λ differ. refusal_if differ (Changed (seq history claim.machine) (seq (take seen history) claim.machine)))
    (sym (later_counted (touches claim.machine) seen history))

-- so what is answered by these numbers is what is answered on the history
pub judged_on : (history : List Entry) (seen : ℕ) (cell : Cell) (rule : Rule) (claim : Claim) (now : ℕ) (copy : Option ℕ)
    → now ≡ seq history claim.machine → copy ≡ known_of history seen rule claim.machine → judge history seen cell rule claim ≡ judge_on cell now copy claim
judged_on history seen cell rule claim now copy numbered known =
    ap (λ change. judged_given change cell claim) (sym (ap₂ changed_on numbered known ∙ change_is history seen rule claim))

-- what is answered where the machine isn't up
pub refused_down : (change : Option Verdict) (cell : Cell) (claim : Claim) (evicted : List TaskKey) → evicted ≡ [] → Some NoMachine ≡ no_machine cell claim
    → judged_given change cell claim ≡ record { verdict = NoMachine; evicted = evicted }
refused_down change cell claim evicted none down =
    ap (λ part. with_evicted cell claim (first_that_applies (part ∷ already_running cell claim ∷ change ∷ victim_rank cell claim ∷ same_job cell claim ∷ full cell claim ∷ []))) (sym down)
    ∙ (λ i. record { verdict = NoMachine; evicted = sym none i })

-- a claim that is placed in spite of a change is answered the same without it
fine_given : (change : Option Verdict) (cell : Cell) (claim : Claim) → Refuses change → is_placed (verdict_given change cell claim) ≡ true → judge_fine cell claim ≡ judged_given change cell claim
fine_given change cell claim refuses placed =
    let is : verdict_given change cell claim ≡ Placed = is_placed-Placed (verdict_given change cell claim) placed in
    ap (with_evicted cell claim) (placed_without change cell claim refuses is ∙ sym is)

-- by the numbers
pub fine_on : (cell : Cell) (now : ℕ) (copy : Option ℕ) (claim : Claim) → IsTrue (admits (judge_on cell now copy claim)) → judge_fine cell claim ≡ judge_on cell now copy claim
fine_on cell now copy claim placed = fine_given (changed_on now copy) cell claim (refuses_change now copy) placed

-- and on a history
pub fine_judge : (history : List Entry) (seen : ℕ) (cell : Cell) (rule : Rule) (claim : Claim) → IsTrue (admits (judge history seen cell rule claim)) → judge_fine cell claim ≡ judge history seen cell rule claim
unfolding Refuses
fine_judge history seen cell rule claim placed = fine_given (changed history seen rule claim) cell claim (refuses rule) placed
  where
    refuses : (r : Rule) → Refuses (changed history seen r claim)
    refuses Fine = tt
    refuses Coarse = refuses_if (list_any (touches claim.machine) (drop seen history)) (Changed (seq history claim.machine) (seq (take seen history) claim.machine)) refl

-- what is answered to claims in order: what it places can be placed in order
judgements_may : (history : List Entry) (seen : ℕ) (cell : Cell) (rule : Rule) (claims : List Claim) → MayPlaceAll cell (zip claims (judgements history seen cell rule claims))
judgements_may history seen cell rule [] = tt
judgements_may history seen cell rule (claim ∷ claims) = (
  λ placed. fine_judge history seen cell rule claim placed,
  judgements_may history seen (after_claim cell (claim, judge history seen cell rule claim)) rule claims,
)

-- a withdrawn claim isn't admitted
pub withdrawn_not : (place : ℕ) (judgement : Judgement) → admits (withdrawn_for place judgement) ≡ false
withdrawn_not place judgement = by_answer (is_placed judgement.verdict) (λ t. rw t refl) (λ f. rw f f)

-- where all that was placed is withdrawn, nothing is to be placed
withdrawn_may : (place : ℕ) (cell : Cell) (claims : List Claim) (reply : List Judgement) → MayPlaceAll cell (zip claims (map (withdrawn_for place) reply))
withdrawn_may place cell [] reply = tt
withdrawn_may place cell (claim ∷ claims) [] = tt
withdrawn_may place cell (claim ∷ claims) (judgement ∷ reply) = (
  λ placed. absurd (both_ways _ (withdrawn_not place judgement) placed),
  withdrawn_may place (after_claim cell (claim, withdrawn_for place judgement)) claims reply,
)

-- the placed claims of the reply to a transaction can be placed one after the other
pub reply_may : (history : List Entry) (cell : Cell) (seen : ℕ) (txn : Txn) → MayPlaceAll cell (zip txn.claims (reply_on history cell seen txn))
reply_may history cell seen txn = by txn.mode
  where
    told : List Judgement
    told = judgements history seen cell txn.rule txn.claims

    by : (mode : Mode) → MayPlaceAll cell (zip txn.claims (by_mode mode told))
    by Incremental = judgements_may history seen cell txn.rule txn.claims
    by Gang =
        by_answer (first_refused told == length told)
        (λ t. rw t (judgements_may history seen cell txn.rule txn.claims))
        (λ f. rw f (withdrawn_may (first_refused told) cell txn.claims told))
