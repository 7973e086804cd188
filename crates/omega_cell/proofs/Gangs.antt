-- A gang is never split.
use Rattle.std.proofs.Common.{◌≡◌, ℕ, zero, suc, ◌<◌, inl, inr, true, List, [], ◌∷◌, length, map, get_or, take, refl, sym, ap, ◌∙◌, subst, arith, ◌==◌}
use Rattle.std.specs.Prelude.{IsTrue, IsFalse, All}
use Rattle.std.proofs.lemmas.Bool.{eqb-true}
use Rattle.omega_model.specs.Legal.{Legal, Follows}
use Rattle.omega_model.specs.Reply.{admits, withdrawn_for, first_refused, all_or_nothing, by_mode, judgements}
use Rattle.omega_model.specs.State.{state}
use Rattle.omega_model.specs.declared.claims.Claim.{Claim}
use Rattle.omega_model.specs.declared.claims.Judgement.{Judgement}
use Rattle.omega_model.specs.declared.claims.Mode.{Mode}
use Rattle.omega_model.specs.declared.entries.Entry.{Entry}
use Rattle.omega_model.specs.declared.entries.Entry.TheVariants.{Round, MachineAdd, MachineUpdate, MachineRemove, AttrSet, AttrDelete, End, Commit}
use Rattle.omega_cell.specs.Laws.{IsWhole, IsUnsplit, NoGangIsSplit}
use Rattle.omega_model.proofs.Answered.{length-all_or_nothing, length-judgements}
use Rattle.omega_model.proofs.Lists.{by_answer}

-- where there is no refusal each is placed
all_placed : (reply : List Judgement) → first_refused reply ≡ length reply → All (λ judgement. IsTrue (admits judgement)) reply
all_placed [] whole k d below = absurd (omega arith)
all_placed (judgement ∷ reply) whole k d below =
    by_answer (admits judgement)
    (λ t. at k below t (all_placed reply (let rest = rw t at whole in omega (arith, rest))))
    (λ f. absurd (let none = rw f at whole in omega (arith, none)))
  where
    at : (j : ℕ) → j < length (judgement ∷ reply) → admits judgement ≡ true → All (λ judged. IsTrue (admits judged)) reply → IsTrue (admits (get_or (judgement ∷ reply) j d))
    at zero inside placed rest = placed
    at (suc j) inside placed rest = rest j d (omega (arith, inside))

-- a withdrawn gang places none
none_placed : (place : ℕ) (reply : List Judgement) → All (λ judgement. IsFalse (admits judgement)) (map (withdrawn_for place) reply)
none_placed place [] k d below = absurd (omega arith)
none_placed place (judgement ∷ reply) zero d below = by_answer (admits judgement) (λ t. rw t refl) (λ f. rw f f)
none_placed place (judgement ∷ reply) (suc k) d below = none_placed place reply k d (omega (arith, below))

-- a gang keeps all or none
whole : (claims : List Claim) (reply : List Judgement) → length reply ≡ length claims → IsWhole claims (all_or_nothing reply)
whole claims reply long =
    by_answer (first_refused reply == length reply)
    (λ t. rw t (record { answered = long; together = inl (all_placed reply (eqb-true _ _ t)) }))
    (λ f. rw f (record { answered = sym (ap length (rw f refl)) ∙ length-all_or_nothing reply ∙ long; together = inr (none_placed (first_refused reply) reply) }))

unsplit : (before : List Entry) (entry : Entry) → Follows before entry → IsUnsplit entry
unsplit before (Round number) follows = tt
unsplit before (MachineAdd machine amount) follows = tt
unsplit before (MachineUpdate machine amount) follows = tt
unsplit before (MachineRemove machine) follows = tt
unsplit before (AttrSet machine name value) follows = tt
unsplit before (AttrDelete machine name) follows = tt
unsplit before (End key machine) follows = tt
unsplit before (Commit scheduler seen txn reply) follows = λ gang.
    let answered = judgements before seen (state before) txn.rule txn.claims in
    let due : reply ≡ all_or_nothing answered = follows.1 ∙ ap (λ (mode : Mode). by_mode mode answered) gang in
    subst (IsWhole txn.claims) (sym due) (whole txn.claims answered (length-judgements before seen (state before) txn.rule txn.claims))

pub no_gang_is_split : (history : List Entry) → Legal history → NoGangIsSplit history
no_gang_is_split history legal place entry is = unsplit (take place history) entry (legal place entry is)
