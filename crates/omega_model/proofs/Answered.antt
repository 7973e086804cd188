-- A reply answers each claim.
use Rattle.std.proofs.Common.{◌≡◌, ℕ, suc, List, [], ◌∷◌, length, refl, ap, ◌==◌}
use Rattle.std.proofs.lemmas.List.{length-map}
use Rattle.omega_model.specs.Cell.{Cell}
use Rattle.omega_model.specs.Judge.{judge}
use Rattle.omega_model.specs.Reply.{after_claim, all_or_nothing, first_refused, judgements, withdrawn_for}
use Rattle.omega_model.specs.declared.claims.Claim.{Claim}
use Rattle.omega_model.specs.declared.claims.Judgement.{Judgement}
use Rattle.omega_model.specs.declared.claims.Rule.{Rule}
use Rattle.omega_model.specs.declared.entries.Entry.{Entry}
use Rattle.omega_model.proofs.Lists.{by_answer}

-- each claim is answered
pub length-judgements : (history : List Entry) (seen : ℕ) (cell : Cell) (rule : Rule) (claims : List Claim) → length (judgements history seen cell rule claims) ≡ length claims
length-judgements history seen cell rule [] = refl
length-judgements history seen cell rule (claim ∷ claims) =
    ap (λ (n : ℕ). suc n) (length-judgements history seen (after_claim cell (claim, judge history seen cell rule claim)) rule claims)

-- also where a gang is withdrawn
pub length-all_or_nothing : (reply : List Judgement) → length (all_or_nothing reply) ≡ length reply
length-all_or_nothing reply =
    by_answer (first_refused reply == length reply) (λ t. rw t refl) (λ f. rw f (length-map reply (withdrawn_for (first_refused reply))))
