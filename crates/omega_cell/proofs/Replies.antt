-- What is answered to claims: an answer for each, which evicts no more than it names.
use Rattle.std.proofs.Common.{◌≡◌, ℕ, ◌≤◌, List, [], ◌∷◌, length, map, take, Option, Some, None, refl, ap, arith, ◌==◌}
use Rattle.std.specs.List.{find}
use Rattle.std.specs.Option.{unwrap_or}
use Rattle.std.proofs.lemmas.List.{length-take}
use Rattle.omega_model.specs.Cell.{Cell}
use Rattle.omega_model.specs.Judge.{judge, evicted_for, with_evicted, makes_room, standing_victims}
use Rattle.omega_model.specs.Keys.{beginnings}
use Rattle.omega_model.specs.Reply.{admits, after_claim, judgements, withdrawn_for, first_refused, by_mode, reply_on}
use Rattle.omega_model.specs.Touches.{is_placed}
use Rattle.omega_model.specs.declared.cells.TaskKey.{TaskKey}
use Rattle.omega_model.specs.declared.claims.Claim.{Claim}
use Rattle.omega_model.specs.declared.claims.Judgement.{Judgement}
use Rattle.omega_model.specs.declared.claims.Mode.{Mode}
use Rattle.omega_model.specs.declared.claims.Mode.TheVariants.{Incremental, Gang}
use Rattle.omega_model.specs.declared.claims.Rule.{Rule}
use Rattle.omega_model.specs.declared.claims.Txn.{Txn}
use Rattle.omega_model.specs.declared.claims.Verdict.{Verdict}
use Rattle.omega_model.specs.declared.entries.Entry.{Entry}
use Rattle.omega_board.proofs.Standing.{standing_fewer}
use Rattle.omega_cell.specs.Rooms.{EvictWithin}
use Rattle.omega_cell.proofs.Shortest.{shortest}
use Rattle.omega_model.proofs.Lists.{by_answer}

-- what is evicted for a claim is no more than it names
evicted_within : (cell : Cell) (claim : Claim) → length (evicted_for cell claim) ≤ length claim.victims
evicted_within cell claim = by (find (makes_room cell claim) (beginnings standing)) refl
  where
    standing : List TaskKey
    standing = standing_victims cell.tasks claim

    by : (found : Option (List TaskKey)) → find (makes_room cell claim) (beginnings standing) ≡ found → length (unwrap_or found []) ≤ length claim.victims
    by None is = omega arith
    by (Some keys) is =
        let begins = shortest (makes_room cell claim) standing keys is in
        let long : length keys ≡ length (take begins.count standing) = ap length begins.is in
        let some = length-take begins.count standing in
        let fewer = standing_fewer cell.tasks claim in
        omega (arith, long, some, fewer)

judged_within : (cell : Cell) (claim : Claim) (verdict : Verdict) → length (with_evicted cell claim verdict).evicted ≤ length claim.victims
judged_within cell claim verdict = by_answer (is_placed verdict) (λ t. rw t (evicted_within cell claim)) (λ f. rw f (omega arith))

judgements_within : (history : List Entry) (seen : ℕ) (cell : Cell) (rule : Rule) (claims : List Claim) → EvictWithin claims (judgements history seen cell rule claims)
judgements_within history seen cell rule [] = tt
judgements_within history seen cell rule (claim ∷ claims) = (
  judged_within cell claim (judge history seen cell rule claim).verdict,
  judgements_within history seen (after_claim cell (claim, judge history seen cell rule claim)) rule claims,
)

withdrawn_within : (place : ℕ) (claims : List Claim) (reply : List Judgement) → EvictWithin claims reply → EvictWithin claims (map (withdrawn_for place) reply)
withdrawn_within place [] [] within = tt
withdrawn_within place [] (judgement ∷ reply) within = absurd within
withdrawn_within place (claim ∷ claims) [] within = absurd within
withdrawn_within place (claim ∷ claims) (judgement ∷ reply) within = (
  by_answer (admits judgement) (λ t. rw t (omega arith)) (λ f. rw f within.0),
  withdrawn_within place claims reply within.1,
)

-- nor is what is evicted for each claim of a transaction
pub reply_within : (history : List Entry) (cell : Cell) (seen : ℕ) (txn : Txn) → EvictWithin txn.claims (reply_on history cell seen txn)
reply_within history cell seen txn = by txn.mode
  where
    answered : List Judgement
    answered = judgements history seen cell txn.rule txn.claims

    by : (mode : Mode) → EvictWithin txn.claims (by_mode mode answered)
    by Incremental = judgements_within history seen cell txn.rule txn.claims
    by Gang =
        by_answer (first_refused answered == length answered)
        (λ t. rw t (judgements_within history seen cell txn.rule txn.claims))
        (λ f. rw f (withdrawn_within (first_refused answered) txn.claims answered (judgements_within history seen cell txn.rule txn.claims)))
