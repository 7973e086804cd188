-- What one more entry does to a scheduler's standing in a round.
use Rattle.std.proofs.Common.{◌≡◌, ◌≤◌, ℕ, Bool, false, List, [], ◌∷◌, ◌++◌, length, drop, Option, Some, None, refl, ap, arith, ◌∙◌}
use Rattle.std.specs.Prelude.{option_map, ◌||◌}
use Rattle.std.proofs.lemmas.Bool.{eqb-false}
use Rattle.std.specs.List.{list_any}
use Rattle.std.proofs.lemmas.List.{take-append-le, drop-append-le}
use Rattle.std.proofs.lemmas.List.Sums.{fold-append}
use Rattle.omega_model.specs.Requests.{failed, failed_after}
use Rattle.omega_model.specs.Touches.{is_placed}
use Rattle.omega_model.specs.Work.{HasLeft, IsDue, Standing, after_entry, is_commit_of, outcomes_of, standing_of}
use Rattle.omega_model.specs.declared.claims.Claim.{Claim}
use Rattle.omega_model.specs.declared.claims.Outcome.{Outcome}
use Rattle.omega_model.specs.declared.claims.Judgement.{Judgement}
use Rattle.omega_model.specs.Reply.{admits}
use Rattle.omega_model.specs.declared.entries.Entry.{Entry}
use Rattle.omega_model.specs.declared.entries.Entry.TheVariants.{Round, MachineAdd, MachineUpdate, MachineRemove, AttrSet, AttrDelete, End, Commit}
use Rattle.omega_model.specs.declared.rows.Row.{Row}
use Rattle.omega_model.specs.declared.rows.TraceTables.{TraceTables}
use Rattle.omega_model.specs.declared.settings.Settings.{Settings}
use Rattle.omega_model.specs.declared.wishes.Request.{Request}
use Rattle.omega_model.proofs.Growing.{by_place_push_where}

-- the standing after one more entry is one step on
pub standing_push : (settings : Settings) (trace : TraceTables) (rows : List Row) (opened_at scheduler : ℕ) (history : List Entry) (entry : Entry)
    → opened_at ≤ length history
    → standing_of settings trace rows opened_at scheduler (history ++ entry ∷ [])
    ≡ after_entry settings scheduler (standing_of settings trace rows opened_at scheduler history) entry
standing_push settings trace rows opened_at scheduler history entry within =
    rw (take-append-le opened_at history (entry ∷ []) within, drop-append-le opened_at history (entry ∷ []) within)
    (fold-append (after_entry settings scheduler) _ (drop opened_at history) (entry ∷ []))

-- an entry that is no commit of a scheduler leaves its standing
pub after_entry-other : (settings : Settings) (scheduler : ℕ) (standing : Option Standing) (entry : Entry)
    → is_commit_of scheduler entry ≡ false → after_entry settings scheduler standing entry ≡ standing
after_entry-other settings scheduler None entry other = refl
after_entry-other settings scheduler (Some standing) (Round number) other = refl
after_entry-other settings scheduler (Some standing) (MachineAdd machine cap) other = refl
after_entry-other settings scheduler (Some standing) (MachineUpdate machine cap) other = refl
after_entry-other settings scheduler (Some standing) (MachineRemove machine) other = refl
after_entry-other settings scheduler (Some standing) (AttrSet machine name value) other = refl
after_entry-other settings scheduler (Some standing) (AttrDelete machine name) other = refl
after_entry-other settings scheduler (Some standing) (End key machine) other = refl
after_entry-other settings scheduler (Some standing) (Commit by seen txn reply) other = rw other refl

-- an entry that is no commit of a scheduler is nothing that is due of it
pub due_of_other : (settings : Settings) (trace : TraceTables) (rows : List Row) (opened_at scheduler : ℕ) (before : List Entry) (entry : Entry)
    → is_commit_of scheduler entry ≡ false → IsDue settings trace rows opened_at scheduler before entry
due_of_other settings trace rows opened_at scheduler before (Round number) other = tt
due_of_other settings trace rows opened_at scheduler before (MachineAdd machine cap) other = tt
due_of_other settings trace rows opened_at scheduler before (MachineUpdate machine cap) other = tt
due_of_other settings trace rows opened_at scheduler before (MachineRemove machine) other = tt
due_of_other settings trace rows opened_at scheduler before (AttrSet machine name value) other = tt
due_of_other settings trace rows opened_at scheduler before (AttrDelete machine name) other = tt
due_of_other settings trace rows opened_at scheduler before (End key machine) other = tt
due_of_other settings trace rows opened_at scheduler before (Commit by seen txn reply) other = λ same. absurd (eqb-false by scheduler other same)

-- one more entry that is no commit of a scheduler leaves what it has left
pub has_left-other : (settings : Settings) (trace : TraceTables) (rows : List Row) (opened_at scheduler : ℕ) (history : List Entry) (entry : Entry) (left : List Request)
    → is_commit_of scheduler entry ≡ false → opened_at ≤ length history
    → HasLeft settings trace rows opened_at scheduler history left
    → HasLeft settings trace rows opened_at scheduler (history ++ entry ∷ []) left
has_left-other settings trace rows opened_at scheduler history entry left other within has = record {
  remains =
      ap (option_map (λ (standing : Standing). standing.requests))
      (standing_push settings trace rows opened_at scheduler history entry within
      ∙ after_entry-other settings scheduler (standing_of settings trace rows opened_at scheduler history) entry other)
      ∙ has.remains;
  due = by_place_push_where (λ place. opened_at ≤ place) (IsDue settings trace rows opened_at scheduler) history entry has.due
      (due_of_other settings trace rows opened_at scheduler history entry other);
}

-- whether a reply places a claim is whether the outcomes do
pub placed_outcomes : (claims : List Claim) (reply : List Judgement) → length reply ≡ length claims
    → list_any (λ (outcome : Outcome). is_placed outcome.verdict) (outcomes_of claims reply) ≡ list_any admits reply
placed_outcomes [] [] same = refl
placed_outcomes [] (judgement ∷ reply) same = absurd (omega arith)
placed_outcomes (claim ∷ claims) [] same = absurd (omega arith)
placed_outcomes (claim ∷ claims) (judgement ∷ reply) same =
    let rest : length reply ≡ length claims = omega arith in
    ap (λ (any : Bool). admits judgement || any) (placed_outcomes claims reply rest)

-- the failed commits of a job after one more entry are one step on
pub failed_push : (history : List Entry) (entry : Entry) (job : ℕ) → failed (history ++ entry ∷ []) job ≡ failed_after job (failed history job) entry
failed_push history entry job = fold-append (failed_after job) 0 history (entry ∷ [])
