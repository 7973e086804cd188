-- A round from its rows to its end, one commit after the other.
use Rattle.std.proofs.Common.{◌≡◌, ◌≤◌, ℕ, true, List, [], ◌∷◌, ◌++◌, length, Option, Some, None, refl, sym, ap, subst, arith, ◌∙◌, inl, inr}
use Rattle.std.specs.Prelude.{option_map, ◌==◌}
use Rattle.std.proofs.lemmas.Bool.{eq-eqb, ne_eqb}
use Rattle.std.proofs.lemmas.Bool.Decides.{eqb_tells}
use Rattle.std.proofs.lemmas.List.{take-append-le}
use Rattle.std.proofs.Math.Seq.{take-length}
use Rattle.std.proofs.Math.ListN.{drop_of_length-le}
use Rattle.omega_model.specs.Lawful.{IsCommitOfRound, MayCommit, RoundOf, RoundSoFar, opened}
use Rattle.omega_model.specs.Requests.{requests}
use Rattle.omega_model.specs.Work.{AgreesWithFirst, HasLeft, IsDue, Standing, after_entry, moved_on, outcomes_of, standing_of}
use Rattle.omega_model.specs.declared.claims.Judgement.{Judgement}
use Rattle.omega_model.specs.declared.claims.Txn.{Txn}
use Rattle.omega_model.specs.declared.entries.Entry.{Entry}
use Rattle.omega_model.specs.declared.entries.Entry.TheVariants.{Commit}
use Rattle.omega_model.specs.declared.rows.Row.{Row}
use Rattle.omega_model.specs.declared.rows.Round.{Round}
use Rattle.omega_model.specs.declared.rows.TraceTables.{TraceTables}
use Rattle.omega_model.specs.declared.settings.Settings.{Settings}
use Rattle.omega_model.specs.declared.wishes.Request.{Request}
use Rattle.omega_model.proofs.Growing.{by_place_push_where}
use Rattle.omega_model.proofs.Standing.{has_left-other, standing_push}
use Rattle.omega_laws.specs.NextCommit.{NobodyHasWork}
use Rattle.omega_laws.proofs.Places.{nothing_past}

-- what a scheduler has left when the rows are applied: all its requests
pub has_left_opened : (settings : Settings) (trace : TraceTables) (rows : List Row) (base : List Entry) (scheduler : ℕ)
    → HasLeft settings trace rows (length base) scheduler base (requests settings trace rows base scheduler)
has_left_opened settings trace rows base scheduler = record {
  remains = rw (take-length base, drop_of_length-le base {i = length base} (omega arith)) refl;
  due = λ place entry is here. absurd (nothing_past base place entry is here);
}

-- something remains after the attempt on the first request
after_own : (settings : Settings) (scheduler : ℕ) (before : List Entry) (seen : ℕ) (txn : Txn) (reply : List Judgement) (standing : Option Standing)
    → AgreesWithFirst settings scheduler before seen txn standing
    → (left : List Request) × (option_map (λ (standing : Standing). standing.requests) (after_entry settings scheduler standing (Commit scheduler seen txn reply)) ≡ Some left)
after_own settings scheduler before seen txn reply None agrees = absurd agrees
after_own settings scheduler before seen txn reply (Some standing) agrees =
    let itself : (scheduler == scheduler) ≡ true = eq-eqb scheduler scheduler refl in
    ((moved_on settings standing agrees.0 agrees.1.0 (outcomes_of txn.claims reply)).requests, rw (itself, agrees.1.1.0) refl)

-- so it does after a commit of a scheduler that agrees with its first request
has_left-own : (settings : Settings) (trace : TraceTables) (rows : List Row) (opened_at scheduler : ℕ) (before : List Entry) (seen : ℕ) (txn : Txn) (reply : List Judgement) (left : List Request)
    → opened_at ≤ length before
    → AgreesWithFirst settings scheduler before seen txn (standing_of settings trace rows opened_at scheduler before)
    → HasLeft settings trace rows opened_at scheduler before left
    → (left : List Request) × HasLeft settings trace rows opened_at scheduler (before ++ Commit scheduler seen txn reply ∷ []) left
has_left-own settings trace rows opened_at scheduler before seen txn reply left within agrees has =
    let after = after_own settings scheduler before seen txn reply (standing_of settings trace rows opened_at scheduler before) agrees in (
      after.0,
      record {
        remains = ap (option_map (λ (standing : Standing). standing.requests))
            (standing_push settings trace rows opened_at scheduler before (Commit scheduler seen txn reply) within) ∙ after.1;
        due = by_place_push_where (λ place. opened_at ≤ place) (IsDue settings trace rows opened_at scheduler) before (Commit scheduler seen txn reply) has.due
            (λ same. agrees);
      },
    )

module _ (settings : Settings) (trace : TraceTables) (rows : List Row) (start : List Entry) (round : Round) where
  -- a round whose rows are applied is under way
  pub round_first : RoundSoFar settings trace rows start round (opened trace rows start round).history
  round_first =
      let base : List Entry = (opened trace rows start round).history in
      record {
        begins = take-length base;
        commits = λ place entry is here. absurd (nothing_past base place entry is here);
        work = λ scheduler known. (requests settings trace (rows ++ round.rows) base scheduler, has_left_opened settings trace (rows ++ round.rows) base scheduler);
      }

  -- it is still under way after a commit that may stand there and agrees with its scheduler's first request
  pub round_push : (before : List Entry) (scheduler seen : ℕ) (txn : Txn) (reply : List Judgement)
      → RoundSoFar settings trace rows start round before
      → length (opened trace rows start round).history ≤ length before
      → MayCommit settings (length (opened trace rows start round).history) before scheduler seen txn reply
      → AgreesWithFirst settings scheduler before seen txn
      (standing_of settings trace (rows ++ round.rows) (length (opened trace rows start round).history) scheduler before)
      → RoundSoFar settings trace rows start round (before ++ Commit scheduler seen txn reply ∷ [])
  round_push before scheduler seen txn reply so_far within may agrees =
      let base : List Entry = (opened trace rows start round).history in
      let entry : Entry = Commit scheduler seen txn reply in
      record {
        begins = take-append-le (length base) before (entry ∷ []) within ∙ so_far.begins;
        commits = by_place_push_where (λ place. length base ≤ place) (IsCommitOfRound settings (length base)) before entry so_far.commits may;
        work = λ other known. elim (eqb_tells other scheduler) [
          | inl same ↦
              subst (λ (s : ℕ). (left : List Request) × HasLeft settings trace (rows ++ round.rows) (length base) s (before ++ entry ∷ []) left) (sym same.1)
              (has_left-own settings trace (rows ++ round.rows) (length base) scheduler before seen txn reply (so_far.work scheduler may.known).0 within agrees
              (so_far.work scheduler may.known).1)
          | inr apart ↦ (
            (so_far.work other known).0,
            has_left-other settings trace (rows ++ round.rows) (length base) other before entry (so_far.work other known).0
                (ne_eqb scheduler other (λ same. apart.1 (sym same))) within (so_far.work other known).1,
          )
        ];
      }

  -- where nobody has work it is whole
  pub round_ends : (history : List Entry)
      → RoundSoFar settings trace rows start round history
      → NobodyHasWork settings trace (rows ++ round.rows) (length (opened trace rows start round).history) history
      → RoundOf settings trace rows start round history
  round_ends history so_far idle = record {
    begun = so_far;
    finished = λ scheduler known.
        let left : List Request = (so_far.work scheduler known).0 in
        let has = (so_far.work scheduler known).1 in
        let both : Some left ≡ Some [] = sym has.remains ∙ idle scheduler known in
        let none : left ≡ [] = cc in
        subst (λ (l : List Request). HasLeft settings trace (rows ++ round.rows) (length (opened trace rows start round).history) scheduler history l) none has;
  }
