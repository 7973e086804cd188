-- In a round that is under way what a scheduler has left is for its own jobs, and each of these has failed as
-- often as the scheduler's own commits say.
use Rattle.std.proofs.Common.{◌≡◌, ◌≢◌, ◌≤◌, ◌<◌, ℕ, true, false, List, [], ◌∷◌, ◌++◌, length, take, drop, Option, Some, None, refl, sym, ap, subst, arith, ◌∙◌, inl, inr, ◌==◌, if◌then◌else◌}
use Rattle.std.specs.Prelude.{slice_get}
use Rattle.std.specs.List.{All, fold}
use Rattle.std.proofs.Math.ListN.{drop_of_length-le}
use Rattle.std.proofs.Math.Seq.{take-length}
use Rattle.std.proofs.lemmas.Bool.{eq-eqb, ne_eqb}
use Rattle.std.proofs.lemmas.Bool.Decides.{eqb_tells}
use Rattle.std.proofs.lemmas.List.{append-nil, take-append-drop}
use Rattle.std.proofs.lemmas.List.Elements.{All-head}
use Rattle.omega_model.proofs.Standing.{after_entry-other, standing_push}
use Rattle.omega_model.specs.Lawful.{IsCommitOfRound, RoundSoFar, opened}
use Rattle.omega_model.specs.Policy.{schedulers}
use Rattle.omega_model.specs.Requests.{failed, requests}
use Rattle.omega_model.specs.Routing.{scheduler_of}
use Rattle.omega_model.specs.Work.{AgreesWithFirst, IsDue, Standing, after_entry, after_outcomes, failing_with, fresh, moved_on, outcomes_of, standing_of}
use Rattle.omega_model.specs.declared.claims.Judgement.{Judgement}
use Rattle.omega_model.specs.declared.claims.Outcome.{Outcome}
use Rattle.omega_model.specs.declared.claims.Txn.{Txn}
use Rattle.omega_model.specs.declared.entries.Entry.{Entry}
use Rattle.omega_model.specs.declared.entries.Entry.TheVariants.{Round as RoundEntry, MachineAdd, MachineUpdate, MachineRemove, AttrSet, AttrDelete, End, Commit}
use Rattle.omega_model.specs.declared.rows.Row.{Row}
use Rattle.omega_model.specs.declared.rows.Round.{Round}
use Rattle.omega_model.specs.declared.rows.TraceTables.{TraceTables}
use Rattle.omega_model.specs.declared.settings.Settings.{Settings}
use Rattle.omega_model.specs.declared.wishes.Request.{Request}
use Rattle.omega_workers.specs.Workers.{IsRoutedTo}
use Rattle.omega_workers.proofs.CommitCounts.{failed_commit, failed_other, length-reply_of}
use Rattle.omega_rounds.proofs.DeskCommits.{ends_at, moved_failing, moved_requests, own_after}
use Rattle.omega_laws.proofs.Places.{at_seam_from, front_push, longer}
use Rattle.omega_rounds.proofs.Requested.{requests_own}

-- what is left, where it is known, is for jobs of the scheduler
abbrev pub AreOwn : Settings → TraceTables → ℕ → Option Standing → Type 0
AreOwn settings trace scheduler None = Unit {0}
AreOwn settings trace scheduler (Some standing) = All (IsRoutedTo settings trace scheduler) standing.requests

-- each job of the scheduler has failed as often as is counted there
abbrev pub AreCounted : Settings → TraceTables → ℕ → List Entry → Option Standing → Type 0
AreCounted settings trace scheduler history None = Unit {0}
AreCounted settings trace scheduler history (Some standing) =
    (job : ℕ) → scheduler_of settings trace job ≡ scheduler → failed history job ≡ standing.failing job

module _ (settings : Settings) (trace : TraceTables) where
  own_outcomes : (scheduler : ℕ) (standing : Standing) (left : List Request) (outcomes : List Outcome)
      → All (IsRoutedTo settings trace scheduler) left → AreOwn settings trace scheduler (after_outcomes settings standing left outcomes)
  own_outcomes scheduler standing [] outcomes own = tt
  own_outcomes scheduler standing (request ∷ rest) outcomes own =
      subst (All (IsRoutedTo settings trace scheduler)) (sym (moved_requests settings standing request rest outcomes))
      (own_after settings trace scheduler (ends_at settings standing request outcomes) request rest outcomes own)

  own_entry : (scheduler : ℕ) (standing : Option Standing) (entry : Entry) → AreOwn settings trace scheduler standing
      → AreOwn settings trace scheduler (after_entry settings scheduler standing entry)
  own_entry scheduler None entry own = tt
  own_entry scheduler (Some standing) (RoundEntry number) own = own
  own_entry scheduler (Some standing) (MachineAdd machine cap) own = own
  own_entry scheduler (Some standing) (MachineUpdate machine cap) own = own
  own_entry scheduler (Some standing) (MachineRemove machine) own = own
  own_entry scheduler (Some standing) (AttrSet machine name value) own = own
  own_entry scheduler (Some standing) (AttrDelete machine name) own = own
  own_entry scheduler (Some standing) (End key machine) own = own
  own_entry scheduler (Some standing) (Commit by seen txn reply) own =
      elim (by == scheduler) as (λ test.
      AreOwn settings trace scheduler (if test then after_outcomes settings standing standing.requests (outcomes_of txn.claims reply) else Some standing))
      [ true ↦ own_outcomes scheduler standing standing.requests (outcomes_of txn.claims reply) own | false ↦ own ]

  own_fold : (scheduler : ℕ) (standing : Option Standing) (entries : List Entry) → AreOwn settings trace scheduler standing
      → AreOwn settings trace scheduler (fold (after_entry settings scheduler) standing entries)
  own_fold scheduler standing [] own = own
  own_fold scheduler standing (entry ∷ entries) own =
      own_fold scheduler (after_entry settings scheduler standing entry) entries (own_entry scheduler standing entry own)

  -- what a scheduler has left is for its own jobs
  own_left : (rows : List Row) (opened_at scheduler : ℕ) (history : List Entry) → AreOwn settings trace scheduler (standing_of settings trace rows opened_at scheduler history)
  own_left rows opened_at scheduler history =
      own_fold scheduler (Some (fresh (failed (take opened_at history)) (requests settings trace rows (take opened_at history) scheduler))) (drop opened_at history)
      (requests_own settings trace rows (take opened_at history) scheduler)

  -- a commit that is due is for a job of its scheduler
  commit_own : (by seen : ℕ) (before : List Entry) (txn : Txn) (standing : Option Standing) → AreOwn settings trace by standing
      → AgreesWithFirst settings by before seen txn standing → scheduler_of settings trace txn.job ≡ by
  commit_own by seen before txn None own agrees = absurd agrees
  commit_own by seen before txn (Some standing) own agrees =
      ap (scheduler_of settings trace) agrees.1.1.1.job
      ∙ All-head (IsRoutedTo settings trace by) agrees.0 agrees.1.0 (subst (All (IsRoutedTo settings trace by)) agrees.1.1.0 own)

  -- after a commit of the scheduler
  counted_own : (scheduler seen : ℕ) (before : List Entry) (txn : Txn) (reply : List Judgement) (standing : Option Standing)
      → AreOwn settings trace scheduler standing → AgreesWithFirst settings scheduler before seen txn standing → length reply ≡ length txn.claims
      → AreCounted settings trace scheduler before standing
      → AreCounted settings trace scheduler (before ++ Commit scheduler seen txn reply ∷ []) (after_entry settings scheduler standing (Commit scheduler seen txn reply))
  counted_own scheduler seen before txn reply None own agrees long counted = absurd agrees
  counted_own scheduler seen before txn reply (Some standing) own agrees long counted =
      let request : Request = agrees.0 in
      let rest : List Request = agrees.1.0 in
      let outcomes : List Outcome = outcomes_of txn.claims reply in
      let itself : (scheduler == scheduler) ≡ true = eq-eqb scheduler scheduler refl in
      let first : standing.requests ≡ request ∷ rest = agrees.1.1.0 in
      let step : after_entry settings scheduler (Some standing) (Commit scheduler seen txn reply) ≡ Some (moved_on settings standing request rest outcomes) =
      rw (itself, first) refl in
      subst (AreCounted settings trace scheduler (before ++ Commit scheduler seen txn reply ∷ [])) (sym step) (λ job its.
      failed_commit before scheduler seen txn reply standing.failing job long (counted txn.job (commit_own scheduler seen before txn (Some standing) own agrees)) (counted job its)
      ∙ ap (λ (one : ℕ). failing_with standing.failing one outcomes job) agrees.1.1.1.job
      ∙ sym (moved_failing settings standing request rest outcomes job))

  -- after a commit of another
  counted_other : (scheduler by seen : ℕ) (before : List Entry) (txn : Txn) (reply : List Judgement) (standing : Option Standing)
      → by ≢ scheduler → scheduler_of settings trace txn.job ≡ by → AreCounted settings trace scheduler before standing
      → AreCounted settings trace scheduler (before ++ Commit by seen txn reply ∷ []) standing
  counted_other scheduler by seen before txn reply None apart routed counted = tt
  counted_other scheduler by seen before txn reply (Some standing) apart routed counted = λ job its.
      failed_other before by seen txn reply job (λ same. apart (sym routed ∙ ap (scheduler_of settings trace) same ∙ its)) ∙ counted job its

  module _ (rows : List Row) (opened_at : ℕ) where
    abbrev standing_at : ℕ → List Entry → Option Standing
    standing_at scheduler history = standing_of settings trace rows opened_at scheduler history

    -- after one more commit of the round that is due
    counted_commit : (scheduler : ℕ) (before : List Entry) (by seen : ℕ) (txn : Txn) (reply : List Judgement) → opened_at ≤ length before
        → length reply ≡ length txn.claims → AgreesWithFirst settings by before seen txn (standing_at by before)
        → AreCounted settings trace scheduler before (standing_at scheduler before)
        → AreCounted settings trace scheduler (before ++ Commit by seen txn reply ∷ []) (standing_at scheduler (before ++ Commit by seen txn reply ∷ []))
    counted_commit scheduler before by seen txn reply within long agrees counted =
        let entry : Entry = Commit by seen txn reply in
        subst (AreCounted settings trace scheduler (before ++ entry ∷ [])) (sym (standing_push settings trace rows opened_at scheduler before entry within))
        (elim (eqb_tells by scheduler) [
          | inl same ↦
              subst (λ (n : ℕ). AreCounted settings trace scheduler (before ++ Commit n seen txn reply ∷ []) (after_entry settings scheduler (standing_at scheduler before) (Commit n seen txn reply))) (sym same.1)
              (counted_own scheduler seen before txn reply (standing_at scheduler before) (own_left rows opened_at scheduler before)
              (subst (λ (n : ℕ). AgreesWithFirst settings n before seen txn (standing_at n before)) same.1 agrees) long counted)
          | inr apart ↦
              subst (AreCounted settings trace scheduler (before ++ entry ∷ [])) (sym (after_entry-other settings scheduler (standing_at scheduler before) entry (ne_eqb by scheduler apart.1)))
              (counted_other scheduler by seen before txn reply (standing_at scheduler before) apart.1
              (commit_own by seen before txn (standing_at by before) (own_left rows opened_at by before) agrees) counted)
        ])

    counted_step : (scheduler : ℕ) (before : List Entry) (entry : Entry) → opened_at ≤ length before
        → IsCommitOfRound settings opened_at before entry
        → ((by : ℕ) → by < schedulers settings → IsDue settings trace rows opened_at by before entry)
        → AreCounted settings trace scheduler before (standing_at scheduler before)
        → AreCounted settings trace scheduler (before ++ entry ∷ []) (standing_at scheduler (before ++ entry ∷ []))
    counted_step scheduler before (RoundEntry number) within is due counted = absurd is
    counted_step scheduler before (MachineAdd machine cap) within is due counted = absurd is
    counted_step scheduler before (MachineUpdate machine cap) within is due counted = absurd is
    counted_step scheduler before (MachineRemove machine) within is due counted = absurd is
    counted_step scheduler before (AttrSet machine name value) within is due counted = absurd is
    counted_step scheduler before (AttrDelete machine name) within is due counted = absurd is
    counted_step scheduler before (End key machine) within is due counted = absurd is
    counted_step scheduler before (Commit by seen txn reply) within may due counted =
        counted_commit scheduler before by seen txn reply within (ap length may.answered ∙ length-reply_of before seen txn) (due by may.known refl) counted

    module _ (history : List Entry)
        (commits : (place : ℕ) (entry : Entry) → slice_get history place ≡ Some entry → opened_at ≤ place → IsCommitOfRound settings opened_at (take place history) entry)
        (due : (by : ℕ) → by < schedulers settings
        → (place : ℕ) (entry : Entry) → slice_get history place ≡ Some entry → opened_at ≤ place → IsDue settings trace rows opened_at by (take place history) entry) where
      counted_walk : (scheduler : ℕ) (front later : List Entry) → history ≡ front ++ later → opened_at ≤ length front
          → AreCounted settings trace scheduler front (standing_at scheduler front)
          → AreCounted settings trace scheduler history (standing_at scheduler history)
      counted_walk scheduler front [] is within counted =
          subst (λ (h : List Entry). AreCounted settings trace scheduler h (standing_at scheduler h)) (sym (is ∙ append-nil front)) counted
      counted_walk scheduler front (entry ∷ later) is within counted =
          counted_walk scheduler (front ++ entry ∷ []) later (front_push history front entry later is) (longer opened_at front entry within)
          (counted_step scheduler front entry within
          (at_seam_from (IsCommitOfRound settings opened_at) opened_at history front entry later is within commits)
          (λ by known. at_seam_from (IsDue settings trace rows opened_at by) opened_at history front entry later is within (due by known)) counted)

  -- as the rows end
  counted_opened : (rows : List Row) (base : List Entry) (scheduler : ℕ) → AreCounted settings trace scheduler base (standing_of settings trace rows (length base) scheduler base)
  counted_opened rows base scheduler =
      let is : standing_of settings trace rows (length base) scheduler base ≡ Some (fresh (failed base) (requests settings trace rows base scheduler)) =
      rw (take-length base, drop_of_length-le base {i = length base} (omega arith)) refl in
      subst (AreCounted settings trace scheduler base) (sym is) (λ job its. refl)

  at_some : (scheduler : ℕ) (history : List Entry) (known : Option Standing) (standing : Standing) → AreCounted settings trace scheduler history known → known ≡ Some standing
      → (job : ℕ) → scheduler_of settings trace job ≡ scheduler → failed history job ≡ standing.failing job
  at_some scheduler history known standing counted is = subst (AreCounted settings trace scheduler history) is counted

  -- in a round that is under way
  pub counted_so_far : (rows : List Row) (start : List Entry) (round : Round) (history : List Entry) → RoundSoFar settings trace rows start round history
      → (scheduler : ℕ) (standing : Standing)
      → standing_of settings trace (rows ++ round.rows) (length (opened trace rows start round).history) scheduler history ≡ Some standing
      → (job : ℕ) → scheduler_of settings trace job ≡ scheduler → failed history job ≡ standing.failing job
  counted_so_far rows start round history so_far scheduler standing =
      let base : List Entry = (opened trace rows start round).history in
      let cut : history ≡ base ++ drop (length base) history =
      sym (take-append-drop (length base) history) ∙ ap (λ (front : List Entry). front ++ drop (length base) history) so_far.begins in
      at_some scheduler history (standing_of settings trace (rows ++ round.rows) (length base) scheduler history) standing
      (counted_walk (rows ++ round.rows) (length base) history so_far.commits (λ by known. (so_far.work by known).1.due) scheduler base (drop (length base) history) cut (omega arith)
      (counted_opened (rows ++ round.rows) base scheduler))
