-- What holds of each request that a scheduler has left in a round.
use Rattle.std.proofs.Common.{◌≡◌, ◌≢◌, ℕ, true, false, List, [], ◌∷◌, drop, take, Option, Some, None, ap, subst, ◌==◌, ◌+◌}
use Rattle.std.specs.List.{filter, fold, AllByRecursion as Each}
use Rattle.std.specs.Prelude.{option_map}
use Rattle.omega_model.specs.Feed.{feed}
use Rattle.omega_model.specs.Requests.{failed, jobs_in_order, request_of, requests, wishes_of, works_on}
use Rattle.omega_model.specs.State.{state}
use Rattle.omega_model.specs.Wanted.{wanted}
use Rattle.omega_model.specs.Work.{Standing, after_entry, after_outcomes, ends_request, failing_after, fresh, is_empty, moved_on, outcomes_of, rest_of, standing_of}
use Rattle.omega_model.specs.declared.claims.Outcome.{Outcome}
use Rattle.omega_model.specs.declared.entries.Entry.{Entry}
use Rattle.omega_model.specs.declared.entries.Entry.TheVariants.{Round, MachineAdd, MachineUpdate, MachineRemove, AttrSet, AttrDelete, End, Commit}
use Rattle.omega_model.specs.declared.rows.Row.{Row}
use Rattle.omega_model.specs.declared.rows.TraceTables.{TraceTables}
use Rattle.omega_model.specs.declared.settings.Settings.{Settings}
use Rattle.omega_model.specs.declared.wishes.Request.{Request}
use Rattle.omega_model.specs.declared.wishes.Wish.{Wish}
use Rattle.omega_model.proofs.Lists.{by_answer, each_of}
use Rattle.omega_laws.proofs.Suited.{OfValue, each_mapped}

-- what holds of each request that a round begins with, and of what is left of such a one that doesn't end, holds
-- of each that remains
module _ (settings : Settings) (Holds : Request → Type 0)
    (stays : (taken failing : ℕ) (request : Request) (outcomes : List Outcome) → Holds request
    → ends_request settings taken failing request outcomes ≡ false → Holds (rest_of request outcomes)) where
  abbrev pub EachHolds : Standing → Type 0
  EachHolds standing = Each Holds standing.requests

  moved_holds : (standing : Standing) (request : Request) (rest : List Request) (outcomes : List Outcome)
      → Holds request → Each Holds rest → EachHolds (moved_on settings standing request rest outcomes)
  moved_holds standing request rest outcomes holds others =
      by_answer (ends_request settings (standing.taken + 1) (failing_after (standing.failing request.job) outcomes) request outcomes)
      (λ t. rw t others)
      (λ f. rw f (stays (standing.taken + 1) (failing_after (standing.failing request.job) outcomes) request outcomes holds f, others))

  outcomes_hold : (standing : Standing) (left : List Request) (outcomes : List Outcome) → Each Holds left
      → OfValue EachHolds (after_outcomes settings standing left outcomes)
  outcomes_hold standing [] outcomes all = tt
  outcomes_hold standing (request ∷ rest) outcomes all = moved_holds standing request rest outcomes all.0 all.1

  entry_holds : (scheduler : ℕ) (standing : Option Standing) (entry : Entry) → OfValue EachHolds standing
      → OfValue EachHolds (after_entry settings scheduler standing entry)
  entry_holds scheduler None entry all = tt
  entry_holds scheduler (Some standing) (Round number) all = all
  entry_holds scheduler (Some standing) (MachineAdd machine cap) all = all
  entry_holds scheduler (Some standing) (MachineUpdate machine cap) all = all
  entry_holds scheduler (Some standing) (MachineRemove machine) all = all
  entry_holds scheduler (Some standing) (AttrSet machine name value) all = all
  entry_holds scheduler (Some standing) (AttrDelete machine name) all = all
  entry_holds scheduler (Some standing) (End key machine) all = all
  entry_holds scheduler (Some standing) (Commit by seen txn reply) all =
      by_answer (by == scheduler)
      (λ t. rw t (outcomes_hold standing standing.requests (outcomes_of txn.claims reply) all))
      (λ f. rw f all)

  entries_hold : (scheduler : ℕ) (standing : Option Standing) (entries : List Entry) → OfValue EachHolds standing
      → OfValue EachHolds (fold (after_entry settings scheduler) standing entries)
  entries_hold scheduler standing [] all = all
  entries_hold scheduler standing (entry ∷ entries) all =
      entries_hold scheduler (after_entry settings scheduler standing entry) entries (entry_holds scheduler standing entry all)

  pub standing_holds : (trace : TraceTables) (rows : List Row) (opened_at scheduler : ℕ) (history : List Entry)
      → Each Holds (requests settings trace rows (take opened_at history) scheduler)
      → OfValue EachHolds (standing_of settings trace rows opened_at scheduler history)
  standing_holds trace rows opened_at scheduler history =
      entries_hold scheduler (Some (fresh (failed (take opened_at history)) (requests settings trace rows (take opened_at history) scheduler)))
      (drop opened_at history)

-- what holds of each request that remains holds of the first
pub first_left : (P : Request → Type 0) (standing : Option Standing) (request : Request) (rest : List Request)
    → OfValue (λ (standing : Standing). Each P standing.requests) standing
    → option_map (λ (standing : Standing). standing.requests) standing ≡ Some (request ∷ rest) → P request
first_left P None request rest all is = absurd (cc)
first_left P (Some standing) request rest all is =
    let same : standing.requests ≡ request ∷ rest = cc in
    (subst (λ (requests : List Request). Each P requests) same all).0

-- a request wishes for something
abbrev pub Wishes : Request → Type 0
Wishes request = request.wishes ≢ []

module _ (settings : Settings) where
  still_wishes : (taken failing : ℕ) (request : Request) (outcomes : List Outcome) → Wishes request
      → ends_request settings taken failing request outcomes ≡ false → Wishes (rest_of request outcomes)
  still_wishes taken failing request outcomes wishes goes_on none =
      let all : is_empty (rest_of request outcomes).wishes ≡ true = ap (λ (left : List Wish). is_empty left) none in
      let clash = rw all at goes_on in absurd (cc)

  requests_wish : (trace : TraceTables) (rows : List Row) (history : List Entry) (scheduler : ℕ) → Each Wishes (requests settings trace rows history scheduler)
  requests_wish trace rows history scheduler =
      let some : List ℕ = filter (works_on settings trace history scheduler) (jobs_in_order (feed trace)) in
      let any : ℕ → Type 0 = λ job. Unit {0} in
      each_mapped any Wishes (λ job. request_of job (wishes_of settings trace (state history) (wanted rows) job))
      (λ job is. asked job (wishes_of settings trace (state history) (wanted rows) job)) some (each_of any (λ job. tt) some) where
        asked : (job : ℕ) (wishes : List Wish) → OfValue Wishes (request_of job wishes)
        asked job [] = tt
        asked job (wish ∷ wishes) = λ none. absurd (cc)

  -- each request that a scheduler has left in a round wishes for something
  pub standing_wishes : (trace : TraceTables) (rows : List Row) (opened_at scheduler : ℕ) (history : List Entry)
      → OfValue (λ (standing : Standing). Each Wishes standing.requests) (standing_of settings trace rows opened_at scheduler history)
  standing_wishes trace rows opened_at scheduler history =
      standing_holds settings Wishes still_wishes trace rows opened_at scheduler history (requests_wish trace rows (take opened_at history) scheduler)
