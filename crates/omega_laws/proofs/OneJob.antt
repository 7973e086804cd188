-- The wishes of a request are for tasks of its job, at each moment of a round.
use Rattle.std.proofs.Common.{◌≡◌, ℕ, true, false, not, List, [], ◌∷◌, length, take, map, sym, subst, ◌==◌}
use Rattle.std.specs.List.{filter, AllByRecursion as Each}
use Rattle.std.proofs.lemmas.Bool.{eqb-true}
use Rattle.omega_model.specs.Cell.{Cell}
use Rattle.omega_model.specs.Draws.{drawn_start}
use Rattle.omega_model.specs.Feed.{feed}
use Rattle.omega_model.specs.ExtraTasks.{wishes_for_extras}
use Rattle.omega_model.specs.Requests.{is_waiting, jobs_in_order, request_of, requests, wishes_of, works_on}
use Rattle.omega_model.specs.Wishes.{wish_of}
use Rattle.omega_model.specs.Policy.{policy_of}
use Rattle.omega_model.specs.State.{state}
use Rattle.omega_model.specs.Wanted.{WantedTask, wanted}
use Rattle.omega_model.specs.Work.{Agrees, Standing, commits_of, planned, places_wish, rest_of, standing_of}
use Rattle.omega_model.specs.declared.claims.Claim.{Claim}
use Rattle.omega_model.specs.declared.claims.Mode.{Mode}
use Rattle.omega_model.specs.declared.claims.Outcome.{Outcome}
use Rattle.omega_model.specs.declared.claims.Txn.{Txn}
use Rattle.omega_model.specs.declared.entries.Entry.{Entry}
use Rattle.omega_model.specs.declared.rows.Row.{Row}
use Rattle.omega_model.specs.declared.rows.TraceTables.{TraceTables}
use Rattle.omega_model.specs.declared.settings.Settings.{Settings}
use Rattle.omega_model.specs.declared.wishes.Request.{Request}
use Rattle.omega_model.specs.declared.wishes.Wish.{Wish}
use Rattle.omega_model.proofs.ExtraWishes.{IsExtraOf, extras_are, names_of}
use Rattle.omega_model.proofs.Lists.{by_answer, each_append, each_filter, each_map, each_of, each_passes}
use Rattle.omega_laws.proofs.EachLeft.{standing_holds}
use Rattle.omega_laws.proofs.OtherJobs.{IsPlanFor, each_image, plan_is_for}
use Rattle.omega_laws.proofs.Suited.{OfValue, each_mapped}

-- a wish is for a task of this job
abbrev pub IsOfJob : ℕ → Wish → Type 0
IsOfJob job wish = wish.key.job ≡ job

-- each wish of a request is
abbrev pub AsksForItsJob : Request → Type 0
AsksForItsJob request = Each (IsOfJob request.job) request.wishes

waiting_of_job : (cell : Cell) (job : ℕ) (task : WantedTask) → is_waiting cell job task ≡ true → task.key.job ≡ job
waiting_of_job cell job task waits =
    by_answer (task.key.job == job)
    (λ t. eqb-true task.key.job job t)
    (λ f. let none : false ≡ true = rw f at waits in absurd (cc))

module _ (settings : Settings) (trace : TraceTables) where
  extras_of_job : (cell : Cell) (asked : List WantedTask) (job : ℕ) → Each (IsOfJob job) (wishes_for_extras settings trace cell asked job)
  extras_of_job cell asked job =
      of_names (wishes_for_extras settings trace cell asked job) (extras_are settings trace cell asked job).each where
        of_names : (wishes : List Wish) → Each (IsExtraOf job) (names_of wishes) → Each (IsOfJob job) wishes
        of_names [] each = tt
        of_names (wish ∷ wishes) each = (each.0.0, of_names wishes each.1)

  wishes_of_job : (cell : Cell) (asked : List WantedTask) (job : ℕ) → Each (IsOfJob job) (wishes_of settings trace cell asked job)
  wishes_of_job cell asked job =
      let waiting : List WantedTask = filter (is_waiting cell job) asked in
      each_append (IsOfJob job) (map (wish_of trace) waiting) (wishes_for_extras settings trace cell asked job)
      (each_image (IsOfJob job) (wish_of trace) waiting
      (each_map (λ task. is_waiting cell job task ≡ true) (λ task. IsOfJob job (wish_of trace task)) (waiting_of_job cell job) waiting
      (each_passes (is_waiting cell job) asked)))
      (extras_of_job cell asked job)

  request_asks : (job : ℕ) (wishes : List Wish) → Each (IsOfJob job) wishes → OfValue AsksForItsJob (request_of job wishes)
  request_asks job [] each = tt
  request_asks job (wish ∷ wishes) each = each

  requests_ask : (rows : List Row) (history : List Entry) (scheduler : ℕ) → Each AsksForItsJob (requests settings trace rows history scheduler)
  requests_ask rows history scheduler =
      let some : List ℕ = filter (works_on settings trace history scheduler) (jobs_in_order (feed trace)) in
      let any : ℕ → Type 0 = λ job. Unit {0} in
      each_mapped any AsksForItsJob (λ job. request_of job (wishes_of settings trace (state history) (wanted rows) job))
      (λ job is. request_asks job _ (wishes_of_job (state history) (wanted rows) job)) some (each_of any (λ job. tt) some)

-- each request that remains asks for its job
abbrev pub AllAsk : Standing → Type 0
AllAsk standing = Each AsksForItsJob standing.requests

rest_asks : (request : Request) (outcomes : List Outcome) → AsksForItsJob request → AsksForItsJob (rest_of request outcomes)
rest_asks request outcomes asks = each_filter (IsOfJob request.job) (λ (wish : Wish). not (places_wish outcomes wish)) request.wishes asks

-- each request that a scheduler has left in a round asks for its job
pub standing_asks : (settings : Settings) (trace : TraceTables) (rows : List Row) (opened_at scheduler : ℕ) (history : List Entry)
    → OfValue AllAsk (standing_of settings trace rows opened_at scheduler history)
standing_asks settings trace rows opened_at scheduler history =
    standing_holds settings AsksForItsJob (λ taken failing request outcomes asks goes_on. rest_asks request outcomes asks)
    trace rows opened_at scheduler history (requests_ask settings trace rows (take opened_at history) scheduler)

module _ (settings : Settings) (trace : TraceTables) where
  -- a plan for a request that asks for its job
  pub plan_of_request : (before : List Entry) (scheduler seen : ℕ) (txn : Txn) (request : Request) → AsksForItsJob request
      → Agrees settings scheduler before seen txn request → IsPlanFor request.job request.wishes txn.mode txn.claims
  plan_of_request before scheduler seen txn request asks agrees =
      let entries : List Entry = take seen before in
      let start : ℕ = drawn_start settings scheduler (commits_of scheduler before) (length (state entries).machines) in
      subst (λ (claims : List Claim). IsPlanFor request.job request.wishes txn.mode claims) (sym agrees.claims)
      (subst (λ (mode : Mode). IsPlanFor request.job request.wishes mode (planned settings scheduler (commits_of scheduler before) entries request.wishes))
      (sym agrees.mode)
      (plan_is_for request.job (state entries) request.wishes start (policy_of settings scheduler) asks))
