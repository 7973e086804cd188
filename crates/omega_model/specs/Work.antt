-- What is left of a scheduler's requests after its commits of a round.
use Rattle.std.specs.Prelude.{◌≡◌, ℕ, Bool, List, [], ◌∷◌, Option, Some, None, option_map, ◌+◌, ◌==◌, ◌&&◌, ◌||◌, ◌≤◌, false, not, nat_le, length, map, take, drop, slice_get, if◌then◌else◌}
use Rattle.std.specs.List.{filter, fold, list_any, count_by, zip}
use Rattle.omega_model.specs.Keys.{same_key}
use Rattle.omega_model.specs.Policy.{policy_of}
use Rattle.omega_model.specs.Planning.{plan_for}
use Rattle.omega_model.specs.Requests.{requests, failed}
use Rattle.omega_model.specs.Draws.{drawn_start}
use Rattle.omega_model.specs.State.{state}
use Rattle.omega_model.specs.Touches.{is_placed}
use Rattle.omega_model.specs.declared.claims.Claim.{Claim}
use Rattle.omega_model.specs.declared.claims.Outcome.{Outcome}
use Rattle.omega_model.specs.declared.claims.Txn.{Txn}
use Rattle.omega_model.specs.declared.claims.Judgement.{Judgement}
use Rattle.omega_model.specs.declared.entries.Entry.{Entry}
use Rattle.omega_model.specs.declared.entries.Entry.TheVariants.{Commit}
use Rattle.omega_model.specs.declared.rows.Row.{Row}
use Rattle.omega_model.specs.declared.rows.TraceTables.{TraceTables}
use Rattle.omega_model.specs.declared.settings.Settings.{Settings}
use Rattle.omega_model.specs.declared.wishes.Request.{Request}
use Rattle.omega_model.specs.declared.wishes.Wish.{Wish}

-- a scheduler's requests in the middle of a round: those that remain, how many attempts the first of
-- them has had, and for each job how many commits for it in a row placed nothing
pub record Standing : Type 0 where
  pub requests : List Request
  pub taken : ℕ
  pub failing : ℕ → ℕ

-- these requests before the first attempt on them
abbrev pub fresh : (ℕ → ℕ) → List Request → Standing
fresh failing left = record { requests = left; taken = 0; failing = failing }

-- whether the outcomes place this wish
abbrev pub places_wish : List Outcome → Wish → Bool
places_wish outcomes wish = list_any (λ outcome. is_placed outcome.verdict && same_key outcome.key wish.key) outcomes

-- the request with the wishes that the outcomes leave
abbrev pub rest_of : Request → List Outcome → Request
rest_of request outcomes =
    record { job = request.job; wishes = filter (λ wish. not (places_wish outcomes wish)) request.wishes }

-- the number of failed commits in a row after these outcomes
abbrev pub failing_after : ℕ → List Outcome → ℕ
failing_after count outcomes = if list_any (λ outcome. is_placed outcome.verdict) outcomes then 0 else count + 1

-- the number of failed commits in a row of each job after these outcomes for one of them
abbrev pub failing_with : (ℕ → ℕ) → ℕ → List Outcome → ℕ → ℕ
failing_with failing job outcomes other = if other == job then failing_after (failing job) outcomes else failing other

-- whether a list has no item
abbrev pub is_empty : {X : Type 0} → List X → Bool
is_empty items = length items == 0

-- whether outcomes end the request: all is placed, nothing was claimed, it was the last try, or the
-- job is given up
abbrev pub ends_request : Settings → ℕ → ℕ → Request → List Outcome → Bool
ends_request settings taken failing request outcomes =
    is_empty (rest_of request outcomes).wishes || is_empty outcomes || nat_le settings.tries taken || nat_le settings.give_up failing

-- the requests after an attempt on the first of them
abbrev pub moved_on : Settings → Standing → Request → List Request → List Outcome → Standing
moved_on settings standing request rest outcomes =
    if ends_request settings (standing.taken + 1) (failing_after (standing.failing request.job) outcomes) request outcomes
    then fresh (failing_with standing.failing request.job outcomes) rest
    else record {
      requests = rest_of request outcomes ∷ rest;
      taken = standing.taken + 1;
      failing = failing_with standing.failing request.job outcomes;
    }

-- the requests after one more list of outcomes; there is no answer where no request remains for it
abbrev pub after_outcomes : Settings → Standing → List Request → List Outcome → Option Standing
after_outcomes settings standing [] outcomes = None
after_outcomes settings standing (request ∷ rest) outcomes = Some (moved_on settings standing request rest outcomes)

-- the outcomes of a commit: each claim's task with its verdict and those that it evicted
abbrev pub outcomes_of : List Claim → List Judgement → List Outcome
outcomes_of claims reply =
    map (λ decided. record { key = decided.0.key; verdict = decided.1.verdict; evicted = decided.1.evicted })
    (zip claims reply)

-- the requests of a scheduler after an entry: only its own commits change them
abbrev pub after_entry : Settings → ℕ → Option Standing → Entry → Option Standing
after_entry settings scheduler None entry = None
after_entry settings scheduler (Some standing) (Commit by seen txn reply) =
    if by == scheduler
    then after_outcomes settings standing standing.requests (outcomes_of txn.claims reply)
    else Some standing
after_entry settings scheduler (Some standing) _ = Some standing

-- the requests of a scheduler after the entries of a history from place opened_at on, at which the
-- round's rows were applied
abbrev pub standing_of : Settings → TraceTables → List Row → ℕ → ℕ → List Entry → Option Standing
standing_of settings trace rows opened_at scheduler history =
    fold (after_entry settings scheduler)
    (Some (fresh (failed (take opened_at history)) (requests settings trace rows (take opened_at history) scheduler)))
    (drop opened_at history)

-- whether an entry is a commit of this scheduler
abbrev pub is_commit_of : ℕ → Entry → Bool
is_commit_of scheduler (Commit by seen txn reply) = by == scheduler
is_commit_of scheduler _ = false

-- how many commits of this scheduler stand in a history
abbrev pub commits_of : ℕ → List Entry → ℕ
commits_of scheduler history = count_by (is_commit_of scheduler) history

-- the claims that a scheduler plans for these wishes on the state of the first entries that it had
-- seen, as its attempt of this number
abbrev pub planned : Settings → ℕ → ℕ → List Entry → List Wish → List Claim
planned settings scheduler attempt seen_entries wishes =
    plan_for (state seen_entries) wishes
    (drawn_start settings scheduler attempt (length (state seen_entries).machines))
    (policy_of settings scheduler)

-- a transaction, with so many entries seen, is the attempt on this request that is due after these
-- entries
pub record Agrees (settings : Settings) (scheduler : ℕ) (before : List Entry) (seen : ℕ) (txn : Txn) (request : Request) : Type 0 where
  pub job : txn.job ≡ request.job
  pub rule : txn.rule ≡ (policy_of settings scheduler).rule
  pub mode : txn.mode ≡ (policy_of settings scheduler).mode
  pub claims : txn.claims ≡ planned settings scheduler (commits_of scheduler before) (take seen before) request.wishes

-- the first request that remains is the one that a transaction agrees with
abbrev pub AgreesWithFirst : Settings → ℕ → List Entry → ℕ → Txn → Option Standing → Type 0
AgreesWithFirst settings scheduler before seen txn None = ⊥
AgreesWithFirst settings scheduler before seen txn (Some standing) =
    (request : Request) × ((rest : List Request) × ((standing.requests ≡ request ∷ rest)
    × Agrees settings scheduler before seen txn request))

-- an entry after these, if it is a commit of the scheduler, agrees with the first request that remains
abbrev pub IsDue : Settings → TraceTables → List Row → ℕ → ℕ → List Entry → Entry → Type 0
IsDue settings trace rows opened_at scheduler before (Commit by seen txn reply) =
    by ≡ scheduler
    → AgreesWithFirst settings scheduler before seen txn (standing_of settings trace rows opened_at scheduler before)
IsDue settings trace rows opened_at scheduler before _ = Unit {0}

-- what is left of the scheduler's requests is this, and each of its commits since place opened_at agrees
-- with the first request that remained before it
pub record HasLeft (settings : Settings) (trace : TraceTables) (rows : List Row) (opened_at scheduler : ℕ) (history : List Entry) (left : List Request) : Type 0 where
  pub remains : option_map (λ (standing : Standing). standing.requests) (standing_of settings trace rows opened_at scheduler history) ≡ Some left
  pub due : (place : ℕ) (entry : Entry) → slice_get history place ≡ Some entry → opened_at ≤ place
      → IsDue settings trace rows opened_at scheduler (take place history) entry
