-- Commits that are attempts on requests of the trace: each claim is on a machine that meets its constraints, a
-- gang claims all of a request or nothing, and the tasks of the job are spared.
use Rattle.std.specs.Prelude.{◌≡◌, ◌≢◌, ℕ, List, [], Some, ◌⊎◌, All, IsFalse, map, take, slice_get}
use Rattle.omega_model.specs.Keys.{is_among}
use Rattle.omega_model.specs.Lawful.{Underway}
use Rattle.omega_model.specs.Requests.{requests}
use Rattle.omega_model.specs.State.{state}
use Rattle.omega_model.specs.Stepping.{rows_end}
use Rattle.omega_model.specs.Work.{Agrees}
use Rattle.omega_model.specs.declared.cells.TaskKey.{TaskKey}
use Rattle.omega_model.specs.declared.claims.Claim.{Claim}
use Rattle.omega_model.specs.declared.claims.Mode.TheVariants.{Gang}
use Rattle.omega_model.specs.declared.claims.Txn.{Txn}
use Rattle.omega_model.specs.declared.entries.Entry.{Entry}
use Rattle.omega_model.specs.declared.entries.Entry.TheVariants.{Commit}
use Rattle.omega_model.specs.declared.rows.TraceTables.{TraceTables}
use Rattle.omega_model.specs.declared.settings.Settings.{Settings}
use Rattle.omega_model.specs.declared.wishes.Request.{Request}
use Rattle.omega_model.specs.declared.wishes.Wish.{Wish}
use Rattle.omega_laws.specs.Constraints.{SuitsItsWish}
use Rattle.omega_laws.specs.InRound.{rows_now}
use Rattle.omega_laws.specs.NextCommit.{WorksOn}

-- the tasks of some wishes
abbrev pub wished : List Wish → List TaskKey
wished wishes = map (λ wish. wish.key) wishes

-- the tasks of some claims
abbrev pub claimed : List Claim → List TaskKey
claimed claims = map (λ claim. claim.key) claims

-- each wish of a request is for a task of the request's job
abbrev pub IsOfOneJob : Request → Type 0
IsOfOneJob request = All (λ (wish : Wish). wish.key.job ≡ request.job) request.wishes

-- a transaction claims the tasks of all wishes of a request in order, or nothing
abbrev pub ClaimsAllOrNothing : Request → Txn → Type 0
ClaimsAllOrNothing request txn = (claimed txn.claims ≡ wished request.wishes) ⊎ (txn.claims ≡ [])

-- a claim of a transaction is for a task of the transaction's job, its victims are of other jobs, and so
-- none of them is a task that the transaction claims
pub record SparesItsJob (txn : Txn) (claim : Claim) : Type 0 where
  pub own : claim.key.job ≡ txn.job
  pub others : All (λ (victim : TaskKey). victim.job ≢ claim.key.job) claim.victims
  pub unclaimed : All (λ (victim : TaskKey). IsFalse (is_among victim (claimed txn.claims))) claim.victims

-- a request is one of those with which a scheduler began the round that is under way after these entries
abbrev pub BeganWith : (settings : Settings) (trace : TraceTables) (before : List Entry) → Underway settings trace before → ℕ → Request → Type 0
BeganWith settings trace before underway scheduler request =
    (number : ℕ) × (slice_get (requests settings trace (rows_now settings trace before underway)
    (take (rows_end settings trace before underway) before) scheduler) number ≡ Some request)

-- a transaction, with so many entries seen, is the attempt of a scheduler on the first request that it has
-- left in the round that is under way after these entries. Each claim is for a wish of that request, and its
-- machine met the wish's constraints as the scheduler had seen it, and meets them after these entries. Where
-- the transaction is a gang, that is a request with which the round began, and it claims all of it or nothing.
-- And each claim spares the tasks of its job
pub record IsWholeAttempt (settings : Settings) (trace : TraceTables) (before : List Entry) (scheduler seen : ℕ) (txn : Txn) : Type 0 where
  pub underway : Underway settings trace before
  pub request : Request
  pub first : WorksOn settings trace (rows_now settings trace before underway) (rows_end settings trace before underway) before scheduler request
  pub planned : Agrees settings scheduler before seen txn request
  pub one_job : IsOfOneJob request
  pub suited_when_seen : All (SuitsItsWish (state (take seen before)).machines request.wishes) txn.claims
  pub suited : All (SuitsItsWish (state before).machines request.wishes) txn.claims
  pub entire : txn.mode ≡ Gang → BeganWith settings trace before underway scheduler request
  pub whole : txn.mode ≡ Gang → ClaimsAllOrNothing request txn
  pub spares : All (SparesItsJob txn) txn.claims

-- an entry after these, if it is a commit, is such an attempt
abbrev pub CommitsWhole : Settings → TraceTables → List Entry → Entry → Type 0
CommitsWhole settings trace before (Commit scheduler seen txn reply) = IsWholeAttempt settings trace before scheduler seen txn
CommitsWhole settings trace before _ = Unit {0}

-- each commit of a history is such an attempt
abbrev pub CommitsAreWhole : Settings → TraceTables → List Entry → Type 0
CommitsAreWhole settings trace history =
    (place : ℕ) (entry : Entry) → slice_get history place ≡ Some entry → CommitsWhole settings trace (take place history) entry
