-- Desks of a round after one more commit.
use Rattle.std.proofs.Common.{◌≡◌, ◌≢◌, ◌≤◌, ◌+◌, ℕ, Bool, true, false, List, [], ◌∷◌, ◌++◌, length, Option, Some, refl, sym, ap, ap₂, subst, ◌∙◌, ◌==◌, if◌then◌else◌}
use Rattle.std.specs.Prelude.{option_map}
use Rattle.std.specs.List.{All}
use Rattle.std.proofs.lemmas.Bool.{eq-eqb, ne_eqb}
use Rattle.std.proofs.lemmas.List.Elements.{All-cons, All-head, All-tail}
use Rattle.omega_model.proofs.Growing.{by_place_push_where}
use Rattle.omega_model.proofs.Standing.{after_entry-other, has_left-other, standing_push}
use Rattle.omega_model.specs.Requests.{failed}
use Rattle.omega_model.specs.Routing.{scheduler_of}
use Rattle.omega_model.specs.State.{reply_of}
use Rattle.omega_model.specs.Work.{Agrees, IsDue, Standing, after_entry, after_outcomes, ends_request, failing_after, failing_with, fresh, is_commit_of, moved_on, rest_of, standing_of}
use Rattle.omega_model.specs.declared.claims.Judgement.{Judgement}
use Rattle.omega_model.specs.declared.claims.Outcome.{Outcome}
use Rattle.omega_model.specs.declared.claims.Txn.{Txn}
use Rattle.omega_model.specs.declared.entries.Entry.{Entry}
use Rattle.omega_model.specs.declared.rows.Row.{Row}
use Rattle.omega_model.specs.declared.rows.TraceTables.{TraceTables}
use Rattle.omega_model.specs.declared.settings.Settings.{Settings}
use Rattle.omega_model.specs.declared.wishes.Request.{Request}
use Rattle.omega_desk.specs.Counts.{count_of}
use Rattle.omega_desk.specs.Desks.{DeskState, left_at}
use Rattle.omega_laws.specs.NextCommit.{attempt, attempt_txn}
use Rattle.omega_rounds.specs.Players.{IsOwnDesk}
use Rattle.omega_workers.specs.Workers.{IsDeskOf, IsRoutedTo}
use Rattle.omega_workers.specs.WorkerSteps.{attempt_outcomes}
use Rattle.omega_laws.proofs.Agreeing.{agrees_first}
use Rattle.omega_workers.proofs.CommitCounts.{failed_commit, failed_other, length-reply_of}
use Rattle.omega_workers.proofs.WorkerCommits.{moved_to}

-- whether an attempt ends the first request of a standing
abbrev pub ends_at : Settings → Standing → Request → List Outcome → Bool
ends_at settings standing request outcomes =
    ends_request settings (standing.taken + 1) (failing_after (standing.failing request.job) outcomes) request outcomes

-- the parts of a standing after an attempt
pub moved_requests : (settings : Settings) (standing : Standing) (request : Request) (rest : List Request) (outcomes : List Outcome)
    → (moved_on settings standing request rest outcomes).requests
    ≡ (if ends_at settings standing request outcomes then rest else rest_of request outcomes ∷ rest)
moved_requests settings standing request rest outcomes =
    elim (ends_at settings standing request outcomes) as (λ test.
    (if test then fresh (failing_with standing.failing request.job outcomes) rest
    else record { requests = rest_of request outcomes ∷ rest; taken = standing.taken + 1; failing = failing_with standing.failing request.job outcomes }).requests
    ≡ (if test then rest else rest_of request outcomes ∷ rest)) [ true ↦ refl | false ↦ refl ]

moved_taken : (settings : Settings) (standing : Standing) (request : Request) (rest : List Request) (outcomes : List Outcome)
    → (moved_on settings standing request rest outcomes).taken ≡ (if ends_at settings standing request outcomes then 0 else standing.taken + 1)
moved_taken settings standing request rest outcomes =
    elim (ends_at settings standing request outcomes) as (λ test.
    (if test then fresh (failing_with standing.failing request.job outcomes) rest
    else record { requests = rest_of request outcomes ∷ rest; taken = standing.taken + 1; failing = failing_with standing.failing request.job outcomes }).taken
    ≡ (if test then 0 else standing.taken + 1)) [ true ↦ refl | false ↦ refl ]

pub moved_failing : (settings : Settings) (standing : Standing) (request : Request) (rest : List Request) (outcomes : List Outcome) (job : ℕ)
    → (moved_on settings standing request rest outcomes).failing job ≡ failing_with standing.failing request.job outcomes job
moved_failing settings standing request rest outcomes job =
    elim (ends_at settings standing request outcomes) as (λ test.
    (if test then fresh (failing_with standing.failing request.job outcomes) rest
    else record { requests = rest_of request outcomes ∷ rest; taken = standing.taken + 1; failing = failing_with standing.failing request.job outcomes }).failing job
    ≡ failing_with standing.failing request.job outcomes job) [ true ↦ refl | false ↦ refl ]

-- two standings that agree on the first request move on alike
same_ends : (settings : Settings) (one other : Standing) (request : Request) (outcomes : List Outcome)
    → one.taken ≡ other.taken → one.failing request.job ≡ other.failing request.job
    → ends_at settings one request outcomes ≡ ends_at settings other request outcomes
same_ends settings one other request outcomes taken failing =
    ap₂ (λ (t f : ℕ). ends_request settings (t + 1) (failing_after f outcomes) request outcomes) taken failing

same_failing : (one other : ℕ → ℕ) (first : ℕ) (outcomes : List Outcome) (job : ℕ) → one first ≡ other first → one job ≡ other job
    → failing_with one first outcomes job ≡ failing_with other first outcomes job
same_failing one other first outcomes job at_first here =
    ap₂ (λ (f g : ℕ). if job == first then failing_after f outcomes else g) at_first here

-- what remains of a request is for the same job
pub own_after : (settings : Settings) (trace : TraceTables) (scheduler : ℕ) (test : Bool) (request : Request) (rest : List Request) (outcomes : List Outcome)
    → All (IsRoutedTo settings trace scheduler) (request ∷ rest)
    → All (IsRoutedTo settings trace scheduler) (if test then rest else rest_of request outcomes ∷ rest)
own_after settings trace scheduler true request rest outcomes own = All-tail (IsRoutedTo settings trace scheduler) request rest own
own_after settings trace scheduler false request rest outcomes own =
    All-cons (IsRoutedTo settings trace scheduler) (rest_of request outcomes) rest
    (All-head (IsRoutedTo settings trace scheduler) request rest own) (All-tail (IsRoutedTo settings trace scheduler) request rest own)

module _ (settings : Settings) (trace : TraceTables) (rows : List Row) (opened_at : ℕ) (history : List Entry) (scheduler : ℕ) (desk : DeskState) where
  -- a desk is right by its scheduler's own commits
  pub own_desk : IsDeskOf settings trace rows opened_at history scheduler desk → IsOwnDesk settings trace rows opened_at history scheduler desk
  own_desk is = record {
    left = is.left;
    standing = is.standing;
    stands = is.stands;
    requests = is.requests;
    taken = is.taken;
    own = is.own;
    counts = is.counts;
  }

  -- and altogether where its counts are those of the history
  pub desk_with_failures : IsOwnDesk settings trace rows opened_at history scheduler desk
      → ((job : ℕ) → scheduler_of settings trace job ≡ scheduler → failed history job ≡ count_of desk.counts job)
      → IsDeskOf settings trace rows opened_at history scheduler desk
  desk_with_failures is failures = record {
    left = is.left;
    standing = is.standing;
    stands = is.stands;
    requests = is.requests;
    taken = is.taken;
    own = is.own;
    counts = is.counts;
    failures = failures;
  }

-- an entry that is no commit of a scheduler leaves its desk right by its own commits
pub own_desk_other : (settings : Settings) (trace : TraceTables) (rows : List Row) (opened_at : ℕ) (history : List Entry)
    → opened_at ≤ length history → (scheduler : ℕ) (entry : Entry) → is_commit_of scheduler entry ≡ false → (desk : DeskState)
    → IsOwnDesk settings trace rows opened_at history scheduler desk
    → IsOwnDesk settings trace rows opened_at (history ++ entry ∷ []) scheduler desk
own_desk_other settings trace rows opened_at history within scheduler entry other desk is = record {
  left = has_left-other settings trace rows opened_at scheduler history entry desk.requests other within is.left;
  standing = is.standing;
  stands = standing_push settings trace rows opened_at scheduler history entry within
      ∙ after_entry-other settings scheduler (standing_of settings trace rows opened_at scheduler history) entry other
      ∙ is.stands;
  requests = is.requests;
  taken = is.taken;
  own = is.own;
  counts = is.counts;
}

module _ (settings : Settings) (trace : TraceTables) (rows : List Row) (opened_at : ℕ) (before : List Entry) (within : opened_at ≤ length before)
    (by seen : ℕ) (request : Request) where
  abbrev txn : Txn
  txn = attempt_txn settings before by seen request

  abbrev reply : List Judgement
  reply = reply_of before seen txn

  abbrev entry : Entry
  entry = attempt settings before by seen request

  abbrev outcomes : List Outcome
  outcomes = attempt_outcomes settings before by seen request

  -- its first request is for a job of its own
  own_job : (desk : DeskState) (rest : List Request) → All (IsRoutedTo settings trace by) desk.requests → desk.requests ≡ request ∷ rest
      → scheduler_of settings trace request.job ≡ by
  own_job desk rest own work = All-head (IsRoutedTo settings trace by) request rest (subst (All (IsRoutedTo settings trace by)) work own)

  -- the counts at the desk after the commit
  counts_next : (desk next : DeskState) (rest : List Request) → desk.requests ≡ request ∷ rest
      → after_outcomes settings (left_at desk) desk.requests outcomes ≡ Some (left_at next)
      → (job : ℕ) → failing_with (count_of desk.counts) request.job outcomes job ≡ count_of next.counts job
  counts_next desk next rest work moved job =
      sym (moved_failing settings (left_at desk) request rest outcomes job)
      ∙ sym (ap (λ (s : Standing). s.failing job) (moved_to settings (left_at desk) (left_at next) desk.requests request rest outcomes work moved))

  -- the desk of the scheduler that commits, by its own commits alone
  pub own_desk_own : (desk next : DeskState) (rest : List Request)
      → IsOwnDesk settings trace rows opened_at before by desk → desk.requests ≡ request ∷ rest
      → after_outcomes settings (left_at desk) desk.requests outcomes ≡ Some (left_at next)
      → IsOwnDesk settings trace rows opened_at (before ++ entry ∷ []) by next
  own_desk_own desk next rest is work moved =
      let one : Standing = is.standing in
      let other : Standing = left_at desk in
      let after : Standing = moved_on settings one request rest outcomes in
      let first : one.requests ≡ request ∷ rest = is.requests ∙ work in
      let routed : All (IsRoutedTo settings trace by) (request ∷ rest) = subst (All (IsRoutedTo settings trace by)) work is.own in
      let its_job : scheduler_of settings trace request.job ≡ by = own_job desk rest is.own work in
      let ends : ends_at settings one request outcomes ≡ ends_at settings other request outcomes =
      same_ends settings one other request outcomes is.taken (is.counts request.job its_job) in
      let on : left_at next ≡ moved_on settings other request rest outcomes =
      moved_to settings other (left_at next) desk.requests request rest outcomes work moved in
      let itself : (by == by) ≡ true = eq-eqb by by refl in
      let step : after_entry settings by (Some one) entry ≡ Some after = rw (itself, first) refl in
      let stands : standing_of settings trace rows opened_at by (before ++ entry ∷ []) ≡ Some after =
      standing_push settings trace rows opened_at by before entry within
      ∙ ap (λ (o : Option Standing). after_entry settings by o entry) is.stands ∙ step in
      let requests : after.requests ≡ next.requests =
      moved_requests settings one request rest outcomes
      ∙ ap (λ (b : Bool). if b then rest else rest_of request outcomes ∷ rest) ends
      ∙ sym (moved_requests settings other request rest outcomes)
      ∙ sym (ap (λ (s : Standing). s.requests) on) in
      let agrees : Agrees settings by before seen txn request = record { job = refl; rule = refl; mode = refl; claims = refl } in
      record {
        left = record {
          remains = ap (option_map (λ (standing : Standing). standing.requests)) stands ∙ ap (λ (l : List Request). Some l) requests;
          due = by_place_push_where (λ place. opened_at ≤ place) (IsDue settings trace rows opened_at by) before entry is.left.due
              (λ same. agrees_first settings by before seen txn (standing_of settings trace rows opened_at by before) request rest
              (is.left.remains ∙ ap (λ (l : List Request). Some l) work) agrees);
        };
        standing = after;
        stands = stands;
        requests = requests;
        taken = moved_taken settings one request rest outcomes
            ∙ ap₂ (λ (b : Bool) (n : ℕ). if b then 0 else n + 1) ends is.taken
            ∙ sym (moved_taken settings other request rest outcomes)
            ∙ sym (ap (λ (s : Standing). s.taken) on);
        own = subst (All (IsRoutedTo settings trace by)) (sym (moved_requests settings one request rest outcomes) ∙ requests)
            (own_after settings trace by (ends_at settings one request outcomes) request rest outcomes routed);
        counts = λ job own. moved_failing settings one request rest outcomes job
            ∙ same_failing one.failing (count_of desk.counts) request.job outcomes job (is.counts request.job its_job) (is.counts job own)
            ∙ counts_next desk next rest work moved job;
      }

  -- and with the commits of others
  pub desk_own : (desk next : DeskState) (rest : List Request)
      → IsDeskOf settings trace rows opened_at before by desk → desk.requests ≡ request ∷ rest
      → after_outcomes settings (left_at desk) desk.requests outcomes ≡ Some (left_at next)
      → IsDeskOf settings trace rows opened_at (before ++ entry ∷ []) by next
  desk_own desk next rest is work moved =
      desk_with_failures settings trace rows opened_at (before ++ entry ∷ []) by next
      (own_desk_own desk next rest (own_desk settings trace rows opened_at before by desk is) work moved)
      (λ job own.
      failed_commit before by seen txn reply (count_of desk.counts) job (length-reply_of before seen txn)
      (is.failures request.job (own_job desk rest is.own work)) (is.failures job own)
      ∙ counts_next desk next rest work moved job)

  -- the desk of another scheduler
  pub desk_other : (scheduler : ℕ) (desk : DeskState) → scheduler ≢ by → scheduler_of settings trace request.job ≡ by
      → IsDeskOf settings trace rows opened_at before scheduler desk
      → IsDeskOf settings trace rows opened_at (before ++ entry ∷ []) scheduler desk
  desk_other scheduler desk apart routed is =
      let other : is_commit_of scheduler entry ≡ false = ne_eqb by scheduler (λ same. apart (sym same)) in
      desk_with_failures settings trace rows opened_at (before ++ entry ∷ []) scheduler desk
      (own_desk_other settings trace rows opened_at before within scheduler entry other desk
      (own_desk settings trace rows opened_at before scheduler desk is))
      (λ job own.
      failed_other before by seen txn reply job
      (λ same. apart (sym own ∙ ap (scheduler_of settings trace) (sym same) ∙ routed))
      ∙ is.failures job own)
