-- The desk of a scheduler that waits for no other, after one more entry.
use Rattle.std.proofs.Common.{◌≡◌, ◌≢◌, ◌+◌, ℕ, Bool, true, false, List, [], ◌∷◌, ◌++◌, Some, refl, sym, ap, ap₂, subst, ◌∙◌, ◌==◌, if◌then◌else◌}
use Rattle.std.specs.List.{All}
use Rattle.std.proofs.lemmas.Bool.{both_ways, eq-eqb, eqb-false, eqb-true, ne_eqb}
use Rattle.std.proofs.lemmas.List.Elements.{All-cons, All-head, All-tail}
use Rattle.omega_model.proofs.Standing.{failed_push}
use Rattle.omega_model.specs.Requests.{failed, failed_after}
use Rattle.omega_model.specs.Routing.{scheduler_of}
use Rattle.omega_model.specs.State.{reply_of}
use Rattle.omega_model.specs.Touches.{is_commit}
use Rattle.omega_model.specs.Work.{Standing, after_outcomes, commits_of, ends_request, failing_after, failing_with, fresh, moved_on, outcomes_of, rest_of}
use Rattle.omega_model.specs.declared.claims.Judgement.{Judgement}
use Rattle.omega_model.specs.declared.claims.Outcome.{Outcome}
use Rattle.omega_model.specs.declared.claims.Txn.{Txn}
use Rattle.omega_model.specs.declared.entries.Entry.{Entry}
use Rattle.omega_model.specs.declared.entries.Entry.TheVariants.{Round as RoundEntry, MachineAdd, MachineUpdate, MachineRemove, AttrSet, AttrDelete, End, Commit}
use Rattle.omega_model.specs.declared.rows.TraceTables.{TraceTables}
use Rattle.omega_model.specs.declared.settings.Settings.{Settings}
use Rattle.omega_model.specs.declared.wishes.Request.{Request}
use Rattle.omega_desk.specs.Counts.{count_of}
use Rattle.omega_desk.specs.Desks.{DeskState, IsSameDesk, left_at}
use Rattle.omega_workers.specs.Workers.{IsRoutedTo}
use Rattle.omega_workers.proofs.CommitCounts.{commits_other, commits_own, failed_commit, failed_other, length-reply_of}
use Rattle.omega_workers.proofs.WorkerCommits.{moved_to}
use Rattle.omega_free_laws.proofs.Seen.{commit_of_none}
use Rattle.omega_free_laws.specs.Passes.{Scheduler, with_entry}
use Rattle.omega_free.specs.PassDesks.{IsDeskNow}

-- an entry that is no commit counts for no job
failed_none : (job count : ℕ) (entry : Entry) → is_commit entry ≡ false → failed_after job count entry ≡ count
failed_none job count (RoundEntry number) none = refl
failed_none job count (MachineAdd machine cap) none = refl
failed_none job count (MachineUpdate machine cap) none = refl
failed_none job count (MachineRemove machine) none = refl
failed_none job count (AttrSet machine name value) none = refl
failed_none job count (AttrDelete machine name) none = refl
failed_none job count (End key machine) none = refl
failed_none job count (Commit scheduler seen txn reply) none = absurd (both_ways _ none refl)

-- ---- two standings that agree on a scheduler's own jobs move on alike

abbrev ends_at : Settings → Standing → Request → List Outcome → Bool
ends_at settings standing request outcomes =
    ends_request settings (standing.taken + 1) (failing_after (standing.failing request.job) outcomes) request outcomes

moved_requests : (settings : Settings) (standing : Standing) (request : Request) (rest : List Request) (outcomes : List Outcome)
    → (moved_on settings standing request rest outcomes).requests
    ≡ (if ends_at settings standing request outcomes then rest else rest_of request outcomes ∷ rest)
moved_requests settings standing request rest outcomes =
    elim (ends_at settings standing request outcomes) as (λ test.
    (if test then fresh (failing_with standing.failing request.job outcomes) rest
    else record { requests = rest_of request outcomes ∷ rest; taken = standing.taken + 1; failing = failing_with standing.failing request.job outcomes }).requests
    ≡ (if test then rest else rest_of request outcomes ∷ rest)) [ true ↦ refl | false ↦ refl ]

moved_taken : (settings : Settings) (standing : Standing) (request : Request) (rest : List Request) (outcomes : List Outcome)
    → (moved_on settings standing request rest outcomes).taken ≡ (if ends_at settings standing request outcomes then 0 else standing.taken + 1)
moved_taken settings standing request rest outcomes =
    elim (ends_at settings standing request outcomes) as (λ test.
    (if test then fresh (failing_with standing.failing request.job outcomes) rest
    else record { requests = rest_of request outcomes ∷ rest; taken = standing.taken + 1; failing = failing_with standing.failing request.job outcomes }).taken
    ≡ (if test then 0 else standing.taken + 1)) [ true ↦ refl | false ↦ refl ]

moved_failing : (settings : Settings) (standing : Standing) (request : Request) (rest : List Request) (outcomes : List Outcome) (job : ℕ)
    → (moved_on settings standing request rest outcomes).failing job ≡ failing_with standing.failing request.job outcomes job
moved_failing settings standing request rest outcomes job =
    elim (ends_at settings standing request outcomes) as (λ test.
    (if test then fresh (failing_with standing.failing request.job outcomes) rest
    else record { requests = rest_of request outcomes ∷ rest; taken = standing.taken + 1; failing = failing_with standing.failing request.job outcomes }).failing job
    ≡ failing_with standing.failing request.job outcomes job) [ true ↦ refl | false ↦ refl ]

same_failing : (one other : ℕ → ℕ) (first : ℕ) (outcomes : List Outcome) (job : ℕ) → one first ≡ other first → one job ≡ other job
    → failing_with one first outcomes job ≡ failing_with other first outcomes job
same_failing one other first outcomes job at_first here =
    ap₂ (λ (f g : ℕ). if job == first then failing_after f outcomes else g) at_first here

module _ (settings : Settings) (trace : TraceTables) where
  own_left : (scheduler : Scheduler) (by seen : ℕ) (txn : Txn) (reply : List Judgement) (request : Request) (rest : List Request)
      → (scheduler.number == by) ≡ true → scheduler.left.requests ≡ request ∷ rest
      → (with_entry settings (Commit by seen txn reply) scheduler).left ≡ moved_on settings scheduler.left request rest (outcomes_of txn.claims reply)
  own_left scheduler by seen txn reply request rest is first =
      let mine : (by == scheduler.number) ≡ true = eq-eqb by scheduler.number (sym (eqb-true scheduler.number by is)) in
      rw (mine, first) refl

  own_after : (scheduler : ℕ) (test : Bool) (request : Request) (rest : List Request) (outcomes : List Outcome)
      → All (IsRoutedTo settings trace scheduler) (request ∷ rest)
      → All (IsRoutedTo settings trace scheduler) (if test then rest else rest_of request outcomes ∷ rest)
  own_after scheduler true request rest outcomes own = All-tail (IsRoutedTo settings trace scheduler) request rest own
  own_after scheduler false request rest outcomes own =
      All-cons (IsRoutedTo settings trace scheduler) (rest_of request outcomes) rest
      (All-head (IsRoutedTo settings trace scheduler) request rest own) (All-tail (IsRoutedTo settings trace scheduler) request rest own)

  -- an entry that is no commit leaves a desk as it is
  pub desk_none : (history : List Entry) (entry : Entry) (scheduler : Scheduler) (desk : DeskState) → is_commit entry ≡ false
      → IsDeskNow settings trace history scheduler desk → IsDeskNow settings trace (history ++ entry ∷ []) scheduler desk
  desk_none history entry scheduler desk none is = record {
    settings_are = is.settings_are;
    number_is = is.number_is;
    requests = is.requests;
    taken = is.taken;
    own = is.own;
    counts = is.counts;
    failures = λ job routed. failed_push history entry job ∙ failed_none job (failed history job) entry none ∙ is.failures job routed;
    attempts = is.attempts ∙ sym (commits_other scheduler.number history entry (commit_of_none scheduler.number entry none));
  }

  -- so does another's commit, for a job of the other's
  pub desk_other : (history : List Entry) (by seen : ℕ) (txn : Txn) (reply : List Judgement) (scheduler : Scheduler) (desk : DeskState)
      → (scheduler.number == by) ≡ false → scheduler_of settings trace txn.job ≡ by
      → IsDeskNow settings trace history scheduler desk → IsDeskNow settings trace (history ++ Commit by seen txn reply ∷ []) scheduler desk
  desk_other history by seen txn reply scheduler desk apart its_job is =
      let differ : by ≢ scheduler.number = λ same. eqb-false scheduler.number by apart (sym same) in
      record {
        settings_are = is.settings_are;
        number_is = is.number_is;
        requests = is.requests;
        taken = is.taken;
        own = is.own;
        counts = is.counts;
        failures = λ job routed.
            failed_other history by seen txn reply job (λ same. differ (sym its_job ∙ ap (scheduler_of settings trace) same ∙ routed)) ∙ is.failures job routed;
        attempts = is.attempts ∙ sym (commits_other scheduler.number history (Commit by seen txn reply) (ne_eqb by scheduler.number differ));
      }

  -- the desk of the scheduler that commits, once it took what came of the commit
  pub desk_own : (history : List Entry) (by seen : ℕ) (txn : Txn) (scheduler : Scheduler) (desk after : DeskState) (request : Request) (rest : List Request)
      → (scheduler.number == by) ≡ true → scheduler.left.requests ≡ request ∷ rest → txn.job ≡ request.job
      → IsSameDesk desk after → after.attempts ≡ desk.attempts + 1
      → after_outcomes desk.settings (left_at desk) desk.requests (outcomes_of txn.claims (reply_of history seen txn)) ≡ Some (left_at after)
      → IsDeskNow settings trace history scheduler desk
      → IsDeskNow settings trace (history ++ Commit by seen txn (reply_of history seen txn) ∷ [])
      (with_entry settings (Commit by seen txn (reply_of history seen txn)) scheduler) after
  desk_own history by seen txn scheduler desk after request rest mine first for_job same attempts took is =
      let reply : List Judgement = reply_of history seen txn in
      let outcomes : List Outcome = outcomes_of txn.claims reply in
      let entry : Entry = Commit by seen txn reply in
      let one : Standing = scheduler.left in
      let other : Standing = left_at desk in
      let number_is : scheduler.number ≡ by = eqb-true scheduler.number by mine in
      let routed : All (IsRoutedTo settings trace scheduler.number) (request ∷ rest) = subst (All (IsRoutedTo settings trace scheduler.number)) first is.own in
      let its_job : scheduler_of settings trace request.job ≡ scheduler.number = All-head (IsRoutedTo settings trace scheduler.number) request rest routed in
      let took_here : after_outcomes settings other desk.requests outcomes ≡ Some (left_at after) =
      subst (λ (at : Settings). after_outcomes at other desk.requests outcomes ≡ Some (left_at after)) is.settings_are took in
      let on : left_at after ≡ moved_on settings other request rest outcomes =
      moved_to settings other (left_at after) desk.requests request rest outcomes (is.requests ∙ first) took_here in
      let step : (with_entry settings entry scheduler).left ≡ moved_on settings one request rest outcomes =
      own_left scheduler by seen txn reply request rest mine first in
      let ends : ends_at settings other request outcomes ≡ ends_at settings one request outcomes =
      ap₂ (λ (t f : ℕ). ends_request settings (t + 1) (failing_after f outcomes) request outcomes) is.taken (sym (is.counts request.job its_job)) in
      let counts_next : (job : ℕ) → failing_with (count_of desk.counts) request.job outcomes job ≡ count_of after.counts job =
      λ job. sym (moved_failing settings other request rest outcomes job) ∙ sym (ap (λ (it : Standing). it.failing job) on) in
      let requests : after.requests ≡ (moved_on settings one request rest outcomes).requests =
      ap (λ (it : Standing). it.requests) on
      ∙ moved_requests settings other request rest outcomes
      ∙ ap (λ (b : Bool). if b then rest else rest_of request outcomes ∷ rest) ends
      ∙ sym (moved_requests settings one request rest outcomes) in
      record {
        settings_are = same.settings ∙ is.settings_are;
        number_is = same.scheduler ∙ is.number_is;
        requests = requests ∙ ap (λ (it : Standing). it.requests) (sym step);
        taken = ap (λ (it : Standing). it.taken) on
            ∙ moved_taken settings other request rest outcomes
            ∙ ap₂ (λ (b : Bool) (n : ℕ). if b then 0 else n + 1) ends is.taken
            ∙ sym (moved_taken settings one request rest outcomes)
            ∙ ap (λ (it : Standing). it.taken) (sym step);
        own = subst (All (IsRoutedTo settings trace scheduler.number)) (sym (moved_requests settings one request rest outcomes) ∙ ap (λ (it : Standing). it.requests) (sym step))
            (own_after scheduler.number (ends_at settings one request outcomes) request rest outcomes routed);
        counts = λ job own. ap (λ (it : Standing). it.failing job) step
            ∙ moved_failing settings one request rest outcomes job
            ∙ same_failing one.failing (count_of desk.counts) request.job outcomes job (is.counts request.job its_job) (is.counts job own)
            ∙ counts_next job;
        failures = λ job own.
            failed_commit history by seen txn reply (count_of desk.counts) job (length-reply_of history seen txn)
            (is.failures txn.job (ap (scheduler_of settings trace) for_job ∙ its_job)) (is.failures job own)
            ∙ ap (λ (first_job : ℕ). failing_with (count_of desk.counts) first_job outcomes job) for_job
            ∙ counts_next job;
        attempts = attempts ∙ ap (λ (n : ℕ). n + 1) is.attempts
            ∙ sym (subst (λ (n : ℕ). commits_of n (history ++ entry ∷ []) ≡ commits_of n history + 1) (sym number_is) (commits_own by seen txn reply history));
      }
