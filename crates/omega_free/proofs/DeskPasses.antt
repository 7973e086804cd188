-- The desk of a scheduler that waits for no other, where requests leave it and where a pass begins.
use Rattle.std.proofs.Common.{◌≡◌, ℕ, true, false, not, List, [], ◌∷◌, refl, sym, ap, ap₂, subst, ◌∙◌, ◌==◌}
use Rattle.std.specs.Prelude.{nat_le, nat_lt, ◌&&◌, Bool}
use Rattle.std.specs.List.{All, cons_option, filter, filter_map, AllByRecursion as Each}
use Rattle.std.proofs.lemmas.Bool.{eqb-true}
use Rattle.std.proofs.lemmas.List.Elements.{All-tail, All-from_recursion}
use Rattle.omega_model.proofs.Lists.{by_answer, each_filter}
use Rattle.omega_model.proofs.OpenRequests.{requests_from_open}
use Rattle.omega_model.specs.Feed.{feed}
use Rattle.omega_model.specs.OpenRequests.{is_worked_on, open_requests}
use Rattle.omega_model.specs.Requests.{jobs_in_order, request_of, requests, wishes_of}
use Rattle.omega_model.specs.Routing.{scheduler_of}
use Rattle.omega_model.specs.State.{state}
use Rattle.omega_model.specs.Wanted.{WantedTask}
use Rattle.omega_model.specs.Work.{Standing, fresh, is_empty}
use Rattle.omega_model.specs.declared.entries.Entry.{Entry}
use Rattle.omega_model.specs.declared.rows.TraceTables.{TraceTables}
use Rattle.omega_model.specs.declared.settings.Settings.{Settings}
use Rattle.omega_model.specs.declared.wishes.Request.{Request}
use Rattle.omega_model.specs.declared.wishes.Wish.{Wish}
use Rattle.omega_desk.specs.Counts.{count_of}
use Rattle.omega_desk.specs.Desks.{DeskState, IsSameDesk, left_at, still_tried}
use Rattle.omega_workers.specs.Workers.{IsRoutedTo}
use Rattle.omega_free_laws.specs.Passes.{Past, Scheduler, new_pass, synced, wanted_at}
use Rattle.omega_free_laws.specs.Readings.{Reading}
use Rattle.omega_free_laws.specs.StillWanted.{has_wanted_wish, without_unwanted}
use Rattle.omega_free.specs.PassDesks.{IsDeskNow, IsPassDesk}

module _ (settings : Settings) (trace : TraceTables) where
  -- requests of which nothing is still wanted leave both
  unwanted_alike : (asked : List WantedTask) (one other : Standing) (left : List Request) → one.requests ≡ left → other.requests ≡ left → one.taken ≡ other.taken
      → ((without_unwanted asked one left).requests ≡ (without_unwanted asked other left).requests)
      × ((without_unwanted asked one left).taken ≡ (without_unwanted asked other left).taken)
  unwanted_alike asked one other [] is_one is_other taken = (is_one ∙ sym is_other, taken)
  unwanted_alike asked one other (request ∷ rest) is_one is_other taken =
      by_answer (has_wanted_wish asked request)
      (λ t. rw t (is_one ∙ sym is_other, taken))
      (λ f. rw f (unwanted_alike asked (fresh one.failing rest) (fresh other.failing rest) rest refl refl refl))

  unwanted_failing : (asked : List WantedTask) (standing : Standing) (left : List Request) (job : ℕ) → (without_unwanted asked standing left).failing job ≡ standing.failing job
  unwanted_failing asked standing [] job = refl
  unwanted_failing asked standing (request ∷ rest) job =
      by_answer (has_wanted_wish asked request)
      (λ t. rw t refl)
      (λ f. rw f (unwanted_failing asked (fresh standing.failing rest) rest job))

  unwanted_own : (P : Request → Type 0) (asked : List WantedTask) (standing : Standing) (left : List Request) → standing.requests ≡ left → All P left
      → All P (without_unwanted asked standing left).requests
  unwanted_own P asked standing [] is own = subst (All P) (sym is) own
  unwanted_own P asked standing (request ∷ rest) is own =
      by_answer (has_wanted_wish asked request)
      (λ t. rw t (subst (All P) (sym is) own))
      (λ f. rw f (unwanted_own P asked (fresh standing.failing rest) rest refl (All-tail P request rest own)))

  pub desk_without_unwanted : (history : List Entry) (asked : List WantedTask) (scheduler : Scheduler) (desk after : DeskState)
      → IsSameDesk desk after → after.attempts ≡ desk.attempts
      → left_at after ≡ without_unwanted asked (left_at desk) desk.requests
      → IsDeskNow settings trace history scheduler desk
      → IsDeskNow settings trace history (record scheduler { left = without_unwanted asked scheduler.left scheduler.left.requests }) after
  desk_without_unwanted history asked scheduler desk after same attempts left is =
      let there : left_at after ≡ without_unwanted asked (left_at desk) scheduler.left.requests =
      left ∙ ap (without_unwanted asked (left_at desk)) is.requests in
      let alike = unwanted_alike asked (left_at desk) scheduler.left scheduler.left.requests is.requests refl is.taken in
      let count_kept : (job : ℕ) → count_of after.counts job ≡ count_of desk.counts job =
      λ job. ap (λ (it : Standing). it.failing job) there ∙ unwanted_failing asked (left_at desk) scheduler.left.requests job in
      record {
        settings_are = same.settings ∙ is.settings_are;
        number_is = same.scheduler ∙ is.number_is;
        requests = ap (λ (it : Standing). it.requests) there ∙ alike.0;
        taken = ap (λ (it : Standing). it.taken) there ∙ alike.1;
        own = unwanted_own (IsRoutedTo settings trace scheduler.number) asked scheduler.left scheduler.left.requests refl is.own;
        counts = λ job own. unwanted_failing asked scheduler.left scheduler.left.requests job ∙ is.counts job own ∙ sym (count_kept job);
        failures = λ job own. is.failures job own ∙ sym (count_kept job);
        attempts = attempts ∙ is.attempts;
      }

  -- what is open of a scheduler is for its own jobs
  open_one : (number job : ℕ) (wishes : List Wish) (rest : List Request) → scheduler_of settings trace job ≡ number → Each (IsRoutedTo settings trace number) rest
      → Each (IsRoutedTo settings trace number) (cons_option (request_of job wishes) rest)
  open_one number job [] rest routed own = own
  open_one number job (wish ∷ wishes) rest routed own = (routed, own)

  open_own : (number : ℕ) (wishes : ℕ → List Wish) (jobs : List ℕ)
      → Each (IsRoutedTo settings trace number) (filter_map (λ job. request_of job (wishes job)) (filter (λ job. scheduler_of settings trace job == number) jobs))
  open_own number wishes [] = tt
  open_own number wishes (job ∷ jobs) =
      let rest = open_own number wishes jobs in
      by_answer (scheduler_of settings trace job == number)
      (λ t. rw t (open_one number job (wishes job) (filter_map (λ job. request_of job (wishes job)) (filter (λ job. scheduler_of settings trace job == number) jobs))
      (eqb-true (scheduler_of settings trace job) number t) rest))
      (λ f. rw f rest)

-- two tests that answer alike where something holds keep the same of items of which it holds
same_filter : (p q : Request → Bool) (P : Request → Type 0) → ((request : Request) → P request → p request ≡ q request)
    → (some : List Request) → Each P some → filter p some ≡ filter q some
same_filter p q P same [] each = refl
same_filter p q P same (request ∷ some) each =
    let rest = same_filter p q P same some each.1 in
    by_answer (q request)
    (λ t. rw (same request each.0, t) (ap (λ (later : List Request). request ∷ later) rest))
    (λ f. rw (same request each.0, f) rest)

module _ (settings : Settings) (reading : Reading) where
  -- a pass begins with what is open now, but for the jobs that are given up by the desk's counts
  pub desk_begins : (past : Past) (number : ℕ) (left : Standing) (desk after : DeskState)
      → IsSameDesk desk after → after.attempts ≡ desk.attempts
      → left_at after ≡ fresh (left_at desk).failing
      (still_tried desk.settings (left_at desk).failing (open_requests settings reading.trace (reading.counted past.rows past.history) (state past.history) number))
      → IsPassDesk settings reading.trace past.history number left desk
      → IsPassDesk settings reading.trace past.history number (new_pass settings reading past number) after
  desk_begins past number left desk after same attempts begins is =
      let all_open : List Request = open_requests settings reading.trace (reading.counted past.rows past.history) (state past.history) number in
      let own : Each (IsRoutedTo settings reading.trace number) all_open =
      open_own settings reading.trace number (wishes_of settings reading.trace (state past.history) (wanted_at reading past)) (jobs_in_order (feed reading.trace)) in
      let tried : still_tried desk.settings (count_of desk.counts) all_open ≡ requests settings reading.trace (reading.counted past.rows past.history) past.history number =
      same_filter (λ (request : Request). not (nat_le desk.settings.give_up (count_of desk.counts request.job))) (is_worked_on settings past.history)
      (IsRoutedTo settings reading.trace number)
      (λ request routed. ap₂ (λ (at : Settings) (n : ℕ). not (nat_le at.give_up n)) is.settings_are (sym (is.failures request.job routed)))
      all_open own
      ∙ sym (requests_from_open settings reading.trace (reading.counted past.rows past.history) past.history number) in
      let count_kept : (job : ℕ) → count_of after.counts job ≡ count_of desk.counts job = λ job. ap (λ (it : Standing). it.failing job) begins in
      record {
        settings_are = same.settings ∙ is.settings_are;
        number_is = same.scheduler ∙ is.number_is;
        requests = ap (λ (it : Standing). it.requests) begins ∙ tried;
        taken = ap (λ (it : Standing). it.taken) begins;
        own = subst (All (IsRoutedTo settings reading.trace number)) (sym (requests_from_open settings reading.trace (reading.counted past.rows past.history) past.history number))
            (All-from_recursion (IsRoutedTo settings reading.trace number) (filter (is_worked_on settings past.history) all_open)
            (each_filter (IsRoutedTo settings reading.trace number) (is_worked_on settings past.history) all_open own));
        counts = λ job routed. is.failures job routed ∙ sym (count_kept job);
        failures = λ job routed. is.failures job routed ∙ sym (count_kept job);
        attempts = attempts ∙ is.attempts;
      }

  -- so a desk stands once its scheduler has synced: where something is left of its pass, or there was no cause for a new
  -- one since that began, with what is left
  pub desk_stays : (past : Past) (now : ℕ) (scheduler : Scheduler) (desk : DeskState)
      → (is_empty (without_unwanted (wanted_at reading past) scheduler.left scheduler.left.requests).requests && nat_lt scheduler.begun past.triggers) ≡ false
      → IsPassDesk settings reading.trace past.history scheduler.number (without_unwanted (wanted_at reading past) scheduler.left scheduler.left.requests) desk
      → IsDeskNow settings reading.trace past.history (synced settings reading past now scheduler) desk
  desk_stays past now scheduler desk stays is = rw stays is

  -- and else with a new one
  pub desk_anew : (past : Past) (now : ℕ) (scheduler : Scheduler) (desk : DeskState)
      → (is_empty (without_unwanted (wanted_at reading past) scheduler.left scheduler.left.requests).requests && nat_lt scheduler.begun past.triggers) ≡ true
      → IsPassDesk settings reading.trace past.history scheduler.number (new_pass settings reading past scheduler.number) desk
      → IsDeskNow settings reading.trace past.history (synced settings reading past now scheduler) desk
  desk_anew past now scheduler desk begins is = rw begins is
