-- What holds of each scheduler at each moment of a run by the free clock.
use Rattle.std.proofs.Common.{◌≡◌, ◌+◌, ℕ, Bool, true, false, cond, List, [], ◌∷◌, ◌++◌, Option, Some, None, map, refl, sym, ap, ap₂, subst, ◌∙◌, inl, inr, arith, filter, length-append, add-zero}
use Rattle.std.specs.Prelude.{not, ◌&&◌, ◌==◌, nat_lt, if◌then◌else◌}
use Rattle.std.specs.List.{range_with_len, AllByRecursion as Each}
use Rattle.std.proofs.lemmas.Bool.{and_parts, eq-eqb, eqb-true}
use Rattle.std.proofs.lemmas.List.{take-append-le}
use Rattle.std.proofs.lemmas.List.Sums.{sum_by-append, sum_by-cons}
use Rattle.std.proofs.Math.Seq.{take-length}
use Rattle.omega_laws.proofs.Suited.{OfValue, each_mapped}
use Rattle.omega_laws.specs.Simulated.{greatest_time}
use Rattle.omega_model.proofs.ExtraWishes.{IsExtraOf, extras_are, names_of}
use Rattle.omega_model.proofs.Lists.{by_answer, each_append, each_filter, each_map, each_passes}
use Rattle.omega_model.specs.Cell.{Cell}
use Rattle.omega_model.specs.ExtraTasks.{activities_of, extra_count, extra_wish, free_indexes, running_extras, wanted_of, wishes_after, wishes_for_extras}
use Rattle.omega_model.specs.Feed.{feed}
use Rattle.omega_model.specs.Policy.{schedulers}
use Rattle.omega_model.specs.Wishes.{wish_of}
use Rattle.omega_model.specs.Requests.{is_waiting, jobs_in_order, request_of, requests, wishes_of, works_on}
use Rattle.omega_model.specs.Routing.{scheduler_of}
use Rattle.omega_model.specs.State.{reply_of, state}
use Rattle.omega_model.specs.Wanted.{WantedTask, wanted}
use Rattle.omega_model.specs.Work.{Standing, commits_of, ends_request, failing_after, failing_with, fresh, is_commit_of, is_empty, moved_on, outcomes_of, places_wish, planned, rest_of}
use Rattle.omega_model.specs.declared.claims.Judgement.{Judgement}
use Rattle.omega_model.specs.declared.claims.Outcome.{Outcome}
use Rattle.omega_model.specs.declared.claims.Txn.{Txn}
use Rattle.omega_model.specs.declared.entries.Entry.{Entry}
use Rattle.omega_model.specs.declared.entries.Entry.TheVariants.{Commit, End}
use Rattle.omega_model.specs.declared.rows.Row.{Row}
use Rattle.omega_model.specs.declared.rows.Round.{Round}
use Rattle.omega_free_laws.specs.Readings.{Reading}
use Rattle.omega_model.specs.declared.settings.Settings.{Settings}
use Rattle.omega_model.specs.declared.wishes.Request.{Request}
use Rattle.omega_model.specs.declared.wishes.Wish.{Wish}
use Rattle.omega_free_laws.specs.CrewLaws.{CrewInOrder, IsInOrder, IsOwnRequest, PlansFirst}
use Rattle.omega_free_laws.specs.FreeLaws.{IsWishOf}
use Rattle.omega_free_laws.specs.Free.{after}
use Rattle.omega_free_laws.specs.FreeSteps.{DueCommit, Moment, after_commit, beginning, committing, due_entry, due_txn, ending, first_due, idle_scheduler, opening, past_ended, past_opened, past_with, idle_synced}
use Rattle.omega_free_laws.specs.Lives.{DueEnd}
use Rattle.omega_free_laws.specs.NextStep.{EachDeciding, Happens, WhenDeciding}
use Rattle.omega_free_laws.specs.Passes.{Attempt, Scheduler, Past, wanted_at, attempt_on, first_attempt, new_pass, synced, synced_if_idle, with_entry, working}
use Rattle.omega_free_laws.specs.StillWanted.{has_wanted_wish, without_unwanted, wanted_wishes}
use Rattle.omega_free_laws.proofs.OneStep.{due_holds, holds_after}
use Rattle.omega_free_laws.proofs.Seen.{apart, commit_of_none, stays_ended, stays_opened}

commits_more : (scheduler : ℕ) (before : List Entry) (entry : Entry)
    → commits_of scheduler (before ++ entry ∷ []) ≡ commits_of scheduler before + cond (is_commit_of scheduler entry) 1 0
commits_more scheduler before entry =
    let split : commits_of scheduler (before ++ entry ∷ []) ≡ commits_of scheduler before + commits_of scheduler (entry ∷ []) =
    sum_by-append (λ (e : Entry). cond (is_commit_of scheduler e) 1 0) before (entry ∷ []) in
    let last : commits_of scheduler (entry ∷ []) ≡ cond (is_commit_of scheduler entry) 1 0 + commits_of scheduler [] =
    sum_by-cons (λ (e : Entry). cond (is_commit_of scheduler e) 1 0) entry [] in
    let none : commits_of scheduler [] ≡ 0 = refl in
    omega (arith, split, last, none)

commits_other : (scheduler : ℕ) (before : List Entry) (entry : Entry) → is_commit_of scheduler entry ≡ false
    → commits_of scheduler (before ++ entry ∷ []) ≡ commits_of scheduler before
commits_other scheduler before entry other =
    commits_more scheduler before entry ∙ ap (λ (b : Bool). commits_of scheduler before + cond b 1 0) other ∙ add-zero (commits_of scheduler before)

-- an entry that is no commit of a scheduler leaves what it plans for
plans_push : (settings : Settings) (history : List Entry) (entry : Entry) (scheduler : Scheduler) (attempt : Attempt) → is_commit_of scheduler.number entry ≡ false
    → PlansFirst settings history scheduler attempt → PlansFirst settings (history ++ entry ∷ []) scheduler attempt
plans_push settings history entry scheduler attempt other plans = record {
  request = plans.request;
  rest = plans.rest;
  first = plans.first;
  job = plans.job;
  there = let more = length-append history (entry ∷ []) in let there = plans.there in omega (arith, more, there);
  asked = plans.asked;
  claims = plans.claims
      ∙ ap₂ (λ (n : ℕ) (seen : List Entry). planned settings scheduler.number n seen (wanted_wishes plans.asked plans.request))
      (sym (commits_other scheduler.number history entry other)) (sym (take-append-le attempt.seen history (entry ∷ []) plans.there));
  decided = plans.decided;
}

order_push : (settings : Settings) (reading : Reading) (history : List Entry) (entry : Entry) (scheduler : Scheduler) → is_commit_of scheduler.number entry ≡ false
    → IsInOrder settings reading history scheduler → IsInOrder settings reading (history ++ entry ∷ []) scheduler
order_push settings reading history entry scheduler other is =
    record { own = is.own; plans = λ attempt at. plans_push settings history entry scheduler attempt other (is.plans attempt at) }

module _ (settings : Settings) (reading : Reading) where
  abbrev IsOwn : ℕ → Request → Type 0
  IsOwn number request = IsOwnRequest settings reading.trace number request

  -- wishes for tasks, and for extras, are wishes of the trace
  tasks_wished : (tasks : List WantedTask) → Each (IsWishOf reading.trace) (map (wish_of reading.trace) tasks)
  tasks_wished [] = tt
  tasks_wished (task ∷ tasks) = (record { model = task; whose = inl refl; constraints = refl }, tasks_wished tasks)

  each_wished : (job : ℕ) (model : WantedTask) (indexes : List ℕ) → Each (IsExtraOf job) (names_of (map (extra_wish reading.trace model) indexes))
      → Each (IsWishOf reading.trace) (map (extra_wish reading.trace model) indexes)
  each_wished job model [] extras = tt
  each_wished job model (index ∷ indexes) extras =
      (record { model = model; whose = inr (extras.0.1, refl); constraints = refl }, each_wished job model indexes extras.1)

  extras_wished : (cell : Cell) (asked : List WantedTask) (job : ℕ) (activities : Option ℕ) (models : List WantedTask)
      → Each (IsExtraOf job) (names_of (wishes_after settings reading.trace cell asked job activities models))
      → Each (IsWishOf reading.trace) (wishes_after settings reading.trace cell asked job activities models)
  extras_wished cell asked job None models extras = tt
  extras_wished cell asked job (Some activities) [] extras = tt
  extras_wished cell asked job (Some activities) (model ∷ others) extras =
      each_wished job model
      (free_indexes (map (λ task. task.key.index) (running_extras cell job)) (extra_count settings cell job activities asked model.spec.need)) extras

  all_wished : (cell : Cell) (asked : List WantedTask) (job : ℕ) → Each (IsWishOf reading.trace) (wishes_of settings reading.trace cell asked job)
  all_wished cell asked job =
      each_append (IsWishOf reading.trace) (map (wish_of reading.trace) (filter (is_waiting cell job) asked))
      (wishes_for_extras settings reading.trace cell asked job)
      (tasks_wished (filter (is_waiting cell job) asked))
      (extras_wished cell asked job (activities_of reading.trace job) (wanted_of job asked) (extras_are settings reading.trace cell asked job).each)

  of_job : (number job : ℕ) (wishes : List Wish) → scheduler_of settings reading.trace job ≡ number → Each (IsWishOf reading.trace) wishes
      → OfValue (IsOwn number) (request_of job wishes)
  of_job number job [] routed wished = tt
  of_job number job (wish ∷ wishes) routed wished = record { routed = routed; wished = wished }

  requests_own : (rows : List Row) (history : List Entry) (number : ℕ) → Each (IsOwn number) (requests settings reading.trace rows history number)
  requests_own rows history number =
      let test : ℕ → Bool = works_on settings reading.trace history number in
      let own : ℕ → Type 0 = λ job. scheduler_of settings reading.trace job ≡ number in
      let jobs : List ℕ = filter test (jobs_in_order (feed reading.trace)) in
      each_mapped own (IsOwn number) (λ job. request_of job (wishes_of settings reading.trace (state history) (wanted rows) job))
      (λ job routed. of_job number job _ routed (all_wished (state history) (wanted rows) job)) jobs
      (each_map (λ job. test job ≡ true) own (λ job passes. eqb-true _ _ (and_parts _ _ passes).0) jobs (each_passes test (jobs_in_order (feed reading.trace))))

  left_own : (P : Request → Type 0) (asked : List WantedTask) (standing : Standing) (left : List Request) → standing.requests ≡ left → Each P left
      → Each P (without_unwanted asked standing left).requests
  left_own P asked standing [] is own = subst (Each P) (sym is) own
  left_own P asked standing (request ∷ rest) is own =
      by_answer (has_wanted_wish asked request)
      (λ t. rw t (subst (Each P) (sym is) own))
      (λ f. rw f (left_own P asked (fresh standing.failing rest) rest refl own.1))

  moved_own : (number : ℕ) (standing : Standing) (request : Request) (rest : List Request) (outcomes : List Outcome) → Each (IsOwn number) (request ∷ rest)
      → Each (IsOwn number) (moved_on settings standing request rest outcomes).requests
  moved_own number standing request rest outcomes own =
      elim (ends_request settings (standing.taken + 1) (failing_after (standing.failing request.job) outcomes) request outcomes) as (λ test.
      Each (IsOwn number) (if test then fresh (failing_with standing.failing request.job outcomes) rest
      else record { requests = rest_of request outcomes ∷ rest; taken = standing.taken + 1; failing = failing_with standing.failing request.job outcomes }).requests) [
        | true ↦ own.1
        | false ↦ (
          record {
            routed = own.0.routed;
            wished = each_filter (IsWishOf reading.trace) (λ (wish : Wish). not (places_wish outcomes wish)) request.wishes own.0.wished;
          },
          own.1,
        )
      ]

  entry_own : (by seen : ℕ) (txn : Txn) (reply : List Judgement) (scheduler : Scheduler) → (scheduler.number == by) ≡ true
      → Each (IsOwn scheduler.number) scheduler.left.requests
      → Each (IsOwn scheduler.number) (with_entry settings (Commit by seen txn reply) scheduler).left.requests
  entry_own by seen txn reply scheduler is own = by_left scheduler.left.requests refl where
    mine : (by == scheduler.number) ≡ true
    mine = eq-eqb by scheduler.number (sym (eqb-true scheduler.number by is))

    by_left : (left : List Request) → scheduler.left.requests ≡ left → Each (IsOwn scheduler.number) (with_entry settings (Commit by seen txn reply) scheduler).left.requests
    by_left [] none = rw (mine, none) tt
    by_left (request ∷ rest) some =
        rw (mine, some) (moved_own scheduler.number scheduler.left request rest (outcomes_of txn.claims reply) (subst (Each (IsOwn scheduler.number)) some own))

  -- a scheduler that has its own requests left is in order once it works on them
  working_order : (past : Past) (now number begun : ℕ) (left : Standing) → Each (IsOwn number) left.requests
      → IsInOrder settings reading past.history (working settings reading past now number begun left)
  working_order past now number begun left own = record { own = own; plans = by_left left.requests refl } where
    by_left : (requests : List Request) → left.requests ≡ requests → (attempt : Attempt) → first_attempt settings reading past now number requests ≡ Some attempt
        → PlansFirst settings past.history (working settings reading past now number begun left) attempt
    by_left [] is attempt found = absurd (cc)
    by_left (request ∷ rest) is attempt found =
        subst (PlansFirst settings past.history (working settings reading past now number begun left)) (same_attempt found) (record {
          request = request;
          rest = rest;
          first = is;
          job = refl;
          there = omega arith;
          asked = wanted_at reading past;
          claims = ap (λ (seen : List Entry). planned settings number (commits_of number past.history) seen (wanted_wishes (wanted_at reading past) request))
              (sym (take-length past.history));
          decided = refl;
        }) where
          same_attempt : Some (attempt_on settings reading past now number request) ≡ Some attempt → attempt_on settings reading past now number request ≡ attempt
          same_attempt same = cc

  synced_order : (past : Past) (now : ℕ) (scheduler : Scheduler) → Each (IsOwn scheduler.number) scheduler.left.requests
      → IsInOrder settings reading past.history (synced settings reading past now scheduler)
  synced_order past now scheduler own =
      let left : Standing = without_unwanted (wanted_at reading past) scheduler.left scheduler.left.requests in
      by_answer (is_empty left.requests && nat_lt scheduler.begun past.triggers)
      (λ t. rw t (working_order past now scheduler.number past.triggers (new_pass settings reading past scheduler.number) (requests_own (reading.counted past.rows past.history) past.history scheduler.number)))
      (λ f. rw f (working_order past now scheduler.number scheduler.begun left (left_own (IsOwn scheduler.number) (wanted_at reading past) scheduler.left scheduler.left.requests refl own)))

  -- ---- numbers

  number_stays : (past : Past) (now : ℕ) (scheduler : Scheduler) → (synced settings reading past now scheduler).number ≡ scheduler.number
  number_stays past now scheduler =
      by_answer (is_empty (without_unwanted (wanted_at reading past) scheduler.left scheduler.left.requests).requests && nat_lt scheduler.begun past.triggers)
      (λ t. rw t refl) (λ f. rw f refl)

  abbrev numbers_in : List Scheduler → List ℕ
  numbers_in crew = map (λ (scheduler : Scheduler). scheduler.number) crew

  numbers_stay : (f : Scheduler → Scheduler) → ((scheduler : Scheduler) → (f scheduler).number ≡ scheduler.number) → (crew : List Scheduler)
      → numbers_in (map f crew) ≡ numbers_in crew
  numbers_stay f same [] = refl
  numbers_stay f same (scheduler ∷ crew) = ap₂ (λ (n : ℕ) (ns : List ℕ). n ∷ ns) (same scheduler) (numbers_stay f same crew)

  idle_number : (past : Past) (now : ℕ) (scheduler : Scheduler) (attempt : Option Attempt) → (synced_if_idle settings reading past now scheduler attempt).number ≡ scheduler.number
  idle_number past now scheduler None = number_stays past now scheduler
  idle_number past now scheduler (Some attempt) = refl

  commit_number : (past : Past) (now by : ℕ) (entry : Entry) (scheduler : Scheduler) → (after_commit settings reading past now by entry scheduler).number ≡ scheduler.number
  commit_number past now by entry scheduler =
      by_answer (scheduler.number == by) (λ t. rw t (number_stays past now (with_entry settings entry scheduler))) (λ f. rw f refl)

  idle_numbers : (numbers : List ℕ) → numbers_in (map idle_scheduler numbers) ≡ numbers
  idle_numbers [] = refl
  idle_numbers (number ∷ numbers) = ap (λ (ns : List ℕ). number ∷ ns) (idle_numbers numbers)

  idle_in_order : (numbers : List ℕ) → Each (IsInOrder settings reading []) (map idle_scheduler numbers)
  idle_in_order [] = tt
  idle_in_order (number ∷ numbers) = (record { own = tt; plans = λ attempt at. absurd (cc) }, idle_in_order numbers)

  -- ---- each step

  -- those that aren't deciding sync, while others stay in order
  idle_order : (old : List Entry) (past : Past) (now : ℕ)
      → ((scheduler : Scheduler) → IsInOrder settings reading old scheduler → IsInOrder settings reading past.history scheduler)
      → (crew : List Scheduler) → Each (IsInOrder settings reading old) crew
      → Each (IsInOrder settings reading past.history) (idle_synced settings reading past now crew)
  idle_order old past now stays [] each = tt
  idle_order old past now stays (scheduler ∷ crew) each = (by_attempt scheduler.attempt, idle_order old past now stays crew each.1) where
    by_attempt : (attempt : Option Attempt) → IsInOrder settings reading past.history (synced_if_idle settings reading past now scheduler attempt)
    by_attempt None = synced_order past now scheduler each.0.own
    by_attempt (Some attempt) = stays scheduler each.0

  committing_order : (past : Past) (now by seen : ℕ) (txn : Txn) (reply : List Judgement) (crew : List Scheduler) → Each (IsInOrder settings reading past.history) crew
      → Each (IsInOrder settings reading (past_with past (Commit by seen txn reply)).history)
      (map (after_commit settings reading (past_with past (Commit by seen txn reply)) now by (Commit by seen txn reply)) crew)
  committing_order past now by seen txn reply [] each = tt
  committing_order past now by seen txn reply (scheduler ∷ crew) each = (
    by_answer (scheduler.number == by)
        (λ t. rw t (synced_order (past_with past (Commit by seen txn reply)) now (with_entry settings (Commit by seen txn reply) scheduler)
        (entry_own by seen txn reply scheduler t each.0.own)))
        (λ f. rw f (order_push settings reading past.history (Commit by seen txn reply) scheduler (apart by scheduler.number f) each.0)),
    committing_order past now by seen txn reply crew each.1,
  )

  pub order_first : CrewInOrder settings reading (beginning settings reading)
  order_first = record {
    numbers = idle_numbers (range_with_len 0 (schedulers settings));
    each = idle_in_order (range_with_len 0 (schedulers settings));
  }

  -- it stays so where a round opens, and where an attempt is committed
  pub order_opened : (old : Moment) (round : Round) (rest : List Round) → CrewInOrder settings reading old → CrewInOrder settings reading (opening settings reading old round rest)
  order_opened old round rest so_far = record {
    numbers = numbers_stay (λ scheduler. synced_if_idle settings reading (past_opened reading old.past round) (greatest_time round.rows) scheduler scheduler.attempt)
        (λ scheduler. idle_number (past_opened reading old.past round) (greatest_time round.rows) scheduler scheduler.attempt) old.crew ∙ so_far.numbers;
    each = idle_order old.past.history (past_opened reading old.past round) (greatest_time round.rows)
        (λ scheduler is. stays_opened (λ (before : List Entry). IsInOrder settings reading before scheduler)
        (λ before entry none is. order_push settings reading before entry scheduler (commit_of_none scheduler.number entry none) is)
        reading.trace old.past.rows old.past.history (reading.heeded round) is)
        old.crew so_far.each;
  }

  pub order_ended : (old : Moment) (end : DueEnd) → CrewInOrder settings reading old → CrewInOrder settings reading (ending settings reading old end)
  order_ended old end so_far = record {
    numbers = numbers_stay (λ scheduler. synced_if_idle settings reading (past_ended reading old.past end old.coming) end.time scheduler scheduler.attempt)
        (λ scheduler. idle_number (past_ended reading old.past end old.coming) end.time scheduler scheduler.attempt) old.crew ∙ so_far.numbers;
    each = idle_order old.past.history (past_ended reading old.past end old.coming) end.time
        (λ scheduler is. stays_ended (λ (before : List Entry). IsInOrder settings reading before scheduler)
        (λ before key machine is. order_push settings reading before (End key machine) scheduler refl is)
        reading old.past.rows old.past.history end is)
        old.crew so_far.each;
  }

  pub order_committed : (old : Moment) (due : DueCommit) → CrewInOrder settings reading old → CrewInOrder settings reading (committing settings reading old due.by due.attempt)
  order_committed old due so_far =
      let entry : Entry = due_entry settings reading old.past due.by due.attempt in
      record {
        numbers = numbers_stay (after_commit settings reading (past_with old.past entry) due.attempt.due due.by entry)
            (λ scheduler. commit_number (past_with old.past entry) due.attempt.due due.by entry scheduler) old.crew ∙ so_far.numbers;
        each = committing_order old.past due.attempt.due due.by due.attempt.seen (due_txn settings reading old.past due.by due.attempt)
            (reply_of old.past.history due.attempt.seen (due_txn settings reading old.past due.by due.attempt)) old.crew so_far.each;
      }

  order_next : (old new : Moment) → CrewInOrder settings reading old → Happens settings reading old new → CrewInOrder settings reading new
  order_next old new so_far (inl opens) = subst (CrewInOrder settings reading) (sym opens.happens) (order_opened old opens.round opens.rest so_far)
  order_next old new so_far (inr (inl ends)) = subst (CrewInOrder settings reading) (sym ends.happens) (order_ended old ends.end so_far)
  order_next old new so_far (inr (inr commits)) = subst (CrewInOrder settings reading) (sym commits.happens) (order_committed old commits.due so_far)

  -- at each moment the crew is in order
  pub crew_in_order : (steps : ℕ) → CrewInOrder settings reading (after settings reading steps)
  crew_in_order = holds_after settings reading (CrewInOrder settings reading) order_first order_next

-- what is due first is for a job of its scheduler
module _ (settings : Settings) (reading : Reading) (history : List Entry) where
  each_routed : (crew : List Scheduler) → Each (IsInOrder settings reading history) crew
      → EachDeciding (λ number attempt. scheduler_of settings reading.trace attempt.job ≡ number) crew
  each_routed [] each = tt
  each_routed (scheduler ∷ crew) each = (by_attempt scheduler.attempt refl, each_routed crew each.1) where
    by_attempt : (attempt : Option Attempt) → scheduler.attempt ≡ attempt
        → WhenDeciding (λ number attempt. scheduler_of settings reading.trace attempt.job ≡ number) scheduler.number attempt
    by_attempt None at = tt
    by_attempt (Some attempt) at =
        let plans = each.0.plans attempt at in
        let own : Each (IsOwnRequest settings reading.trace scheduler.number) (plans.request ∷ plans.rest) =
        subst (Each (IsOwnRequest settings reading.trace scheduler.number)) plans.first each.0.own in
        ap (scheduler_of settings reading.trace) plans.job ∙ own.0.routed

  pub due_routed : (crew : List Scheduler) (due : DueCommit) → Each (IsInOrder settings reading history) crew → first_due crew ≡ Some due
      → scheduler_of settings reading.trace due.attempt.job ≡ due.by
  due_routed crew due each is =
      due_holds settings reading (λ number attempt. scheduler_of settings reading.trace attempt.job ≡ number) crew due (each_routed crew each) is
