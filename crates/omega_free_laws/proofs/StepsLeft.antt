-- A run by the free clock ends.
use Rattle.std.proofs.Common.{◌≡◌, ◌≤◌, ◌<◌, ◌+◌, ◌*◌, ◌-◌, ℕ, zero, suc, Bool, true, false, List, [], ◌∷◌, length, map, Option, Some, None, refl, sym, ap, ap₂, subst, ◌∙◌, inl, inr, arith, unwrap_or, mul-le-mul_right, zero-mul}
use Rattle.std.specs.Prelude.{◌&&◌, ◌==◌, ◌⊎◌, nat_lt, if◌then◌else◌}
use Rattle.std.specs.List.{filter, filter_map, range_with_len, AllByRecursion as Each}
use Rattle.std.proofs.lemmas.List.FromFn.{length-range_with_len}
use Rattle.std.proofs.lemmas.Bool.{eq-eqb, eqb-true}
use Rattle.std.proofs.lemmas.Bool.Decides.{leb_tells}
use Rattle.std.proofs.lemmas.Option.{same_Some}
use Rattle.omega_model.proofs.Fewer.{filter_fewer}
use Rattle.omega_model.proofs.Lists.{by_answer}
use Rattle.omega_model.specs.Feed.{feed}
use Rattle.omega_model.specs.Policy.{schedulers}
use Rattle.omega_model.specs.Requests.{jobs_in_order, request_of, requests, wishes_of, works_on}
use Rattle.omega_model.specs.State.{reply_of, state}
use Rattle.omega_model.specs.Wanted.{WantedTask, wanted}
use Rattle.omega_model.specs.Work.{Standing, ends_request, failing_after, failing_with, fresh, is_empty, moved_on, outcomes_of, rest_of}
use Rattle.omega_model.specs.declared.claims.Judgement.{Judgement}
use Rattle.omega_model.specs.declared.claims.Outcome.{Outcome}
use Rattle.omega_model.specs.declared.claims.Txn.{Txn}
use Rattle.omega_model.specs.declared.entries.Entry.{Entry}
use Rattle.omega_model.specs.declared.entries.Entry.TheVariants.{Commit, End}
use Rattle.omega_model.specs.declared.rows.Row.{Row}
use Rattle.omega_model.specs.declared.rows.Round.{Round}
use Rattle.omega_free_laws.specs.Readings.{Reading}
use Rattle.omega_model.specs.declared.settings.Settings.{Settings}
use Rattle.omega_model.specs.declared.wishes.Request.{Request}
use Rattle.omega_laws.specs.Simulated.{greatest_time}
use Rattle.omega_laws.specs.VirtualTime.{Timed}
use Rattle.omega_free_laws.specs.Free.{FreeRun, IsOver, after}
use Rattle.omega_free_laws.proofs.Seen.{stays_extras, stays_opened}
use Rattle.omega_free_laws.specs.StepsLeft.{BoundsEnds, most_triggers, triggers_in_all, attempts_left, attempts_of, attempts_of_all, attempts_of_pass, most_steps, still_to_come}
use Rattle.omega_free_laws.specs.FreeSteps.{DueCommit, Moment, after_commit, beginning, due_entry, due_of, due_txn, first_due, idle_scheduler, next, committing, ended_alone, ending, triggers_of_end, opening, sooner, past_ended, idle_synced, past_opened, past_with}
use Rattle.omega_free_laws.specs.NextStep.{Happens}
use Rattle.omega_free_laws.specs.Passes.{Attempt, Scheduler, Past, wanted_at, first_attempt, going_on, new_pass, synced, synced_if_idle, with_entry, working}
use Rattle.omega_free_laws.specs.StillWanted.{has_wanted_wish, without_unwanted}
use Rattle.omega_free_laws.proofs.OneStep.{happens_next, holds_after}

-- after an attempt fewer are left, and the next request has a try left
attempt_less : (settings : Settings) (standing : Standing) (request : Request) (rest : List Request) (outcomes : List Outcome)
    → 1 ≤ settings.tries → standing.requests ≡ request ∷ rest → standing.taken < settings.tries
    → (attempts_left settings (moved_on settings standing request rest outcomes) < attempts_left settings standing)
    × ((moved_on settings standing request rest outcomes).taken < settings.tries)
attempt_less settings standing request rest outcomes tries is taken =
    let count : length standing.requests ≡ suc (length rest) = ap length is in
    by_test (ends_request settings (standing.taken + 1) (failing_after (standing.failing request.job) outcomes) request outcomes) refl count where
      more : (a t : ℕ) → (suc a) * t ≡ a * t + t
      more a t = grind (arith)

      by_test : (test : Bool) → ends_request settings (standing.taken + 1) (failing_after (standing.failing request.job) outcomes) request outcomes ≡ test
          → length standing.requests ≡ suc (length rest)
          → (let after : Standing = (if test then fresh (failing_with standing.failing request.job outcomes) rest
          else record { requests = rest_of request outcomes ∷ rest; taken = standing.taken + 1; failing = failing_with standing.failing request.job outcomes }) in
          (length after.requests * settings.tries - after.taken < length standing.requests * settings.tries - standing.taken) × (after.taken < settings.tries))
      by_test true ends count =
          let all = more (length rest) settings.tries in
          (rw count (rw all (omega arith)), omega arith)
      by_test false ends count =
          let all = more (length rest) settings.tries in
          let last : standing.taken + 1 < settings.tries = try_left ends in
          (rw (count, all) (omega (arith, last)), last) where
            try_left : ends_request settings (standing.taken + 1) (failing_after (standing.failing request.job) outcomes) request outcomes ≡ false
                → standing.taken + 1 < settings.tries
            try_left ends = grind (arith, ends)

filter_map_shorter : {X Y : Type 0} (f : X → Option Y) (xs : List X) → length (filter_map f xs) ≤ length xs
filter_map_shorter f [] = omega arith
filter_map_shorter {X} {Y} f (x ∷ xs) = by_found (f x) refl (filter_map_shorter f xs) where
  by_found : (found : Option Y) → f x ≡ found → length (filter_map f xs) ≤ length xs → length (filter_map f (x ∷ xs)) ≤ length (x ∷ xs)
  by_found None is rest = rw is (omega (arith, rest))
  by_found (Some y) is rest = rw is (omega (arith, rest))

module _ (settings : Settings) (reading : Reading) (tries : 1 ≤ settings.tries) where
  few_requests : (rows : List Row) (history : List Entry) (scheduler : ℕ)
      → length (requests settings reading.trace rows history scheduler) ≤ length (jobs_in_order (feed reading.trace))
  few_requests rows history scheduler =
      let some = filter_map_shorter (λ job. request_of job (wishes_of settings reading.trace (state history) (wanted rows) job))
      (filter (works_on settings reading.trace history scheduler) (jobs_in_order (feed reading.trace))) in
      let all = filter_fewer (works_on settings reading.trace history scheduler) (jobs_in_order (feed reading.trace)) in
      omega (arith, some, all)

  more : (a t : ℕ) → (suc a) * t ≡ a * t + t
  more a t = grind (arith)

  -- requests that leave a pass take their attempts with them
  asked_less : (asked : List WantedTask) (standing : Standing) (left : List Request) → standing.requests ≡ left → standing.taken < settings.tries
      → (attempts_left settings (without_unwanted asked standing left) ≤ attempts_left settings standing)
      × ((without_unwanted asked standing left).taken < settings.tries)
  asked_less asked standing [] is taken = (omega arith, taken)
  asked_less asked standing (request ∷ rest) is taken =
      by_answer (has_wanted_wish asked request)
      (λ t. rw t (omega arith, taken))
      (λ f. let later = asked_less asked (fresh standing.failing rest) rest refl (omega (arith, tries)) in
      let count : length standing.requests ≡ suc (length rest) = ap length is in
      let all = more (length rest) settings.tries in
      let low = later.0 in
      rw f (rw (count, all) (omega (arith, low, taken)), later.1))

  -- how a scheduler's attempts shrink
  pub record Fewer (all : ℕ) (one other : Scheduler) : Type 0 where
    pub less : attempts_of settings reading all other ≤ attempts_of settings reading all one
    pub tried : other.left.taken < settings.tries

  going_on_less : (past : Past) (now all : ℕ) (scheduler : Scheduler) (left : Standing) → past.triggers ≤ all → left.taken < settings.tries
      → attempts_left settings left ≤ attempts_left settings scheduler.left
      → Fewer all scheduler (going_on settings reading past now scheduler left)
  going_on_less past now all scheduler left within taken less =
      by_answer (is_empty left.requests)
      (λ e. elim (leb_tells (suc scheduler.begun) past.triggers) [
        | inl later ↦ rw (e, later.0) (record { less = anew later.1; tried = omega (arith, tries) })
        | inr same ↦ rw (e, same.0) (record { less = omega (arith, less); tried = taken })
      ])
      (λ n. rw n (record { less = omega (arith, less); tried = taken })) where
        anew : scheduler.begun < past.triggers
            → attempts_left settings (new_pass settings reading past scheduler.number) + (all - past.triggers) * attempts_of_pass settings reading
            ≤ attempts_left settings scheduler.left + (all - scheduler.begun) * attempts_of_pass settings reading
        anew later =
            let few = mul-le-mul_right settings.tries (few_requests (reading.counted past.rows past.history) past.history scheduler.number) in
            let passes : suc (all - past.triggers) ≤ all - scheduler.begun = omega (arith, within, later) in
            let fewer = mul-le-mul_right (attempts_of_pass settings reading) passes in
            let one = more (all - past.triggers) (attempts_of_pass settings reading) in
            omega (arith, few, fewer, one)

  pub synced_less : (past : Past) (now all : ℕ) (scheduler : Scheduler) → past.triggers ≤ all → scheduler.left.taken < settings.tries
      → Fewer all scheduler (synced settings reading past now scheduler)
  synced_less past now all scheduler within taken =
      let asked = asked_less (wanted_at reading past) scheduler.left scheduler.left.requests refl taken in
      going_on_less past now all scheduler (without_unwanted (wanted_at reading past) scheduler.left scheduler.left.requests) within asked.1 asked.0

  -- a scheduler that is deciding has something left
  abbrev pub IsAtWork : Scheduler → Type 0
  IsAtWork scheduler = (attempt : Attempt) → scheduler.attempt ≡ Some attempt
      → (request : Request) × ((rest : List Request) × (scheduler.left.requests ≡ request ∷ rest))

  pub record Ready (scheduler : Scheduler) : Type 0 where
    pub tried : scheduler.left.taken < settings.tries
    pub works : IsAtWork scheduler

  first_works : (past : Past) (now number begun : ℕ) (left : Standing) → IsAtWork (working settings reading past now number begun left)
  first_works past now number begun left = by_left left.requests refl where
    by_left : (requests : List Request) → left.requests ≡ requests → (attempt : Attempt)
        → first_attempt settings reading past now number requests ≡ Some attempt
        → (request : Request) × ((rest : List Request) × (left.requests ≡ request ∷ rest))
    by_left [] is attempt found = absurd (cc)
    by_left (request ∷ rest) is attempt found = (request, (rest, is))

  going_on_works : (past : Past) (now : ℕ) (scheduler : Scheduler) (left : Standing) → IsAtWork (going_on settings reading past now scheduler left)
  going_on_works past now scheduler left =
      by_answer (is_empty left.requests && nat_lt scheduler.begun past.triggers)
      (λ t. rw t (first_works past now scheduler.number past.triggers (new_pass settings reading past scheduler.number)))
      (λ f. rw f (first_works past now scheduler.number scheduler.begun left))

  pub synced_ready : (past : Past) (now all : ℕ) (scheduler : Scheduler) → past.triggers ≤ all → scheduler.left.taken < settings.tries
      → Ready (synced settings reading past now scheduler)
  synced_ready past now all scheduler within taken = record {
    tried = (synced_less past now all scheduler within taken).tried;
    works = going_on_works past now scheduler (without_unwanted (wanted_at reading past) scheduler.left scheduler.left.requests);
  }

  -- a scheduler's own commit is an attempt on the first request that it has left
  turned : (a b : ℕ) → (a == b) ≡ true → (b == a) ≡ true
  turned a b is = eq-eqb b a (sym (eqb-true a b is))

  own_some : (scheduler : Scheduler) (by seen : ℕ) (txn : Txn) (reply : List Judgement) (request : Request) (rest : List Request)
      → (scheduler.number == by) ≡ true → scheduler.left.requests ≡ request ∷ rest
      → (with_entry settings (Commit by seen txn reply) scheduler).left ≡ moved_on settings scheduler.left request rest (outcomes_of txn.claims reply)
  own_some scheduler by seen txn reply request rest is first = rw (turned scheduler.number by is, first) refl

  own_none : (scheduler : Scheduler) (by seen : ℕ) (txn : Txn) (reply : List Judgement)
      → (scheduler.number == by) ≡ true → scheduler.left.requests ≡ []
      → (with_entry settings (Commit by seen txn reply) scheduler).left ≡ scheduler.left
  own_none scheduler by seen txn reply is first = rw (turned scheduler.number by is, first) refl

  -- such a commit leaves fewer attempts, where something was left
  pub record Spent (old new : Standing) : Type 0 where
    pub no_more : attempts_left settings new ≤ attempts_left settings old
    pub tried : new.taken < settings.tries
    pub fewer : (request : Request) (rest : List Request) → old.requests ≡ request ∷ rest → attempts_left settings new < attempts_left settings old

  pub own_less : (scheduler : Scheduler) (by seen : ℕ) (txn : Txn) (reply : List Judgement) → (scheduler.number == by) ≡ true → scheduler.left.taken < settings.tries
      → Spent scheduler.left (with_entry settings (Commit by seen txn reply) scheduler).left
  own_less scheduler by seen txn reply is taken = by_left scheduler.left.requests refl where
    by_left : (requests : List Request) → scheduler.left.requests ≡ requests → Spent scheduler.left (with_entry settings (Commit by seen txn reply) scheduler).left
    by_left [] none = subst (Spent scheduler.left) (sym (own_none scheduler by seen txn reply is none)) (record {
      no_more = omega arith;
      tried = taken;
      fewer = λ request rest some. absurd (let clash : [] ≡ request ∷ rest = sym none ∙ some in cc);
    })
    by_left (request ∷ rest) some =
        let less = attempt_less settings scheduler.left request rest (outcomes_of txn.claims reply) tries some taken in
        let fewer = less.0 in
        subst (Spent scheduler.left) (sym (own_some scheduler by seen txn reply request rest is some)) (record {
          no_more = omega (arith, fewer);
          tried = less.1;
          fewer = λ other later same. fewer;
        })

  module _ (all : ℕ) where
    -- what a step makes of a scheduler
    pub record Steps (one other : Scheduler) : Type 0 where
      pub no_more : attempts_of settings reading all other ≤ attempts_of settings reading all one
      pub ready : Ready other

    pub opening_steps : (past : Past) (now : ℕ) (scheduler : Scheduler) → past.triggers ≤ all → Ready scheduler
        → Steps scheduler (synced_if_idle settings reading past now scheduler scheduler.attempt)
    opening_steps past now scheduler within ready = by_attempt scheduler.attempt where
      by_attempt : (attempt : Option Attempt) → Steps scheduler (synced_if_idle settings reading past now scheduler attempt)
      by_attempt None = record {
        no_more = (synced_less past now all scheduler within ready.tried).less;
        ready = synced_ready past now all scheduler within ready.tried;
      }
      by_attempt (Some attempt) = record { no_more = omega arith; ready = ready }

    -- the scheduler that commits has fewer attempts left
    pub committed_steps : (past : Past) (now by seen : ℕ) (txn : Txn) (reply : List Judgement) (scheduler : Scheduler) → past.triggers ≤ all → Ready scheduler
        → Steps scheduler (after_commit settings reading past now by (Commit by seen txn reply) scheduler)
        × ((attempt : Attempt) → scheduler.attempt ≡ Some attempt → (scheduler.number == by) ≡ true
        → attempts_of settings reading all (after_commit settings reading past now by (Commit by seen txn reply) scheduler) < attempts_of settings reading all scheduler)
    committed_steps past now by seen txn reply scheduler within ready =
        by_answer (scheduler.number == by)
        (λ t.
        let spent = own_less scheduler by seen txn reply t ready.tried in
        let next : Scheduler = with_entry settings (Commit by seen txn reply) scheduler in
        let low = (synced_less past now all next within spent.tried).less in
        let no_more = spent.no_more in
        rw t (
          record { no_more = omega (arith, low, no_more); ready = synced_ready past now all next within spent.tried },
          λ attempt at same.
              let works = ready.works attempt at in
              let fewer = spent.fewer works.0 works.1.0 works.1.1 in
              omega (arith, low, fewer),
        ))
        (λ f. rw f (record { no_more = omega arith; ready = ready }, λ attempt at same. absurd (cc)))

  module _ (all : ℕ) where
    opening_all : (past : Past) (now : ℕ) → past.triggers ≤ all → (crew : List Scheduler) → Each Ready crew
        → (attempts_of_all settings reading all (idle_synced settings reading past now crew)
        ≤ attempts_of_all settings reading all crew)
        × Each Ready (idle_synced settings reading past now crew)
    opening_all past now within [] ready = (omega arith, tt)
    opening_all past now within (scheduler ∷ crew) ready =
        let first = opening_steps all past now scheduler within ready.0 in
        let rest = opening_all past now within crew ready.1 in
        let low = first.no_more in
        let others = rest.0 in
        (omega (arith, low, others), (first.ready, rest.1))

    head_or_tail : (number : ℕ) (attempt : Option Attempt) (rest : Option DueCommit) (due : DueCommit) → sooner (due_of number attempt) rest ≡ Some due
        → ((it : Attempt) × ((attempt ≡ Some it) × (number ≡ due.by))) ⊎ (rest ≡ Some due)
    head_or_tail number None rest due is = inr is
    head_or_tail number (Some it) None due is = let same = same_Some (record { by = number; attempt = it }) due is in
        inl (it, (refl, ap (λ (d : DueCommit). d.by) same))
    head_or_tail number (Some it) (Some other) due is =
        by_answer (nat_lt other.attempt.due it.due)
        (λ t. inr (rw t at is))
        (λ f. let same = same_Some (record { by = number; attempt = it }) due (rw f at is) in inl (it, (refl, ap (λ (d : DueCommit). d.by) same)))

    committing_all : (past : Past) (now by seen : ℕ) (txn : Txn) (reply : List Judgement) → past.triggers ≤ all → (crew : List Scheduler) → Each Ready crew
        → (attempts_of_all settings reading all (map (after_commit settings reading past now by (Commit by seen txn reply)) crew) ≤ attempts_of_all settings reading all crew)
        × (Each Ready (map (after_commit settings reading past now by (Commit by seen txn reply)) crew)
        × ((due : DueCommit) → first_due crew ≡ Some due → due.by ≡ by
        → attempts_of_all settings reading all (map (after_commit settings reading past now by (Commit by seen txn reply)) crew) < attempts_of_all settings reading all crew))
    committing_all past now by seen txn reply within [] ready = (omega arith, (tt, λ due is same. absurd (cc)))
    committing_all past now by seen txn reply within (scheduler ∷ crew) ready =
        let first = committed_steps all past now by seen txn reply scheduler within ready.0 in
        let rest = committing_all past now by seen txn reply within crew ready.1 in
        let low = first.0.no_more in
        let others = rest.0 in (
          omega (arith, low, others),
          (
            (first.0.ready, rest.1.0),
            λ due is same. elim (head_or_tail scheduler.number scheduler.attempt (first_due crew) due is) [
              | inl here ↦
                  let fewer = first.1 here.0 here.1.0 (eq-eqb scheduler.number by (here.1.1 ∙ same)) in
                  omega (arith, fewer, others)
              | inr there ↦
                  let fewer = rest.1.1 due there same in
                  omega (arith, low, fewer)
            ],
          ),
        )

    -- at first each has the attempts of as many passes as there are rounds
    first_all : (numbers : List ℕ) → (attempts_of_all settings reading all (map idle_scheduler numbers) ≡ length numbers * (all * attempts_of_pass settings reading))
        × Each Ready (map idle_scheduler numbers)
    first_all [] = (omega arith, tt)
    first_all (number ∷ numbers) =
        let rest = first_all numbers in
        let sum = rest.0 in
        let one = more (length numbers) (all * attempts_of_pass settings reading) in
        let mine : attempts_of settings reading all (idle_scheduler number) ≡ all * attempts_of_pass settings reading = none all (attempts_of_pass settings reading) in
        (omega (arith, sum, one, mine), (record { tried = omega (arith, tries); works = λ attempt is. absurd (cc) }, rest.1)) where
          none : (a p : ℕ) → 0 * settings.tries - 0 + (a - 0) * p ≡ a * p
          none a p = let same : a - 0 ≡ a = omega arith in rw same (let nothing : 0 * settings.tries ≡ 0 = zero-mul settings.tries in omega (arith, nothing))

  -- with less cause for passes still to come there are fewer attempts
  attempts_fewer : (some all : ℕ) → some ≤ all → (crew : List Scheduler) → attempts_of_all settings reading some crew ≤ attempts_of_all settings reading all crew
  attempts_fewer some all less [] = omega arith
  attempts_fewer some all less (scheduler ∷ crew) =
      let later : some - scheduler.begun ≤ all - scheduler.begun = omega (arith, less) in
      let mine = mul-le-mul_right (attempts_of_pass settings reading) later in
      let rest = attempts_fewer some all less crew in
      omega (arith, mine, rest)

  module _ (left : List Entry → ℕ) (bounds : BoundsEnds reading left) where
    -- with each step less is still to come
    goes_down : (old new : Moment) → Each Ready old.crew → Happens settings reading old new
        → (still_to_come left settings reading new < still_to_come left settings reading old) × Each Ready new.crew
    goes_down old new ready (inl opens) =
        let past : Past = past_opened reading old.past opens.round in
        let now : ℕ = greatest_time opens.round.rows in
        let count : length old.coming ≡ suc (length opens.rest) = ap length opens.first in
        let no_more : left past.history ≤ left old.past.history =
        stays_opened (λ (before : List Entry). left before ≤ left old.past.history)
        (λ before entry none less. let next = bounds.no_more before entry in omega (arith, less, next))
        reading.trace old.past.rows old.past.history (reading.heeded opens.round) (omega arith) in
        let some : ℕ = triggers_in_all left (opening settings reading old opens.round opens.rest) in
        let within : past.triggers ≤ some = omega arith in
        let fewer : some ≤ triggers_in_all left old = omega (arith, count, no_more) in
        let steps = opening_all some past now within old.crew ready in
        let low = steps.0 in
        let lower = attempts_fewer some (triggers_in_all left old) fewer old.crew in
        subst (λ (it : Moment). (still_to_come left settings reading it < still_to_come left settings reading old) × Each Ready it.crew) (sym opens.happens)
        (omega (arith, low, lower, count, no_more), steps.1)
    goes_down old new ready (inr (inl ends)) =
        let past : Past = past_ended reading old.past ends.end old.coming in
        let one_less = bounds.one_less old.past.history old.times ends.end ends.first in
        let no_more : left past.history ≤ left (ended_alone old.past.history ends.end) =
        stays_extras (λ (before : List Entry). left before ≤ left (ended_alone old.past.history ends.end))
        (λ before key machine less. let next = bounds.no_more before (End key machine) in omega (arith, less, next))
        reading old.past.rows old.past.history ends.end (omega arith) in
        let some : ℕ = triggers_in_all left (ending settings reading old ends.end) in
        let within : past.triggers ≤ some = omega arith in
        let little = news_little old.coming in
        let fewer : some ≤ triggers_in_all left old = omega (arith, one_less, no_more, little) in
        let steps = opening_all some past ends.end.time within old.crew ready in
        let low = steps.0 in
        let lower = attempts_fewer some (triggers_in_all left old) fewer old.crew in
        subst (λ (it : Moment). (still_to_come left settings reading it < still_to_come left settings reading old) × Each Ready it.crew) (sym ends.happens)
        (omega (arith, low, lower, one_less, no_more), steps.1) where
          news_little : (coming : List Round) → triggers_of_end coming ≤ 1
          news_little [] = omega arith
          news_little (round ∷ rest) = omega arith
    goes_down old new ready (inr (inr commits)) =
        let due : DueCommit = commits.due in
        let entry : Entry = due_entry settings reading old.past due.by due.attempt in
        let past : Past = past_with old.past entry in
        let no_more = bounds.no_more old.past.history entry in
        let some : ℕ = triggers_in_all left (committing settings reading old due.by due.attempt) in
        let within : past.triggers ≤ some = omega arith in
        let fewer : some ≤ triggers_in_all left old = omega (arith, no_more) in
        let steps = committing_all some past due.attempt.due due.by due.attempt.seen (due_txn settings reading old.past due.by due.attempt)
        (reply_of old.past.history due.attempt.seen (due_txn settings reading old.past due.by due.attempt)) within old.crew ready in
        let less = steps.1.1 due commits.first refl in
        let lower = attempts_fewer some (triggers_in_all left old) fewer old.crew in
        subst (λ (it : Moment). (still_to_come left settings reading it < still_to_come left settings reading old) × Each Ready it.crew) (sym commits.happens)
        (omega (arith, less, lower, no_more), steps.1.0)

    at_first : (still_to_come left settings reading (beginning settings reading) ≡ most_steps left settings reading) × Each Ready (beginning settings reading).crew
    at_first =
        let all : ℕ = most_triggers left settings reading in
        let numbers : List ℕ = range_with_len 0 (schedulers settings) in
        let first = first_all (0 + all) numbers in
        let count : length numbers ≡ schedulers settings = length-range_with_len 0 (schedulers settings) in
        let none : 0 + all ≡ all = omega arith in
        let sum : attempts_of_all settings reading (0 + all) (map idle_scheduler numbers) ≡ schedulers settings * (all * attempts_of_pass settings reading) =
        first.0 ∙ ap₂ (λ (n m : ℕ). n * (m * attempts_of_pass settings reading)) count none in
        (ap (λ (n : ℕ). all + n) sum, first.1)

    pub all_ready : (steps : ℕ) → Each Ready (after settings reading steps).crew
    all_ready = holds_after settings reading (λ (it : Moment). Each Ready it.crew) at_first.1 (λ old new ready happens. (goes_down old new ready happens).1)

    over_or_less : (steps : ℕ) → IsOver settings reading (after settings reading steps)
        ⊎ (still_to_come left settings reading (after settings reading steps) + steps ≤ most_steps left settings reading)
    over_or_less zero = let first = at_first.0 in inr (omega (arith, first))
    over_or_less (suc steps) = by_next (next settings reading (after settings reading steps)) refl (over_or_less steps) where
      by_next : (found : Option Moment) → next settings reading (after settings reading steps) ≡ found
          → IsOver settings reading (after settings reading steps)
          ⊎ (still_to_come left settings reading (after settings reading steps) + steps ≤ most_steps left settings reading)
          → IsOver settings reading (unwrap_or found (after settings reading steps))
          ⊎ (still_to_come left settings reading (unwrap_or found (after settings reading steps)) + suc steps ≤ most_steps left settings reading)
      by_next None is before = inl is
      by_next (Some new) is (inl over) = absurd (let clash : None ≡ Some new = sym over ∙ is in cc)
      by_next (Some new) is (inr less) =
          let down = (goes_down (after settings reading steps) new (all_ready steps) (happens_next settings reading (after settings reading steps) new is)).0 in
          inr (omega (arith, less, down))

    -- with each step less is still to come
    pub down_one : (steps : ℕ) → (IsOver settings reading (after settings reading steps) → ⊥)
        → still_to_come left settings reading (after settings reading (suc steps)) < still_to_come left settings reading (after settings reading steps)
    down_one steps not_over = by_next (next settings reading (after settings reading steps)) refl where
      by_next : (found : Option Moment) → next settings reading (after settings reading steps) ≡ found
          → still_to_come left settings reading (unwrap_or found (after settings reading steps)) < still_to_come left settings reading (after settings reading steps)
      by_next None is = absurd (not_over is)
      by_next (Some new) is = (goes_down (after settings reading steps) new (all_ready steps) (happens_next settings reading (after settings reading steps) new is)).0

    -- a run ends within so many steps
    pub run_ends : IsOver settings reading (after settings reading (most_steps left settings reading))
    run_ends = by_next (next settings reading (after settings reading (most_steps left settings reading))) refl (over_or_less (most_steps left settings reading)) where
      by_next : (found : Option Moment) → next settings reading (after settings reading (most_steps left settings reading)) ≡ found
          → IsOver settings reading (after settings reading (most_steps left settings reading))
          ⊎ (still_to_come left settings reading (after settings reading (most_steps left settings reading)) + most_steps left settings reading ≤ most_steps left settings reading)
          → IsOver settings reading (after settings reading (most_steps left settings reading))
      by_next None is before = is
      by_next (Some new) is (inl over) = over
      by_next (Some new) is (inr less) =
          let down = (goes_down (after settings reading (most_steps left settings reading)) new (all_ready (most_steps left settings reading))
          (happens_next settings reading (after settings reading (most_steps left settings reading)) new is)).0 in
          absurd (omega (arith, less, down))

    -- so there is one
    pub run_exists : (history : List Entry) × ((times : List Timed) × FreeRun settings reading history times)
    run_exists =
        let last : Moment = after settings reading (most_steps left settings reading) in
        (last.past.history, (last.times, record { steps = most_steps left settings reading; over = run_ends; is_history = refl; is_times = refl }))
