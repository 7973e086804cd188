-- The times of a run by the free clock are such that no sum over them runs over.
use Rattle.std.proofs.Common.{◌≡◌, ◌≤◌, ◌<◌, ◌+◌, ◌*◌, ◌-◌, ◌^◌, ℕ, suc, true, false, not, List, [], ◌∷◌, ◌++◌, Option, Some, None, length, map, max, take, refl, sym, ap, subst, ◌∙◌, inl, inr, arith, mul-le-mul_right, length-append, zero-mul, add-zero}
use Rattle.std.specs.Prelude.{All, ◌&&◌, ◌==◌, ◌⊎◌, nat_lt, if◌then◌else◌, option_and_then, slice_get}
use Rattle.std.specs.List.{filter, filter_map, fold, range_with_len, AllByRecursion as Each}
use Rattle.std.proofs.Math.Nat.{mul-le-mul_left, mul-le-mul}
use Rattle.std.proofs.lemmas.Bool.{both_ways, eq-eqb, eqb-true}
use Rattle.std.proofs.lemmas.Bool.Decides.{leb_tells}
use Rattle.std.proofs.lemmas.List.Elements.{All-cons, All-head, All-tail}
use Rattle.std.proofs.lemmas.Option.{same_Some}
use Rattle.omega_feed.proofs.Cutting.{rounds_have}
use Rattle.omega_laws.specs.Simulated.{greatest_time}
use Rattle.omega_laws.proofs.Suited.{OfValue, each_mapped}
use Rattle.omega_laws.specs.TimeReport.{job_at, job_of_entry, timed_of}
use Rattle.omega_laws.specs.VirtualTime.{Timed, decision}
use Rattle.omega_model.proofs.Growing.{by_place_push}
use Rattle.omega_model.proofs.Fewer.{filter_fewer}
use Rattle.omega_model.proofs.Lists.{by_answer, each_append, each_filter, each_map, each_of}
use Rattle.omega_model.specs.Feed.{each_once, feed, is_of_round, round_at, round_number, time_of}
use Rattle.omega_model.specs.Lawful.{rows_of}
use Rattle.omega_model.specs.Policy.{schedulers}
use Rattle.omega_model.specs.Ranges.{IsInRange}
use Rattle.omega_model.specs.Requests.{jobs_in_order}
use Rattle.omega_model.specs.State.{reply_of}
use Rattle.omega_model.specs.Touches.{is_commit}
use Rattle.omega_model.specs.Wanted.{WantedTask}
use Rattle.omega_model.specs.Work.{Standing, ends_request, failing_after, failing_with, fresh, is_empty, moved_on, outcomes_of, places_wish, rest_of}
use Rattle.omega_model.specs.declared.claims.Judgement.{Judgement}
use Rattle.omega_model.specs.declared.claims.Outcome.{Outcome}
use Rattle.omega_model.specs.declared.claims.Txn.{Txn}
use Rattle.omega_model.specs.declared.entries.Entry.{Entry}
use Rattle.omega_model.specs.declared.entries.Entry.TheVariants.{Round as RoundEntry, MachineAdd, MachineUpdate, MachineRemove, AttrSet, AttrDelete, End, Commit}
use Rattle.omega_model.specs.declared.rows.Row.{Row}
use Rattle.omega_model.specs.declared.rows.Round.{Round}
use Rattle.omega_model.specs.declared.rows.TraceTables.{TraceTables}
use Rattle.omega_model.specs.declared.settings.Settings.{Settings}
use Rattle.omega_model.specs.declared.wishes.Request.{Request}
use Rattle.omega_model.specs.declared.wishes.Wish.{Wish}
use Rattle.omega_sim.specs.InBounds.{IsInBounds}
use Rattle.omega_sim.specs.Summing.{IsTimely, SumsFit}
use Rattle.omega_sim.proofs.Pigeons.{once_fits}
use Rattle.omega_sim.proofs.Asked.{IsAsked, IsIn, requests_asked}
use Rattle.omega_sim.proofs.Shorter.{feed_few, jobs_few, rounds_few}
use Rattle.omega_sim.proofs.Ticks.{IsWithin, longest, most_wishes}
use Rattle.omega_free_laws.specs.CrewLaws.{IsOnIt}
use Rattle.omega_free_laws.specs.Free.{FreeRun, after}
use Rattle.omega_free_laws.specs.FreeSteps.{DueCommit, Moment, after_commit, due_entry, due_txn, ended_alone, idle_scheduler, idle_synced, past_ended, past_opened, past_with, triggers_of_end}
use Rattle.omega_free_laws.specs.Lives.{DueEnd}
use Rattle.omega_free_laws.specs.NextStep.{EachDeciding, Happens, WhenDeciding}
use Rattle.omega_free_laws.specs.Passes.{Attempt, Past, Scheduler, attempt_on, first_attempt, going_on, new_pass, synced, synced_if_idle, wanted_at, with_entry}
use Rattle.omega_free_laws.specs.Readings.{Reading, by_rows}
use Rattle.omega_free_laws.specs.StepsLeft.{BoundsEnds, attempts_of, attempts_of_pass, most_triggers, none_left, triggers_in_all}
use Rattle.omega_free_laws.specs.StillWanted.{has_wanted_wish, is_still_wanted, wanted_wishes, without_unwanted}
use Rattle.omega_free_laws.proofs.DueCommits.{own_due_after}
use Rattle.omega_free_laws.proofs.DueEnds.{rows_bound}
use Rattle.omega_free_laws.proofs.OneStep.{due_holds, holds_after, holds_at}
use Rattle.omega_free_laws.proofs.Seen.{stays_ended, stays_extras, stays_opened}
use Rattle.omega_free_laws.proofs.StepsLeft.{Ready, own_less, synced_less, synced_ready}
use Rattle.omega_free_laws.proofs.Stretches.{OpenedSoFar, opened_so_far}

-- all rows are earlier, and no life is longer
abbrev pub latest : ℕ
latest = 18446744073709551616

-- what keeps the times of a run small, however its trace is read: no more rows count than there are, and tasks end of
-- themselves no more often than there are rows, each within the longest life after some commit
pub record IsTame (reading : Reading) (left : List Entry → ℕ) : Type 0 where
  pub bounds : IsInBounds reading.trace
  pub counted : (rows : List Row) (history : List Entry) → length (reading.counted rows history) ≤ length rows
  pub ends : BoundsEnds reading left
  pub few : left [] ≤ 2000000
  pub soon : (history : List Entry) (times : List Timed) (end : DueEnd) (top : ℕ) → reading.end_due history times ≡ Some end
      → Each (λ (timed : Timed). timed.time ≤ top) times → end.time ≤ top + latest

decision_short : (settings : Settings) (scheduler wishes : ℕ) → IsInRange settings → wishes ≤ most_wishes → decision settings scheduler wishes ≤ longest
decision_short settings scheduler wishes range few =
    by_answer (scheduler == 0)
    (λ t. rw t
    (let job = range.service_t_job in let task = range.service_t_task in
    let product = mul-le-mul_left settings.service_t_task few in omega (arith, product)))
    (λ f. rw f
    (let job = range.t_job in let task = range.t_task in
    let product = mul-le-mul_left settings.t_task few in omega (arith, product)))

more : (a t : ℕ) → (suc a) * t ≡ a * t + t
more a t = grind (arith)

spread : (x p l : ℕ) → (x + p) * l ≡ x * l + p * l
spread x p l = grind (arith)

module _ (settings : Settings) (reading : Reading) (range : IsInRange settings) (left : List Entry → ℕ) (tame : IsTame reading left) where
  abbrev jobs : List ℕ
  jobs = jobs_in_order (feed reading.trace)

  abbrev pass : ℕ
  pass = attempts_of_pass settings reading

  -- by when all attempts are decided for which there was cause so far
  abbrev limit_after : ℕ → ℕ
  limit_after triggers = latest + triggers * (latest + pass * longest)

  limit_rises : (some all : ℕ) → some ≤ all → limit_after some ≤ limit_after all
  limit_rises some all less = let product = mul-le-mul_right (latest + pass * longest) less in omega (arith, product)

  limit_next : (triggers : ℕ) → limit_after (suc triggers) ≡ limit_after triggers + (latest + pass * longest)
  limit_next triggers = let one = more triggers (latest + pass * longest) in omega (arith, one)

  -- a scheduler that is deciding began early enough for all attempts that it has left
  record IsEarly (triggers : ℕ) (scheduler : Scheduler) (attempt : Attempt) : Type 0 where
    early : attempt.sync + attempts_of settings reading triggers scheduler * longest ≤ limit_after triggers
    decides : attempt.due ≤ attempt.sync + longest
    job : IsIn jobs attempt.job

  -- and one that rests has nothing left, and there was no cause for a new pass since its own began
  record InTime (triggers : ℕ) (scheduler : Scheduler) : Type 0 where
    ready : Ready settings reading (range.tries.0) scheduler
    asks : Each (IsAsked jobs most_wishes) scheduler.left.requests
    begun : scheduler.begun ≤ triggers
    rests : scheduler.attempt ≡ None → (scheduler.left.requests ≡ []) × (triggers ≤ scheduler.begun)
    early : (attempt : Attempt) → scheduler.attempt ≡ Some attempt → IsEarly triggers scheduler attempt

  -- ---- a sync

  asked_asks : (asked : List WantedTask) (standing : Standing) (requests : List Request) → standing.requests ≡ requests → Each (IsAsked jobs most_wishes) requests
      → Each (IsAsked jobs most_wishes) (without_unwanted asked standing requests).requests
  asked_asks asked standing [] is own = subst (Each (IsAsked jobs most_wishes)) (sym is) own
  asked_asks asked standing (request ∷ rest) is own =
      by_answer (has_wanted_wish asked request)
      (λ t. rw t (subst (Each (IsAsked jobs most_wishes)) (sym is) own))
      (λ f. rw f (asked_asks asked (fresh standing.failing rest) rest refl own.1))

  -- an attempt that begins now
  record IsSoon (now : ℕ) (attempt : Attempt) : Type 0 where
    sync : attempt.sync ≡ now
    decides : attempt.due ≤ now + longest
    job : IsIn jobs attempt.job

  on_soon : (past : Past) (now number : ℕ) (request : Request) → IsAsked jobs most_wishes request
      → IsSoon now (attempt_on settings reading past now number request)
  on_soon past now number request asked =
      let few = filter_fewer (λ (wish : Wish). is_still_wanted (wanted_at reading past) wish.key) request.wishes in
      let most = asked.wishes in
      let short = decision_short settings number (length (wanted_wishes (wanted_at reading past) request)) range (omega (arith, few, most)) in
      record { sync = refl; decides = omega (arith, short); job = asked.job }

  first_soon : (past : Past) (now number : ℕ) (requests : List Request) → Each (IsAsked jobs most_wishes) requests → (attempt : Attempt)
      → first_attempt settings reading past now number requests ≡ Some attempt → IsSoon now attempt
  first_soon past now number [] asks attempt found = absurd (cc)
  first_soon past now number (request ∷ rest) asks attempt found =
      subst (IsSoon now) (same_Some (attempt_on settings reading past now number request) attempt found) (on_soon past now number request asks.0)

  first_none : (past : Past) (now number : ℕ) (requests : List Request) → first_attempt settings reading past now number requests ≡ None → requests ≡ []
  first_none past now number [] none = refl
  first_none past now number (request ∷ rest) none = absurd (cc)

  new_asks : (past : Past) (number : ℕ) → length past.rows ≤ 2000000 → Each (IsAsked jobs most_wishes) (new_pass settings reading past number).requests
  new_asks past number few =
      let fewer = tame.counted past.rows past.history in
      requests_asked settings reading.trace tame.bounds.activities (reading.counted past.rows past.history) past.history number most_wishes (omega (arith, few, fewer))

  module _ (past : Past) (now : ℕ) (scheduler : Scheduler) (standing : Standing) where
    goes_on_asks : length past.rows ≤ 2000000 → Each (IsAsked jobs most_wishes) standing.requests
        → Each (IsAsked jobs most_wishes) (going_on settings reading past now scheduler standing).left.requests
    goes_on_asks few asks =
        by_answer (is_empty standing.requests && nat_lt scheduler.begun past.triggers)
        (λ t. rw t (new_asks past scheduler.number few)) (λ f. rw f asks)

    goes_on_soon : length past.rows ≤ 2000000 → Each (IsAsked jobs most_wishes) standing.requests → (attempt : Attempt)
        → (going_on settings reading past now scheduler standing).attempt ≡ Some attempt → IsSoon now attempt
    goes_on_soon few asks =
        by_answer (is_empty standing.requests && nat_lt scheduler.begun past.triggers)
        (λ t. rw t (first_soon past now scheduler.number (new_pass settings reading past scheduler.number).requests (new_asks past scheduler.number few)))
        (λ f. rw f (first_soon past now scheduler.number standing.requests asks))

    goes_on_begun : scheduler.begun ≤ past.triggers → (going_on settings reading past now scheduler standing).begun ≤ past.triggers
    goes_on_begun begun =
        by_answer (is_empty standing.requests && nat_lt scheduler.begun past.triggers)
        (λ t. rw t (omega arith)) (λ f. rw f begun)

    goes_on_rests : (going_on settings reading past now scheduler standing).attempt ≡ None
        → ((going_on settings reading past now scheduler standing).left.requests ≡ []) × (past.triggers ≤ (going_on settings reading past now scheduler standing).begun)
    goes_on_rests =
        by_answer (is_empty standing.requests)
        (λ e. elim (leb_tells (suc scheduler.begun) past.triggers) [
          | inl later ↦ rw (e, later.0) (λ none. (first_none past now scheduler.number (new_pass settings reading past scheduler.number).requests none, omega arith))
          | inr same ↦ rw (e, same.0) (λ none. (first_none past now scheduler.number standing.requests none, let not_later = same.1 in omega (arith, not_later)))
        ])
        (λ n. rw n (λ none. absurd (both_ways (is_empty standing.requests) n (ap is_empty (first_none past now scheduler.number standing.requests none)))))

  -- an attempt that is under way is one of those that are left
  one_left : (triggers : ℕ) (scheduler : Scheduler) (attempt : Attempt) → Ready settings reading (range.tries.0) scheduler → scheduler.attempt ≡ Some attempt
      → 1 ≤ attempts_of settings reading triggers scheduler
  one_left triggers scheduler attempt ready at =
      let works = ready.works attempt at in
      let count : length scheduler.left.requests ≡ suc (length works.1.0) = ap length works.1.1 in
      let product : length scheduler.left.requests * settings.tries ≡ length works.1.0 * settings.tries + settings.tries =
      ap (λ (n : ℕ). n * settings.tries) count ∙ more (length works.1.0) settings.tries in
      let tried = ready.tried in
      omega (arith, product, tried)

  -- so it is once a scheduler has synced, early enough if it has attempts left
  synced_in_time : (past : Past) (now : ℕ) (scheduler : Scheduler) → length past.rows ≤ 2000000 → scheduler.begun ≤ past.triggers
      → scheduler.left.taken < settings.tries → Each (IsAsked jobs most_wishes) scheduler.left.requests
      → (1 ≤ attempts_of settings reading past.triggers scheduler
      → now + attempts_of settings reading past.triggers scheduler * longest ≤ limit_after past.triggers)
      → InTime past.triggers (synced settings reading past now scheduler)
  synced_in_time past now scheduler few begun taken asks early =
      let standing : Standing = without_unwanted (wanted_at reading past) scheduler.left scheduler.left.requests in
      let left_asks : Each (IsAsked jobs most_wishes) standing.requests = asked_asks (wanted_at reading past) scheduler.left scheduler.left.requests refl asks in
      let within : past.triggers ≤ past.triggers = omega arith in
      let fewer = (synced_less settings reading range.tries.0 past now past.triggers scheduler within taken).less in
      let product = mul-le-mul_right longest fewer in
      let ready = synced_ready settings reading range.tries.0 past now past.triggers scheduler within taken in
      record {
        ready = ready;
        asks = goes_on_asks past now scheduler standing few left_asks;
        begun = goes_on_begun past now scheduler standing begun;
        rests = goes_on_rests past now scheduler standing;
        early = λ attempt at.
            let soon = goes_on_soon past now scheduler standing few left_asks attempt at in
            let some = one_left past.triggers (synced settings reading past now scheduler) attempt ready at in
            let low = early (omega (arith, some, fewer)) in
            let sync = soon.sync in
            let decides = soon.decides in
            record { early = omega (arith, sync, low, product); decides = omega (arith, sync, decides); job = soon.job };
      }

  -- ---- once more cause for a new pass

  -- a scheduler that is deciding has the attempts of one more pass left
  deciding_later : (triggers : ℕ) (scheduler : Scheduler) (attempt : Attempt) → scheduler.attempt ≡ Some attempt → InTime triggers scheduler
      → InTime (suc triggers) scheduler
  deciding_later triggers scheduler attempt at is =
      let begun = is.begun in
      let one : suc triggers - scheduler.begun ≡ suc (triggers - scheduler.begun) = omega (arith, begun) in
      let passes : (suc triggers - scheduler.begun) * pass ≡ (triggers - scheduler.begun) * pass + pass =
      ap (λ (n : ℕ). n * pass) one ∙ more (triggers - scheduler.begun) pass in
      let some : attempts_of settings reading (suc triggers) scheduler ≡ attempts_of settings reading triggers scheduler + pass = omega (arith, passes) in
      let all : attempts_of settings reading (suc triggers) scheduler * longest ≡ attempts_of settings reading triggers scheduler * longest + pass * longest =
      ap (λ (n : ℕ). n * longest) some ∙ spread (attempts_of settings reading triggers scheduler) pass longest in
      let next = limit_next triggers in
      record {
        ready = is.ready;
        asks = is.asks;
        begun = omega (arith, begun);
        rests = λ none. absurd (let clash : None ≡ Some attempt = sym none ∙ at in cc);
        early = λ other found.
            let before = is.early other found in
            let early = before.early in
            record { early = omega (arith, early, all, next); decides = before.decides; job = before.job };
      }

  none_of_pass : (all : ℕ) (scheduler : Scheduler) → scheduler.left.requests ≡ []
      → attempts_of settings reading all scheduler ≡ (all - scheduler.begun) * pass
  none_of_pass all scheduler none =
      let nothing : length scheduler.left.requests * settings.tries ≡ 0 =
      ap (λ (requests : List Request). length requests * settings.tries) none ∙ zero-mul settings.tries in
      omega (arith, nothing)

  module _ (old : ℕ) (past : Past) (now : ℕ) (few : length past.rows ≤ 2000000) (soon : now ≤ limit_after old + latest) (scheduler : Scheduler) (is : InTime old scheduler) where
    -- a scheduler that rests begins one pass, where there is new cause
    resting_anew : past.triggers ≡ suc old → scheduler.attempt ≡ None → InTime past.triggers (synced settings reading past now scheduler)
    resting_anew news none =
        let rests = is.rests none in
        let begun = is.begun in
        let least = rests.1 in
        let one : past.triggers - scheduler.begun ≡ suc 0 = omega (arith, news, begun, least) in
        let attempts : attempts_of settings reading past.triggers scheduler ≡ 0 * pass + pass =
        none_of_pass past.triggers scheduler rests.0 ∙ ap (λ (n : ℕ). n * pass) one ∙ more 0 pass in
        let nothing = zero-mul pass in
        let all : attempts_of settings reading past.triggers scheduler * longest ≡ pass * longest =
        ap (λ (n : ℕ). n * longest) (let same : attempts_of settings reading past.triggers scheduler ≡ pass = omega (arith, attempts, nothing) in same) in
        let next : limit_after past.triggers ≡ limit_after old + (latest + pass * longest) = ap limit_after news ∙ limit_next old in
        synced_in_time past now scheduler few (omega (arith, news, begun)) is.ready.tried is.asks
        (λ some. omega (arith, all, next, soon))

    -- and rests on where there is none
    resting_on : past.triggers ≡ old → scheduler.attempt ≡ None → InTime past.triggers (synced settings reading past now scheduler)
    resting_on same none =
        let rests = is.rests none in
        let begun = is.begun in
        let least = rests.1 in
        let one : past.triggers - scheduler.begun ≡ 0 = omega (arith, same, begun, least) in
        let attempts : attempts_of settings reading past.triggers scheduler ≡ 0 =
        none_of_pass past.triggers scheduler rests.0 ∙ ap (λ (n : ℕ). n * pass) one ∙ zero-mul pass in
        synced_in_time past now scheduler few (omega (arith, same, begun)) is.ready.tried is.asks
        (λ some. absurd (omega (arith, some, attempts)))

    one_idle : (past.triggers ≡ old) ⊎ (past.triggers ≡ suc old) → (attempt : Option Attempt) → scheduler.attempt ≡ attempt
        → InTime past.triggers (synced_if_idle settings reading past now scheduler attempt)
    one_idle (inl same) None at = resting_on same at
    one_idle (inr news) None at = resting_anew news at
    one_idle (inl same) (Some attempt) at = subst (λ (n : ℕ). InTime n scheduler) (sym same) is
    one_idle (inr news) (Some attempt) at = subst (λ (n : ℕ). InTime n scheduler) (sym news) (deciding_later old scheduler attempt at is)

  idle_in_time : (old : ℕ) (past : Past) (now : ℕ) → length past.rows ≤ 2000000 → now ≤ limit_after old + latest
      → (past.triggers ≡ old) ⊎ (past.triggers ≡ suc old) → (crew : List Scheduler) → Each (InTime old) crew
      → Each (InTime past.triggers) (idle_synced settings reading past now crew)
  idle_in_time old past now few soon news [] each = tt
  idle_in_time old past now few soon news (scheduler ∷ crew) each =
      (one_idle old past now few soon scheduler each.0 news scheduler.attempt refl, idle_in_time old past now few soon news crew each.1)

  -- ---- a commit

  entry_asks : (by seen : ℕ) (txn : Txn) (reply : List Judgement) (scheduler : Scheduler) → (scheduler.number == by) ≡ true
      → Each (IsAsked jobs most_wishes) scheduler.left.requests
      → Each (IsAsked jobs most_wishes) (with_entry settings (Commit by seen txn reply) scheduler).left.requests
  entry_asks by seen txn reply scheduler is asks = by_left scheduler.left.requests refl where
    mine : (by == scheduler.number) ≡ true
    mine = eq-eqb by scheduler.number (sym (eqb-true scheduler.number by is))

    moved : (standing : Standing) (request : Request) (rest : List Request) (outcomes : List Outcome) → Each (IsAsked jobs most_wishes) (request ∷ rest)
        → Each (IsAsked jobs most_wishes) (moved_on settings standing request rest outcomes).requests
    moved standing request rest outcomes own =
        elim (ends_request settings (standing.taken + 1) (failing_after (standing.failing request.job) outcomes) request outcomes) as (λ test.
        Each (IsAsked jobs most_wishes) (if test then fresh (failing_with standing.failing request.job outcomes) rest
        else record { requests = rest_of request outcomes ∷ rest; taken = standing.taken + 1; failing = failing_with standing.failing request.job outcomes }).requests) [
          | true ↦ own.1
          | false ↦ (
            record {
              job = own.0.job;
              wishes = let long = own.0.wishes in let fewer = filter_fewer (λ wish. not (places_wish outcomes wish)) request.wishes in omega (arith, long, fewer);
            },
            own.1,
          )
        ]

    by_left : (requests : List Request) → scheduler.left.requests ≡ requests
        → Each (IsAsked jobs most_wishes) (with_entry settings (Commit by seen txn reply) scheduler).left.requests
    by_left [] none = rw (mine, none) tt
    by_left (request ∷ rest) some =
        rw (mine, some) (moved scheduler.left request rest (outcomes_of txn.claims reply) (subst (Each (IsAsked jobs most_wishes)) some asks))

  less_one : (a b : ℕ) → a < b → a * longest + longest ≤ b * longest
  less_one a b less =
      let product = mul-le-mul_right longest less in
      let one : (suc a) * longest ≡ a * longest + longest = more a longest in
      omega (arith, product, one)

  -- the scheduler that commits has one attempt less, and a decision's time less
  own_in_time : (past : Past) (due : DueCommit) (seen : ℕ) (txn : Txn) (reply : List Judgement) (scheduler : Scheduler) → length past.rows ≤ 2000000
      → InTime past.triggers scheduler → (scheduler.number == due.by) ≡ true → scheduler.attempt ≡ Some due.attempt
      → InTime past.triggers (synced settings reading past due.attempt.due (with_entry settings (Commit due.by seen txn reply) scheduler))
  own_in_time past due seen txn reply scheduler few is t at =
      let next : Scheduler = with_entry settings (Commit due.by seen txn reply) scheduler in
      let before = is.early due.attempt at in
      let spent = own_less settings reading range.tries.0 scheduler due.by seen txn reply t is.ready.tried in
      let works = is.ready.works due.attempt at in
      let fewer = spent.fewer works.0 works.1.0 works.1.1 in
      let less : attempts_of settings reading past.triggers next < attempts_of settings reading past.triggers scheduler = omega (arith, fewer) in
      let product = less_one (attempts_of settings reading past.triggers next) (attempts_of settings reading past.triggers scheduler) less in
      let early = before.early in
      let decides = before.decides in
      synced_in_time past due.attempt.due next few is.begun spent.tried (entry_asks due.by seen txn reply scheduler t is.asks)
      (λ some. omega (arith, early, decides, product))

  committing_in_time : (past : Past) (due : DueCommit) (seen : ℕ) (txn : Txn) (reply : List Judgement) → length past.rows ≤ 2000000
      → (crew : List Scheduler) → Each (InTime past.triggers) crew → Each (IsOnIt due) crew
      → Each (InTime past.triggers) (map (after_commit settings reading past due.attempt.due due.by (Commit due.by seen txn reply)) crew)
  committing_in_time past due seen txn reply few [] each on = tt
  committing_in_time past due seen txn reply few (scheduler ∷ crew) each on = (
    by_answer (scheduler.number == due.by)
        (λ t. rw t (own_in_time past due seen txn reply scheduler few each.0 t (on.0 t)))
        (λ f. rw f each.0),
    committing_in_time past due seen txn reply few crew each.1 on.1,
  )

  -- ---- the rounds

  greatest_early : (rows : List Row) (so_far : ℕ) → so_far ≤ latest → Each (λ row. time_of row < latest) rows → fold (λ time row. max time (time_of row)) so_far rows ≤ latest
  greatest_early [] so_far early each = early
  greatest_early (row ∷ rows) so_far early each =
      let here = each.0 in greatest_early rows (max so_far (time_of row)) (omega (arith, early, here)) each.1

  each_from : {X : Type 0} (P : X → Type 0) (xs : List X) → All P xs → Each P xs
  each_from P [] whole = tt
  each_from P (x ∷ xs) whole = (All-head P x xs whole, each_from P xs (All-tail P x xs whole))

  rounds_early : (numbers : List ℕ) → Each (λ (round : Round). greatest_time round.rows ≤ latest) (map (round_at settings.window (feed reading.trace)) numbers)
  rounds_early [] = tt
  rounds_early (number ∷ numbers) = (
    greatest_early (filter (is_of_round settings.window number) (feed reading.trace)) 0 (omega arith)
        (each_filter (λ row. time_of row < latest) (is_of_round settings.window number) (feed reading.trace)
        (each_from (λ row. time_of row < latest) (feed reading.trace) tame.bounds.times)),
    rounds_early numbers,
  )

  each_behind : {X : Type 0} (P : X → Type 0) (xs ys : List X) → Each P (xs ++ ys) → Each P ys
  each_behind P [] ys each = each
  each_behind P (x ∷ xs) ys each = each_behind P xs ys each.1

  rows_in_front : (some later : List Round) → length (rows_of some) ≤ length (rows_of (some ++ later))
  rows_in_front [] later = omega arith
  rows_in_front (round ∷ some) later =
      let rest = rows_in_front some later in
      let here = length-append round.rows (rows_of some) in
      let there = length-append round.rows (rows_of (some ++ later)) in
      omega (arith, rest, here, there)

  abbrev HaveOpened : Moment → Type 0
  HaveOpened moment = OpenedSoFar (λ entry. true) settings reading moment

  have_opened : (steps : ℕ) → HaveOpened (after settings reading steps)
  have_opened = opened_so_far (λ entry. true) settings reading (λ scheduler seen txn reply. refl) (λ history times end is key machine. refl)

  rows_few : (moment : Moment) → HaveOpened moment → length moment.past.rows ≤ 2000000
  rows_few moment so_far =
      let front = rows_in_front so_far.done moment.coming in
      let whole : length (rows_of (so_far.done ++ moment.coming)) ≡ length (feed reading.trace) =
      ap (λ (some : List Round). length (rows_of some)) so_far.all ∙ ap length (rounds_have reading.trace settings.window range.window.0) in
      let short = feed_few reading.trace tame.bounds.limits in
      let rows : length moment.past.rows ≡ length (rows_of so_far.done) = ap length so_far.rows in
      omega (arith, front, whole, short, rows)

  coming_early : (moment : Moment) → HaveOpened moment → Each (λ (round : Round). greatest_time round.rows ≤ latest) moment.coming
  coming_early moment so_far =
      each_behind (λ (round : Round). greatest_time round.rows ≤ latest) so_far.done moment.coming
      (subst (Each (λ (round : Round). greatest_time round.rows ≤ latest)) (sym so_far.all)
      (rounds_early (each_once (map (round_number settings.window) (feed reading.trace)))))

  -- ---- each step

  abbrev IsSummed : Moment → Type 0
  IsSummed moment = Each (InTime moment.past.triggers) moment.crew × Each (IsWithin (limit_after moment.past.triggers)) moment.times

  within_later : (some all : ℕ) → some ≤ all → (times : List Timed) → Each (IsWithin (limit_after some)) times → Each (IsWithin (limit_after all)) times
  within_later some all less times =
      let higher = limit_rises some all less in
      each_map (IsWithin (limit_after some)) (IsWithin (limit_after all))
      (λ timed is. let syncs = is.syncs in let commits = is.commits in
      record { decides = is.decides; syncs = omega (arith, syncs, higher); commits = omega (arith, commits, higher) }) times

  -- what is under way is within the limit
  record IsDueWithin (top number : ℕ) (attempt : Attempt) : Type 0 where
    decides : attempt.due ≤ attempt.sync + longest
    syncs : attempt.sync ≤ top
    commits : attempt.due ≤ top
    job : IsIn jobs attempt.job

  each_due : (triggers : ℕ) (crew : List Scheduler) → Each (InTime triggers) crew → EachDeciding (IsDueWithin (limit_after triggers)) crew
  each_due triggers [] each = tt
  each_due triggers (scheduler ∷ crew) each = (by_attempt scheduler.attempt refl, each_due triggers crew each.1) where
    by_attempt : (attempt : Option Attempt) → scheduler.attempt ≡ attempt → WhenDeciding (IsDueWithin (limit_after triggers)) scheduler.number attempt
    by_attempt None at = tt
    by_attempt (Some attempt) at =
        let is = each.0.early attempt at in
        let early = is.early in
        let decides = is.decides in
        let some = mul-le-mul_right longest (one_left triggers scheduler attempt each.0.ready at) in
        record { decides = decides; syncs = omega (arith, early); commits = omega (arith, early, decides, some); job = is.job }

  news_of : (old : ℕ) (coming : List Round) → (old + triggers_of_end coming ≡ old) ⊎ (old + triggers_of_end coming ≡ suc old)
  news_of old [] = inl (add-zero old)
  news_of old (round ∷ rest) = inr (omega arith)

  summed_next : (steps : ℕ) (new : Moment) → IsSummed (after settings reading steps) → Happens settings reading (after settings reading steps) new
      → new ≡ after settings reading (suc steps) → IsSummed new
  summed_next steps new so_far (inl opens) is =
      let old : Moment = after settings reading steps in
      let few : length (past_opened reading old.past opens.round).rows ≤ 2000000 =
      subst (λ (it : Moment). length it.past.rows ≤ 2000000) opens.happens (rows_few new (subst HaveOpened (sym is) (have_opened (suc steps)))) in
      let coming : Each (λ (round : Round). greatest_time round.rows ≤ latest) (opens.round ∷ opens.rest) =
      subst (Each (λ (round : Round). greatest_time round.rows ≤ latest)) opens.first (coming_early old (have_opened steps)) in
      let soon = coming.0 in
      subst IsSummed (sym opens.happens) (
        idle_in_time old.past.triggers (past_opened reading old.past opens.round) (greatest_time opens.round.rows) few (omega (arith, soon)) (inr (omega arith)) old.crew so_far.0,
        within_later old.past.triggers (old.past.triggers + 1) (omega arith) old.times so_far.1,
      )
  summed_next steps new so_far (inr (inl ends)) is =
      let old : Moment = after settings reading steps in
      let top : ℕ = limit_after old.past.triggers in
      let soon = tame.soon old.past.history old.times ends.end top ends.first
      (each_map (IsWithin top) (λ (timed : Timed). timed.time ≤ top) (λ timed within. within.commits) old.times so_far.1) in
      subst IsSummed (sym ends.happens) (
        idle_in_time old.past.triggers (past_ended reading old.past ends.end old.coming) ends.end.time (rows_few old (have_opened steps)) soon
            (news_of old.past.triggers old.coming) old.crew so_far.0,
        within_later old.past.triggers (old.past.triggers + triggers_of_end old.coming) (omega arith) old.times so_far.1,
      )
  summed_next steps new so_far (inr (inr commits)) is =
      let old : Moment = after settings reading steps in
      let due : DueCommit = commits.due in
      let within = due_holds settings reading (IsDueWithin (limit_after old.past.triggers)) old.crew due (each_due old.past.triggers old.crew so_far.0) commits.first in
      subst IsSummed (sym commits.happens) (
        committing_in_time (past_with old.past (due_entry settings reading old.past due.by due.attempt)) due due.attempt.seen
            (due_txn settings reading old.past due.by due.attempt) (reply_of old.past.history due.attempt.seen (due_txn settings reading old.past due.by due.attempt))
            (rows_few old (have_opened steps)) old.crew so_far.0 (own_due_after settings reading steps due commits.first),
        each_append (IsWithin (limit_after old.past.triggers)) old.times _ so_far.1
            (record { decides = within.decides; syncs = within.syncs; commits = within.commits }, tt),
      )

  idle_at_first : (numbers : List ℕ) → Each (InTime 0) (map idle_scheduler numbers)
  idle_at_first [] = tt
  idle_at_first (number ∷ numbers) = (
    record {
      ready = record { tried = range.tries.0; works = λ attempt at. absurd (cc) };
      asks = tt;
      begun = omega arith;
      rests = λ none. (refl, omega arith);
      early = λ attempt at. absurd (cc);
    },
    idle_at_first numbers,
  )

  summed : (steps : ℕ) → IsSummed (after settings reading steps)
  summed = holds_at settings reading IsSummed (idle_at_first (range_with_len 0 (schedulers settings)), tt) summed_next

  -- ---- the limit

  -- there is no more cause for passes than there are rounds and ends
  triggers_next : (old new : Moment) → triggers_in_all left old ≤ most_triggers left settings reading → Happens settings reading old new
      → triggers_in_all left new ≤ most_triggers left settings reading
  triggers_next old new so_far (inl opens) =
      let count : length old.coming ≡ suc (length opens.rest) = ap length opens.first in
      let no_more = stays_opened (λ (before : List Entry). left before ≤ left old.past.history)
      (λ before entry none less. let next = tame.ends.no_more before entry in omega (arith, less, next))
      reading.trace old.past.rows old.past.history (reading.heeded opens.round) (omega arith) in
      subst (λ (it : Moment). triggers_in_all left it ≤ most_triggers left settings reading) (sym opens.happens) (omega (arith, so_far, count, no_more))
  triggers_next old new so_far (inr (inl ends)) =
      let one_less = tame.ends.one_less old.past.history old.times ends.end ends.first in
      let no_more = stays_extras (λ (before : List Entry). left before ≤ left (ended_alone old.past.history ends.end))
      (λ before key machine less. let next = tame.ends.no_more before (End key machine) in omega (arith, less, next))
      reading old.past.rows old.past.history ends.end (omega arith) in
      let little = news_little old.coming in
      subst (λ (it : Moment). triggers_in_all left it ≤ most_triggers left settings reading) (sym ends.happens) (omega (arith, so_far, one_less, no_more, little)) where
        news_little : (coming : List Round) → triggers_of_end coming ≤ 1
        news_little [] = omega arith
        news_little (round ∷ rest) = omega arith
  triggers_next old new so_far (inr (inr commits)) =
      let no_more = tame.ends.no_more old.past.history (due_entry settings reading old.past commits.due.by commits.due.attempt) in
      subst (λ (it : Moment). triggers_in_all left it ≤ most_triggers left settings reading) (sym commits.happens) (omega (arith, so_far, no_more))

  triggers_few : (steps : ℕ) → triggers_in_all left (after settings reading steps) ≤ most_triggers left settings reading
  triggers_few = holds_after settings reading (λ (it : Moment). triggers_in_all left it ≤ most_triggers left settings reading) (omega arith) triggers_next

  limit_low : (steps : ℕ) → limit_after (after settings reading steps).past.triggers < 2 ^ 101
  limit_low steps =
      let short = feed_few reading.trace tame.bounds.limits in
      let some = rounds_few reading.trace settings.window in
      let named = jobs_few reading.trace in
      let tries = range.tries.1 in
      let ends = tame.few in
      let so_far = triggers_few steps in
      let few_jobs : length jobs ≤ 2000000 = omega (arith, named, short) in
      let few_triggers : (after settings reading steps).past.triggers ≤ 4000000 = omega (arith, so_far, some, short, ends) in
      let one_pass : pass ≤ 2000000 * 100 = mul-le-mul few_jobs tries in
      let one_time : pass * longest ≤ (2000000 * 100) * longest = mul-le-mul_right longest one_pass in
      let each : latest + pass * longest ≤ latest + (2000000 * 100) * longest = omega (arith, one_time) in
      let time : (after settings reading steps).past.triggers * (latest + pass * longest) ≤ 4000000 * (latest + (2000000 * 100) * longest) = mul-le-mul few_triggers each in
      omega (arith, time)

  all_timely : (top : ℕ) → top < 2 ^ 101 → (times : List Timed) → Each (IsWithin top) times → All IsTimely times
  all_timely top low [] each = λ k d below. absurd (omega arith)
  all_timely top low (timed ∷ times) each =
      let decides = each.0.decides in
      let syncs = each.0.syncs in
      All-cons IsTimely timed times (record { decides = omega (arith, decides); syncs = omega (arith, syncs, low) }) (all_timely top low times each.1)

  -- a decision takes less than 2 ^ 51 microseconds, and begins before 2 ^ 101
  free_timely : (history : List Entry) (times : List Timed) → FreeRun settings reading history times → All IsTimely times
  free_timely history times free =
      let last : Moment = after settings reading free.steps in
      subst (All IsTimely) (sym free.is_times) (all_timely (limit_after last.past.triggers) (limit_low free.steps) last.times (summed free.steps).1)

  -- ---- jobs

  abbrev JobIn : List Entry → Entry → Type 0
  JobIn before entry = OfValue (IsIn jobs) (job_of_entry entry)

  abbrev JobsIn : List Entry → Type 0
  JobsIn history = (place : ℕ) (entry : Entry) → slice_get history place ≡ Some entry → JobIn (take place history) entry

  none_in : (before : List Entry) (entry : Entry) → is_commit entry ≡ false → JobIn before entry
  none_in before (RoundEntry number) none = tt
  none_in before (MachineAdd machine cap) none = tt
  none_in before (MachineUpdate machine cap) none = tt
  none_in before (MachineRemove machine) none = tt
  none_in before (AttrSet machine name value) none = tt
  none_in before (AttrDelete machine name) none = tt
  none_in before (End key machine) none = tt
  none_in before (Commit by seen txn reply) none = absurd (both_ways _ none refl)

  jobs_next : (steps : ℕ) (new : Moment) → JobsIn (after settings reading steps).past.history → Happens settings reading (after settings reading steps) new
      → new ≡ after settings reading (suc steps) → JobsIn new.past.history
  jobs_next steps new so_far (inl opens) is =
      let old : Moment = after settings reading steps in
      subst (λ (it : Moment). JobsIn it.past.history) (sym opens.happens)
      (stays_opened JobsIn (λ before entry none so. by_place_push JobIn before entry so (none_in before entry none))
      reading.trace old.past.rows old.past.history (reading.heeded opens.round) so_far)
  jobs_next steps new so_far (inr (inl ends)) is =
      let old : Moment = after settings reading steps in
      subst (λ (it : Moment). JobsIn it.past.history) (sym ends.happens)
      (stays_ended JobsIn (λ before key machine so. by_place_push JobIn before (End key machine) so tt)
      reading old.past.rows old.past.history ends.end so_far)
  jobs_next steps new so_far (inr (inr commits)) is =
      let old : Moment = after settings reading steps in
      let due : DueCommit = commits.due in
      let within = due_holds settings reading (IsDueWithin (limit_after old.past.triggers)) old.crew due (each_due old.past.triggers old.crew (summed steps).0) commits.first in
      subst (λ (it : Moment). JobsIn it.past.history) (sym commits.happens)
      (by_place_push JobIn old.past.history (due_entry settings reading old.past due.by due.attempt) so_far within.job)

  jobs_in : (steps : ℕ) → JobsIn (after settings reading steps).past.history
  jobs_in = holds_at settings reading (λ (it : Moment). JobsIn it.past.history) (λ place entry is. absurd (cc)) jobs_next

  place_in : (history : List Entry) → JobsIn history → (place : ℕ) (found : Option Entry) → slice_get history place ≡ found
      → OfValue (IsIn jobs) (option_and_then job_of_entry found)
  place_in history so place None is = tt
  place_in history so place (Some entry) is = so place entry is

  -- all sums over a run by the free clock and its times fit
  pub free_sums_fit : (history : List Entry) (times : List Timed) → FreeRun settings reading history times → SumsFit history times
  free_sums_fit history times free =
      let so : JobsIn history = subst JobsIn (sym free.is_history) (jobs_in free.steps) in
      let any : Timed → Type 0 = λ timed. Unit {0} in
      record {
        each = free_timely history times free;
        jobs = λ scheduler.
            let fit = once_fits (filter_map (job_at history) (timed_of scheduler times)) jobs
            (each_mapped any (IsIn jobs) (job_at history) (λ timed is. place_in history so timed.place (slice_get history timed.place) refl)
            (timed_of scheduler times) (each_of any (λ timed. tt) (timed_of scheduler times))) in
            let named = jobs_few reading.trace in
            let short = feed_few reading.trace tame.bounds.limits in
            omega (arith, fit, named, short);
      }

-- where tasks end by the trace's rows, times are small
pub rows_tame : (trace : TraceTables) → IsInBounds trace → IsTame (by_rows trace) none_left
rows_tame trace bounds = record {
  bounds = bounds;
  counted = λ rows history. omega arith;
  ends = rows_bound trace;
  few = omega arith;
  soon = λ history times end top is each. absurd (cc);
}
