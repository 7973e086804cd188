-- A world whose schedulers commit when their time has come, one step after the other.
use Rattle.std.proofs.Common.{◌≡◌, ◌≢◌, ◌≤◌, ◌<◌, ◌+◌, ℕ, false, List, [], ◌∷◌, ◌++◌, length, length-append, set, get_or, Option, Some, None, refl, sym, ap, ap₂, subst, arith, ◌∙◌, inl, inr}
use Rattle.std.specs.Prelude.{◌⊎◌, ◌==◌, max, slice_get}
use Rattle.std.proofs.lemmas.Bool.{ne_eqb}
use Rattle.std.proofs.lemmas.Bool.Decides.{eqb_tells}
use Rattle.std.proofs.lemmas.List.{length-set}
use Rattle.std.proofs.lemmas.Option.{slice_get-get_or}
use Rattle.omega_model.specs.Lawful.{after_last, opened}
use Rattle.omega_model.specs.Policy.{schedulers}
use Rattle.omega_model.specs.State.{reply_of}
use Rattle.omega_model.specs.Stepping.{Step}
use Rattle.omega_model.specs.Work.{HasLeft, standing_of}
use Rattle.omega_model.specs.World.{Commits, IsIdle, NobodySynced, OthersStay, StepAnswer, Syncs, World}
use Rattle.omega_model.specs.World.StepAnswer.{Idle, Synced, Committed}
use Rattle.omega_model.specs.declared.claims.Judgement.{Judgement}
use Rattle.omega_model.specs.declared.claims.Txn.{Txn}
use Rattle.omega_model.specs.declared.entries.Entry.{Entry}
use Rattle.omega_model.specs.declared.entries.Entry.TheVariants.{Commit}
use Rattle.omega_model.specs.declared.rows.Row.{Row}
use Rattle.omega_model.specs.declared.rows.TraceTables.{TraceTables}
use Rattle.omega_model.specs.declared.settings.Settings.{Settings}
use Rattle.omega_model.specs.declared.wishes.Request.{Request}
use Rattle.omega_model.specs.declared.wishes.Wish.{Wish}
use Rattle.omega_laws.specs.NextCommit.{GoesNext, HasNoWork, NobodyHasWork, WorksOn, attempt, attempt_txn, left_of}
use Rattle.omega_laws.specs.Ticking.{Ticking}
use Rattle.omega_laws.specs.VirtualTime.{Clock, GoesSooner, clock_of, decision, first_wishes, next_time, next_wishes, sees_in_time, timed_commits}
use Rattle.omega_laws.proofs.Agreeing.{is_attempt, left_push-other, works_or_idle}
use Rattle.omega_laws.proofs.EachLeft.{Wishes, first_left, standing_wishes}
use Rattle.omega_laws.proofs.LastCommits.{after_last-other, after_last-own, after_last-within}
use Rattle.omega_laws.proofs.TickingOn.{clock_none, synced_push-own, ticking_commit, ticking_first}
use Rattle.omega_laws.proofs.TimeOrder.{clock-before, next_time-is, next_time_push-other, timed_push}
use Rattle.omega_sim.specs.Agenda.{IsFirst, IsNoLater}
use Rattle.omega_rounds.specs.Clocked.{Clocked, HasCommitted, IsDueAt, IsSet, MaySync, TimedRound, all_rows, next_at, place_of}
use Rattle.omega_rounds.proofs.WorkerLists.{set-other, set-same}

-- where there is no wish there is no next commit, and else there is
next_none : (settings : Settings) (scheduler wishes now : ℕ) → wishes ≡ 0 → next_at settings scheduler wishes now ≡ None
next_none settings scheduler wishes now none = ap (λ (n : ℕ). next_at settings scheduler n now) none

next_some : (settings : Settings) (scheduler wishes now : ℕ) → wishes ≢ 0
    → next_at settings scheduler wishes now ≡ Some (now + decision settings scheduler wishes)
next_some settings scheduler wishes now some = let test : (wishes == 0) ≡ false = ne_eqb wishes 0 some in rw test refl

some_wishes : (wishes : List Wish) → wishes ≢ [] → length wishes ≢ 0
some_wishes [] some = λ same. some refl
some_wishes (wish ∷ wishes) some = λ none. absurd (omega (arith, none))

-- the wishes of the first request that is left are those of the next attempt
pub wishes_of_left : (settings : Settings) (trace : TraceTables) (rows : List Row) (opened_at scheduler left : ℕ) (history : List Entry) (requests : List Request)
    → HasLeft settings trace rows opened_at scheduler history requests → left ≡ first_wishes (Some requests)
    → left ≡ next_wishes settings trace rows opened_at history scheduler
wishes_of_left settings trace rows opened_at scheduler left history requests has is = is ∙ ap first_wishes (sym has.remains)

-- no wish is left exactly where there is no work
pub none_without_work : (settings : Settings) (trace : TraceTables) (rows : List Row) (opened_at scheduler left : ℕ) (history : List Entry) (requests : List Request)
    → HasLeft settings trace rows opened_at scheduler history requests → left ≡ first_wishes (Some requests)
    → (left ≡ 0 → HasNoWork settings trace rows opened_at history scheduler)
    × (HasNoWork settings trace rows opened_at history scheduler → left ≡ 0)
none_without_work settings trace rows opened_at scheduler left history [] has is = (λ none. has.remains, λ idle. is)
none_without_work settings trace rows opened_at scheduler left history (request ∷ rest) has is =
    let some : request.wishes ≢ [] = first_left Wishes (standing_of settings trace rows opened_at scheduler history) request rest
    (standing_wishes settings trace rows opened_at scheduler history) has.remains in (
      λ none. absurd (some_wishes request.wishes some (sym is ∙ none)),
      λ idle. absurd (clash (sym has.remains ∙ idle)),
    ) where
      clash : Some (request ∷ rest) ≡ Some [] → ⊥
      clash same = cc

module _ (settings : Settings) (timed : TimedRound) where
  abbrev trace : TraceTables
  trace = timed.trace

  abbrev all : List Row
  all = all_rows timed

  abbrev at : ℕ
  at = place_of timed

  abbrev base : ℕ
  base = timed.base

  -- where the round's rows end all are to sync
  pub clocked_first : (world : World) (agenda : List (Option ℕ)) (AreToSync : ℕ → Type 0) → world.history ≡ (opened trace timed.rows timed.start timed.round).history
      → NobodySynced world → length agenda ≡ schedulers settings → ((scheduler : ℕ) → AreToSync scheduler)
      → Clocked settings timed world agenda AreToSync base
  clocked_first world agenda AreToSync is nobody count all_are =
      let history : List Entry = (opened trace timed.rows timed.start timed.round).history in
      record {
        ticking = subst (λ (h : List Entry). Ticking settings trace timed.rows timed.start timed.round base h) (sym is)
            (ticking_first settings trace timed.rows timed.start timed.round base);
        count = count;
        waits = λ scheduler known waits.
            let last : after_last scheduler history ≤ length history = after_last-within scheduler history in
            let sees : sees_in_time at history scheduler ≡ length history = omega (arith, last) in
            record {
              synced = nobody scheduler;
              sees = subst (λ (h : List Entry). sees_in_time at h scheduler ≡ length h) (sym is) sees;
              time = subst (λ (h : List Entry). (clock_of settings trace all at base h).synced scheduler ≡ base) (sym is)
                  (ap (λ (clock : Clock). clock.synced scheduler) (clock_none settings trace all base history));
            };
        works = λ scheduler known is_set request works. absurd (is_set (all_are scheduler));
        idle = λ scheduler known is_set idle. absurd (is_set (all_are scheduler));
      }

  -- the same schedulers are to sync
  pub clocked_same : (world : World) (agenda : List (Option ℕ)) (AreToSync AreToo : ℕ → Type 0) (now : ℕ)
      → Clocked settings timed world agenda AreToSync now
      → ((scheduler : ℕ) → AreToSync scheduler → AreToo scheduler) → ((scheduler : ℕ) → scheduler < schedulers settings → AreToo scheduler → AreToSync scheduler)
      → Clocked settings timed world agenda AreToo now
  clocked_same world agenda AreToSync AreToo now clocked all_are no_more = record {
    ticking = clocked.ticking;
    count = clocked.count;
    waits = λ scheduler known waits. clocked.waits scheduler known (no_more scheduler known waits);
    works = λ scheduler known is_set request works. clocked.works scheduler known (λ waits. is_set (all_are scheduler waits)) request works;
    idle = λ scheduler known is_set idle. clocked.idle scheduler known (λ waits. is_set (all_are scheduler waits)) idle;
  }

  -- none is to sync any more
  pub clocked_all : (world : World) (agenda : List (Option ℕ)) (AreToSync : ℕ → Type 0) (now : ℕ)
      → Clocked settings timed world agenda AreToSync now
      → ((scheduler : ℕ) → scheduler < schedulers settings → AreToSync scheduler → ⊥)
      → Clocked settings timed world agenda (λ scheduler. ⊥) 0
  clocked_all world agenda AreToSync now clocked none = record {
    ticking = clocked.ticking;
    count = clocked.count;
    waits = λ scheduler known waits. absurd waits;
    works = λ scheduler known is_set request works. clocked.works scheduler known (none scheduler known) request works;
    idle = λ scheduler known is_set idle. clocked.idle scheduler known (none scheduler known) idle;
  }

  -- a scheduler that was to sync has done so, or has no work, and stands in the agenda accordingly
  clocked_put : (old new : World) (agenda : List (Option ℕ)) (AreToSync : ℕ → Type 0) (now scheduler : ℕ) (entry : Option ℕ)
      → Clocked settings timed old agenda AreToSync now → scheduler < schedulers settings
      → new.history ≡ old.history → OthersStay scheduler old new
      → ((request : Request) → WorksOn settings trace all at old.history scheduler request
      → (new.synced scheduler ≡ Some (sees_in_time at old.history scheduler))
      × (entry ≡ Some (next_time settings trace all at base old.history scheduler)))
      → (HasNoWork settings trace all at old.history scheduler → entry ≡ None)
      → Clocked settings timed new (set agenda scheduler entry) (λ other. AreToSync other × (other ≢ scheduler)) now
  clocked_put old new agenda AreToSync now scheduler entry clocked known same others works_here idle_here =
      let synced : ℕ → Option ℕ = new.synced in
      let later : List (Option ℕ) = set agenda scheduler entry in
      let waits_for : ℕ → Type 0 = λ other. AreToSync other × (other ≢ scheduler) in
      let within : scheduler < length agenda = subst (λ (n : ℕ). scheduler < n) (sym clocked.count) known in
      let put : slice_get later scheduler ≡ Some entry = set-same agenda scheduler entry (get_or agenda scheduler None) (slice_get-get_or agenda scheduler None within) in
      let middle : World = record { history = old.history; synced = synced } in
      subst (λ (h : List Entry). Clocked settings timed (record { history = h; synced = synced }) later waits_for now) (sym same) (record {
        ticking = clocked.ticking;
        count = length-set agenda scheduler entry ∙ clocked.count;
        waits = λ other there waits.
            let was : MaySync settings timed old now other = clocked.waits other there waits.0 in
            record { synced = others other waits.1 ∙ was.synced; sees = was.sees; time = was.time };
        works = λ other there is_set request works. elim (eqb_tells other scheduler) [
          | inl here ↦
              let facts = works_here request (subst (λ (s : ℕ). WorksOn settings trace all at old.history s request) here.1 works) in
              subst (λ (s : ℕ). IsSet settings timed middle later s) (sym here.1)
              (record { synced = facts.0; time = put ∙ ap (λ (e : Option ℕ). Some e) facts.1 })
          | inr apart ↦
              let was : IsSet settings timed old agenda other = clocked.works other there (λ waits. is_set (waits, apart.1)) request works in
              record { synced = others other apart.1 ∙ was.synced; time = set-other agenda scheduler entry other apart.1 ∙ was.time }
        ];
        idle = λ other there is_set idle. elim (eqb_tells other scheduler) [
          | inl here ↦
              ap (slice_get later) here.1 ∙ put
              ∙ ap (λ (e : Option ℕ). Some e) (idle_here (subst (λ (s : ℕ). HasNoWork settings trace all at old.history s) here.1 idle))
          | inr apart ↦ set-other agenda scheduler entry other apart.1 ∙ clocked.idle other there (λ waits. is_set (waits, apart.1)) idle
        ];
      })

  -- the next commit of a scheduler that syncs now with this request
  next_is_due : (history : List Entry) (now scheduler left : ℕ) (request : Request)
      → (clock_of settings trace all at base history).synced scheduler ≡ now
      → WorksOn settings trace all at history scheduler request
      → left ≡ next_wishes settings trace all at history scheduler
      → next_at settings scheduler left now ≡ Some (next_time settings trace all at base history scheduler)
  next_is_due history now scheduler left request time works is =
      let wishes : left ≡ length request.wishes = is ∙ ap first_wishes works.1 in
      let some : request.wishes ≢ [] = first_left Wishes (standing_of settings trace all at scheduler history) request works.0
      (standing_wishes settings trace all at scheduler history) works.1 in
      let many : left ≢ 0 = λ none. some_wishes request.wishes some (sym wishes ∙ none) in
      next_some settings scheduler left now many
      ∙ ap (λ (n : ℕ). Some n) (ap₂ (λ (from n : ℕ). from + decision settings scheduler n) (sym time) is
      ∙ sym (next_time-is settings trace all at base history scheduler))

  -- the step of a scheduler that is to sync leaves the history
  pub set_same_history : (old new : World) (agenda : List (Option ℕ)) (AreToSync : ℕ → Type 0) (now scheduler : ℕ) (answer : StepAnswer)
      → Clocked settings timed old agenda AreToSync now → scheduler < schedulers settings → AreToSync scheduler
      → Step settings trace all at old scheduler new answer → new.history ≡ old.history
  set_same_history old new agenda AreToSync now scheduler Idle clocked known waits step =
      let did : IsIdle old new step.left = step.steps in did.same_history
  set_same_history old new agenda AreToSync now scheduler Synced clocked known waits step =
      let did : Syncs old scheduler new step.left = step.steps in did.same_history
  set_same_history old new agenda AreToSync now scheduler (Committed place) clocked known waits step =
      let did : Commits settings old scheduler new step.left place = step.steps in
      let clash : None ≡ Some did.seen = sym (clocked.waits scheduler known waits).synced ∙ did.synced_before in
      absurd (cc)

  -- a scheduler that is to sync does its step
  pub clocked_set : (old new : World) (agenda : List (Option ℕ)) (AreToSync : ℕ → Type 0) (now scheduler left : ℕ) (answer : StepAnswer)
      → Clocked settings timed old agenda AreToSync now → scheduler < schedulers settings → AreToSync scheduler
      → Step settings trace all at old scheduler new answer
      → left ≡ next_wishes settings trace all at new.history scheduler
      → Clocked settings timed new (set agenda scheduler (next_at settings scheduler left now)) (λ other. AreToSync other × (other ≢ scheduler)) now
  clocked_set old new agenda AreToSync now scheduler left Idle clocked known waits step is =
      let did : IsIdle old new step.left = step.steps in
      let none : HasNoWork settings trace all at old.history scheduler = step.is_left.remains ∙ ap (λ (l : List Request). Some l) did.no_work in
      clocked_put old new agenda AreToSync now scheduler (next_at settings scheduler left now) clocked known did.same_history
      (λ other apart. did.same_synced other)
      (λ request works. absurd (works_or_idle settings trace all at old.history scheduler request works none))
      (λ idle. next_none settings scheduler left now
      (is ∙ ap (λ (h : List Entry). next_wishes settings trace all at h scheduler) did.same_history ∙ ap first_wishes idle))
  clocked_set old new agenda AreToSync now scheduler left Synced clocked known waits step is =
      let did : Syncs old scheduler new step.left = step.steps in
      let may : MaySync settings timed old now scheduler = clocked.waits scheduler known waits in
      let here : left ≡ next_wishes settings trace all at old.history scheduler =
      is ∙ ap (λ (h : List Entry). next_wishes settings trace all at h scheduler) did.same_history in
      clocked_put old new agenda AreToSync now scheduler (next_at settings scheduler left now) clocked known did.same_history did.others
      (λ request works. (
        did.seen_all ∙ ap (λ (n : ℕ). Some n) (sym may.sees),
        next_is_due old.history now scheduler left request may.time works here,
      ))
      (λ idle. absurd (did.has_work (nothing step.left (sym step.is_left.remains ∙ idle)))) where
        nothing : (left : List Request) → Some left ≡ Some [] → left ≡ []
        nothing left same = cc
  clocked_set old new agenda AreToSync now scheduler left (Committed place) clocked known waits step is =
      let did : Commits settings old scheduler new step.left place = step.steps in
      let clash : None ≡ Some did.seen = sym (clocked.waits scheduler known waits).synced ∙ did.synced_before in
      absurd (cc)

  -- a scheduler with a time in the agenda is due then
  pub has_due : (world : World) (agenda : List (Option ℕ)) (now scheduler time : ℕ)
      → Clocked settings timed world agenda (λ other. ⊥) now → scheduler < schedulers settings → slice_get agenda scheduler ≡ Some (Some time)
      → IsDueAt settings timed world agenda scheduler time
  has_due world agenda now scheduler time clocked known is =
      let work = clocked.ticking.so_far.work scheduler known in by work.0 work.1 where
        by : (left : List Request) → HasLeft settings trace all at scheduler world.history left → IsDueAt settings timed world agenda scheduler time
        by [] has =
            let clash : Some (Some time) ≡ Some None = sym is ∙ clocked.idle scheduler known (λ never. never) has.remains in absurd (cc)
        by (request ∷ rest) has =
            let is_set : IsSet settings timed world agenda scheduler = clocked.works scheduler known (λ never. never) request (rest, has.remains) in
            let same : Some (Some time) ≡ Some (Some (next_time settings trace all at base world.history scheduler)) = sym is ∙ is_set.time in
            record { request = request; works = (rest, has.remains); is_set = is_set; time_is = cc }

  -- where none has a time nobody has work
  pub clocked_over : (world : World) (agenda : List (Option ℕ)) (now : ℕ)
      → Clocked settings timed world agenda (λ other. ⊥) now → IsFirst agenda None
      → NobodyHasWork settings trace all at world.history
  clocked_over world agenda now clocked none scheduler known =
      let work = clocked.ticking.so_far.work scheduler known in by work.0 work.1 where
        by : (left : List Request) → HasLeft settings trace all at scheduler world.history left → HasNoWork settings trace all at world.history scheduler
        by [] has = has.remains
        by (request ∷ rest) has =
            let is_set : IsSet settings timed world agenda scheduler = clocked.works scheduler known (λ never. never) request (rest, has.remains) in
            absurd (none scheduler (subst (λ (n : ℕ). scheduler < n) (sym clocked.count) known)
            (next_time settings trace all at base world.history scheduler) is_set.time)

  sooner_than : (scheduler time other later mine : ℕ) → time ≡ mine → other ≢ scheduler → IsNoLater scheduler time other later
      → (mine < later) ⊎ ((mine ≡ later) × (scheduler < other))
  sooner_than scheduler time other later mine is apart (inl less) = inl (omega (arith, is, less))
  sooner_than scheduler time other later mine is apart (inr same) =
      inr (let at_once = same.0 in omega (arith, is, at_once), below scheduler other apart same.1) where
        below : (one two : ℕ) → two ≢ one → one ≤ two → one < two
        below one two apart within = grind (arith)

  -- the first of the agenda goes next
  goes_next : (world : World) (agenda : List (Option ℕ)) (now scheduler time : ℕ) (request : Request)
      → Clocked settings timed world agenda (λ other. ⊥) now → IsFirst agenda (Some (scheduler, time)) → scheduler < schedulers settings
      → WorksOn settings trace all at world.history scheduler request
      → time ≡ next_time settings trace all at base world.history scheduler
      → GoesNext settings trace all at (GoesSooner settings trace all at base) world.history scheduler
  goes_next world agenda now scheduler time request clocked first known works time_is = record {
    known = known;
    request = request;
    has_work = works;
    first = λ other there apart wanted other_works.
        let is_set : IsSet settings timed world agenda other = clocked.works other there (λ never. never) wanted other_works in
        sooner_than scheduler time other (next_time settings trace all at base world.history other) (next_time settings trace all at base world.history scheduler) time_is apart
        (first.1.1 other (subst (λ (n : ℕ). other < n) (sym clocked.count) there) (next_time settings trace all at base world.history other) is_set.time);
  }

  -- a world after the commit that was due
  commit_due : (old : World) (synced : ℕ → Option ℕ) (agenda : List (Option ℕ)) (now scheduler time seen : ℕ) (txn : Txn) (reply : List Judgement)
      → Clocked settings timed old agenda (λ other. ⊥) now
      → Ticking settings trace timed.rows timed.start timed.round base (old.history ++ Commit scheduler seen txn reply ∷ [])
      → time ≡ next_time settings trace all at base old.history scheduler
      → synced scheduler ≡ None → ((other : ℕ) → other ≢ scheduler → synced other ≡ old.synced other)
      → Clocked settings timed (record { history = old.history ++ Commit scheduler seen txn reply ∷ []; synced = synced }) agenda (λ other. other ≡ scheduler) time
  commit_due old synced agenda now scheduler time seen txn reply clocked ticking time_is spent others =
      let entry : Entry = Commit scheduler seen txn reply in
      let history : List Entry = old.history ++ entry ∷ [] in
      let new : World = record { history = history; synced = synced } in
      let within : at ≤ length old.history = clocked.ticking.within in
      let grown : length history ≡ length old.history + 1 = length-append old.history (entry ∷ []) in
      let own : after_last scheduler history ≡ length old.history + 1 = after_last-own old.history scheduler seen txn reply in
      let left_same : (other : ℕ) → other ≢ scheduler → left_of settings trace all at history other ≡ left_of settings trace all at old.history other =
      λ other apart. left_push-other settings trace all at old.history entry other within (ne_eqb scheduler other (λ same. apart (sym same))) in
      record {
        ticking = ticking;
        count = clocked.count;
        waits = λ other there same. subst (λ (s : ℕ). MaySync settings timed new time s) (sym same) (record {
          synced = spent;
          sees = omega (arith, own, grown, within);
          time = synced_push-own settings trace timed.rows timed.start timed.round base old.history scheduler seen txn reply within ∙ sym time_is;
        });
        works = λ other there apart request works.
            let was : IsSet settings timed old agenda other =
            clocked.works other there (λ never. never) request (works.0, sym (left_same other apart) ∙ works.1) in
            record {
              synced = others other apart ∙ was.synced
                  ∙ ap (λ (n : ℕ). Some (max at n)) (sym (after_last-other old.history scheduler seen txn reply other (ne_eqb scheduler other (λ same. apart (sym same)))));
              time = was.time
                  ∙ ap (λ (n : ℕ). Some (Some n)) (sym (next_time_push-other settings trace all at base old.history scheduler seen txn reply other within (λ same. apart (sym same))));
            };
        idle = λ other there apart idle. clocked.idle other there (λ never. never) (sym (left_same other apart) ∙ idle);
      }

  times_due : (old : World) (scheduler time seen : ℕ) (txn : Txn) (reply : List Judgement) → at ≤ length old.history
      → time ≡ next_time settings trace all at base old.history scheduler
      → timed_commits settings trace all at base (old.history ++ Commit scheduler seen txn reply ∷ [])
      ≡ timed_commits settings trace all at base old.history ++ record {
        place = length old.history;
        scheduler = scheduler;
        sync = (clock_of settings trace all at base old.history).synced scheduler;
        time = time;
      } ∷ []
  times_due old scheduler time seen txn reply within time_is =
      timed_push settings trace all at base old.history scheduler seen txn reply within
      ∙ ap₂ (λ (n t : ℕ). timed_commits settings trace all at base old.history ++ record {
        place = n;
        scheduler = scheduler;
        sync = (clock_of settings trace all at base old.history).synced scheduler;
        time = t;
      } ∷ []) (ap (λ (h : List Entry). length h) (clock-before settings trace all at base old.history)) (sym time_is)

  -- the first of the agenda does its step, and commits
  pub clocked_commit : (old new : World) (agenda : List (Option ℕ)) (now scheduler time : ℕ) (answer : StepAnswer)
      → Clocked settings timed old agenda (λ other. ⊥) now → IsFirst agenda (Some (scheduler, time))
      → Step settings trace all at old scheduler new answer
      → HasCommitted settings timed old new agenda scheduler time answer
  unfolding goes_next
  clocked_commit old new agenda now scheduler time Idle clocked first step =
      let known : scheduler < schedulers settings = subst (λ (n : ℕ). scheduler < n) clocked.count first.0 in
      let due : IsDueAt settings timed old agenda scheduler time = has_due old agenda now scheduler time clocked known first.1.0 in
      let did : IsIdle old new step.left = step.steps in
      absurd (works_or_idle settings trace all at old.history scheduler due.request due.works
      (step.is_left.remains ∙ ap (λ (l : List Request). Some l) did.no_work))
  clocked_commit old new agenda now scheduler time Synced clocked first step =
      let known : scheduler < schedulers settings = subst (λ (n : ℕ). scheduler < n) clocked.count first.0 in
      let due : IsDueAt settings timed old agenda scheduler time = has_due old agenda now scheduler time clocked known first.1.0 in
      let did : Syncs old scheduler new step.left = step.steps in
      let clash : None ≡ Some (sees_in_time at old.history scheduler) = sym did.first ∙ due.is_set.synced in
      absurd (cc)
  clocked_commit old new agenda now scheduler time (Committed place) clocked first step =
      let known : scheduler < schedulers settings = subst (λ (n : ℕ). scheduler < n) clocked.count first.0 in
      let due : IsDueAt settings timed old agenda scheduler time = has_due old agenda now scheduler time clocked known first.1.0 in
      let did : Commits settings old scheduler new step.left place = step.steps in
      let history : List Entry = old.history in
      let works : WorksOn settings trace all at history scheduler did.request = (did.rest, step.is_left.remains ∙ ap (λ (l : List Request). Some l) did.has_work) in
      let both : Some did.seen ≡ Some (sees_in_time at history scheduler) = sym did.synced_before ∙ due.is_set.synced in
      let seen : did.seen ≡ sees_in_time at history scheduler = cc in
      let txn : did.txn ≡ attempt_txn settings history scheduler did.seen did.request =
      is_attempt settings history scheduler did.seen did.txn did.request did.agrees in
      let is_attempted : Commit scheduler did.seen did.txn (reply_of history did.seen did.txn) ≡ attempt settings history scheduler (sees_in_time at history scheduler) did.request =
      ap (λ (t : Txn). Commit scheduler did.seen t (reply_of history did.seen t)) txn
      ∙ ap (λ (n : ℕ). attempt settings history scheduler n did.request) seen in
      let next : GoesNext settings trace all at (GoesSooner settings trace all at base) history scheduler =
      goes_next old agenda now scheduler time did.request clocked first known works due.time_is in
      let ticking : Ticking settings trace timed.rows timed.start timed.round base (history ++ Commit scheduler did.seen did.txn (reply_of history did.seen did.txn) ∷ []) =
      subst (λ (e : Entry). Ticking settings trace timed.rows timed.start timed.round base (history ++ e ∷ [])) (sym is_attempted)
      (ticking_commit settings trace timed.rows timed.start timed.round base history scheduler clocked.ticking next) in
      let reply : List Judgement = reply_of history did.seen did.txn in
      record {
        committed = ap (λ (n : ℕ). Committed n) did.at_end;
        one_more = ap (λ (h : List Entry). length h) did.appended ∙ length-append history (Commit scheduler did.seen did.txn reply ∷ []);
        clocked = subst (λ (h : List Entry). Clocked settings timed (record { history = h; synced = new.synced }) agenda (λ other. other ≡ scheduler) time) (sym did.appended)
            (commit_due old new.synced agenda now scheduler time did.seen did.txn reply clocked ticking due.time_is did.spent did.others);
        times = ap (λ (h : List Entry). timed_commits settings trace all at base h) did.appended
            ∙ times_due old scheduler time did.seen did.txn reply clocked.ticking.within due.time_is;
      }
