-- A world that plays a round by the clock, one step after the other.
use Rattle.std.proofs.Common.{◌≡◌, ◌≢◌, ◌≤◌, ◌<◌, ◌+◌, ◌-◌, ℕ, List, [], ◌∷◌, ◌++◌, length, set, Option, Some, None, refl, sym, ap, ap₂, subst, arith, ◌∙◌, append_assoc}
use Rattle.std.specs.Prelude.{max, option_map, unwrap_or}
use Rattle.std.proofs.lemmas.List.{append-nil}
use Rattle.omega_model.specs.Lawful.{opened}
use Rattle.omega_model.specs.Policy.{schedulers}
use Rattle.omega_model.specs.World.StepAnswer.{Committed as CommittedAnswer}
use Rattle.omega_model.specs.declared.entries.Entry.{Entry}
use Rattle.omega_model.specs.declared.rows.Round.{Round}
use Rattle.omega_model.specs.declared.rows.Row.{Row}
use Rattle.omega_model.specs.declared.settings.Settings.{Settings}
use Rattle.omega_laws.specs.NextCommit.{NobodyHasWork}
use Rattle.omega_laws.specs.Simulated.{greatest_time, until_after}
use Rattle.omega_laws.specs.VirtualTime.{Clock, Timed, clock_of, decision, next_wishes, timed_commits}
use Rattle.omega_laws.proofs.TickingOn.{clock_none, ticking_ends}
use Rattle.omega_laws.proofs.TimeOrder.{next_time-is}
use Rattle.omega_sim.specs.Agenda.{IsFirst}
use Rattle.omega_rounds.specs.Clocked.{Clocked, HasCommitted, IsDueAt, TimedRound, all_rows, next_at, place_of}
use Rattle.omega_rounds.specs.Going.{answer_of}
use Rattle.omega_rounds.specs.InTime.{BeginsInTime, EndsInTime, GoesByClock, HasWishesLeft, StandsInTime, rows_time, times_so_far}
use Rattle.omega_rounds.specs.Playing.{IsRoundNow}
use Rattle.omega_rounds.specs.Stages.{IsInRunOf, Stage, WorldState, rows_begun, world_of}
use Rattle.omega_workers.specs.declared.steps.Stepped.{Stepped}
use Rattle.omega_workers.specs.declared.steps.Stepped.TheVariants.{Synced, Committed, Idle}
use Rattle.omega_rounds.proofs.ClockSteps.{clocked_all, clocked_commit, clocked_first, clocked_over, clocked_same, clocked_set, has_due, set_same_history}
use Rattle.omega_rounds.proofs.PlayedTurns.{StepsFrom, over_now, step_now}

-- it is that of the round that is under way
wishes_now : (world : WorldState) (scheduler left : ℕ) (timed : TimedRound) (agenda : List (Option ℕ)) (times : List Timed) (AreToSync : ℕ → Type 0) (now : ℕ)
    → HasWishesLeft world scheduler left → StandsInTime timed world agenda times AreToSync now
    → left ≡ next_wishes world.stage.settings timed.trace (all_rows timed) (place_of timed) world.history scheduler
wishes_now world scheduler left timed agenda times AreToSync now is stands =
    subst (λ (n : ℕ). left ≡ next_wishes world.stage.settings timed.trace (all_rows timed) n world.history scheduler) stands.here.opened
    (subst (λ (rs : List Row). left ≡ next_wishes world.stage.settings timed.trace rs world.stage.opened_at world.history scheduler) stands.here.rows
    (is timed.trace stands.here.made))

-- where the rows end all schedulers are to sync
pub stands_first : (timed : TimedRound) (world : WorldState) (agenda : List (Option ℕ)) (times : List Timed)
    → BeginsInTime timed world times → length agenda ≡ schedulers world.stage.settings
    → StandsInTime timed world agenda times (λ scheduler. 0 ≤ scheduler) timed.base
stands_first timed world agenda times begins count =
    let settings : Settings = world.stage.settings in
    let history : List Entry = (opened timed.trace timed.rows timed.start timed.round).history in
    let none : times_so_far timed world ≡ [] =
    ap (λ (h : List Entry). timed_commits settings timed.trace (all_rows timed) (place_of timed) timed.base h) begins.entries
    ∙ ap (λ (clock : Clock). clock.commits) (clock_none settings timed.trace (all_rows timed) timed.base history) in
    record {
      here = begins.here;
      clocked = clocked_first settings timed (world_of world) agenda (λ scheduler. 0 ≤ scheduler) begins.entries begins.nobody count (λ scheduler. omega arith);
      times_are = sym begins.earlier ∙ sym (append-nil timed.earlier) ∙ ap (λ (later : List Timed). timed.earlier ++ later) (sym none);
    }

-- a scheduler that was to sync has done its step
pub stands_set : (old new : WorldState) (timed : TimedRound) (agenda : List (Option ℕ)) (times : List Timed) (AreToSync : ℕ → Type 0) (now scheduler left : ℕ) (stepped : Stepped)
    → StandsInTime timed old agenda times AreToSync now → scheduler < schedulers old.stage.settings → AreToSync scheduler
    → new.stage ≡ old.stage → StepsFrom old.stage old scheduler new stepped → HasWishesLeft new scheduler left
    → StandsInTime timed new (set agenda scheduler (next_at old.stage.settings scheduler left now)) times (λ other. AreToSync other × (other ≢ scheduler)) now
stands_set old new timed agenda times AreToSync now scheduler left stepped stands known waits stage steps wishes =
    let settings : Settings = old.stage.settings in
    let later : List (Option ℕ) = set agenda scheduler (next_at settings scheduler left now) in
    let waits_for : ℕ → Type 0 = λ other. AreToSync other × (other ≢ scheduler) in
    let step = step_now old.stage old new scheduler stepped steps timed.trace timed.rows timed.start timed.round stands.here in
    let is : left ≡ next_wishes settings timed.trace (all_rows timed) (place_of timed) new.history scheduler =
    subst (λ (n : ℕ). left ≡ next_wishes settings timed.trace (all_rows timed) n new.history scheduler) stands.here.opened
    (subst (λ (rs : List Row). left ≡ next_wishes settings timed.trace rs old.stage.opened_at new.history scheduler) stands.here.rows
    (subst (λ (s : Stage). left ≡ next_wishes s.settings timed.trace (rows_begun s) s.opened_at new.history scheduler) stage
    (wishes timed.trace (subst (λ (s : Stage). IsInRunOf s timed.trace) (sym stage) stands.here.made)))) in
    let clocked : Clocked settings timed (world_of new) later waits_for now =
    clocked_set settings timed (world_of old) (world_of new) agenda AreToSync now scheduler left (answer_of stepped) stands.clocked known waits step is in
    let same : new.history ≡ old.history =
    set_same_history settings timed (world_of old) (world_of new) agenda AreToSync now scheduler (answer_of stepped) stands.clocked known waits step in
    record {
      here = subst (λ (s : Stage). IsRoundNow timed.trace timed.rows timed.start timed.round s) (sym stage) stands.here;
      clocked = subst (λ (s : Stage). Clocked s.settings timed (world_of new) later waits_for now) (sym stage) clocked;
      times_are = stands.times_are
          ∙ ap₂ (λ (s : Stage) (h : List Entry). timed.earlier ++ timed_commits s.settings timed.trace (all_rows timed) (place_of timed) timed.base h) (sym stage) (sym same);
    }

-- the schedulers from a number on are to sync
pub stands_next : (timed : TimedRound) (world : WorldState) (agenda : List (Option ℕ)) (times : List Timed) (now next : ℕ)
    → StandsInTime timed world agenda times (λ other. (next ≤ other) × (other ≢ next)) now
    → StandsInTime timed world agenda times (λ other. next + 1 ≤ other) now
stands_next timed world agenda times now next stands = record {
  here = stands.here;
  clocked = clocked_same world.stage.settings timed (world_of world) agenda (λ other. (next ≤ other) × (other ≢ next)) (λ other. next + 1 ≤ other) now stands.clocked
      (λ other waits. above other waits.0 waits.1) (λ other known above. (omega (arith, above), λ same. let e : other ≡ next = same in absurd (omega (arith, above, e))));
  times_are = stands.times_are;
} where
  above : (other : ℕ) → next ≤ other → other ≢ next → next + 1 ≤ other
  above other within apart = grind (arith)

-- none is to sync any more
pub stands_all : (timed : TimedRound) (world : WorldState) (agenda : List (Option ℕ)) (times : List Timed) (AreToSync : ℕ → Type 0) (now : ℕ)
    → StandsInTime timed world agenda times AreToSync now
    → ((scheduler : ℕ) → scheduler < schedulers world.stage.settings → AreToSync scheduler → ⊥)
    → GoesByClock timed world agenda times
stands_all timed world agenda times AreToSync now stands none = record {
  here = stands.here;
  clocked = clocked_all world.stage.settings timed (world_of world) agenda AreToSync now stands.clocked none;
  times_are = stands.times_are;
}

-- the first of the agenda is due
pub first_due : (timed : TimedRound) (world : WorldState) (agenda : List (Option ℕ)) (times : List Timed) (scheduler time : ℕ)
    → GoesByClock timed world agenda times → IsFirst agenda (Some (scheduler, time))
    → IsDueAt world.stage.settings timed (world_of world) agenda scheduler time × (scheduler < schedulers world.stage.settings)
first_due timed world agenda times scheduler time goes first =
    let known : scheduler < schedulers world.stage.settings = subst (λ (n : ℕ). scheduler < n) goes.clocked.count first.0 in
    (has_due world.stage.settings timed (world_of world) agenda 0 scheduler time goes.clocked known first.1.0, known)

-- when it synced
pub first_synced : (timed : TimedRound) (world : WorldState) (agenda : List (Option ℕ)) (times : List Timed) (scheduler time left : ℕ)
    → GoesByClock timed world agenda times → IsFirst agenda (Some (scheduler, time)) → HasWishesLeft world scheduler left
    → time ≡ (clock_of world.stage.settings timed.trace (all_rows timed) (place_of timed) timed.base world.history).synced scheduler
    + decision world.stage.settings scheduler left
first_synced timed world agenda times scheduler time left goes first wishes =
    let due = first_due timed world agenda times scheduler time goes first in
    let is = wishes_now world scheduler left timed agenda times (λ other. ⊥) 0 wishes goes in
    due.0.time_is ∙ next_time-is world.stage.settings timed.trace (all_rows timed) (place_of timed) timed.base world.history scheduler
    ∙ ap (λ (n : ℕ). (clock_of world.stage.settings timed.trace (all_rows timed) (place_of timed) timed.base world.history).synced scheduler
    + decision world.stage.settings scheduler n) (sym is)

-- the first of the agenda commits, and is to sync
pub first_commits : (timed : TimedRound) (old new : WorldState) (agenda : List (Option ℕ)) (times : List Timed) (scheduler time : ℕ) (stepped : Stepped)
    → GoesByClock timed old agenda times → IsFirst agenda (Some (scheduler, time))
    → StepsFrom old.stage old scheduler new stepped
    → HasCommitted old.stage.settings timed (world_of old) (world_of new) agenda scheduler time (answer_of stepped)
first_commits timed old new agenda times scheduler time stepped goes first steps =
    clocked_commit old.stage.settings timed (world_of old) (world_of new) agenda 0 scheduler time (answer_of stepped) goes.clocked first
    (step_now old.stage old new scheduler stepped steps timed.trace timed.rows timed.start timed.round goes.here)

pub stands_committed : (timed : TimedRound) (old new : WorldState) (agenda : List (Option ℕ)) (times : List Timed) (scheduler time sync place : ℕ)
    → GoesByClock timed old agenda times → new.stage ≡ old.stage
    → HasCommitted old.stage.settings timed (world_of old) (world_of new) agenda scheduler time (answer_of (Committed place))
    → sync ≡ (clock_of old.stage.settings timed.trace (all_rows timed) (place_of timed) timed.base old.history).synced scheduler
    → StandsInTime timed new agenda (times ++ record { place = place; scheduler = scheduler; sync = sync; time = time } ∷ []) (λ other. other ≡ scheduler) time
stands_committed timed old new agenda times scheduler time sync place goes stage did synced =
    let same : CommittedAnswer place ≡ CommittedAnswer (length old.history) = did.committed in
    let at_end : place ≡ length old.history = cc in
    let was : ℕ = (clock_of old.stage.settings timed.trace (all_rows timed) (place_of timed) timed.base old.history).synced scheduler in
    let commit : ℕ → ℕ → Timed = λ n from. record { place = n; scheduler = scheduler; sync = from; time = time } in
    record {
      here = subst (λ (s : Stage). IsRoundNow timed.trace timed.rows timed.start timed.round s) (sym stage) goes.here;
      clocked = subst (λ (s : Stage). Clocked s.settings timed (world_of new) agenda (λ other. other ≡ scheduler) time) (sym stage) did.clocked;
      times_are =
          ap₂ (λ (n from : ℕ). times ++ commit n from ∷ []) at_end synced
          ∙ ap (λ (ts : List Timed). ts ++ commit (length old.history) was ∷ []) goes.times_are
          ∙ append_assoc timed.earlier (times_so_far timed old) (commit (length old.history) was ∷ [])
          ∙ ap (λ (later : List Timed). timed.earlier ++ later) (sym did.times)
          ∙ ap (λ (s : Stage). timed.earlier ++ timed_commits s.settings timed.trace (all_rows timed) (place_of timed) timed.base new.history) (sym stage);
    }

-- where the agenda has no time the round is over
pub ends_in_time : (timed : TimedRound) (world : WorldState) (agenda : List (Option ℕ)) (times : List Timed)
    → GoesByClock timed world agenda times → IsFirst agenda None → EndsInTime timed world times
ends_in_time timed world agenda times goes none =
    let nobody : NobodyHasWork world.stage.settings timed.trace (all_rows timed) (place_of timed) world.history =
    clocked_over world.stage.settings timed (world_of world) agenda 0 goes.clocked none in
    record {
      ordered = ticking_ends world.stage.settings timed.trace timed.rows timed.start timed.round timed.base world.history goes.clocked.ticking nobody;
      over = over_now world timed.trace timed.rows timed.start timed.round goes.here nobody;
      times_are = goes.times_are;
    }

-- the same where all below have synced, and all from a scheduler on are to
pub set_in_turn : (old new : WorldState) (timed : TimedRound) (agenda later : List (Option ℕ)) (times : List Timed) (now scheduler left : ℕ) (stepped : Stepped)
    → scheduler < schedulers old.stage.settings
    → new.stage ≡ old.stage → StepsFrom old.stage old scheduler new stepped → HasWishesLeft new scheduler left
    → later ≡ set agenda scheduler (next_at new.stage.settings scheduler left now)
    → StandsInTime timed old agenda times (λ other. scheduler ≤ other) now
    → StandsInTime timed new later times (λ other. scheduler + 1 ≤ other) now
set_in_turn old new timed agenda later times now scheduler left stepped known stage steps wishes is stands =
    let put : later ≡ set agenda scheduler (next_at old.stage.settings scheduler left now) =
    is ∙ ap (λ (s : Stage). set agenda scheduler (next_at s.settings scheduler left now)) stage in
    subst (λ (a : List (Option ℕ)). StandsInTime timed new a times (λ other. scheduler + 1 ≤ other) now) (sym put)
    (stands_next timed new (set agenda scheduler (next_at old.stage.settings scheduler left now)) times now scheduler
    (stands_set old new timed agenda times (λ other. scheduler ≤ other) now scheduler left stepped stands known (omega arith) stage steps wishes))

-- and where it alone is to sync
pub set_alone : (old new : WorldState) (timed : TimedRound) (agenda later : List (Option ℕ)) (times : List Timed) (now scheduler left : ℕ) (stepped : Stepped)
    → scheduler < schedulers old.stage.settings
    → new.stage ≡ old.stage → StepsFrom old.stage old scheduler new stepped → HasWishesLeft new scheduler left
    → later ≡ set agenda scheduler (next_at new.stage.settings scheduler left now)
    → StandsInTime timed old agenda times (λ other. other ≡ scheduler) now
    → GoesByClock timed new later times
set_alone old new timed agenda later times now scheduler left stepped known stage steps wishes is stands =
    let put : later ≡ set agenda scheduler (next_at old.stage.settings scheduler left now) =
    is ∙ ap (λ (s : Stage). set agenda scheduler (next_at s.settings scheduler left now)) stage in
    subst (λ (a : List (Option ℕ)). GoesByClock timed new a times) (sym put)
    (stands_all timed new (set agenda scheduler (next_at old.stage.settings scheduler left now)) times (λ other. (other ≡ scheduler) × (other ≢ scheduler)) now
    (stands_set old new timed agenda times (λ other. other ≡ scheduler) now scheduler left stepped stands known refl stage steps wishes)
    (λ other there waits. waits.1 waits.0))

-- what a scheduler decides on it began after the time at which it synced
pub wait_within : (timed : TimedRound) (world : WorldState) (agenda : List (Option ℕ)) (times : List Timed) (scheduler time left wait : ℕ) (settings : Settings)
    → GoesByClock timed world agenda times → IsFirst agenda (Some (scheduler, time)) → HasWishesLeft world scheduler left
    → settings ≡ world.stage.settings → wait ≡ decision settings scheduler left → wait ≤ time
wait_within timed world agenda times scheduler time left wait settings goes first wishes same is =
    let sum = first_synced timed world agenda times scheduler time left goes first wishes in
    let here : wait ≡ decision world.stage.settings scheduler left = is ∙ ap (λ (s : Settings). decision s scheduler left) same in
    within time _ _ wait sum here where
      within : (time synced wait other : ℕ) → time ≡ synced + wait → other ≡ wait → other ≤ time
      within time synced wait other sum same = omega (arith, sum, same)

-- a step that the definition calls a commit is one
pub is_commit_at : (stepped : Stepped) (place : ℕ) → answer_of stepped ≡ CommittedAnswer place → stepped ≡ Committed place
is_commit_at Synced place is = absurd (cc)
is_commit_at Idle place is = absurd (cc)
is_commit_at (Committed other) place is = let same : other ≡ place = cc in ap (λ (n : ℕ). Committed n) same

-- the first of the agenda has committed, at the time of its sync and as long as it decided
pub first_committed : (timed : TimedRound) (old new : WorldState) (agenda : List (Option ℕ)) (times : List Timed) (scheduler time left wait place : ℕ) (settings : Settings)
    → GoesByClock timed old agenda times → IsFirst agenda (Some (scheduler, time)) → HasWishesLeft old scheduler left
    → settings ≡ old.stage.settings → wait ≡ decision settings scheduler left
    → new.stage ≡ old.stage → StepsFrom old.stage old scheduler new (Committed place)
    → StandsInTime timed new agenda (times ++ record { place = place; scheduler = scheduler; sync = time - wait; time = time } ∷ []) (λ other. other ≡ scheduler) time
first_committed timed old new agenda times scheduler time left wait place settings goes first wishes same is stage steps =
    let sum = first_synced timed old agenda times scheduler time left goes first wishes in
    let here : wait ≡ decision old.stage.settings scheduler left = is ∙ ap (λ (s : Settings). decision s scheduler left) same in
    let synced : time - wait ≡ (clock_of old.stage.settings timed.trace (all_rows timed) (place_of timed) timed.base old.history).synced scheduler =
    back time _ _ wait sum here in
    stands_committed timed old new agenda times scheduler time (time - wait) place goes stage
    (first_commits timed old new agenda times scheduler time (Committed place) goes first steps) synced where
      back : (time synced wait other : ℕ) → time ≡ synced + wait → other ≡ wait → time - other ≡ synced
      back time synced wait other sum same = omega (arith, sum, same)

-- where no scheduler is the first none has a time
pub none_is_first : (agenda : List (Option ℕ)) (first : Option (ℕ × ℕ)) → IsFirst agenda first → ((one : ℕ × ℕ) → first ≡ Some one → ⊥) → IsFirst agenda None
none_is_first agenda None is none = is
none_is_first agenda (Some one) is none = absurd (none one refl)

-- the base of a round by what its world says
pub base_is : (timed : TimedRound) (world : WorldState) (times : List Timed) → BeginsInTime timed world times
    → max (until_after 0 times) (unwrap_or (rows_time world.stage) 0) ≡ timed.base
base_is timed world times begins =
    ap (λ (last : Option Round). max (until_after 0 times) (unwrap_or (option_map (λ (round : Round). greatest_time round.rows) last) 0)) begins.last
    ∙ sym begins.base

-- where a round begins, its schedulers are to sync at its base
pub stands_begun : (timed : TimedRound) (world : WorldState) (agenda : List (Option ℕ)) (times : List Timed) (base : ℕ)
    → BeginsInTime timed world times → length agenda ≡ schedulers world.stage.settings
    → base ≡ max (until_after 0 times) (unwrap_or (rows_time world.stage) 0)
    → StandsInTime timed world agenda times (λ scheduler. 0 ≤ scheduler) base
stands_begun timed world agenda times base begins count is =
    subst (λ (n : ℕ). StandsInTime timed world agenda times (λ scheduler. 0 ≤ scheduler) n) (sym (is ∙ base_is timed world times begins))
    (stands_first timed world agenda times begins count)
