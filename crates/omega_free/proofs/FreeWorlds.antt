-- A moment is a world's at first, and after each of its steps.
use Rattle.std.proofs.Common.{◌≡◌, ◌+◌, ℕ, zero, suc, List, [], ◌∷◌, ◌++◌, Option, Some, None, length, add-zero, refl, sym, ap, ap₂, subst, ◌∙◌, arith, map}
use Rattle.std.specs.Prelude.{IfSome}
use Rattle.std.specs.List.{range_with_len}
use Rattle.std.proofs.lemmas.List.Elements.{All-nil}
use Rattle.omega_feed.specs.Asked.{asked_after}
use Rattle.omega_laws.specs.Simulated.{greatest_time}
use Rattle.omega_laws.specs.VirtualTime.{Timed}
use Rattle.omega_model.specs.Feed.{rounds}
use Rattle.omega_model.specs.Policy.{schedulers}
use Rattle.omega_model.specs.Work.{Standing}
use Rattle.omega_model.specs.declared.entries.Entry.{Entry}
use Rattle.omega_model.specs.declared.entries.Entry.TheVariants.{End}
use Rattle.omega_model.specs.declared.rows.Round.{Round}
use Rattle.omega_model.specs.declared.rows.TraceTables.{TraceTables}
use Rattle.omega_model.specs.declared.settings.Ends.{Ends}
use Rattle.omega_model.specs.declared.settings.Ends.TheVariants.{Own, Trace}
use Rattle.omega_model.specs.declared.settings.Settings.{Settings}
use Rattle.omega_workers.specs.Workers.{IsRoutedTo}
use Rattle.omega_free_laws.specs.FreeSteps.{DueCommit, Moment, beginning, committing, due_entry, ending, first_due, idle_scheduler, opening, past_ended, past_opened, past_with, triggers_of_end}
use Rattle.omega_free_laws.specs.Lives.{DueEnd}
use Rattle.omega_free_laws.specs.Readings.{Reading}
use Rattle.omega_free_laws.proofs.CrewLaws.{due_routed, order_committed, order_ended, order_first, order_opened}
use Rattle.omega_free_laws.proofs.DueCommits.{due_is_own}
use Rattle.omega_free_laws.proofs.Seen.{stays_ended, stays_opened}
use Rattle.omega_free.specs.FreeRuns.{reading_by, reading_of}
use Rattle.omega_free.specs.FreeWorkers.{AreNewWorkers, AreWorkersNow, IsNewWorker, SyncIfIdle, SyncIfIts, TakeIfDue}
use Rattle.omega_free.specs.FreeWorlds.{FreeState, Stands, StandsThere}
use Rattle.omega_free.specs.KeptAttempts.{IsKeptFor, KeptAttempt, attempt_of}
use Rattle.omega_free.specs.PassDesks.{asked_at}
use Rattle.omega_free.specs.declared.worker.Worker.{Worker}
use Rattle.omega_free.proofs.SchedulersWorkers.{workers_committed, workers_none, workers_synced}

module _ (settings : Settings) (reading : Reading) where
  -- ---- an opening

  stands_opened : (moment : Moment) (round : Round) (rest : List Round) (old new : FreeState) → moment.coming ≡ round ∷ rest
      → StandsThere settings reading moment old
      → new.history ≡ (past_opened reading moment.past round).history
      → new.asked ≡ asked_at settings reading (past_opened reading moment.past round)
      → new.coming ≡ rest → new.triggers ≡ old.triggers + 1 → new.times ≡ old.times
      → SyncIfIdle settings reading (past_opened reading moment.past round) (greatest_time round.rows) old.workers new.workers
      → StandsThere settings reading (opening settings reading moment round rest) new
  stands_opened moment round rest old new first stands history asked coming count times did = record {
    history = history;
    asked = asked;
    coming = coming;
    triggers_are = count ∙ ap (λ (n : ℕ). n + 1) stands.triggers_are;
    workers = workers_synced settings reading (past_opened reading moment.past round) (greatest_time round.rows) moment.crew old.workers new.workers
        (stays_opened (λ (before : List Entry). AreWorkersNow settings reading.trace before moment.crew old.workers)
        (λ before entry none are. workers_none settings reading.trace before entry none moment.crew old.workers are)
        reading.trace moment.past.rows moment.past.history (reading.heeded round) stands.workers) did;
    times = times ∙ stands.times;
  }

  -- where a moment is a world's, the next one is once the world has opened the next round
  pub opens : (moment : Moment) (round : Round) (rest : List Round) (old new : FreeState) → moment.coming ≡ round ∷ rest
      → Stands settings reading moment old
      → new.history ≡ (past_opened reading moment.past round).history
      → new.asked ≡ asked_at settings reading (past_opened reading moment.past round)
      → new.coming ≡ rest → new.triggers ≡ old.triggers + 1 → new.times ≡ old.times
      → SyncIfIdle settings reading (past_opened reading moment.past round) (greatest_time round.rows) old.workers new.workers
      → Stands settings reading (opening settings reading moment round rest) new
  opens moment round rest old new first stands history asked coming count times did = record {
    there = stands_opened moment round rest old new first stands.there history asked coming count times did;
    order = order_opened settings reading moment round rest stands.order;
  }

  -- ---- an end

  -- and once a task has ended
  pub ends : (moment : Moment) (end : DueEnd) (old new : FreeState) → Stands settings reading moment old
      → new.history ≡ (past_ended reading moment.past end moment.coming).history
      → new.asked ≡ asked_at settings reading (past_ended reading moment.past end moment.coming)
      → new.coming ≡ old.coming → new.triggers ≡ old.triggers + triggers_of_end moment.coming → new.times ≡ old.times
      → SyncIfIdle settings reading (past_ended reading moment.past end moment.coming) end.time old.workers new.workers
      → Stands settings reading (ending settings reading moment end) new
  ends moment end old new stands history asked coming count times did = record {
    there = record {
      history = history;
      asked = asked;
      coming = coming ∙ stands.there.coming;
      triggers_are = count ∙ ap (λ (n : ℕ). n + triggers_of_end moment.coming) stands.there.triggers_are;
      workers = workers_synced settings reading (past_ended reading moment.past end moment.coming) end.time moment.crew old.workers new.workers
          (stays_ended (λ (before : List Entry). AreWorkersNow settings reading.trace before moment.crew old.workers)
          (λ before key machine are. workers_none settings reading.trace before (End key machine) refl moment.crew old.workers are)
          reading moment.past.rows moment.past.history end stands.there.workers) did;
      times = times ∙ stands.there.times;
    };
    order = order_ended settings reading moment end stands.order;
  }

  -- ---- a commit

  -- and once it has committed what is due first, where a commit doesn't change which rows count
  pub commits : (moment : Moment) (due : DueCommit) (old new : FreeState) (middles : List Worker) → first_due moment.crew ≡ Some due
      → Stands settings reading moment old
      → new.history ≡ old.history ++ due_entry settings reading moment.past due.by due.attempt ∷ []
      → new.asked ≡ asked_at settings reading (past_with moment.past (due_entry settings reading moment.past due.by due.attempt))
      → new.coming ≡ old.coming → new.triggers ≡ old.triggers
      → new.times ≡ old.times ++ record { place = length old.history; scheduler = due.by; sync = due.attempt.sync; time = due.attempt.due } ∷ []
      → TakeIfDue settings reading moment.past due old.workers middles
      → SyncIfIts settings reading (past_with moment.past (due_entry settings reading moment.past due.by due.attempt)) due.attempt.due due.by middles new.workers
      → Stands settings reading (committing settings reading moment due.by due.attempt) new
  commits moment due old new middles first stands history asked coming count times took syncs = record {
    there = record {
      history = history ∙ ap (λ (before : List Entry). before ++ due_entry settings reading moment.past due.by due.attempt ∷ []) stands.there.history;
      asked = asked;
      coming = coming ∙ stands.there.coming;
      triggers_are = count ∙ stands.there.triggers_are;
      workers = workers_committed settings reading moment.past due
          (due_routed settings reading moment.past.history moment.crew due stands.order.each first)
          moment.crew old.workers middles new.workers stands.there.workers stands.order.each
          (due_is_own settings reading moment due stands.order first) took syncs;
      times = times
          ∙ ap₂ (λ (before : List Timed) (n : ℕ). before ++ record { place = n; scheduler = due.by; sync = due.attempt.sync; time = due.attempt.due } ∷ [])
          stands.there.times (ap length stands.there.history);
    };
    order = order_committed settings reading moment due stands.order;
  }

-- ---- the beginning

-- one more worker that has done nothing yet
pub new_more : (settings : Settings) (first : ℕ) (workers : List Worker) (worker : Worker) → AreNewWorkers settings first workers
    → IsNewWorker settings (first + length workers) worker → AreNewWorkers settings first (workers ++ worker ∷ [])
new_more settings first [] worker are is = (subst (λ (n : ℕ). IsNewWorker settings n worker) (add-zero first) is, tt)
new_more settings first (other ∷ workers) worker are is =
    let more : first + length (other ∷ workers) ≡ (first + 1) + length workers = omega arith in
    (are.0, new_more settings (first + 1) workers worker are.1 (subst (λ (n : ℕ). IsNewWorker settings n worker) more is))

-- new workers are those of schedulers before anything has happened
new_workers : (settings : Settings) (trace : TraceTables) (first n : ℕ) (workers : List Worker) → length workers ≡ n → AreNewWorkers settings first workers
    → AreWorkersNow settings trace [] (map idle_scheduler (range_with_len first n)) workers
new_workers settings trace first zero [] count are = tt
new_workers settings trace first zero (worker ∷ workers) count are = absurd (omega (arith, count))
new_workers settings trace first (suc n) [] count are = absurd (omega (arith, count))
new_workers settings trace first (suc n) (worker ∷ workers) count are =
    let is = are.0 in (
      record {
        desk = record {
          settings_are = is.settings_are;
          number_is = is.number_is;
          requests = ap (λ (it : Standing). it.requests) is.left;
          taken = ap (λ (it : Standing). it.taken) is.left;
          own = All-nil (IsRoutedTo settings trace first);
          counts = λ job routed. sym (ap (λ (it : Standing). it.failing job) is.left);
          failures = λ job routed. sym (ap (λ (it : Standing). it.failing job) is.left);
          attempts = is.attempts;
        };
        begun = is.begun;
        attempt = ap attempt_of is.attempt;
        kept = subst (λ (kept : Option KeptAttempt). IfSome kept (IsKeptFor [] worker.desk)) (sym is.attempt) tt;
      },
      new_workers settings trace (first + 1) n workers (omega (arith, count)) are.1,
    )

-- the first moment is that of a new world
module _ (settings : Settings) (trace : TraceTables) where
  begins_by : (ends : Ends) (world : FreeState) → world.history ≡ [] → world.asked ≡ asked_after settings trace []
      → world.coming ≡ rounds trace settings.window → world.triggers ≡ 0 → world.times ≡ []
      → length world.workers ≡ schedulers settings → AreNewWorkers settings 0 world.workers
      → StandsThere settings (reading_by ends trace) (beginning settings (reading_by ends trace)) world
  begins_by Trace world history asked coming count times workers are = record {
    history = history;
    asked = asked;
    coming = coming;
    triggers_are = count;
    workers = new_workers settings trace 0 (schedulers settings) world.workers workers are;
    times = times;
  }
  begins_by Own world history asked coming count times workers are = record {
    history = history;
    asked = asked;
    coming = coming;
    triggers_are = count;
    workers = new_workers settings trace 0 (schedulers settings) world.workers workers are;
    times = times;
  }

pub begins : (settings : Settings) (trace : TraceTables) (world : FreeState) → world.history ≡ [] → world.asked ≡ asked_after settings trace []
    → world.coming ≡ rounds trace settings.window → world.triggers ≡ 0 → world.times ≡ []
    → length world.workers ≡ schedulers settings → AreNewWorkers settings 0 world.workers
    → Stands settings (reading_of settings trace) (beginning settings (reading_of settings trace)) world
begins settings trace world history asked coming count times workers are = record {
  there = begins_by settings trace settings.ends world history asked coming count times workers are;
  order = order_first settings (reading_of settings trace);
}

-- no end is due then
pub none_first : (ends : Ends) (trace : TraceTables) → None ≡ (reading_by ends trace).end_due [] []
none_first Trace trace = refl
none_first Own trace = refl
