-- A world in which a round begins.
use Rattle.std.proofs.Common.{◌≡◌, ◌≤◌, ◌<◌, ◌+◌, ◌*◌, ◌-◌, ℕ, suc, not, List, [], ◌∷◌, ◌++◌, length, take, Some, None, refl, sym, ap, ap₂, subst, arith, ◌∙◌, inl, inr, add-one, Option}
use Rattle.std.specs.Prelude.{nat_le, slice_get}
use Rattle.std.specs.List.{All, fold, sum_by}
use Rattle.std.proofs.lemmas.List.Sums.{fold-append}
use Rattle.std.proofs.lemmas.Option.{slice_get_cases, slice_get_within}
use Rattle.std.proofs.Math.Seq.{take-length}
use Rattle.std.proofs.Math.ListN.{drop_of_length-le}
use Rattle.omega_feed.specs.Asked.{Asked, asked_after}
use Rattle.omega_model.proofs.Lists.{each_map, filter_where}
use Rattle.omega_model.proofs.OpenRequests.{requests_from_open}
use Rattle.omega_model.specs.Feed.{rounds}
use Rattle.omega_model.specs.Lawful.{opened, rows_of}
use Rattle.omega_model.specs.OpenRequests.{is_worked_on, open_requests as all_requests}
use Rattle.omega_model.specs.Policy.{schedulers}
use Rattle.omega_model.specs.Requests.{failed, requests}
use Rattle.omega_model.specs.Routing.{scheduler_of}
use Rattle.omega_model.specs.State.{state}
use Rattle.omega_model.specs.Stepping.{BeginsRound}
use Rattle.omega_model.specs.Wanted.{WantedTask, wanted, wanted_after}
use Rattle.omega_model.specs.Work.{HasLeft, Standing, commits_of, fresh}
use Rattle.omega_model.specs.World.{World}
use Rattle.omega_model.specs.declared.entries.Entry.{Entry}
use Rattle.omega_model.specs.declared.rows.Row.{Row}
use Rattle.omega_model.specs.declared.rows.Round.{Round}
use Rattle.omega_model.specs.declared.rows.TraceTables.{TraceTables}
use Rattle.omega_model.specs.declared.settings.Settings.{Settings}
use Rattle.omega_model.specs.declared.wishes.Request.{Request}
use Rattle.omega_plan.specs.declared.indexes.Indexes.{Indexes}
use Rattle.omega_desk.specs.Counts.{count_of}
use Rattle.omega_desk.specs.Desks.{DeskState, left_at, still_tried}
use Rattle.omega_workers.specs.AttemptsLeft.{attempts_left}
use Rattle.omega_laws.specs.InRound.{RoundIsOver, rows_now}
use Rattle.omega_rounds.specs.Keeping.{AreIndexesFor, HasBegun, HasNotBegun, IsLawful, IsWorld, world_at}
use Rattle.omega_laws.specs.NextCommit.{NobodyHasWork}
use Rattle.omega_rounds.specs.Beginning.{BeginAll, BeginsWorker, IsAsked}
use Rattle.omega_workers.specs.Workers.{HaveNoWork, IsDeskOf, IsRoutedTo, IsWorker, synced_of, to_do_of, SyncedWithin}
use Rattle.omega_rounds.specs.Playing.{IsAtStart}
use Rattle.omega_rounds.specs.Stages.{IsInRunOf, Source, Stage, next_stage, rows_begun, stage_of}
use Rattle.omega_workers.specs.declared.worker.Worker.{Worker}
use Rattle.omega_rounds.proofs.PlansKept.{indexes_for_opened}
use Rattle.omega_workers.proofs.HavingPlans.{plan_none}
use Rattle.omega_rounds.proofs.OpenedEntries.{commits_opened, failed_opened}
use Rattle.omega_laws.proofs.Places.{take_next}
use Rattle.omega_rounds.proofs.Requested.{open_own, requests_own}
use Rattle.omega_laws.proofs.RoundGrows.{has_left_opened}
use Rattle.omega_rounds.proofs.WorkerLists.{seen_none, sum_none, sum_of_none}
use Rattle.omega_rounds.proofs.WorldSteps.{new_idle, rows_same, state_at}
use Rattle.omega_sim.proofs.Arrived.{rows_of_push}
use Rattle.omega_rounds.proofs.Worlds.{begins_done, begins_rows, goes_done, goes_rows, world_begins, world_goes_on}

-- nobody has work where no request is left at any desk
pub nobody_works : (trace : TraceTables) (stage : Stage) (tasks : List WantedTask) (history : List Entry) (workers : List Worker)
    → IsWorld stage tasks history workers → HaveNoWork workers → IsInRunOf stage trace
    → NobodyHasWork stage.settings trace (rows_begun stage) stage.opened_at history
nobody_works trace stage tasks history workers world idle made scheduler known =
    elim (slice_get_cases workers scheduler).1 [
      | inl some ↦
          ((world.lawful trace made).desks scheduler some.0 some.2).left.remains
          ∙ ap (λ (l : List Request). Some l) (idle scheduler some.0 some.2)
      | inr none ↦ let all : length workers ≡ schedulers stage.settings = world.count in absurd (omega (arith, all, none.0, known))
    ]

-- a desk without attempts has no request left
none_left : (requests : List Request) (tries taken : ℕ) → taken < tries → length requests * tries - taken ≡ 0 → requests ≡ []
none_left [] tries taken few none = refl
none_left (request ∷ rest) tries taken few none =
    let more : (a t : ℕ) → (suc a) * t ≡ a * t + t = mul_more in
    let all : (suc (length rest)) * tries ≡ length rest * tries + tries = more (length rest) tries in
    let here : (suc (length rest)) * tries - taken ≡ 0 = none in
    absurd (omega (arith, all, here, few))
  where
    mul_more : (a t : ℕ) → (suc a) * t ≡ a * t + t
    mul_more a t = grind (arith)

-- where no commit can follow no request is left at any desk
pub idle_all : (stage : Stage) (tasks : List WantedTask) (history : List Entry) (workers : List Worker)
    → IsWorld stage tasks history workers → sum_by to_do_of workers ≡ 0 → HaveNoWork workers
idle_all stage tasks history workers world none number worker here =
    let is : IsWorker stage.settings history number worker = world.each_worker number worker here in
    let own : attempts_left worker.desk.settings (left_at worker.desk) ≡ 0 = sum_none to_do_of workers none number worker here in
    none_left worker.desk.requests stage.settings.tries worker.desk.taken is.tries
    (subst (λ (s : Settings). attempts_left s (left_at worker.desk) ≡ 0) is.settings own)

-- and where no request is left no commit can follow
pub none_to_do : (workers : List Worker) → HaveNoWork workers → sum_by to_do_of workers ≡ 0
none_to_do workers idle = sum_of_none to_do_of workers (λ number worker here. nothing_left worker (idle number worker here)) where
  nothing_left : (worker : Worker) → worker.desk.requests ≡ [] → to_do_of worker ≡ 0
  nothing_left worker none =
      let all : length worker.desk.requests ≡ 0 = ap (λ (l : List Request). length l) none in
      subst (λ (n : ℕ). n * worker.desk.settings.tries - worker.desk.taken ≡ 0) (sym all) (omega arith)

-- the desk of a scheduler as a round begins
module _ (settings : Settings) (trace : TraceTables) (before : List Entry) (rows : List Row) (base : List Entry) (scheduler : ℕ) (old new : DeskState)
    (failures : (job : ℕ) → scheduler_of settings trace job ≡ scheduler → failed base job ≡ count_of old.counts job)
    (left : left_at new ≡ fresh (left_at old).failing (still_tried settings (left_at old).failing (all_requests settings trace rows (state base) scheduler))) where
  begun_requests : requests settings trace rows base scheduler ≡ new.requests
  begun_requests =
      let all : List Request = all_requests settings trace rows (state base) scheduler in
      requests_from_open settings trace rows base scheduler
      ∙ filter_where (is_worked_on settings base) (λ request. not (nat_le settings.give_up (count_of old.counts request.job))) all
      (each_map (IsRoutedTo settings trace scheduler) (λ request. is_worked_on settings base request ≡ not (nat_le settings.give_up (count_of old.counts request.job)))
      (λ request own. ap (λ (n : ℕ). not (nat_le settings.give_up n)) (failures request.job own)) all (open_own settings trace rows base scheduler))
      ∙ sym (ap (λ (s : Standing). s.requests) left)

  pub desk_begins : IsDeskOf settings trace rows (length base) base scheduler new
  desk_begins =
      let asked : requests settings trace rows base scheduler ≡ new.requests = begun_requests in
      let count : (job : ℕ) → scheduler_of settings trace job ≡ scheduler → failed base job ≡ count_of new.counts job =
      λ job own. failures job own ∙ sym (ap (λ (s : Standing). s.failing job) left) in
      record {
        left = subst (λ (l : List Request). HasLeft settings trace rows (length base) scheduler base l) asked (has_left_opened settings trace rows base scheduler);
        standing = fresh (failed base) (requests settings trace rows base scheduler);
        stands = rw (take-length base, drop_of_length-le base {i = length base} (omega arith)) refl;
        requests = asked;
        taken = sym (ap (λ (s : Standing). s.taken) left);
        own = subst (All (IsRoutedTo settings trace scheduler)) asked (requests_own settings trace rows base scheduler);
        counts = count;
        failures = count;
      }

module _ (settings : Settings) (all : List Round) (asked : Asked) (begun old_place : ℕ) (before : List Entry) (old : List Worker) (round : Round)
    (world : IsWorld (stage_of settings all asked begun old_place) asked.tasks before old)
    (next : slice_get all begun ≡ Some round) where
  abbrev stage : Stage
  stage = stage_of settings all asked begun old_place

  abbrev tasks : List WantedTask
  tasks = fold wanted_after asked.tasks round.rows

  abbrev later_at : ℕ → Stage
  later_at place = next_stage stage place

  rows_later : (place : ℕ) → rows_begun (later_at place) ≡ rows_begun stage ++ round.rows
  rows_later place =
      ap (λ (n : ℕ). rows_of (take n all)) (add-one begun)
      ∙ ap rows_of (take_next all begun round next)
      ∙ rows_of_push (take begun all) round

  tasks_later : (place : ℕ) → tasks ≡ wanted (rows_begun (later_at place))
  tasks_later place =
      ap (λ (ts : List WantedTask). fold wanted_after ts round.rows) world.asked
      ∙ sym (fold-append wanted_after [] (rows_begun stage) round.rows)
      ∙ ap wanted (sym (rows_later place))

  -- what is asked then
  asked_later : (place : ℕ) (trace : TraceTables) → IsInRunOf stage trace
      → (let a : Asked = record asked { tasks = tasks } in a) ≡ asked_after settings trace (rows_begun (later_at place))
  asked_later place trace made =
      ap₂ (λ (s : Source) (ts : List WantedTask). let a : Asked = record s.asked { tasks = ts } in a) made (tasks_later place)

  -- what is asked then is what some trace asks for
  pub is_asked : IsAsked (record asked { tasks = tasks })
  is_asked = record { settings = settings; trace = world.made.0; rows = rows_begun (later_at 0); asks = asked_later 0 world.made.0 world.made.1 }

  module _ (after : List Entry) (new : List Worker)
      (idle : HaveNoWork old)
      (history : (trace : TraceTables) (rows : List Row) → asked.disks ≡ trace.disks → asked.tasks ≡ wanted rows
      → after ≡ (opened trace rows before round).history)
      (begins : BeginAll (record asked { tasks = fold wanted_after asked.tasks round.rows }) after old new) where
    abbrev later : Stage
    later = next_stage stage (length after)

    -- the entries of the round's rows
    pub after_is : (trace : TraceTables) → IsInRunOf stage trace → after ≡ (opened trace (rows_begun stage) before round).history
    after_is trace made = history trace (rows_begun stage) (ap (λ (s : Source). s.asked.disks) made) world.asked

    worker_later : (number : ℕ) (was worker : Worker) → IsWorker settings before number was → BeginsWorker (record asked { tasks = tasks }) after number was worker
        → IsWorker settings after number worker
    worker_later number was worker is begun_worker =
        let trace : TraceTables = world.made.0 in
        let made : IsInRunOf stage trace = world.made.1 in
        let same = after_is trace made in
        let left = begun_worker.left settings trace (rows_begun later) (asked_later (length after) trace made) in
        let none : 0 ≡ worker.desk.taken = sym (ap (λ (s : Standing). s.taken) left) in
        let some : 1 ≤ settings.tries = world.range.tries.0 in
        record {
          settings = begun_worker.desk.settings ∙ is.settings;
          scheduler = begun_worker.desk.scheduler ∙ is.scheduler;
          attempts = begun_worker.attempts ∙ is.attempts ∙ sym (commits_opened trace (rows_begun stage) before round number)
              ∙ ap (λ (h : List Entry). commits_of number h) (sym same);
          tries = omega (arith, none, some);
          seen = subst (λ (synced : Option ℕ). SyncedWithin synced (length after)) (sym begun_worker.synced) tt;
        }

    -- nobody has synced
    nobody_later : (number : ℕ) → (world_at after new).synced number ≡ None
    nobody_later = seen_none synced_of new (λ number worker here. (begins.each number worker here).1.1.synced)

    -- indexes of the history are so still
    pub indexes_later : (count : ℕ) (indexes : List Indexes) → AreIndexesFor count before indexes → AreIndexesFor count after indexes
    indexes_later count indexes are =
        subst (λ (h : List Entry). AreIndexesFor count h indexes) (sym (after_is world.made.0 world.made.1))
        (indexes_for_opened world.made.0 (rows_begun stage) before round count indexes are)

    -- the round of the definition begins
    pub begins_round : (trace : TraceTables) → IsInRunOf stage trace → BeginsRound trace (rows_begun stage) round (world_at before old) (world_at after new)
    begins_round trace made = record { entries = after_is trace made; nobody = nobody_later }

    module _ (trace : TraceTables) (made : IsInRunOf stage trace) where
      abbrev was : IsLawful trace stage before old
      was = world.lawful trace made

      desk_later : (number : ℕ) (worker : Worker) → slice_get new number ≡ Some worker
          → IsDeskOf settings trace (rows_begun later) (length after) after number worker.desk
      desk_later number worker here =
          let found = begins.each number worker here in
          let is : IsWorker settings before number found.0 = world.each_worker number found.0 found.1.0 in
          let desk : IsDeskOf settings trace (rows_begun stage) old_place before number found.0.desk = was.desks number found.0 found.1.0 in
          let left = found.1.1.left settings trace (rows_begun later) (asked_later (length after) trace made) in
          desk_begins settings trace before (rows_begun later) after number found.0.desk worker.desk
          (λ job own. ap (λ (h : List Entry). failed h job) (after_is trace made) ∙ failed_opened trace (rows_begun stage) before round job ∙ desk.failures job own)
          (subst (λ (s : Settings). left_at worker.desk ≡ fresh (left_at found.0.desk).failing
          (still_tried s (left_at found.0.desk).failing (all_requests settings trace (rows_begun later) (state after) number))) is.settings left)

      first_later : HasNotBegun stage (world_at before old) → HasBegun trace later (world_at after new)
      first_later none =
          let one : World = world_at before old in
          let other : World = world_at after new in
          let first : slice_get (rounds trace settings.window) 0 ≡ Some round =
          subst (λ (n : ℕ). slice_get (rounds trace settings.window) n ≡ Some round) none.none
          (subst (λ (rs : List Round). slice_get rs begun ≡ Some round) (ap (λ (s : Source). s.rounds) made) next) in
          let rows : rows_begun stage ≡ [] = ap (λ (n : ℕ). rows_of (take n all)) none.none in
          let opens : BeginsRound trace [] round one other = subst (λ (rs : List Row). BeginsRound trace rs round one other) rows (begins_round trace made) in
          record {
            in_round = world_begins settings trace one other round none.is_new first opens;
            count = ap (λ (n : ℕ). n + 1) (none.none ∙ sym (begins_done settings trace one other round none.is_new first opens));
            rows = sym (begins_rows settings trace one other round none.is_new first opens);
          }

      next_later : HasBegun trace stage (world_at before old) → HasBegun trace later (world_at after new)
      next_later has =
          let one : World = world_at before old in
          let other : World = world_at after new in
          let underway = has.in_round.underway in
          let place : begun ≡ suc underway.done = has.count ∙ add-one underway.done in
          let second : slice_get (rounds trace settings.window) (suc underway.done) ≡ Some round =
          subst (λ (n : ℕ). slice_get (rounds trace settings.window) n ≡ Some round) place
          (subst (λ (rs : List Round). slice_get rs begun ≡ Some round) (ap (λ (s : Source). s.rounds) made) next) in
          let rows : rows_begun stage ≡ rows_of (take (suc underway.done) (rounds trace settings.window)) =
          ap₂ (λ (n : ℕ) (rs : List Round). rows_of (take n rs)) place (ap (λ (s : Source). s.rounds) made) in
          let opens : BeginsRound trace (rows_of (take (suc underway.done) (rounds trace settings.window))) round one other =
          subst (λ (rs : List Row). BeginsRound trace rs round one other) rows (begins_round trace made) in
          let over : RoundIsOver settings trace one has.in_round =
          subst (λ (n : ℕ). NobodyHasWork settings trace (rows_now settings trace before underway) n before) has.rows
          (subst (λ (rs : List Row). NobodyHasWork settings trace rs old_place before) (rows_same trace stage one made has)
          (nobody_works trace stage asked.tasks before old world idle made)) in
          record {
            in_round = world_goes_on settings trace one other round has.in_round over second opens;
            count = ap (λ (n : ℕ). n + 1) (place ∙ sym (goes_done settings trace one other round has.in_round over second opens));
            rows = sym (goes_rows settings trace one other round has.in_round over second opens);
          }

      lawful_later : IsLawful trace later after new
      lawful_later = record {
        run = inr (elim was.run [ inl none ↦ first_later none | inr has ↦ next_later has ]);
        desks = desk_later;
      }

    -- the world once the round has begun
    pub world_later : IsWorld later tasks after new
    world_later = record {
      range = world.range;
      within = let below : begun < length all = slice_get_within all begun round next in omega (arith, below);
      asked = tasks_later (length after);
      count = begins.count ∙ world.count;
      each_worker = λ number worker here.
          let found = begins.each number worker here in
          worker_later number found.0 worker (world.each_worker number found.0 found.1.0) found.1.1;
      each_plan = λ number worker here. plan_none after worker (begins.each number worker here).1.1.synced;
      made = world.made;
      lawful = λ trace made. lawful_later trace made;
    }

-- a world in which no round has begun
pub world_start : (stage : Stage) (tasks : List WantedTask) (history : List Entry) (workers : List Worker)
    → IsWorld stage tasks history workers → stage.begun ≡ 0 → IsAtStart (state_at stage history workers)
world_start stage tasks history workers world start =
    let not_begun : (trace : TraceTables) → IsInRunOf stage trace → HasNotBegun stage (world_at history workers) =
    λ trace made. elim (world.lawful trace made).run [
      | inl none ↦ none
      | inr has ↦ let count : stage.begun ≡ has.in_round.underway.done + 1 = has.count in absurd (omega (arith, count, start))
    ] in
    record {
      empty = (not_begun world.made.0 world.made.1).is_new.empty;
      idle = λ trace made. nobody_works trace stage tasks history workers world
          (λ number worker here. new_idle trace stage history (world_at history workers) number worker.desk (not_begun trace made) refl
          ((world.lawful trace made).desks number worker here)) made;
    }
