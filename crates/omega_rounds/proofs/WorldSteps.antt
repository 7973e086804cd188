-- A world after a step of a scheduler.
use Rattle.std.proofs.Common.{◌≡◌, ◌≢◌, ◌≤◌, ◌<◌, ◌+◌, ℕ, List, [], ◌∷◌, ◌++◌, length, map, set, take, Option, Some, refl, sym, ap, ap₂, subst, arith, ◌∙◌, inl, inr, add-one, length-append}
use Rattle.std.specs.Prelude.{◌⊎◌, slice_get, option_map}
use Rattle.std.specs.List.{All, sum_by}
use Rattle.std.proofs.lemmas.Bool.{ne_eqb}
use Rattle.std.proofs.lemmas.Bool.Decides.{eqb_tells}
use Rattle.std.proofs.lemmas.List.{length-set}
use Rattle.std.proofs.lemmas.List.Elements.{All-head}
use Rattle.omega_model.specs.Feed.{rounds}
use Rattle.omega_model.specs.Lawful.{rows_of}
use Rattle.omega_model.specs.Policy.{schedulers}
use Rattle.omega_model.specs.Requests.{requests}
use Rattle.omega_model.specs.Stepping.{Step}
use Rattle.omega_model.specs.Wanted.{WantedTask}
use Rattle.omega_model.specs.Work.{Standing, standing_of}
use Rattle.omega_model.specs.World.{StepAnswer, World}
use Rattle.omega_model.specs.declared.entries.Entry.{Entry}
use Rattle.omega_model.specs.declared.rows.Row.{Row}
use Rattle.omega_model.specs.declared.rows.Round.{Round}
use Rattle.omega_model.specs.declared.rows.TraceTables.{TraceTables}
use Rattle.omega_model.specs.declared.settings.Settings.{Settings}
use Rattle.omega_desk.specs.Desks.{DeskState, left_at}
use Rattle.omega_workers.specs.AttemptsLeft.{attempts_left}
use Rattle.omega_rounds.specs.Going.{answer_of}
use Rattle.omega_laws.specs.InRound.{StepsInRound, rows_now}
use Rattle.omega_rounds.specs.Keeping.{HasBegun, HasNotBegun, IsLawful, IsWorld, world_at}
use Rattle.omega_laws.specs.NextCommit.{attempt, attempt_txn}
use Rattle.omega_workers.specs.Plans.{HasPlan}
use Rattle.omega_workers.specs.Workers.{IsDeskOf, IsRoutedTo, IsWorker, synced_of, to_do_of}
use Rattle.omega_workers.specs.WorkerSteps.{WorkerSteps}
use Rattle.omega_rounds.specs.Stages.{IsInRunOf, Source, Stage, WorldState, rows_begun, synced_at}
use Rattle.omega_workers.specs.declared.worker.Worker.{Worker}
use Rattle.omega_workers.specs.declared.steps.Stepped.{Stepped}
use Rattle.omega_workers.specs.declared.steps.Stepped.TheVariants.{Synced, Committed, Idle}
use Rattle.omega_workers.proofs.CommitCounts.{commits_other, synced_longer}
use Rattle.omega_rounds.proofs.DeskCommits.{desk_other, desk_own}
use Rattle.omega_laws.proofs.Places.{take_next}
use Rattle.omega_sim.proofs.Arrived.{rows_of_push}
use Rattle.omega_rounds.proofs.PlansKept.{plans_after}
use Rattle.omega_rounds.proofs.Requested.{requests_none}
use Rattle.omega_workers.proofs.WorkerCommits.{fewer_left}
use Rattle.omega_rounds.proofs.WorkerLists.{map_set_same, seen-other, seen_at, set-same, set_cases, set_itself, sum_set}
use Rattle.omega_rounds.proofs.Worlds.{rows_within, steps_done, steps_rows, world_steps}

-- what callers see of a world with these workers
abbrev pub state_at : Stage → List Entry → List Worker → WorldState
state_at stage history workers = record { stage = stage; history = history; synced = map synced_of workers; to_do = sum_by to_do_of workers }

-- the rows of the rounds that have begun are those of the round that is under way and of the rounds before it
pub rows_same : (trace : TraceTables) (stage : Stage) (world : World) → IsInRunOf stage trace → (begun : HasBegun trace stage world)
    → rows_begun stage ≡ rows_now stage.settings trace world.history begun.in_round.underway
rows_same trace stage world made begun =
    let underway = begun.in_round.underway in
    ap₂ (λ (n : ℕ) (all : List Round). rows_of (take n all)) (begun.count ∙ add-one underway.done) (ap (λ (s : Source). s.rounds) made)
    ∙ ap rows_of (take_next (rounds trace stage.settings.window) underway.done underway.round underway.next)
    ∙ rows_of_push (take underway.done (rounds trace stage.settings.window)) underway.round

-- before the first round no request is left at a desk
pub new_idle : (trace : TraceTables) (stage : Stage) (history : List Entry) (world : World) (scheduler : ℕ) (desk : DeskState)
    → HasNotBegun stage world → world.history ≡ history
    → IsDeskOf stage.settings trace (rows_begun stage) stage.opened_at history scheduler desk
    → desk.requests ≡ []
new_idle trace stage history world scheduler desk new same is =
    let rows : rows_begun stage ≡ [] = ap (λ (n : ℕ). rows_of (take n stage.source.rounds)) new.none in
    let none : history ≡ [] = sym same ∙ new.is_new.empty in
    let left : option_map (λ (standing : Standing). standing.requests) (standing_of stage.settings trace [] 0 scheduler []) ≡ Some desk.requests =
    subst (λ (h : List Entry). option_map (λ (standing : Standing). standing.requests) (standing_of stage.settings trace [] 0 scheduler h) ≡ Some desk.requests) none
    (subst (λ (n : ℕ). option_map (λ (standing : Standing). standing.requests) (standing_of stage.settings trace [] n scheduler history) ≡ Some desk.requests) new.start
    (subst (λ (rs : List Row). option_map (λ (standing : Standing). standing.requests) (standing_of stage.settings trace rs stage.opened_at scheduler history) ≡ Some desk.requests) rows
    is.left.remains)) in
    let both : Some (requests stage.settings trace [] [] scheduler) ≡ Some desk.requests = left in
    let here : requests stage.settings trace [] [] scheduler ≡ desk.requests = cc in
    sym here ∙ requests_none stage.settings trace scheduler

-- after a step no more can follow than before, and after a commit less
abbrev pub LeavesAt : ℕ → ℕ → Stepped → Type 0
LeavesAt old new Synced = new ≡ old
LeavesAt old new (Committed place) = new < old
LeavesAt old new Idle = new ≡ old

module _ (settings : Settings) (before after : List Entry) (scheduler : ℕ) (old new : Worker) where
  -- another worker after the step
  worker_other : (stepped : Stepped) → WorkerSteps settings scheduler before old after new stepped
      → (number : ℕ) (worker : Worker) → number ≢ scheduler → IsWorker settings before number worker → IsWorker settings after number worker
  worker_other Idle did number worker apart is = subst (λ (h : List Entry). IsWorker settings h number worker) (sym did.history) is
  worker_other Synced did number worker apart is = subst (λ (h : List Entry). IsWorker settings h number worker) (sym did.history) is
  worker_other (Committed place) did number worker apart is =
      let entry : Entry = attempt settings before scheduler did.seen did.request in
      subst (λ (h : List Entry). IsWorker settings h number worker) (sym did.appended) (record {
        settings = is.settings;
        scheduler = is.scheduler;
        attempts = is.attempts ∙ sym (commits_other number before entry (ne_eqb scheduler number (λ same. apart (sym same))));
        tries = is.tries;
        seen = synced_longer (synced_of worker) (length before) (length (before ++ entry ∷ []))
            (let count = length-append before (entry ∷ []) in omega (arith, count)) is.seen;
      })

  -- each worker after it
  pub each_after : (stepped : Stepped) (workers : List Worker) → WorkerSteps settings scheduler before old after new stepped
      → IsWorker settings after scheduler new
      → ((number : ℕ) (worker : Worker) → slice_get workers number ≡ Some worker → IsWorker settings before number worker)
      → (number : ℕ) (worker : Worker) → slice_get (set workers scheduler new) number ≡ Some worker → IsWorker settings after number worker
  each_after stepped workers did now each number worker here = elim (set_cases workers scheduler new number worker here) [
    | inl same ↦ subst (λ (s : Worker). IsWorker settings after number s) same.1 (subst (λ (n : ℕ). IsWorker settings after n new) (sym same.0) now)
    | inr other ↦ worker_other stepped did number worker other.0 (each number worker other.1)
  ]

  module _ (trace : TraceTables) (rows : List Row) (opened_at : ℕ) (workers : List Worker) (here : slice_get workers scheduler ≡ Some old) where
    -- the step of the definition
    pub step_is : (stepped : Stepped) → WorkerSteps settings scheduler before old after new stepped
        → IsDeskOf settings trace rows opened_at before scheduler old.desk
        → Step settings trace rows opened_at (world_at before workers) scheduler (world_at after (set workers scheduler new)) (answer_of stepped)
    step_is Idle did is = record {
      left = old.desk.requests;
      is_left = is.left;
      steps = record {
        no_work = did.no_work;
        same_history = did.history;
        same_synced = λ number. elim (eqb_tells number scheduler) [
          | inl same ↦ ap (synced_at (map synced_of (set workers scheduler new))) same.1
              ∙ seen_at synced_of (set workers scheduler new) scheduler new (set-same workers scheduler new old here)
              ∙ ap synced_of did.worker
              ∙ sym (seen_at synced_of workers scheduler old here)
              ∙ ap (synced_at (map synced_of workers)) (sym same.1)
          | inr other ↦ seen-other synced_of workers scheduler new number other.1
        ];
      };
    }
    step_is Synced did is = record {
      left = old.desk.requests;
      is_left = is.left;
      steps = record {
        has_work = did.work;
        first = seen_at synced_of workers scheduler old here ∙ did.first;
        same_history = did.history;
        seen_all = seen_at synced_of (set workers scheduler new) scheduler new (set-same workers scheduler new old here) ∙ did.seen_all;
        others = λ number apart. seen-other synced_of workers scheduler new number apart;
      };
    }
    step_is (Committed place) did is = record {
      left = old.desk.requests;
      is_left = is.left;
      steps = record {
        request = did.request;
        rest = did.rest;
        has_work = did.work;
        seen = did.seen;
        synced_before = seen_at synced_of workers scheduler old here ∙ did.synced_before;
        txn = attempt_txn settings before scheduler did.seen did.request;
        agrees = record { job = refl; rule = refl; mode = refl; claims = refl };
        at_end = did.at_end;
        appended = did.appended;
        spent = seen_at synced_of (set workers scheduler new) scheduler new (set-same workers scheduler new old here) ∙ did.spent;
        others = λ number apart. seen-other synced_of workers scheduler new number apart;
      };
    }

    -- the desks of a round that is under way
    pub desks_after : (stepped : Stepped) → WorkerSteps settings scheduler before old after new stepped → opened_at ≤ length before
        → ((number : ℕ) (worker : Worker) → slice_get workers number ≡ Some worker → IsDeskOf settings trace rows opened_at before number worker.desk)
        → (number : ℕ) (worker : Worker) → slice_get (set workers scheduler new) number ≡ Some worker → IsDeskOf settings trace rows opened_at after number worker.desk
    desks_after Idle did within each number worker there =
        subst (λ (h : List Entry). IsDeskOf settings trace rows opened_at h number worker.desk) (sym did.history)
        (elim (set_cases workers scheduler new number worker there) [
          | inl same ↦ subst (λ (s : Worker). IsDeskOf settings trace rows opened_at before number s.desk) (sym did.worker ∙ same.1)
              (subst (λ (n : ℕ). IsDeskOf settings trace rows opened_at before n old.desk) (sym same.0) (each scheduler old here))
          | inr other ↦ each number worker other.1
        ])
    desks_after Synced did within each number worker there =
        subst (λ (h : List Entry). IsDeskOf settings trace rows opened_at h number worker.desk) (sym did.history)
        (elim (set_cases workers scheduler new number worker there) [
          | inl same ↦ subst (λ (d : DeskState). IsDeskOf settings trace rows opened_at before number d) (sym did.desk ∙ ap (λ (s : Worker). s.desk) same.1)
              (subst (λ (n : ℕ). IsDeskOf settings trace rows opened_at before n old.desk) (sym same.0) (each scheduler old here))
          | inr other ↦ each number worker other.1
        ])
    desks_after (Committed place) did within each number worker there =
        let own : IsDeskOf settings trace rows opened_at before scheduler old.desk = each scheduler old here in
        let routed : All (IsRoutedTo settings trace scheduler) (did.request ∷ did.rest) = subst (All (IsRoutedTo settings trace scheduler)) did.work own.own in
        subst (λ (h : List Entry). IsDeskOf settings trace rows opened_at h number worker.desk) (sym did.appended)
        (elim (set_cases workers scheduler new number worker there) [
          | inl same ↦
              subst (λ (s : Worker). IsDeskOf settings trace rows opened_at (before ++ attempt settings before scheduler did.seen did.request ∷ []) number s.desk) same.1
              (subst (λ (n : ℕ). IsDeskOf settings trace rows opened_at (before ++ attempt settings before scheduler did.seen did.request ∷ []) n new.desk) (sym same.0)
              (desk_own settings trace rows opened_at before within scheduler did.seen did.request old.desk new.desk did.rest own did.work did.moved))
          | inr other ↦
              desk_other settings trace rows opened_at before within scheduler did.seen did.request number worker.desk other.0
              (All-head (IsRoutedTo settings trace scheduler) did.request did.rest routed) (each number worker other.1)
        ])

  -- where no request is left a worker rests
  rests : (stepped : Stepped) → WorkerSteps settings scheduler before old after new stepped → old.desk.requests ≡ [] → (after ≡ before) × (new ≡ old)
  rests Idle did none = (did.history, did.worker)
  rests Synced did none = absurd (did.work none)
  rests (Committed place) did none = let clash : [] ≡ did.request ∷ did.rest = sym none ∙ did.work in absurd (cc)

  -- how many commits can follow after the step
  pub to_do_after : (stepped : Stepped) (workers : List Worker) → slice_get workers scheduler ≡ Some old → 1 ≤ settings.tries
      → IsWorker settings before scheduler old → IsWorker settings after scheduler new
      → WorkerSteps settings scheduler before old after new stepped
      → LeavesAt (sum_by to_do_of workers) (sum_by to_do_of (set workers scheduler new)) stepped
  to_do_after Idle workers here tries was is did =
      let all : sum_by to_do_of (set workers scheduler new) + to_do_of old ≡ sum_by to_do_of workers + to_do_of new = sum_set to_do_of workers scheduler new old here in
      let same : to_do_of new ≡ to_do_of old = ap to_do_of did.worker in
      omega (arith, all, same)
  to_do_after Synced workers here tries was is did =
      let all : sum_by to_do_of (set workers scheduler new) + to_do_of old ≡ sum_by to_do_of workers + to_do_of new = sum_set to_do_of workers scheduler new old here in
      let same : to_do_of new ≡ to_do_of old = ap (λ (d : DeskState). attempts_left d.settings (left_at d)) did.desk in
      omega (arith, all, same)
  to_do_after (Committed place) workers here tries was is did =
      let all : sum_by to_do_of (set workers scheduler new) + to_do_of old ≡ sum_by to_do_of workers + to_do_of new = sum_set to_do_of workers scheduler new old here in
      let less : to_do_of new < to_do_of old = fewer_left settings scheduler before after old new place tries was is did in
      omega (arith, all, less)

module _ (trace : TraceTables) (stage : Stage) (before after : List Entry) (workers : List Worker) (scheduler : ℕ) (old new : Worker)
    (here : slice_get workers scheduler ≡ Some old) (made : IsInRunOf stage trace) (was : IsLawful trace stage before workers) where
  -- the run before its first round
  lawful_new : (stepped : Stepped) → WorkerSteps stage.settings scheduler before old after new stepped
      → HasNotBegun stage (world_at before workers) → IsLawful trace stage after (set workers scheduler new)
  lawful_new stepped did none =
      let idle : old.desk.requests ≡ [] = new_idle trace stage before (world_at before workers) scheduler old.desk none refl (was.desks scheduler old here) in
      let same = rests stage.settings before after scheduler old new stepped did idle in
      subst (λ (s : Worker). IsLawful trace stage after (set workers scheduler s)) (sym same.1)
      (subst (λ (all : List Worker). IsLawful trace stage after all) (sym (set_itself workers scheduler old here))
      (subst (λ (h : List Entry). IsLawful trace stage h workers) (sym same.0) was))

  -- the run in one of its rounds
  lawful_begun : (stepped : Stepped) → WorkerSteps stage.settings scheduler before old after new stepped → scheduler < schedulers stage.settings
      → HasBegun trace stage (world_at before workers) → IsLawful trace stage after (set workers scheduler new)
  lawful_begun stepped did known begun =
      let settings : Settings = stage.settings in
      let one : World = world_at before workers in
      let other : World = world_at after (set workers scheduler new) in
      let underway = begun.in_round.underway in
      let answer : StepAnswer = answer_of stepped in
      let step : Step settings trace (rows_begun stage) stage.opened_at one scheduler other answer =
      step_is settings before after scheduler old new trace (rows_begun stage) stage.opened_at workers here stepped did (was.desks scheduler old here) in
      let in_it : StepsInRound settings trace one begun.in_round scheduler other answer =
      subst (λ (n : ℕ). Step settings trace (rows_now settings trace before underway) n one scheduler other answer) begun.rows
      (subst (λ (rs : List Row). Step settings trace rs stage.opened_at one scheduler other answer) (rows_same trace stage one made begun) step) in
      let within : stage.opened_at ≤ length before = subst (λ (n : ℕ). n ≤ length before) (sym begun.rows) (rows_within settings trace before underway) in
      record {
        run = inr (record {
          in_round = world_steps settings trace one other scheduler answer begun.in_round known in_it;
          count = begun.count ∙ ap (λ (n : ℕ). n + 1) (sym (steps_done settings trace one other scheduler answer begun.in_round known in_it));
          rows = begun.rows ∙ sym (steps_rows settings trace one other scheduler answer begun.in_round known in_it);
        });
        desks = desks_after settings before after scheduler old new trace (rows_begun stage) stage.opened_at workers here stepped did within was.desks;
      }

  lawful_after : (stepped : Stepped) → WorkerSteps stage.settings scheduler before old after new stepped → scheduler < schedulers stage.settings
      → IsLawful trace stage after (set workers scheduler new)
  lawful_after stepped did known = elim was.run [
    | inl none ↦ lawful_new stepped did none
    | inr begun ↦ lawful_begun stepped did known begun
  ]

  -- where neither the desk nor who has synced changes
  lawful_kept : new.desk ≡ old.desk → synced_of new ≡ synced_of old → IsLawful trace stage before (set workers scheduler new)
  lawful_kept desk synced =
      let same : world_at before (set workers scheduler new) ≡ world_at before workers =
      ap (λ (all : List (Option ℕ)). let w : World = record { history = before; synced = synced_at all } in w)
      (map_set_same synced_of workers scheduler new old here synced) in
      record {
        run = subst (λ (w : World). HasNotBegun stage w ⊎ HasBegun trace stage w) (sym same) was.run;
        desks = λ number worker there. elim (set_cases workers scheduler new number worker there) [
          | inl there_too ↦
              subst (λ (d : DeskState). IsDeskOf stage.settings trace (rows_begun stage) stage.opened_at before number d)
              (sym desk ∙ ap (λ (s : Worker). s.desk) there_too.1)
              (subst (λ (n : ℕ). IsDeskOf stage.settings trace (rows_begun stage) stage.opened_at before n old.desk) (sym there_too.0) (was.desks scheduler old here))
          | inr other ↦ was.desks number worker other.1
        ];
      }

module _ (stage : Stage) (tasks : List WantedTask) (before after : List Entry) (workers : List Worker) (scheduler : ℕ) (old new : Worker)
    (world : IsWorld stage tasks before workers) (here : slice_get workers scheduler ≡ Some old) where
  -- a world after a step
  pub world_after : (stepped : Stepped) → scheduler < schedulers stage.settings
      → IsWorker stage.settings after scheduler new → HasPlan after new
      → WorkerSteps stage.settings scheduler before old after new stepped
      → IsWorld stage tasks after (set workers scheduler new)
  world_after stepped known now plan did = record {
    range = world.range;
    within = world.within;
    asked = world.asked;
    count = length-set workers scheduler new ∙ world.count;
    each_worker = each_after stage.settings before after scheduler old new stepped workers did now world.each_worker;
    each_plan = plans_after stage.settings before after scheduler old new stepped workers did plan world.each_worker world.each_plan;
    made = world.made;
    lawful = λ trace made. lawful_after trace stage before after workers scheduler old new here made (world.lawful trace made) stepped did known;
  }

  -- a world in which a step failed
  pub world_kept : after ≡ before → new.desk ≡ old.desk → synced_of new ≡ synced_of old → IsWorker stage.settings after scheduler new
      → HasPlan after new → IsWorld stage tasks after (set workers scheduler new)
  world_kept history desk synced now plan = subst (λ (h : List Entry). IsWorld stage tasks h (set workers scheduler new)) (sym history) (record {
    range = world.range;
    within = world.within;
    asked = world.asked;
    count = length-set workers scheduler new ∙ world.count;
    each_worker = λ number worker there. elim (set_cases workers scheduler new number worker there) [
      | inl same ↦
          subst (λ (s : Worker). IsWorker stage.settings before number s) same.1
          (subst (λ (n : ℕ). IsWorker stage.settings before n new) (sym same.0) (subst (λ (h : List Entry). IsWorker stage.settings h scheduler new) history now))
      | inr other ↦ world.each_worker number worker other.1
    ];
    each_plan = λ number worker there. elim (set_cases workers scheduler new number worker there) [
      | inl same ↦
          subst (λ (s : Worker). HasPlan before s) same.1 (subst (λ (h : List Entry). HasPlan h new) history plan)
      | inr other ↦ world.each_plan number worker other.1
    ];
    made = world.made;
    lawful = λ trace made. lawful_kept trace stage before after workers scheduler old new here made (world.lawful trace made) desk synced;
  })

  -- is seen as it was
  pub seen_as : after ≡ before → new.desk ≡ old.desk → synced_of new ≡ synced_of old
      → state_at stage after (set workers scheduler new) ≡ state_at stage before workers
  seen_as history desk synced =
      let all : sum_by to_do_of (set workers scheduler new) + to_do_of old ≡ sum_by to_do_of workers + to_do_of new = sum_set to_do_of workers scheduler new old here in
      let same : to_do_of new ≡ to_do_of old = ap (λ (d : DeskState). attempts_left d.settings (left_at d)) desk in
      let sum : sum_by to_do_of (set workers scheduler new) ≡ sum_by to_do_of workers = omega (arith, all, same) in
      let seen = map_set_same synced_of workers scheduler new old here synced in
      λ i. record { stage = stage; history = history i; synced = seen i; to_do = sum i }
