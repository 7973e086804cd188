-- Where a moment is a world's, its workers are ready for the commit that is due.
use Rattle.std.proofs.Common.{◌≡◌, ◌<◌, ◌≤◌, ◌+◌, ℕ, zero, suc, List, [], ◌∷◌, Option, Some, None, map, refl, sym, ap, ap₂, subst, ◌∙◌, inl, inr, arith}
use Rattle.std.specs.Prelude.{take, IfSome}
use Rattle.std.specs.List.{range_with_len, AllByRecursion as Each}
use Rattle.std.proofs.lemmas.Bool.{eq-eqb}
use Rattle.omega_model.specs.Policy.{schedulers}
use Rattle.omega_model.specs.Wanted.{WantedTask}
use Rattle.omega_model.specs.Work.{commits_of, outcomes_of}
use Rattle.omega_model.specs.declared.claims.Claim.{Claim}
use Rattle.omega_model.specs.declared.entries.Entry.{Entry}
use Rattle.omega_model.specs.declared.settings.Settings.{Settings}
use Rattle.omega_model.specs.declared.wishes.Request.{Request}
use Rattle.omega_desk.specs.Desks.{AnswersFirst}
use Rattle.omega_free_laws.specs.CrewLaws.{IsInOrder, IsOnIt}
use Rattle.omega_free_laws.specs.FreeSteps.{DueCommit, Moment, due_of, first_due, sooner}
use Rattle.omega_free_laws.specs.Passes.{Attempt, Scheduler}
use Rattle.omega_free_laws.specs.Readings.{Reading}
use Rattle.omega_free_laws.specs.StillWanted.{wanted_claims}
use Rattle.omega_free_laws.proofs.DueCommits.{due_is_own, head_or_tail}
use Rattle.omega_free.specs.FreeWorkers.{AnswerInOrder, AreCounted, AreKnown, AreNumbered, AreWorkersNow, IsItsAttempt, IsWorkerNow, MayCommit, OneMayCommit, due_among}
use Rattle.omega_free.specs.FreeWorlds.{FreeState, Stands}
use Rattle.omega_free.specs.KeptAttempts.{IsKeptFor, IsKnown, KeptAttempt, attempt_of}
use Rattle.omega_free.specs.declared.worker.Worker.{Worker}
use Rattle.omega_free.proofs.WantedAnswers.{free_answers}

abbrev numbers_in : List Scheduler → List ℕ
numbers_in crew = map (λ (scheduler : Scheduler). scheduler.number) crew

abbrev AreFrom : ℕ → List ℕ → Type 0
AreFrom first [] = Unit {0}
AreFrom first (number ∷ numbers) = (number ≡ first) × AreFrom (first + 1) numbers

range_from : (first n : ℕ) → AreFrom first (range_with_len first n)
range_from first zero = tt
range_from first (suc n) = (refl, range_from (first + 1) n)

range_below : (first n limit : ℕ) → first + n ≤ limit → Each (λ m. m < limit) (range_with_len first n)
range_below first zero limit fits = tt
range_below first (suc n) limit fits = (omega (arith, fits), range_below (first + 1) n limit (omega (arith, fits)))

module _ (settings : Settings) (reading : Reading) (history : List Entry) where
  numbered : (first : ℕ) (crew : List Scheduler) (workers : List Worker) → AreWorkersNow settings reading.trace history crew workers
      → AreFrom first (numbers_in crew) → AreNumbered first workers
  numbered first [] [] are from = tt
  numbered first [] (worker ∷ workers) are from = absurd are
  numbered first (scheduler ∷ crew) [] are from = absurd are
  numbered first (scheduler ∷ crew) (worker ∷ workers) are from =
      (are.0.desk.number_is ∙ from.0, numbered (first + 1) crew workers are.1 from.1)

  known : (crew : List Scheduler) (workers : List Worker) → AreWorkersNow settings reading.trace history crew workers
      → settings.batch ≤ 30 → Each (λ n. n < schedulers settings) (numbers_in crew) → AreKnown settings workers
  known [] [] are batch below = tt
  known [] (worker ∷ workers) are batch below = absurd are
  known (scheduler ∷ crew) [] are batch below = absurd are
  known (scheduler ∷ crew) (worker ∷ workers) are batch below = (
    record {
      batch = batch;
      settings_are = are.0.desk.settings_are;
      known = subst (λ (n : ℕ). n < schedulers settings) (sym are.0.desk.number_is) below.0;
    },
    known crew workers are.1 batch below.1,
  )

  pub counted : (crew : List Scheduler) (workers : List Worker) → AreWorkersNow settings reading.trace history crew workers → AreCounted history workers
  counted [] [] are = tt
  counted [] (worker ∷ workers) are = absurd are
  counted (scheduler ∷ crew) [] are = absurd are
  counted (scheduler ∷ crew) (worker ∷ workers) are =
      (are.0.desk.attempts ∙ ap (λ (n : ℕ). commits_of n history) (sym are.0.desk.number_is), counted crew workers are.1)

  -- of two options that hold the same, this is the one that is kept
  held : (kept : Option KeptAttempt) (attempt : Attempt) → attempt_of kept ≡ Some attempt → (it : KeptAttempt) × ((kept ≡ Some it) × (it.attempt ≡ attempt))
  held None attempt is = absurd (cc)
  held (Some it) attempt is = let same : it.attempt ≡ attempt = cc in (it, (refl, same))

  one_ready : (due : DueCommit) (tasks : List WantedTask) (scheduler : Scheduler) (worker : Worker) → IsKnown settings worker.desk
      → IsWorkerNow settings reading.trace history scheduler worker → IsInOrder settings reading history scheduler → scheduler.attempt ≡ Some due.attempt
      → MayCommit settings tasks history worker
  one_ready due tasks scheduler worker known is order at =
      let here = held worker.attempt due.attempt (is.attempt ∙ at) in
      let plans = order.plans due.attempt at in
      let answers : AnswerInOrder tasks (plans.request ∷ plans.rest) here.0 = λ reply.
      subst (λ (claims : List Claim). AnswersFirst (plans.request ∷ plans.rest) (outcomes_of (wanted_claims tasks claims) reply))
      (sym (ap (λ (attempt : Attempt). attempt.claims) here.1.1 ∙ plans.claims))
      (free_answers settings scheduler.number (commits_of scheduler.number history) (take due.attempt.seen history) plans.asked tasks plans.request reply) in
      record {
        known = known;
        counted = is.desk.attempts ∙ ap (λ (n : ℕ). commits_of n history) (sym is.desk.number_is);
        kept = here.0;
        there = here.1.0;
        is_kept = subst (λ (kept : Option KeptAttempt). IfSome kept (IsKeptFor history worker.desk)) here.1.0 is.kept;
        answers = subst (λ (requests : List Request). AnswerInOrder tasks requests here.0) (sym (is.desk.requests ∙ plans.first)) answers;
      }

  one_may_commit : (due : DueCommit) (tasks : List WantedTask) (crew : List Scheduler) (workers : List Worker) → AreWorkersNow settings reading.trace history crew workers
      → AreKnown settings workers → Each (IsInOrder settings reading history) crew → Each (IsOnIt due) crew → first_due crew ≡ Some due
      → OneMayCommit settings tasks history due.by workers
  one_may_commit due tasks [] [] are known order on is = absurd (cc)
  one_may_commit due tasks [] (worker ∷ workers) are known order on is = absurd are
  one_may_commit due tasks (scheduler ∷ crew) [] are known order on is = absurd are
  one_may_commit due tasks (scheduler ∷ crew) (worker ∷ workers) are known order on is = (
    λ same. one_ready due tasks scheduler worker known.0 are.0 order.0 (on.0 (eq-eqb scheduler.number due.by (sym are.0.desk.number_is ∙ same))),
    λ apart. elim (head_or_tail scheduler.number scheduler.attempt (first_due crew) due is) [
      | inl here ↦ absurd (apart (are.0.desk.number_is ∙ here.0))
      | inr there ↦ one_may_commit due tasks crew workers are.1 known.1 order.1 on.1 there
    ],
  )

  its_attempt : (due : DueCommit) (crew : List Scheduler) (workers : List Worker) → AreWorkersNow settings reading.trace history crew workers
      → Each (IsOnIt due) crew → Each (IsItsAttempt due.by due.attempt) workers
  its_attempt due [] [] are on = tt
  its_attempt due [] (worker ∷ workers) are on = absurd are
  its_attempt due (scheduler ∷ crew) [] are on = absurd are
  its_attempt due (scheduler ∷ crew) (worker ∷ workers) are on = (
    λ same. are.0.attempt ∙ on.0 (eq-eqb scheduler.number due.by (sym are.0.desk.number_is ∙ same)),
    its_attempt due crew workers are.1 on.1,
  )

  -- what is due first among the workers is what the definitions say
  due_of_workers : (crew : List Scheduler) (workers : List Worker) → AreWorkersNow settings reading.trace history crew workers
      → due_among workers ≡ first_due crew
  due_of_workers [] [] are = refl
  due_of_workers [] (worker ∷ workers) are = absurd are
  due_of_workers (scheduler ∷ crew) [] are = absurd are
  due_of_workers (scheduler ∷ crew) (worker ∷ workers) are =
      ap₂ sooner (ap₂ due_of are.0.desk.number_is are.0.attempt) (due_of_workers crew workers are.1)

-- where a moment is a world's, this holds of its workers
module _ (settings : Settings) (reading : Reading) (moment : Moment) (world : FreeState) (stands : Stands settings reading moment world) where
  numbers_are : numbers_in moment.crew ≡ range_with_len 0 (schedulers settings)
  numbers_are = stands.order.numbers

  pub known_there : settings.batch ≤ 30 → AreKnown settings world.workers
  known_there batch =
      known settings reading moment.past.history moment.crew world.workers stands.there.workers batch
      (subst (λ (ns : List ℕ). Each (λ n. n < schedulers settings) ns) (sym numbers_are) (range_below 0 (schedulers settings) (schedulers settings) (omega arith)))

  pub numbered_there : AreNumbered 0 world.workers
  numbered_there =
      numbered settings reading moment.past.history 0 moment.crew world.workers stands.there.workers
      (subst (AreFrom 0) (sym numbers_are) (range_from 0 (schedulers settings)))

  pub counted_there : AreCounted world.history world.workers
  counted_there =
      subst (λ (h : List Entry). AreCounted h world.workers) (sym stands.there.history)
      (counted settings reading moment.past.history moment.crew world.workers stands.there.workers)

  pub due_there : due_among world.workers ≡ first_due moment.crew
  due_there = due_of_workers settings reading moment.past.history moment.crew world.workers stands.there.workers

  pub may_commit_there : (due : DueCommit) → settings.batch ≤ 30 → first_due moment.crew ≡ Some due
      → OneMayCommit settings world.asked.tasks world.history due.by world.workers
  may_commit_there due batch is =
      subst (λ (h : List Entry). OneMayCommit settings world.asked.tasks h due.by world.workers) (sym stands.there.history)
      (one_may_commit settings reading moment.past.history due world.asked.tasks moment.crew world.workers stands.there.workers
      (known_there batch) stands.order.each (due_is_own settings reading moment due stands.order is) is)

  pub attempt_there : (due : DueCommit) → first_due moment.crew ≡ Some due → Each (IsItsAttempt due.by due.attempt) world.workers
  attempt_there due is =
      its_attempt settings reading moment.past.history due moment.crew world.workers stands.there.workers
      (due_is_own settings reading moment due stands.order is)
