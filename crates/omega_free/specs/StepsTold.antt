-- A world has as many steps left at most as the definitions say.
use Rattle.std.proofs.Common.{◌≡◌, ◌<◌, ◌+◌, ◌*◌, ◌-◌, ℕ, List, [], ◌∷◌, length, refl, ap, ap₂, ◌∙◌}
use Rattle.std.proofs.lemmas.List.{length-map}
use Rattle.omega_feed.specs.Asked.{Asked, routed}
use Rattle.omega_model.specs.Feed.{feed, rounds}
use Rattle.omega_model.specs.Requests.{jobs_in_order}
use Rattle.omega_model.specs.declared.entries.Entry.{Entry}
use Rattle.omega_model.specs.declared.rows.Round.{Round}
use Rattle.omega_model.specs.declared.rows.TraceTables.{TraceTables}
use Rattle.omega_model.specs.declared.settings.Settings.{Settings}
use Rattle.omega_free_laws.specs.FreeSteps.{Moment}
use Rattle.omega_free_laws.specs.Passes.{Scheduler}
use Rattle.omega_free_laws.specs.Readings.{Reading}
use Rattle.omega_free_laws.specs.StepsLeft.{attempts_of_all, attempts_of_pass, still_to_come, triggers_in_all}
use Rattle.omega_free.specs.EndsLeft.{left_at, left_is, left_of}
use Rattle.omega_free.specs.FreeRuns.{reading_of}
use Rattle.omega_free.specs.FreeWorkers.{AreWorkersNow}
use Rattle.omega_free.specs.FreeWorlds.{FreeState, StandsThere, attempts_of_workers, steps_left}
use Rattle.omega_free.specs.declared.worker.Worker.{Worker}

-- the attempts that are left of workers are those of their schedulers
workers_left : (settings : Settings) (reading : Reading) (all : ℕ) (history : List Entry) (crew : List Scheduler) (workers : List Worker)
    → AreWorkersNow settings reading.trace history crew workers
    → attempts_of_workers settings all (attempts_of_pass settings reading) workers ≡ attempts_of_all settings reading all crew
workers_left settings reading all history [] [] are = refl
workers_left settings reading all history [] (worker ∷ workers) are = absurd are
workers_left settings reading all history (scheduler ∷ crew) [] are = absurd are
workers_left settings reading all history (scheduler ∷ crew) (worker ∷ workers) are =
    let requests : length worker.desk.requests ≡ length scheduler.left.requests = ap length are.0.desk.requests in
    let one : length worker.desk.requests * settings.tries - worker.desk.taken ≡ length scheduler.left.requests * settings.tries - scheduler.left.taken =
    ap₂ (λ (n t : ℕ). n * settings.tries - t) requests are.0.desk.taken in
    let passes : (all - worker.begun) * attempts_of_pass settings reading ≡ (all - scheduler.begun) * attempts_of_pass settings reading =
    ap (λ (n : ℕ). (all - n) * attempts_of_pass settings reading) are.0.begun in
    ap₂ (λ (n m : ℕ). n + m) (ap₂ (λ (n m : ℕ). n + m) one passes) (workers_left settings reading all history crew workers are.1)

module _ (settings : Settings) (reading : Reading) (left : List Entry → ℕ) (moment : Moment) (world : FreeState) where
  told : (number : ℕ) → StandsThere settings reading moment world → number ≡ left moment.past.history
      → steps_left settings number world ≡ still_to_come left settings reading moment
  told number stands is =
      let steps : length world.coming + number ≡ length moment.coming + left moment.past.history =
      ap₂ (λ (n m : ℕ). n + m) (ap length stands.coming) is in
      let jobs : length world.asked.jobs ≡ length (jobs_in_order (feed reading.trace)) =
      ap (λ (it : Asked). length it.jobs) stands.asked ∙ length-map (jobs_in_order (feed reading.trace)) (routed settings reading.trace) in
      let all : world.triggers + (length world.coming + number) ≡ triggers_in_all left moment =
      ap₂ (λ (n m : ℕ). n + m) stands.triggers_are steps in
      ap₂ (λ (n m : ℕ). n + m) steps
      (ap₂ (λ (n pass : ℕ). attempts_of_workers settings n (pass * settings.tries) world.workers) all jobs
      ∙ workers_left settings reading (triggers_in_all left moment) moment.past.history moment.crew world.workers stands.workers)

-- so it is where these are the trace's rounds
pub steps_left_told : (settings : Settings) (trace : TraceTables) (moment : Moment) (all : List Round) (world : FreeState) → 0 < settings.window
    → all ≡ rounds trace settings.window → StandsThere settings (reading_of settings trace) moment world
    → steps_left settings (left_at settings all world.history) world ≡ still_to_come (left_of settings trace) settings (reading_of settings trace) moment
steps_left_told settings trace moment all world window are stands =
    told settings (reading_of settings trace) (left_of settings trace) moment world (left_at settings all world.history) stands
    (left_is settings trace all world.history window are ∙ ap (left_of settings trace) stands.history)
