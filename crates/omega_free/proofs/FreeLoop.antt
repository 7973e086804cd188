-- What holds of a world that runs by the free clock, step by step.
use Rattle.std.proofs.Common.{◌≡◌, ◌<◌, ◌≤◌, ℕ, suc, true, false, List, ap, ◌∙◌, arith}
use Rattle.omega_model.specs.declared.entries.Entry.{Entry}
use Rattle.omega_model.specs.declared.rows.TraceTables.{TraceTables}
use Rattle.omega_model.specs.declared.settings.Settings.{Settings}
use Rattle.omega_laws.specs.VirtualTime.{Timed}
use Rattle.omega_free_laws.specs.Free.{FreeRun, after}
use Rattle.omega_free_laws.specs.StepsLeft.{BoundsEnds, still_to_come}
use Rattle.omega_free.specs.FreeLoop.{IsInSomeRun, Reads, StandsOver, StepsOn}
use Rattle.omega_free_laws.specs.FreeSteps.{Moment, beginning}
use Rattle.omega_free_laws.proofs.StepsLeft.{down_one}

module _ {W : Type 0} (Stands : W → TraceTables → Moment → Type 0) (reads : Reads) (settings : Settings) where
  module _ (left : Settings → TraceTables → List Entry → ℕ) (bounds : (settings : Settings) (trace : TraceTables) → BoundsEnds (reads settings trace) (left settings trace))
      (settings_of : W → Settings) (to_come : W → ℕ)
      (tells : (world : W) (trace : TraceTables) (moment : Moment) → Stands world trace moment
      → to_come world ≡ still_to_come (left (settings_of world) trace) (settings_of world) (reads (settings_of world) trace) moment) where
    -- one step on less is to come
    pub less_to_come : (old new : W) → 1 ≤ settings.tries → settings_of old ≡ settings → settings_of new ≡ settings
        → IsInSomeRun Stands reads settings old → StepsOn Stands reads settings old new true → to_come new < to_come old
    less_to_come old new tries same_old same_new made on =
        let trace : TraceTables = made.0 in
        let steps : ℕ = made.1.0 in
        let next = on trace steps made.1.1 in
        let here : Moment = after settings (reads settings trace) steps in
        let there : Moment = after settings (reads settings trace) (suc steps) in
        let old_is : to_come old ≡ still_to_come (left settings trace) settings (reads settings trace) here =
        tells old trace here made.1.1 ∙ ap (λ (s : Settings). still_to_come (left s trace) s (reads s trace) here) same_old in
        let new_is : to_come new ≡ still_to_come (left settings trace) settings (reads settings trace) there =
        tells new trace there next.1 ∙ ap (λ (s : Settings). still_to_come (left s trace) s (reads s trace) there) same_new in
        let less = down_one settings (reads settings trace) tries (left settings trace) (bounds settings trace) steps next.0 in
        omega (arith, old_is, new_is, less)

  -- a world that was in some run still is
  pub made_more : (old new : W) → IsInSomeRun Stands reads settings old → StepsOn Stands reads settings old new true → IsInSomeRun Stands reads settings new
  made_more old new made on = (made.0, (suc made.1.0, (on made.0 made.1.0 made.1.1).1))

  -- and one that began a run is as many steps on in it
  pub runs_more : (first old new : W) (trace : TraceTables)
      → (Stands first trace (beginning settings (reads settings trace)) → (steps : ℕ) × Stands old trace (after settings (reads settings trace) steps))
      → StepsOn Stands reads settings old new true
      → Stands first trace (beginning settings (reads settings trace)) → (steps : ℕ) × Stands new trace (after settings (reads settings trace) steps)
  runs_more first old new trace runs on begins = let at = runs begins in (suc at.0, (on trace at.0 at.1).1)

  -- where nothing is due, it stands where the run is over
  pub over_so : (first old new : W) (trace : TraceTables)
      → (Stands first trace (beginning settings (reads settings trace)) → (steps : ℕ) × Stands old trace (after settings (reads settings trace) steps))
      → StepsOn Stands reads settings old new false
      → Stands first trace (beginning settings (reads settings trace)) → StandsOver Stands reads settings trace new
  over_so first old new trace runs on begins = let at = runs begins in (at.0, on trace at.0 at.1)

  -- and there its history and the times are those of the run
  pub ended_so : (history : W → List Entry) (times : W → List Timed)
      → ((world : W) (trace : TraceTables) (moment : Moment) → Stands world trace moment → history world ≡ moment.past.history)
      → ((world : W) (trace : TraceTables) (moment : Moment) → Stands world trace moment → times world ≡ moment.times)
      → (world : W) (trace : TraceTables) → StandsOver Stands reads settings trace world → FreeRun settings (reads settings trace) (history world) (times world)
  ended_so history times tells_history tells_times world trace over = record {
    steps = over.0;
    over = over.1.0;
    is_history = tells_history world trace (after settings (reads settings trace) over.0) over.1.1;
    is_times = tells_times world trace (after settings (reads settings trace) over.0) over.1.1;
  }
