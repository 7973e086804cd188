-- What is wanted of a world's rounds and doesn't run.
use Rattle.std.proofs.Common.{◌≡◌, ◌∙◌, ℕ, List, length, ap, subst, take, arith}
use Rattle.std.specs.Prelude.{Result, IfOk}
use Rattle.std.proofs.lemmas.List.{take_all}
use Rattle.omega_feed.specs.Left.{AreLeft, IsLeft}
use Rattle.omega_feed.specs.declared.unplaced.WaitingTasks.{WaitingTasks}
use Rattle.omega_feed.proofs.Cutting.{rounds_have}
use Rattle.omega_model.specs.Cell.{Cell}
use Rattle.omega_model.specs.Feed.{feed}
use Rattle.omega_model.specs.Lawful.{rows_of}
use Rattle.omega_model.specs.Ranges.{IsInRange}
use Rattle.omega_model.specs.State.{state}
use Rattle.omega_model.specs.Wanted.{WantedTask, wanted}
use Rattle.omega_model.specs.declared.entries.Entry.{Entry}
use Rattle.omega_model.specs.declared.rows.Row.{Row}
use Rattle.omega_model.specs.declared.rows.TraceTables.{TraceTables}
use Rattle.omega_rounds.specs.Keeping.{IsWorld}
use Rattle.omega_rounds.specs.Stages.{AllHaveBegun, IsInRunOf, Source, Stage, WorldState, rows_begun}
use Rattle.omega_workers.specs.declared.worker.Worker.{Worker}
use Rattle.omega_rounds.proofs.WorldSteps.{state_at}

-- the rows of the rounds that have begun are all of the trace, where all have
pub all_rows : (trace : TraceTables) (stage : Stage) → IsInRange stage.settings → IsInRunOf stage trace → AllHaveBegun stage
    → rows_begun stage ≡ feed trace
all_rows trace stage range made all =
    ap (λ (n : ℕ). rows_of (take n stage.source.rounds)) all
    ∙ ap rows_of (take_all (length stage.source.rounds) stage.source.rounds (omega arith))
    ∙ ap (λ (s : Source). rows_of s.rounds) made
    ∙ rounds_have trace stage.settings.window range.window.0

module _ (E : Type 0) (seen : WorldState) (stage : Stage) (tasks : List WantedTask) (history : List Entry) (workers : List Worker) (cell : Cell)
    (result : Result WaitingTasks E) (world : IsWorld stage tasks history workers) (same : state_at stage history workers ≡ seen)
    (current : cell ≡ state history) (left : IfOk result (AreLeft tasks cell)) where
  -- what is left of the rounds that have begun
  left_here : IfOk result (AreLeft (wanted (rows_begun stage)) (state history))
  left_here =
      subst (λ (c : Cell). IfOk result (AreLeft (wanted (rows_begun stage)) c)) current
      (subst (λ (ts : List WantedTask). IfOk result (AreLeft ts cell)) world.asked left)

  -- as callers see it
  pub left_seen : IfOk result (AreLeft (wanted (rows_begun seen.stage)) (state seen.history))
  left_seen = subst (λ (w : WorldState). IfOk result (AreLeft (wanted (rows_begun w.stage)) (state w.history))) same left_here

  -- where all rounds have begun it is what waits at the end of the trace
  pub left_last : (trace : TraceTables) → IsInRunOf seen.stage trace → AllHaveBegun seen.stage → IfOk result (IsLeft trace (state seen.history))
  left_last trace =
      subst (λ (w : WorldState). IsInRunOf w.stage trace → AllHaveBegun w.stage → IfOk result (IsLeft trace (state w.history))) same
      (λ made all. subst (λ (rows : List Row). IfOk result (AreLeft (wanted rows) (state history))) (all_rows trace stage world.range made all) left_here)
