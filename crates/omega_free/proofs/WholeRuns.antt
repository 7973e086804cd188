-- Where a run by the free clock is over, all of its trace has come in.
use Rattle.std.proofs.Common.{◌≡◌, ◌<◌, Bool, List, ◌++◌, append-nil, refl, sym, ap, ap₂, subst, ◌∙◌}
use Rattle.omega_cell.specs.Effects.{AreEffects}
use Rattle.omega_feed.proofs.Cutting.{rounds_have}
use Rattle.omega_feed.specs.Asked.{Asked}
use Rattle.omega_feed.specs.Left.{AreLeft}
use Rattle.omega_model.specs.Feed.{feed, rounds}
use Rattle.omega_model.specs.Lawful.{rows_of}
use Rattle.omega_model.specs.State.{state}
use Rattle.omega_model.specs.Wanted.{WantedTask, wanted}
use Rattle.omega_model.specs.declared.entries.Entry.{Entry}
use Rattle.omega_model.specs.declared.rows.Round.{Round}
use Rattle.omega_model.specs.declared.rows.Row.{Row}
use Rattle.omega_model.specs.declared.rows.TraceTables.{TraceTables}
use Rattle.omega_model.specs.declared.settings.Settings.{Settings}
use Rattle.omega_free_laws.specs.Free.{FreeRun, IsOver, after}
use Rattle.omega_free_laws.specs.FreeLaws.{is_commit_or_end}
use Rattle.omega_free_laws.specs.FreeSteps.{Moment}
use Rattle.omega_free_laws.specs.Readings.{Reading}
use Rattle.omega_free_laws.proofs.Stretches.{OpenedSoFar, opened_so_far, over_is}
use Rattle.omega_free.specs.FreeRuns.{IsWholeRun, reading_of, wanted_last}
use Rattle.omega_free.specs.KeptWorlds.{IsAtEnd, StandsIn}
use Rattle.omega_free.specs.declared.run.WholeRun.{WholeRun}
use Rattle.omega_free.specs.declared.world.World.{World}
use Rattle.omega_free.proofs.FreeLoop.{ended_so}
use Rattle.omega_free.proofs.ReadingsOf.{trace_by}

-- where it is over, all rows of the trace have come in
pub all_rows : (between : Entry → Bool) (settings : Settings) (reading : Reading) (moment : Moment) → 0 < settings.window
    → OpenedSoFar between settings reading moment → IsOver settings reading moment → moment.past.rows ≡ feed reading.trace
all_rows between settings reading moment window so_far over =
    let none = (over_is settings reading moment over).0 in
    let all : so_far.done ≡ rounds reading.trace settings.window =
    sym (append-nil so_far.done) ∙ ap (λ (later : List Round). so_far.done ++ later) (sym none) ∙ so_far.all in
    so_far.rows ∙ ap rows_of all ∙ rounds_have reading.trace settings.window window

-- so what a world at its end has for wanted is what is wanted after all of them
wanted_at_end : (world : World) (trace : TraceTables) → IsAtEnd world trace
    → world.demand.wanted.tasks ≡ wanted_last world.settings trace world.cell.history
wanted_at_end world trace end =
    let moment : Moment = after world.settings (reading_of world.settings trace) end.0 in
    let so_far = opened_so_far is_commit_or_end world.settings (reading_of world.settings trace) (λ scheduler seen txn reply. refl) (λ history times ended is key machine. refl) end.0 in
    let rows : moment.past.rows ≡ feed trace =
    all_rows is_commit_or_end world.settings (reading_of world.settings trace) moment end.1.1.keeps.range.window.0 so_far end.1.0
    ∙ ap feed (trace_by world.settings.ends trace) in
    ap (λ (asked : Asked). asked.tasks) end.1.1.stands.there.asked
    ∙ ap₂ (λ (rows : List Row) (h : List Entry). wanted ((reading_of world.settings trace).counted rows h)) rows (sym end.1.1.stands.there.history)

-- what is taken of a world at its end is the whole run
pub is_whole : (world : World) (trace : TraceTables) (run : WholeRun) → IsAtEnd world trace
    → run.history ≡ world.cell.history → run.times ≡ world.times → AreEffects world.cell.history run.effects
    → AreLeft world.demand.wanted.tasks (state world.cell.history) run.left → run.rounds ≡ world.rounds
    → IsWholeRun world.settings trace run
is_whole world trace run end history times effects left rounds_are = record {
  runs = subst (λ (h : List Entry). FreeRun world.settings (reading_of world.settings trace) h run.times) (sym history)
      (subst (FreeRun world.settings (reading_of world.settings trace) world.cell.history) (sym times)
      (ended_so StandsIn reading_of world.settings (λ (w : World). w.cell.history) (λ (w : World). w.times)
      (λ w trace moment is. is.stands.there.history) (λ w trace moment is. is.stands.there.times) world trace end));
  effects = subst (λ (h : List Entry). AreEffects h run.effects) (sym history) effects;
  left = subst (λ (h : List Entry). AreLeft (wanted_last world.settings trace h) (state h) run.left) (sym history)
      (subst (λ (tasks : List WantedTask). AreLeft tasks (state world.cell.history) run.left) (wanted_at_end world trace end) left);
  rounds = rounds_are ∙ end.1.1.rounds;
}
