-- Worlds that are made for a trace, and those at the end of its run.
use Rattle.std.proofs.Common.{◌≡◌, ◌∙◌, ap, refl, subst, sym}
use Rattle.omega_model.specs.Lawful.{Lawful}
use Rattle.omega_model.specs.declared.rows.TraceTables.{TraceTables}
use Rattle.omega_model.specs.declared.settings.Settings.{Settings}
use Rattle.omega_rounds.specs.Stages.{AllHaveBegun, IsInRunOf, Stage, WorldState, first_stage, source_of}
use Rattle.omega_top.specs.Commands.{OrderedBy}
use Rattle.omega_top.specs.Runs.{IsOver}

-- a new world is in the run of its trace
pub in_run : (settings : Settings) (trace : TraceTables) (stage : Stage) → stage ≡ first_stage settings trace → IsInRunOf stage trace
in_run settings trace stage is = subst (λ (at : Stage). IsInRunOf at trace) (sym is) refl

-- a world is at the end of a run once all rounds have begun, where it has the trace and the settings of a world
-- before them, and its history is lawful and in the order of the command
pub is_over : (settings : Settings) (trace : TraceTables) (stage : Stage) (after : WorldState)
    → stage.settings ≡ settings → IsInRunOf stage trace
    → after.stage.source ≡ stage.source → after.stage.settings ≡ stage.settings → AllHaveBegun after.stage
    → Lawful stage.settings trace after.history → OrderedBy settings.command stage.settings trace after.history
    → IsOver settings trace after
is_over settings trace stage after by made source same last lawful ordered = record {
  by = same ∙ by;
  made = source ∙ made ∙ ap (λ (some : Settings). source_of some trace) (sym same);
  last = last;
  lawful = subst (λ (some : Settings). Lawful some trace after.history) by lawful;
  ordered = subst (λ (some : Settings). OrderedBy settings.command some trace after.history) by ordered;
}
