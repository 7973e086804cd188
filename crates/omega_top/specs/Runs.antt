-- The run of a trace under some settings.
use Rattle.std.specs.Prelude.{◌≡◌, true, false, List}
use Rattle.omega_cell.specs.Effects.{AreEffects}
use Rattle.omega_feed.specs.Left.{AreLeft}
use Rattle.omega_model.specs.Lawful.{Lawful}
use Rattle.omega_model.specs.Legal.{Legal}
use Rattle.omega_model.specs.State.{state}
use Rattle.omega_model.specs.declared.entries.Entry.{Entry}
use Rattle.omega_model.specs.declared.rows.TraceTables.{TraceTables}
use Rattle.omega_model.specs.declared.settings.Settings.{Settings}
use Rattle.omega_report.specs.Begun.{BeginsRoundsOf}
use Rattle.omega_rounds.specs.Stages.{AllHaveBegun, IsInRunOf, WorldState}
use Rattle.omega_top.specs.Clocks.{IsFree, runs_freely, wanted_at_end}
use Rattle.omega_top.specs.Commands.{IsOrdered}
use Rattle.omega_top.specs.Reports.{IsToldBy}
use Rattle.omega_top.specs.declared.replay.WholeRun.{WholeRun}

-- a history is a run of these settings and this trace, and each of its answers was due: by the free clock it is that of the
-- free run, and else it is lawful and its commits stand in the order of the command
pub record IsRun (settings : Settings) (trace : TraceTables) (history : List Entry) : Type 0 where
  pub lawful : runs_freely settings ≡ false → Lawful settings trace history
  pub ordered : runs_freely settings ≡ false → IsOrdered settings trace history
  pub free : runs_freely settings ≡ true → IsFree settings trace history
  pub legal : Legal history

-- what is held of a run of these settings and this trace: its history, which begins the trace's rounds, what its entries
-- did, what waits at its end, and on `simulate` what is told of its times
pub record IsRunOf (settings : Settings) (trace : TraceTables) (run : WholeRun) : Type 0 where
  pub history : IsRun settings trace run.history
  pub begins : BeginsRoundsOf settings trace run.history
  pub effects : AreEffects run.history run.effects
  pub left : AreLeft (wanted_at_end settings trace run.history) (state run.history) run.left
  pub told : IsToldBy settings.command settings trace run.history run.told

-- a world is at the end of a run of these settings and this trace
pub record IsOver (settings : Settings) (trace : TraceTables) (world : WorldState) : Type 0 where
  pub by : world.stage.settings ≡ settings
  pub made : IsInRunOf world.stage trace
  pub last : AllHaveBegun world.stage
  pub lawful : Lawful settings trace world.history
  pub ordered : IsOrdered settings trace world.history
