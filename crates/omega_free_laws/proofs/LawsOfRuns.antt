-- All that holds of every run by the free clock, in one place.
use Rattle.std.proofs.Common.{◌<◌, List}
use Rattle.omega_cell.proofs.Evictions.{evictions_go_down}
use Rattle.omega_cell.proofs.Gangs.{no_gang_is_split}
use Rattle.omega_model.proofs.Soundness.{states_sound}
use Rattle.omega_model.specs.declared.entries.Entry.{Entry}
use Rattle.omega_model.specs.declared.rows.TraceTables.{TraceTables}
use Rattle.omega_model.specs.declared.settings.Settings.{Settings}
use Rattle.omega_laws.specs.VirtualTime.{Timed}
use Rattle.omega_free_laws.specs.Free.{Free, FreeByLives, FreeRun}
use Rattle.omega_free_laws.specs.LawsOfRuns.{HoldsByLives, HoldsByRows, HoldsOfFreeRuns}
use Rattle.omega_free_laws.specs.Readings.{Reading}
use Rattle.omega_free_laws.proofs.DueEnds.{ends_once}
use Rattle.omega_free_laws.proofs.LivesSteps.{own_ends_run}
use Rattle.omega_free_laws.proofs.LivesTimes.{own_ends_in_time, own_nothing_due, own_times_rise}
use Rattle.omega_free_laws.proofs.Stretches.{free_in_stretches, own_in_stretches}
use Rattle.omega_free_laws.proofs.RoundsCounted.{free_rounds_counted}
use Rattle.omega_free_laws.proofs.Seen.{free_is_legal, free_sees_own}
use Rattle.omega_free_laws.proofs.Decided.{free_decided}
use Rattle.omega_free_laws.proofs.TimesOf.{free_times}
use Rattle.omega_free_laws.proofs.TimesRise.{free_times_rise}

pub holds_of_runs : (settings : Settings) (reading : Reading) (history : List Entry) (times : List Timed)
    → FreeRun settings reading history times → HoldsOfFreeRuns settings reading history times
holds_of_runs settings reading history times run =
    let legal = free_is_legal settings reading history times run in
    record {
      legal = legal;
      sound = states_sound history legal;
      gangs = no_gang_is_split history legal;
      evictions = evictions_go_down history legal;
      counted = free_rounds_counted settings reading history times run;
      seen = free_sees_own settings reading history times run;
      times_are = free_times settings reading history times run;
      decided = free_decided settings reading history times run;
    }

pub holds_by_rows : (settings : Settings) (trace : TraceTables) (history : List Entry) (times : List Timed) → 0 < settings.window
    → Free settings trace history times → HoldsByRows settings trace history times
holds_by_rows settings trace history times some run = record {
  stretches = free_in_stretches settings trace history times run;
  rise = free_times_rise settings trace some history times run;
}

pub holds_by_lives : (settings : Settings) (trace : TraceTables) (history : List Entry) (times : List Timed) → 0 < settings.window
    → FreeByLives settings trace history times → HoldsByLives settings trace history times
holds_by_lives settings trace history times some run = record {
  stretches = own_in_stretches settings trace history times run;
  rise = own_times_rise settings trace some history times run;
  runs = own_ends_run settings trace history times run;
  in_time = own_ends_in_time settings trace some history times run;
  once = ends_once history;
  nothing_due = own_nothing_due settings trace some history times run;
}
