-- What a run of `resume` has in common with one of `replay`.
use Rattle.std.specs.Prelude.{ℕ, List, Option}
use Rattle.omega_laws.specs.AsReplay.{as_replay}
use Rattle.omega_model.specs.declared.entries.Entry.{Entry}
use Rattle.omega_model.specs.declared.results.Status.{Status}
use Rattle.omega_model.specs.declared.rows.TraceTables.{TraceTables}
use Rattle.omega_model.specs.declared.settings.Settings.{Settings}
use Rattle.omega_top.specs.Answers.{IsOnlyRun, IsOrderedRun, IsWholeRun, IsWritten}

-- a run is one of `replay`, of this trace and under settings that are the same but for the command: a history
-- that reached its report is the only one that `replay` can make, and what is written is the report that `replay`
-- prints of it, byte for byte, or a part of that from the front where the sink fails
pub record IsReplayed (settings : Settings) (trace : TraceTables) (history : List Entry) (status : Status) (before now : Option (List ℕ)) : Type 0 where
  pub whole : IsWholeRun (as_replay settings) trace history status
  pub ordered : IsOrderedRun (as_replay settings) trace history status
  pub only : IsOnlyRun (as_replay settings) trace history status
  pub written : IsWritten (as_replay settings) trace history status before now
