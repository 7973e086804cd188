-- What a report asks of its history.
use Rattle.std.specs.Prelude.{◌≡◌, List, count_by, length}
use Rattle.omega_model.specs.Feed.{rounds}
use Rattle.omega_model.specs.Lawful.{begins_round}
use Rattle.omega_model.specs.declared.entries.Entry.{Entry}
use Rattle.omega_model.specs.declared.rows.TraceTables.{TraceTables}
use Rattle.omega_model.specs.declared.settings.Settings.{Settings}

-- a history begins as many rounds as a trace has under these settings
abbrev pub BeginsRoundsOf : Settings → TraceTables → List Entry → Type 0
BeginsRoundsOf settings trace history = count_by begins_round history ≡ length (rounds trace settings.window)
