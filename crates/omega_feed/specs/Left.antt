-- What is wanted and doesn't run, counted.
use Rattle.std.specs.Prelude.{◌≡◌, List, length}
use Rattle.std.specs.List.{filter}
use Rattle.omega_model.specs.Cell.{Cell}
use Rattle.omega_model.specs.Feed.{feed}
use Rattle.omega_model.specs.ReportCounts.{jobs_of, waits}
use Rattle.omega_model.specs.Wanted.{WantedTask, wanted}
use Rattle.omega_model.specs.declared.rows.TraceTables.{TraceTables}
use Rattle.omega_feed.specs.declared.unplaced.WaitingTasks.{WaitingTasks}

-- these are those of some wanted tasks that don't run: so many, and their jobs, each once
pub record AreLeft (tasks : List WantedTask) (cell : Cell) (left : WaitingTasks) : Type 0 where
  pub count : left.tasks ≡ length (filter (waits cell) tasks)
  pub jobs : left.jobs ≡ jobs_of (filter (waits cell) tasks)

-- this is what waits at the end of a trace: those of the tasks that are wanted after all its rows
abbrev pub IsLeft : TraceTables → Cell → WaitingTasks → Type 0
IsLeft trace cell left = AreLeft (wanted (feed trace)) cell left
