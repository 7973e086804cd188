-- How a trace is read: which of its rows count, which of them give entries, and which task ends next of itself.
use Rattle.std.specs.Prelude.{List, Option, None}
use Rattle.omega_model.specs.declared.entries.Entry.{Entry}
use Rattle.omega_model.specs.declared.rows.Row.{Row}
use Rattle.omega_model.specs.declared.rows.Round.{Round}
use Rattle.omega_model.specs.declared.rows.TraceTables.{TraceTables}
use Rattle.omega_laws.specs.VirtualTime.{Timed}
use Rattle.omega_free_laws.specs.Lives.{DueEnd, counting, first_own_end, without_ends}

-- a trace, and how it is read: which of the rows so far count after a history; a round with those of its rows that give
-- entries; and, by a history and the times of its commits, the task that is due to end next of itself
pub record Reading : Type 0 where
  pub trace : TraceTables
  pub counted : List Row → List Entry → List Row
  pub heeded : Round → Round
  pub end_due : List Entry → List Timed → Option DueEnd

-- a task ends where a row of the trace ends it: all rows count and give their entries, and no task ends of itself
abbrev pub by_rows : TraceTables → Reading
by_rows trace = record {
  trace = trace;
  counted = λ rows history. rows;
  heeded = λ round. round;
  end_due = λ history times. None;
}

-- a task ends of itself when it has run for its life: rows count by the pieces of their tasks, and those that end a task
-- give no entries
abbrev pub by_lives : TraceTables → Reading
by_lives trace = record {
  trace = trace;
  counted = counting;
  heeded = without_ends;
  end_due = first_own_end trace;
}
