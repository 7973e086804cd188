-- Tasks that end of themselves, once they have run for as long as they did in the trace: their lives, and when they end.
use Rattle.std.specs.Prelude.{ℕ, Bool, true, false, List, [], ◌∷◌, ◌++◌, Option, Some, None, ◌+◌, ◌-◌, ◌==◌, ◌&&◌, not, nat_lt, count_by, length, slice_get, unwrap_or, if◌then◌else◌}
use Rattle.std.specs.List.{filter, filter_map, fold, last_or, list_any, zip}
use Rattle.omega_model.specs.ExtraTasks.{first_extra}
use Rattle.omega_model.specs.Feed.{feed}
use Rattle.omega_model.specs.Fields.{TaskFields}
use Rattle.omega_model.specs.Keys.{same_key}
use Rattle.omega_model.specs.Reply.{admits}
use Rattle.omega_model.specs.State.{state}
use Rattle.omega_model.specs.Wanted.{ends}
use Rattle.omega_model.specs.declared.cells.Task.{Task}
use Rattle.omega_model.specs.declared.cells.TaskKey.{TaskKey}
use Rattle.omega_model.specs.declared.entries.Entry.{Entry}
use Rattle.omega_model.specs.declared.entries.Entry.TheVariants.{End, Commit}
use Rattle.omega_model.specs.declared.rows.Row.{Row}
use Rattle.omega_model.specs.declared.rows.Row.TheVariants.{Task as TaskEvent}
use Rattle.omega_model.specs.declared.rows.Round.{Round}
use Rattle.omega_model.specs.declared.rows.TraceTables.{TraceTables}
use Rattle.omega_laws.specs.VirtualTime.{Timed}

-- The task rows of one task fall into pieces: each but the last runs from behind the piece before it up to the row that
-- ends the task. Its life is how long the task ran in it.

-- the pieces of a task in some rows: since when the life of the last one counts, if a row of it has asked for the task;
-- and the lives of the pieces that have ended, in microseconds
pub record Pieces : Type 0 where
  pub since : Option ℕ
  pub lives : List ℕ

-- a row at this time ends the task, where the life of the last piece counts since then; where no row of that piece has
-- asked for the task it ends nothing
abbrev pub cut_at : Pieces → ℕ → Option ℕ → Pieces
cut_at pieces time None = pieces
cut_at pieces time (Some since) = record { since = None; lives = pieces.lives ++ (time - since) ∷ [] }

-- one more row of the task: the life counts from the last row that schedules the task, or from the first that submits it
-- where none schedules it
abbrev pub with_own_row : Pieces → TaskFields → Pieces
with_own_row pieces row =
    if row.code == 0 then record pieces { since = Some (unwrap_or pieces.since row.time) }
    else (if row.code == 1 then record pieces { since = Some row.time }
    else (if ends row.code then cut_at pieces row.time pieces.since else pieces))

-- one more row of the events
abbrev pub pieces_after : TaskKey → Pieces → Row → Pieces
pieces_after key pieces (TaskEvent row) = if same_key row.key key then with_own_row pieces row else pieces
pieces_after key pieces _ = pieces

-- the pieces of a task in these rows
abbrev pub pieces_of : TaskKey → List Row → Pieces
pieces_of key rows = fold (pieces_after key) (record { since = None; lives = [] }) rows

-- the lives of a task's pieces in the trace, in order; its last piece has none, unless a row ends it
abbrev pub lives_of : TraceTables → TaskKey → List ℕ
lives_of trace key = (pieces_of key (feed trace)).lives

-- whether an entry ends this task
abbrev pub is_end_of : TaskKey → Entry → Bool
is_end_of key (End other machine) = same_key other key
is_end_of key _ = false

-- how often a task has ended, which is the number of its piece that is under way, from 0
abbrev pub ended : List Entry → TaskKey → ℕ
ended history key = count_by (is_end_of key) history

-- whether a row that stands behind these counts after a history: a task row where it is of the piece of its task that is
-- under way, and doesn't end the task; each other row always
abbrev pub counts : List Entry → List Row → Row → Bool
counts history before (TaskEvent row) = not (ends row.code) && length (pieces_of row.key before).lives == ended history row.key
counts history before _ = true

-- those of some rows that count, where they stand behind these
abbrev pub counting_behind : List Entry → List Row → List Row → List Row
counting_behind history before [] = []
counting_behind history before (row ∷ rows) =
    (if counts history before row then row ∷ [] else []) ++ counting_behind history (before ++ row ∷ []) rows

-- those of the rows so far that count after a history
abbrev pub counting : List Row → List Entry → List Row
counting rows history = counting_behind history [] rows

-- whether a row ends no task
abbrev pub ends_none : Row → Bool
ends_none (TaskEvent row) = not (ends row.code)
ends_none _ = true

-- a round without the rows that end tasks
abbrev pub without_ends : Round → Round
without_ends round = record { number = round.number; rows = filter ends_none round.rows }

-- an end that is due: the task, its machine, and when, in microseconds of the trace
pub record DueEnd : Type 0 where
  pub key : TaskKey
  pub machine : ℕ
  pub time : ℕ

-- whether an entry placed this task
abbrev pub places_task : TaskKey → Entry → Bool
places_task key (Commit scheduler seen txn reply) = list_any (λ decided. admits decided.1 && same_key decided.0.key key) (zip txn.claims reply)
places_task key _ = false

-- whether the entry at a place did, if there is one
abbrev pub did_place : TaskKey → Option Entry → Bool
did_place key None = false
did_place key (Some entry) = places_task key entry

-- the last commit that placed a task, with its time
abbrev pub placing : List Entry → List Timed → TaskKey → Option Timed
placing history times key = last_or None (filter (λ timed. did_place key (slice_get history timed.place)) times)

-- when a running task ends that this commit placed last, where its piece under way has this life
abbrev pub end_at : Task → Option Timed → Option ℕ → Option DueEnd
end_at task (Some timed) (Some life) = Some (record { key = task.key; machine = task.machine; time = timed.time + life })
end_at task _ _ = None

-- when a running task ends of itself: if it is one of the trace, and its piece under way has a life
abbrev pub end_of_task : TraceTables → List Entry → List Timed → Task → Option DueEnd
end_of_task trace history times task =
    if nat_lt task.key.index first_extra
    then end_at task (placing history times task.key) (slice_get (lives_of trace task.key) (ended history task.key))
    else None

-- which of two ends is due first; at one time it is the former
abbrev pub sooner_end : DueEnd → Option DueEnd → DueEnd
sooner_end one None = one
sooner_end one (Some other) = if nat_lt other.time one.time then other else one

-- which of some ends is due first; at one time it is the one that stands first
abbrev pub first_end : List DueEnd → Option DueEnd
first_end [] = None
first_end (one ∷ others) = Some (sooner_end one (first_end others))

-- of the running tasks the one that is due to end first; at one time it is the one of the least name, since running tasks
-- stand in order of name
abbrev pub first_own_end : TraceTables → List Entry → List Timed → Option DueEnd
first_own_end trace history times = first_end (filter_map (end_of_task trace history times) (state history).tasks)
