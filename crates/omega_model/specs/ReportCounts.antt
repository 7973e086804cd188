-- What the last lines of a report count: the commits of each scheduler with what was answered to them,
-- and what the trace asks for that doesn't run.
use Rattle.std.specs.Prelude.{ℕ, Bool, true, false, List, [], ◌&&◌, not, is_some, length, map}
use Rattle.std.specs.List.{filter, flat_map, list_any, count_by}
use Rattle.omega_model.specs.Cell.{Cell, task_at}
use Rattle.omega_model.specs.Feed.{feed, each_once}
use Rattle.omega_model.specs.Reply.{admits}
use Rattle.omega_model.specs.Requests.{given_up}
use Rattle.omega_model.specs.State.{state}
use Rattle.omega_model.specs.Touches.{is_placed}
use Rattle.omega_model.specs.Wanted.{WantedTask, wanted}
use Rattle.omega_model.specs.Work.{is_commit_of, is_empty}
use Rattle.omega_model.specs.declared.cells.TaskKey.{TaskKey}
use Rattle.omega_model.specs.declared.claims.Judgement.{Judgement}
use Rattle.omega_model.specs.declared.claims.Verdict.{Verdict}
use Rattle.omega_model.specs.declared.claims.Verdict.TheVariants.{Withdrawn}
use Rattle.omega_model.specs.declared.entries.Entry.{Entry}
use Rattle.omega_model.specs.declared.entries.Entry.TheVariants.{Commit}
use Rattle.omega_model.specs.declared.rows.TraceTables.{TraceTables}
use Rattle.omega_model.specs.declared.settings.Settings.{Settings}

-- the commits of a scheduler
abbrev pub commits_by : ℕ → List Entry → List Entry
commits_by scheduler history = filter (is_commit_of scheduler) history

-- what is answered to the claims of an entry, of which only a commit has any
abbrev pub answers_in : Entry → List Judgement
answers_in (Commit scheduler seen txn reply) = reply
answers_in _ = []

-- whether an entry is a commit without a claim
abbrev pub claims_nothing : Entry → Bool
claims_nothing (Commit scheduler seen txn reply) = is_empty txn.claims
claims_nothing _ = false

-- whether an entry places at least one claim
abbrev pub places_some : Entry → Bool
places_some entry = list_any admits (answers_in entry)

-- whether at least one claim of an entry isn't placed
abbrev pub leaves_some : Entry → Bool
leaves_some entry = list_any (λ judgement. not (admits judgement)) (answers_in entry)

-- whether a claim is withdrawn, since its gang was refused
abbrev pub is_withdrawn : Verdict → Bool
is_withdrawn (Withdrawn place) = true
is_withdrawn _ = false

-- whether a claim is refused: it is neither placed nor withdrawn
abbrev pub is_refused : Verdict → Bool
is_refused verdict = not (is_placed verdict) && not (is_withdrawn verdict)

-- what is answered to all claims of a scheduler
abbrev pub answers_to : ℕ → List Entry → List Judgement
answers_to scheduler history = flat_map answers_in (commits_by scheduler history)

-- the tasks that placed claims evict
abbrev pub evicted_by : List Judgement → List TaskKey
evicted_by answers = flat_map (λ judgement. judgement.evicted) (filter admits answers)

-- what a report counts of a scheduler: its commits, those of them without a claim, with a placed claim
-- and with a claim that isn't placed; its claims that are placed, refused and withdrawn; and the tasks
-- that its placed claims evicted
pub record Counts : Type 0 where
  pub commits : ℕ
  pub empty : ℕ
  pub placing : ℕ
  pub conflicted : ℕ
  pub placed : ℕ
  pub refused : ℕ
  pub withdrawn : ℕ
  pub evicted : ℕ

-- these counts of a scheduler over a history
abbrev pub counts_of : ℕ → List Entry → Counts
counts_of scheduler history = record {
  commits = length (commits_by scheduler history);
  empty = count_by claims_nothing (commits_by scheduler history);
  placing = count_by places_some (commits_by scheduler history);
  conflicted = count_by leaves_some (commits_by scheduler history);
  placed = count_by (λ judgement. is_placed judgement.verdict) (answers_to scheduler history);
  refused = count_by (λ judgement. is_refused judgement.verdict) (answers_to scheduler history);
  withdrawn = count_by (λ judgement. is_withdrawn judgement.verdict) (answers_to scheduler history);
  evicted = length (evicted_by (answers_to scheduler history));
}

-- whether a wanted task doesn't run
abbrev pub waits : Cell → WantedTask → Bool
waits cell task = not (is_some (task_at cell.tasks task.key))

-- of wanted tasks those that don't run
abbrev pub waiting_of : List WantedTask → Cell → List WantedTask
waiting_of tasks cell = filter (waits cell) tasks

-- the tasks that are wanted after all rows of a trace and don't run
abbrev pub waiting : TraceTables → Cell → List WantedTask
waiting trace cell = waiting_of (wanted (feed trace)) cell

-- the jobs of some tasks, each once
abbrev pub jobs_of : List WantedTask → List ℕ
jobs_of tasks = each_once (map (λ task. task.key.job) tasks)

-- the jobs that are given up and have one of these tasks, which doesn't run
abbrev pub abandoned_of : Settings → List WantedTask → List Entry → List ℕ
abandoned_of settings tasks history =
    filter (given_up settings history) (jobs_of (waiting_of tasks (state history)))

-- the jobs that are given up and have a wanted task that doesn't run
abbrev pub abandoned : Settings → TraceTables → List Entry → List ℕ
abandoned settings trace history = abandoned_of settings (wanted (feed trace)) history
