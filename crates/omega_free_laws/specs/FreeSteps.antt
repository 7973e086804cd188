-- What happens next, where rounds open when their rows are due and no scheduler waits for another.
use Rattle.std.specs.List.{range_with_len}
use Rattle.std.specs.Prelude.{ℕ, List, [], ◌∷◌, ◌++◌, Option, Some, None, option_map, ◌+◌, ◌==◌, nat_lt, length, map, if◌then◌else◌}
use Rattle.omega_model.specs.ExtraTasks.{ends_of_extras}
use Rattle.omega_model.specs.Feed.{rounds}
use Rattle.omega_model.specs.Lawful.{opened}
use Rattle.omega_model.specs.Policy.{policy_of, schedulers}
use Rattle.omega_model.specs.State.{reply_of, state}
use Rattle.omega_model.specs.Wanted.{wanted}
use Rattle.omega_model.specs.Work.{fresh}
use Rattle.omega_model.specs.declared.claims.Txn.{Txn}
use Rattle.omega_model.specs.declared.entries.Entry.TheVariants.{Commit, End}
use Rattle.omega_model.specs.declared.entries.Entry.{Entry}
use Rattle.omega_model.specs.declared.rows.Round.{Round}
use Rattle.omega_model.specs.declared.rows.Row.{Row}
use Rattle.omega_model.specs.declared.settings.Settings.{Settings}
use Rattle.omega_laws.specs.Simulated.{greatest_time}
use Rattle.omega_laws.specs.VirtualTime.{Timed}
use Rattle.omega_free_laws.specs.Lives.{DueEnd}
use Rattle.omega_free_laws.specs.Passes.{Attempt, Scheduler, Past, wanted_at, synced, synced_if_idle, with_entry}
use Rattle.omega_free_laws.specs.Readings.{Reading}
use Rattle.omega_free_laws.specs.StillWanted.{wanted_claims}

-- what stands at a moment: what has happened, the rounds that are to come, the schedulers in order of number, and the
-- commits so far with their times
pub record Moment : Type 0 where
  pub past : Past
  pub coming : List Round
  pub crew : List Scheduler
  pub times : List Timed

-- a scheduler at first: its pass is empty, and it isn't deciding
abbrev pub idle_scheduler : ℕ → Scheduler
idle_scheduler number = record { number = number; begun = 0; left = fresh (λ job. 0) []; attempt = None }

-- the first moment: nothing has happened
abbrev pub beginning : Settings → Reading → Moment
beginning settings reading = record {
  past = record { history = []; rows = []; triggers = 0 };
  coming = rounds reading.trace settings.window;
  crew = map idle_scheduler (range_with_len 0 (schedulers settings));
  times = [];
}

-- each scheduler that isn't deciding syncs at this time
abbrev pub idle_synced : Settings → Reading → Past → ℕ → List Scheduler → List Scheduler
idle_synced settings reading past now crew = map (λ scheduler. synced_if_idle settings reading past now scheduler scheduler.attempt) crew

-- the entry of a round, and the entries of its rows
abbrev pub past_opened : Reading → Past → Round → Past
past_opened reading past round = record {
  history = (opened reading.trace past.rows past.history (reading.heeded round)).history;
  rows = past.rows ++ round.rows;
  triggers = past.triggers + 1;
}

-- a round opens at its due time, which is the greatest time of its rows
abbrev pub opening : Settings → Reading → Moment → Round → List Round → Moment
opening settings reading moment round rest = record {
  past = past_opened reading moment.past round;
  coming = rest;
  crew = idle_synced settings reading (past_opened reading moment.past round) (greatest_time round.rows) moment.crew;
  times = moment.times;
}

-- a history with the end of a task
abbrev pub ended_alone : List Entry → DueEnd → List Entry
ended_alone history end = history ++ End end.key end.machine ∷ []

-- the entries of an end: that of the task, and then those of its job's running extras, if now no task of the job is wanted
abbrev pub end_entries : Reading → List Row → List Entry → DueEnd → List Entry
end_entries reading rows history end =
    End end.key end.machine ∷ ends_of_extras (state history) (wanted (reading.counted rows (ended_alone history end))) end.key.job

-- how often an end is cause for a new pass: once while a round is to come, and then no more
abbrev pub triggers_of_end : List Round → ℕ
triggers_of_end [] = 0
triggers_of_end (round ∷ rest) = 1

-- a task ends, with these rounds to come
abbrev pub past_ended : Reading → Past → DueEnd → List Round → Past
past_ended reading past end coming = record {
  history = past.history ++ end_entries reading past.rows past.history end;
  rows = past.rows;
  triggers = past.triggers + triggers_of_end coming;
}

-- a task ends at its due time
abbrev pub ending : Settings → Reading → Moment → DueEnd → Moment
ending settings reading moment end = record {
  past = past_ended reading moment.past end moment.coming;
  coming = moment.coming;
  crew = idle_synced settings reading (past_ended reading moment.past end moment.coming) end.time moment.crew;
  times = moment.times;
}

-- the transaction of a decided attempt: those of its claims whose tasks are still wanted, by the scheduler's policy
abbrev pub due_txn : Settings → Reading → Past → ℕ → Attempt → Txn
due_txn settings reading past scheduler attempt = record {
  job = attempt.job;
  rule = (policy_of settings scheduler).rule;
  mode = (policy_of settings scheduler).mode;
  claims = wanted_claims (wanted_at reading past) attempt.claims;
}

-- its commit, with the reply that is due
abbrev pub due_entry : Settings → Reading → Past → ℕ → Attempt → Entry
due_entry settings reading past scheduler attempt =
    Commit scheduler attempt.seen (due_txn settings reading past scheduler attempt)
    (reply_of past.history attempt.seen (due_txn settings reading past scheduler attempt))

-- one more entry, without rows
abbrev pub past_with : Past → Entry → Past
past_with past entry = record { history = past.history ++ entry ∷ []; rows = past.rows; triggers = past.triggers }

-- a scheduler after the commit of this scheduler: that one has what the commit leaves of its pass, and syncs
abbrev pub after_commit : Settings → Reading → Past → ℕ → ℕ → Entry → Scheduler → Scheduler
after_commit settings reading past now by entry scheduler =
    if scheduler.number == by then synced settings reading past now (with_entry settings entry scheduler) else scheduler

-- a scheduler commits its attempt at its due time
abbrev pub committing : Settings → Reading → Moment → ℕ → Attempt → Moment
committing settings reading moment by attempt =
    let entry : Entry = due_entry settings reading moment.past by attempt in
    record {
      past = past_with moment.past entry;
      coming = moment.coming;
      crew = map (after_commit settings reading (past_with moment.past entry) attempt.due by entry) moment.crew;
      times = moment.times ++ record { place = length moment.past.history; scheduler = by; sync = attempt.sync; time = attempt.due } ∷ [];
    }

-- an attempt, with the number of its scheduler
pub record DueCommit : Type 0 where
  pub by : ℕ
  pub attempt : Attempt

-- the attempt of a scheduler, if it is deciding
abbrev pub due_of : ℕ → Option Attempt → Option DueCommit
due_of number None = None
due_of number (Some attempt) = Some (record { by = number; attempt = attempt })

-- which of two is due first; at one time it is the former
abbrev pub sooner : Option DueCommit → Option DueCommit → Option DueCommit
sooner None other = other
sooner (Some one) None = Some one
sooner (Some one) (Some other) = if nat_lt other.attempt.due one.attempt.due then Some other else Some one

-- the attempt that is due first; at one time it is that of the least number, since schedulers stand in order of number
abbrev pub first_due : List Scheduler → Option DueCommit
first_due [] = None
first_due (scheduler ∷ crew) = sooner (due_of scheduler.number scheduler.attempt) (first_due crew)

-- something that may happen next: when, and the moment to which it leads
pub record Next : Type 0 where
  pub time : ℕ
  pub leads_to : Moment

-- the opening of the first round that is to come
abbrev pub next_opening : Settings → Reading → Moment → List Round → Option Next
next_opening settings reading moment [] = None
next_opening settings reading moment (round ∷ rest) =
    Some (record { time = greatest_time round.rows; leads_to = opening settings reading moment round rest })

-- the end that is due
abbrev pub next_ending : Settings → Reading → Moment → Option DueEnd → Option Next
next_ending settings reading moment None = None
next_ending settings reading moment (Some end) = Some (record { time = end.time; leads_to = ending settings reading moment end })

-- the commit that is due
abbrev pub next_commit : Settings → Reading → Moment → Option DueCommit → Option Next
next_commit settings reading moment None = None
next_commit settings reading moment (Some due) =
    Some (record { time = due.attempt.due; leads_to = committing settings reading moment due.by due.attempt })

-- which of two happens first; at one time it is the former
abbrev pub first_of : Option Next → Option Next → Option Next
first_of None other = other
first_of (Some one) None = Some one
first_of (Some one) (Some other) = if nat_lt other.time one.time then Some other else Some one

-- what happens next, with these rounds to come, this end and this commit due: nothing where no round is to come and nobody
-- decides, though tasks still run; else what is due first, and at one time openings come before ends, and ends before commits
abbrev pub next_of : Settings → Reading → Moment → List Round → Option DueEnd → Option DueCommit → Option Next
next_of settings reading moment [] end None = None
next_of settings reading moment coming end due =
    first_of (next_opening settings reading moment coming)
    (first_of (next_ending settings reading moment end) (next_commit settings reading moment due))

-- the next moment, unless it is over
abbrev pub next : Settings → Reading → Moment → Option Moment
next settings reading moment =
    option_map (λ (it : Next). it.leads_to)
    (next_of settings reading moment moment.coming (reading.end_due moment.past.history moment.times) (first_due moment.crew))
