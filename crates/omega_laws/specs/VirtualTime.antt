-- The times of the commits of a round, by a virtual clock.
use Rattle.std.specs.Prelude.{◌≡◌, ℕ, List, [], ◌∷◌, ◌++◌, Option, Some, None, ◌+◌, ◌*◌, ◌<◌, ◌≤◌, ◌⊎◌, ◌==◌, All, max, length, take, drop, if◌then◌else◌}
use Rattle.std.specs.List.{fold}
use Rattle.omega_model.specs.Lawful.{after_last}
use Rattle.omega_model.specs.declared.entries.Entry.{Entry}
use Rattle.omega_model.specs.declared.entries.Entry.TheVariants.{Commit}
use Rattle.omega_model.specs.declared.rows.Row.{Row}
use Rattle.omega_model.specs.declared.rows.TraceTables.{TraceTables}
use Rattle.omega_model.specs.declared.settings.Settings.{Settings}
use Rattle.omega_model.specs.declared.wishes.Request.{Request}
use Rattle.omega_laws.specs.NextCommit.{left_of}

-- how long a scheduler takes to decide on so many wishes, in microseconds: so much for an attempt, and so
-- much more for each wish. Scheduler 0 is that of services.
abbrev pub decision : Settings → ℕ → ℕ → ℕ
decision settings scheduler wishes =
    if scheduler == 0 then settings.service_t_job + settings.service_t_task * wishes
    else settings.t_job + settings.t_task * wishes

-- the number of wishes of the first request that is left
abbrev pub first_wishes : Option (List Request) → ℕ
first_wishes None = 0
first_wishes (Some []) = 0
first_wishes (Some (request ∷ rest)) = length request.wishes

-- the number of wishes for which a scheduler's next attempt is planned, in the middle of a round whose
-- rows end at place opened_at
abbrev pub next_wishes : Settings → TraceTables → List Row → ℕ → List Entry → ℕ → ℕ
next_wishes settings trace rows opened_at before scheduler = first_wishes (left_of settings trace rows opened_at before scheduler)

-- a commit of a round: its place, its scheduler, when the scheduler synced, and its time, both in microseconds
-- of the trace
pub record Timed : Type 0 where
  pub place : ℕ
  pub scheduler : ℕ
  pub sync : ℕ
  pub time : ℕ

-- the entries read so far, when each scheduler synced last, and the commits of the round with their times
pub record Clock : Type 0 where
  pub before : List Entry
  pub synced : ℕ → ℕ
  pub commits : List Timed

-- when the next commit of a scheduler stands: after it has decided on the wishes of its attempt
abbrev pub due_time : Settings → TraceTables → List Row → ℕ → Clock → ℕ → ℕ
due_time settings trace rows opened_at clock scheduler =
    clock.synced scheduler + decision settings scheduler (next_wishes settings trace rows opened_at clock.before scheduler)

-- one more entry is read: a scheduler that commits syncs at once
abbrev pub tick : Settings → TraceTables → List Row → ℕ → Clock → Entry → Clock
tick settings trace rows opened_at clock (Commit by seen txn reply) = record {
  before = clock.before ++ Commit by seen txn reply ∷ [];
  synced = (λ other. if other == by then due_time settings trace rows opened_at clock by else clock.synced other);
  commits = clock.commits ++ record {
    place = length clock.before;
    scheduler = by;
    sync = clock.synced by;
    time = due_time settings trace rows opened_at clock by;
  } ∷ [];
}
tick settings trace rows opened_at clock entry =
    record { before = clock.before ++ entry ∷ []; synced = clock.synced; commits = clock.commits }

-- the clock after the entries of a history, in a round whose rows end at place opened_at: at its base all
-- schedulers sync
abbrev pub clock_of : Settings → TraceTables → List Row → ℕ → ℕ → List Entry → Clock
clock_of settings trace rows opened_at base history =
    fold (tick settings trace rows opened_at)
    (record { before = take opened_at history; synced = (λ scheduler. base); commits = [] })
    (drop opened_at history)

-- the commits of the round with their times
abbrev pub timed_commits : Settings → TraceTables → List Row → ℕ → ℕ → List Entry → List Timed
timed_commits settings trace rows opened_at base history = (clock_of settings trace rows opened_at base history).commits

-- the time of a scheduler's next commit
abbrev pub next_time : Settings → TraceTables → List Row → ℕ → ℕ → List Entry → ℕ → ℕ
next_time settings trace rows opened_at base before scheduler =
    due_time settings trace rows opened_at (clock_of settings trace rows opened_at base before) scheduler

-- a commit stands no later than the next one of this scheduler: its time is less, or the same and its
-- scheduler isn't greater
abbrev pub StandsNoLater : ℕ → ℕ → Timed → Type 0
StandsNoLater time scheduler timed =
    (timed.time < time) ⊎ ((timed.time ≡ time) × (timed.scheduler ≤ scheduler))

-- how much the next commit of a scheduler has seen: the round's rows, and what stood up to its own last
-- commit in the round
abbrev pub sees_in_time : ℕ → List Entry → ℕ → ℕ
sees_in_time opened_at before scheduler = max opened_at (after_last scheduler before)

-- a commit of this scheduler after these entries stands in order of time, and had seen what it synced with
pub record StandsInTime (settings : Settings) (trace : TraceTables) (rows : List Row) (opened_at base : ℕ) (before : List Entry) (scheduler seen : ℕ) : Type 0 where
  pub order : All (StandsNoLater (next_time settings trace rows opened_at base before scheduler) scheduler)
      (timed_commits settings trace rows opened_at base before)
  pub seen_last : seen ≡ sees_in_time opened_at before scheduler

-- an entry after these keeps to the time
abbrev pub KeepsTime : Settings → TraceTables → List Row → ℕ → ℕ → List Entry → Entry → Type 0
KeepsTime settings trace rows opened_at base before (Commit scheduler seen txn reply) =
    StandsInTime settings trace rows opened_at base before scheduler seen
KeepsTime settings trace rows opened_at base before _ = Unit {0}

-- of two schedulers one commits sooner: the time of its next commit is less, or the same and its number is
abbrev pub GoesSooner : Settings → TraceTables → List Row → ℕ → ℕ → List Entry → ℕ → ℕ → Type 0
GoesSooner settings trace rows opened_at base before one other =
    (next_time settings trace rows opened_at base before one < next_time settings trace rows opened_at base before other)
    ⊎ ((next_time settings trace rows opened_at base before one ≡ next_time settings trace rows opened_at base before other)
    × (one < other))

-- a scheduler is late: some commit of the round stands there that must not stand before its next
abbrev pub IsLate : Settings → TraceTables → List Row → ℕ → ℕ → List Entry → ℕ → Type 0
IsLate settings trace rows opened_at base before scheduler =
    All (StandsNoLater (next_time settings trace rows opened_at base before scheduler) scheduler)
    (timed_commits settings trace rows opened_at base before) → ⊥
