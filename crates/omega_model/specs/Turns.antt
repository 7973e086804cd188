-- Histories in which the schedulers take turns.
use Rattle.std.specs.Prelude.{◌≡◌, ℕ, List, [], ◌∷◌, ◌++◌, Some, option_map, unwrap_or, ◌+◌, ◌<◌, ◌⊎◌, ◌==◌, All, length, take, slice_get}
use Rattle.std.specs.List.{fold, find, count_by}
use Rattle.omega_model.specs.declared.entries.Entry.{Entry}
use Rattle.omega_model.specs.declared.entries.Entry.TheVariants.{Round, Commit}

-- a commit of the present round: its place, its scheduler, and which of the scheduler's commits of the
-- round it is, from 0
pub record Taken : Type 0 where
  pub place : ℕ
  pub scheduler : ℕ
  pub turn : ℕ

-- the entries read so far, and the commits of the present round among them
pub record Reading : Type 0 where
  pub place : ℕ
  pub commits : List Taken

-- which commit of the round a scheduler's next one is
abbrev pub next_turn : ℕ → List Taken → ℕ
next_turn scheduler commits = count_by (λ taken. taken.scheduler == scheduler) commits

-- one more entry is read; a round begins without commits
abbrev pub read_entry : Reading → Entry → Reading
read_entry reading (Round number) = record { place = reading.place + 1; commits = [] }
read_entry reading (Commit scheduler seen txn reply) = record {
  place = reading.place + 1;
  commits = reading.commits ++ record { place = reading.place; scheduler = scheduler; turn = next_turn scheduler reading.commits } ∷ [];
}
read_entry reading _ = record { place = reading.place + 1; commits = reading.commits }

-- the commits of the last round of a history
abbrev pub round_commits : List Entry → List Taken
round_commits history = (fold read_entry (record { place = 0; commits = [] }) history).commits

-- a commit stands before the next one of this scheduler: its turn is earlier, or the same with a lower
-- scheduler
abbrev pub StandsBefore : ℕ → ℕ → Taken → Type 0
StandsBefore turn scheduler taken =
    (taken.turn < turn) ⊎ ((taken.turn ≡ turn) × (taken.scheduler < scheduler))

-- the place of the first commit of a turn, which is the next place where there is none yet
abbrev pub turn_start : ℕ → List Taken → ℕ → ℕ
turn_start turn commits next = unwrap_or (option_map (λ (taken : Taken). taken.place) (find (λ taken. taken.turn == turn) commits)) next

-- a commit of this scheduler after these entries is in its turn, and had seen what stood before it
pub record TakesTurn (before : List Entry) (scheduler seen : ℕ) : Type 0 where
  pub order : All (StandsBefore (next_turn scheduler (round_commits before)) scheduler) (round_commits before)
  pub seen_first : seen ≡ turn_start (next_turn scheduler (round_commits before)) (round_commits before) (length before)

-- an entry after these keeps to the turns
abbrev pub KeepsTurns : List Entry → Entry → Type 0
KeepsTurns before (Commit scheduler seen txn reply) = TakesTurn before scheduler seen
KeepsTurns before _ = Unit {0}

-- in each round the schedulers take turns
abbrev pub InTurns : List Entry → Type 0
InTurns history = (place : ℕ) (entry : Entry) → slice_get history place ≡ Some entry → KeepsTurns (take place history) entry
