-- The order in which the schedulers commit where they take turns.
use Rattle.std.specs.Prelude.{◌≡◌, ℕ, List, ◌<◌, ◌⊎◌, All, length}
use Rattle.omega_model.specs.Turns.{StandsBefore, next_turn, round_commits, turn_start}
use Rattle.omega_model.specs.declared.entries.Entry.{Entry}
use Rattle.omega_model.specs.declared.settings.Settings.{Settings}
use Rattle.omega_model.specs.declared.wishes.Request.{Request}
use Rattle.omega_laws.specs.NextCommit.{attempt}

-- how many commits a scheduler has in the round so far, which is the turn of its next one
abbrev pub turn_of : List Entry → ℕ → ℕ
turn_of before scheduler = next_turn scheduler (round_commits before)

-- of two schedulers one goes earlier: its turn is less, or the same and its number is less
abbrev pub GoesEarlier : List Entry → ℕ → ℕ → Type 0
GoesEarlier before one other =
    (turn_of before one < turn_of before other) ⊎ ((turn_of before one ≡ turn_of before other) × (one < other))

-- the place at which a turn began, or begins now
abbrev pub began : List Entry → ℕ → ℕ
began before turn = turn_start turn (round_commits before) (length before)

-- how much a scheduler's next commit has seen: what stood before its turn
abbrev pub sees_in_turn : List Entry → ℕ → ℕ
sees_in_turn before scheduler = began before (turn_of before scheduler)

-- the commit of a scheduler that has its turn, for a request
abbrev pub attempt_in_turn : Settings → List Entry → ℕ → Request → Entry
attempt_in_turn settings before scheduler request = attempt settings before scheduler (sees_in_turn before scheduler) request

-- a scheduler has lost its turn: some commit of the round stands there that must not stand before its next
abbrev pub LostItsTurn : List Entry → ℕ → Type 0
LostItsTurn before scheduler = All (StandsBefore (turn_of before scheduler) scheduler) (round_commits before) → ⊥
