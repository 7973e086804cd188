-- Histories in which the commits stand in order of virtual time.
use Rattle.std.specs.Prelude.{◌≡◌, ℕ, List, [], ◌∷◌, ◌++◌, max, length}
use Rattle.std.specs.List.{fold}
use Rattle.omega_model.specs.Feed.{rounds, time_of}
use Rattle.omega_model.specs.Lawful.{opened}
use Rattle.omega_model.specs.declared.entries.Entry.{Entry}
use Rattle.omega_model.specs.declared.rows.Row.{Row}
use Rattle.omega_model.specs.declared.rows.Round.{Round}
use Rattle.omega_model.specs.declared.rows.TraceTables.{TraceTables}
use Rattle.omega_model.specs.declared.settings.Settings.{Settings}
use Rattle.omega_laws.specs.Orders.{OrderedRound}
use Rattle.omega_laws.specs.VirtualTime.{Timed, KeepsTime, timed_commits}

-- the greatest time of some rows
abbrev pub greatest_time : List Row → ℕ
greatest_time rows = fold (λ time row. max time (time_of row)) 0 rows

-- when a round begins: at the greatest time of its rows, or later, when the earlier rounds are over
abbrev pub base_of : ℕ → Round → ℕ
base_of until round = max until (greatest_time round.rows)

-- the time of the last of these commits, or that of the last one before them
abbrev pub until_after : ℕ → List Timed → ℕ
until_after until commits = fold (λ time timed. timed.time) until commits

-- the place after a round's rows
abbrev pub rows_place : TraceTables → List Row → List Entry → Round → ℕ
rows_place trace rows start round = length (opened trace rows start round).history

-- the commits of a round with their times, where the last commit before it has this time
abbrev pub round_times : Settings → TraceTables → List Row → List Entry → ℕ → Round → List Entry → List Timed
round_times settings trace rows start until round history =
    timed_commits settings trace (rows ++ round.rows) (rows_place trace rows start round) (base_of until round) history

-- a history is made of these rounds in order, after these rows and this history whose last commit has this
-- time, these are the times of its commits, and each round's commits keep to a rule of the round's rows,
-- their place and its base
abbrev pub TimedRounds : Settings → TraceTables → (List Row → ℕ → ℕ → List Entry → Entry → Type 0)
    → List Row → List Entry → ℕ → List Round → List Entry → List Timed → Type 0
TimedRounds settings trace Keeps rows start until [] history times = (history ≡ start) × (times ≡ [])
TimedRounds settings trace Keeps rows start until (round ∷ rest) history times =
    (middle : List Entry) × ((later : List Timed)
    × (OrderedRound settings trace rows start round (Keeps (rows ++ round.rows) (rows_place trace rows start round) (base_of until round)) middle
    × ((times ≡ round_times settings trace rows start until round middle ++ later)
    × TimedRounds settings trace Keeps (rows ++ round.rows) middle
    (until_after until (round_times settings trace rows start until round middle)) rest history later)))

-- a history is lawful, and these are the times of its commits
abbrev pub HasTimes : Settings → TraceTables → List Entry → List Timed → Type 0
HasTimes settings trace history times =
    TimedRounds settings trace (λ rows opened_at base before entry. Unit {0}) [] [] 0 (rounds trace settings.window) history times

-- a history is lawful, these are the times of its commits, and in each round they stand in order of time
abbrev pub SimulatedWith : Settings → TraceTables → List Entry → List Timed → Type 0
SimulatedWith settings trace history times =
    TimedRounds settings trace (KeepsTime settings trace) [] [] 0 (rounds trace settings.window) history times

-- a history is the simulated run of a trace
abbrev pub Simulated : Settings → TraceTables → List Entry → Type 0
Simulated settings trace history = (times : List Timed) × SimulatedWith settings trace history times
