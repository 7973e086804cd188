-- The rows of the events in the order in which they happen, cut into rounds.
use Rattle.std.specs.Prelude.{ℕ, Bool, List, [], ◌∷◌, ◌++◌, ◌/◌, ◌==◌, not, nat_lt, map, if◌then◌else◌}
use Rattle.std.specs.List.{filter}
use Rattle.omega_model.specs.declared.rows.Row.{Row}
use Rattle.omega_model.specs.declared.rows.Row.TheVariants.{Machine, Attr, Task}
use Rattle.omega_model.specs.declared.rows.Round.{Round}
use Rattle.omega_model.specs.declared.rows.TraceTables.{TraceTables}

-- the time of a row
abbrev pub time_of : Row → ℕ
time_of (Machine row) = row.time
time_of (Attr row) = row.time
time_of (Task row) = row.time

-- the rows of the three tables of events, table by table, each in the order of its file
abbrev pub event_rows : TraceTables → List Row
event_rows trace = map (λ row. Machine row) trace.machines ++ map (λ row. Attr row) trace.attrs ++ map (λ row. Task row) trace.tasks

-- rows in order of time with one more, which goes before those of its own time
abbrev pub put_by_time : Row → List Row → List Row
put_by_time row [] = row ∷ []
put_by_time row (other ∷ rows) =
    if nat_lt (time_of other) (time_of row) then other ∷ put_by_time row rows else row ∷ other ∷ rows

-- rows in order of time; those of one time stay in the order in which they stood
abbrev pub by_time : List Row → List Row
by_time [] = []
by_time (row ∷ rows) = put_by_time row (by_time rows)

-- the rows of the events in order of time, then of table, then of row
abbrev pub feed : TraceTables → List Row
feed trace = by_time (event_rows trace)

-- the round of a row: its time divided by the window
abbrev pub round_number : ℕ → Row → ℕ
round_number window row = time_of row / window

-- whether a row is of this round
abbrev pub is_of_round : ℕ → ℕ → Row → Bool
is_of_round window number row = round_number window row == number

-- numbers without those equal to one before them
abbrev pub each_once : List ℕ → List ℕ
each_once [] = []
each_once (n ∷ ns) = n ∷ filter (λ m. not (m == n)) (each_once ns)

-- the round of this number: its rows in order
abbrev pub round_at : ℕ → List Row → ℕ → Round
round_at window rows number = record { number = number; rows = filter (is_of_round window number) rows }

-- the rounds that have a row, in order
abbrev pub rounds : TraceTables → ℕ → List Round
rounds trace window = map (round_at window (feed trace)) (each_once (map (round_number window) (feed trace)))
