-- Worked runs in which tasks end when they have run for their lives. Each history with its times is that of the definitions, by
-- computing.
use Rattle.std.proofs.Common.{List, [], ◌∷◌, refl}
use Rattle.rand_pcg.specs.Lcg.{state_after}
use Rattle.omega_model.specs.declared.claims.Mode.TheVariants.{Gang, Incremental}
use Rattle.omega_model.specs.declared.claims.Rule.TheVariants.{Coarse, Fine}
use Rattle.omega_model.specs.declared.claims.Verdict.TheVariants.{Changed, Full, Placed, Withdrawn}
use Rattle.omega_model.specs.declared.entries.Entry.{Entry}
use Rattle.omega_model.specs.declared.entries.Entry.TheVariants.{Commit, End, MachineAdd, MachineUpdate, Round}
use Rattle.omega_model.specs.declared.rows.TraceTables.{TraceTables}
use Rattle.omega_model.specs.declared.settings.Extra.TheVariants.{Cap, Max}
use Rattle.omega_model.specs.declared.settings.Preempt.TheVariants.{All, Service}
use Rattle.omega_model.specs.declared.settings.Settings.{Settings}
use Rattle.omega_laws.specs.VirtualTime.{Timed}
use Rattle.omega_free_laws.specs.Free.{FreeByLives}
use Rattle.omega_free_laws.proofs.WorkedData.{activity, apart, at_time, claim, judged, key, machine_row, plain, room, spec, tables, task_row, tenths, txn}

-- a task that is placed late ends as much later, and the job that waits for its room is tried again then
unfoldable settings_late : Settings
settings_late = record plain { window = 1000000; t_job = 4000000; t_task = 0; service_t_job = 4000000; service_t_task = 0 }

unfoldable trace_late : TraceTables
trace_late =
    tables
    (machine_row 0 1 0 (tenths 10 10) ∷ [])
    (task_row 0 (key 10 0) 0 0 (spec 0 6 6)
    ∷ task_row 5000000 (key 10 0) 4 0 (spec 0 6 6)
    ∷ task_row 6000000 (key 12 0) 0 0 (spec 0 5 5)
    ∷ task_row 20000000 (key 12 0) 4 0 (spec 0 5 5) ∷ [])
    []

unfoldable history_late : List Entry
history_late =
    Round 0
    ∷ MachineAdd 1 (room 10 10)
    ∷ Commit 1 2 (txn 10 Fine Incremental (claim (key 10 0) 1 (spec 0 6 6) [] ∷ [])) (judged Placed [] ∷ [])
    ∷ Round 5
    ∷ Round 6
    ∷ End (key 10 0) 1
    ∷ Commit 1 5 (txn 12 Fine Incremental []) []
    ∷ Commit 1 7 (txn 12 Fine Incremental (claim (key 12 0) 1 (spec 0 5 5) [] ∷ [])) (judged Placed [] ∷ [])
    ∷ Round 20 ∷ []

unfoldable times_late : List Timed
times_late =
    at_time 2 1 0 4000000
    ∷ at_time 6 1 6000000 10000000
    ∷ at_time 7 1 10000000 14000000 ∷ []

runs_late : FreeByLives settings_late trace_late history_late times_late
unfolding tenths room key spec apart task_row machine_row activity tables plain claim txn judged at_time settings_late trace_late history_late times_late state_after
runs_late = record { steps = 8; over = refl; is_history = refl; is_times = refl }

-- a task is decided on only after it had ended in the trace, and runs for its life all the same
unfoldable settings_waits : Settings
settings_waits = record plain { window = 1000000; service_t_job = 3000000 }

unfoldable trace_waits : TraceTables
trace_waits =
    tables
    (machine_row 0 1 0 (tenths 10 10) ∷ [])
    (task_row 0 (key 4 0) 0 2 (spec 0 4 4)
    ∷ task_row 0 (key 6 0) 0 2 (spec 0 4 4)
    ∷ task_row 1000000 (key 6 0) 4 2 (spec 0 4 4)
    ∷ task_row 8000000 (key 8 0) 0 0 (spec 0 4 4) ∷ [])
    []

unfoldable history_waits : List Entry
history_waits =
    Round 0
    ∷ MachineAdd 1 (room 10 10)
    ∷ Round 1
    ∷ Commit 0 2 (txn 4 Fine Incremental (claim (key 4 0) 1 (spec 0 4 4) [] ∷ [])) (judged Placed [] ∷ [])
    ∷ Commit 0 4 (txn 6 Fine Incremental (claim (key 6 0) 1 (spec 0 4 4) [] ∷ [])) (judged Placed [] ∷ [])
    ∷ End (key 6 0) 1
    ∷ Round 8
    ∷ Commit 1 7 (txn 8 Fine Incremental (claim (key 8 0) 1 (spec 0 4 4) [] ∷ [])) (judged Placed [] ∷ []) ∷ []

unfoldable times_waits : List Timed
times_waits =
    at_time 3 0 0 3005000
    ∷ at_time 4 0 3005000 6010000
    ∷ at_time 7 1 8000000 8105000 ∷ []

runs_waits : FreeByLives settings_waits trace_waits history_waits times_waits
unfolding tenths room key spec apart task_row machine_row activity tables plain claim txn judged at_time settings_waits trace_waits history_waits times_waits state_after
runs_waits = record { steps = 7; over = refl; is_history = refl; is_times = refl }

-- a task that is evicted and placed again runs for its whole life from then on
unfoldable settings_evicted : Settings
settings_evicted = record plain { preempt = Service; window = 1000000 }

unfoldable trace_evicted : TraceTables
trace_evicted =
    tables
    (machine_row 0 1 0 (tenths 10 10) ∷ [])
    (task_row 0 (key 10 0) 0 0 (spec 0 6 6)
    ∷ task_row 3000000 (key 4 0) 0 2 (spec 5 7 7)
    ∷ task_row 4000000 (key 10 0) 4 0 (spec 0 6 6)
    ∷ task_row 5000000 (key 4 0) 4 2 (spec 5 7 7)
    ∷ task_row 30000000 (key 12 0) 0 0 (spec 0 1 1) ∷ [])
    []

unfoldable history_evicted : List Entry
history_evicted =
    Round 0
    ∷ MachineAdd 1 (room 10 10)
    ∷ Commit 1 2 (txn 10 Fine Incremental (claim (key 10 0) 1 (spec 0 6 6) [] ∷ [])) (judged Placed [] ∷ [])
    ∷ Round 3
    ∷ Commit 0 4 (txn 4 Fine Incremental (claim (key 4 0) 1 (spec 5 7 7) (key 10 0 ∷ []) ∷ [])) (judged Placed (key 10 0 ∷ []) ∷ [])
    ∷ Round 4
    ∷ Commit 1 6 (txn 10 Fine Incremental []) []
    ∷ Round 5
    ∷ End (key 4 0) 1
    ∷ Commit 1 8 (txn 10 Fine Incremental []) []
    ∷ Commit 1 10 (txn 10 Fine Incremental (claim (key 10 0) 1 (spec 0 6 6) [] ∷ [])) (judged Placed [] ∷ [])
    ∷ End (key 10 0) 1
    ∷ Round 30
    ∷ Commit 1 13 (txn 12 Fine Incremental (claim (key 12 0) 1 (spec 0 1 1) [] ∷ [])) (judged Placed [] ∷ []) ∷ []

unfoldable times_evicted : List Timed
times_evicted =
    at_time 2 1 0 105000
    ∷ at_time 4 0 3000000 3105000
    ∷ at_time 6 1 4000000 4105000
    ∷ at_time 9 1 5000000 5105000
    ∷ at_time 10 1 5105000 5210000
    ∷ at_time 13 1 30000000 30105000 ∷ []

runs_evicted : FreeByLives settings_evicted trace_evicted history_evicted times_evicted
unfolding tenths room key spec apart task_row machine_row activity tables plain claim txn judged at_time settings_evicted trace_evicted history_evicted times_evicted state_after
runs_evicted = record { steps = 13; over = refl; is_history = refl; is_times = refl }

-- a task of two pieces: the life counts from the row that schedules it, and rows of the second piece count once the first has ended
unfoldable settings_pieces : Settings
settings_pieces = record plain { window = 1000000 }

unfoldable trace_pieces : TraceTables
trace_pieces =
    tables
    (machine_row 0 1 0 (tenths 10 10) ∷ [])
    (task_row 0 (key 10 0) 4 0 (spec 0 1 1)
    ∷ task_row 0 (key 10 0) 0 0 (spec 0 1 1)
    ∷ task_row 2000000 (key 10 0) 1 0 (spec 0 2 2)
    ∷ task_row 3000000 (key 10 0) 8 0 (spec 0 3 3)
    ∷ task_row 6000000 (key 10 0) 5 0 (spec 0 3 3)
    ∷ task_row 6000000 (key 10 0) 0 0 (spec 0 4 4)
    ∷ task_row 7000000 (key 10 0) 7 0 (spec 0 5 5)
    ∷ task_row 9000000 (key 10 0) 4 0 (spec 0 5 5)
    ∷ task_row 9000000 (key 10 0) 3 0 (spec 0 5 5)
    ∷ task_row 20000000 (key 11 0) 0 0 (spec 0 1 1) ∷ [])
    []

unfoldable history_pieces : List Entry
history_pieces =
    Round 0
    ∷ MachineAdd 1 (room 10 10)
    ∷ Commit 1 2 (txn 10 Fine Incremental (claim (key 10 0) 1 (spec 0 1 1) [] ∷ [])) (judged Placed [] ∷ [])
    ∷ Round 2
    ∷ Round 3
    ∷ End (key 10 0) 1
    ∷ Round 6
    ∷ Commit 1 7 (txn 10 Fine Incremental (claim (key 10 0) 1 (spec 0 4 4) [] ∷ [])) (judged Placed [] ∷ [])
    ∷ Round 7
    ∷ Round 9
    ∷ End (key 10 0) 1
    ∷ Round 20
    ∷ Commit 1 12 (txn 11 Fine Incremental (claim (key 11 0) 1 (spec 0 1 1) [] ∷ [])) (judged Placed [] ∷ []) ∷ []

unfoldable times_pieces : List Timed
times_pieces =
    at_time 2 1 0 105000
    ∷ at_time 7 1 6000000 6105000
    ∷ at_time 12 1 20000000 20105000 ∷ []

runs_pieces : FreeByLives settings_pieces trace_pieces history_pieces times_pieces
unfolding tenths room key spec apart task_row machine_row activity tables plain claim txn judged at_time settings_pieces trace_pieces history_pieces times_pieces state_after
runs_pieces = record { steps = 12; over = refl; is_history = refl; is_times = refl }

-- the extra tasks of a job end with the last of its tasks
unfoldable settings_extras : Settings
settings_extras = record plain { extra = Max; window = 1000000 }

unfoldable trace_extras : TraceTables
trace_extras =
    tables
    (machine_row 0 1 0 (tenths 10 10) ∷ [])
    (task_row 0 (key 10 0) 0 0 (spec 0 1 1)
    ∷ task_row 0 (key 10 1) 0 0 (spec 0 1 1)
    ∷ task_row 2000000 (key 10 0) 4 0 (spec 0 1 1)
    ∷ task_row 3000000 (key 10 1) 4 0 (spec 0 1 1)
    ∷ task_row 9000000 (key 11 0) 0 0 (spec 0 1 1) ∷ [])
    (activity 10 4 ∷ [])

unfoldable history_extras : List Entry
history_extras =
    Round 0
    ∷ MachineAdd 1 (room 10 10)
    ∷ Commit 2 2 (txn 10 Fine Incremental (claim (key 10 0) 1 (spec 0 1 1) [] ∷ claim (key 10 1) 1 (spec 0 1 1) [] ∷ claim (key 10 2147483648) 1 (spec 0 1 1) [] ∷ claim (key 10 2147483649) 1 (spec 0 1 1) [] ∷ [])) (judged Placed [] ∷ judged Placed [] ∷ judged Placed [] ∷ judged Placed [] ∷ [])
    ∷ Round 2
    ∷ End (key 10 0) 1
    ∷ Commit 2 5 (txn 10 Fine Incremental (claim (key 10 2147483650) 1 (spec 0 1 1) [] ∷ [])) (judged Placed [] ∷ [])
    ∷ Round 3
    ∷ End (key 10 1) 1
    ∷ End (key 10 2147483648) 1
    ∷ End (key 10 2147483649) 1
    ∷ End (key 10 2147483650) 1
    ∷ Round 9
    ∷ Commit 1 12 (txn 11 Fine Incremental (claim (key 11 0) 1 (spec 0 1 1) [] ∷ [])) (judged Placed [] ∷ []) ∷ []

unfoldable times_extras : List Timed
times_extras =
    at_time 2 2 0 120000
    ∷ at_time 5 2 2120000 2225000
    ∷ at_time 12 1 9000000 9105000 ∷ []

runs_extras : FreeByLives settings_extras trace_extras history_extras times_extras
unfolding tenths room key spec apart task_row machine_row activity tables plain claim txn judged at_time settings_extras trace_extras history_extras times_extras state_after
runs_extras = record { steps = 9; over = refl; is_history = refl; is_times = refl }

-- a round, an end and commits are due at one time, and a task has no life to run
unfoldable settings_ties : Settings
settings_ties = record plain { batch = 2; window = 1000000; t_job = 1000000; t_task = 0; service_t_job = 1000000; service_t_task = 0 }

unfoldable trace_ties : TraceTables
trace_ties =
    tables
    (machine_row 0 1 0 (tenths 10 10) ∷ [])
    (task_row 0 (key 4 0) 0 2 (spec 0 3 3)
    ∷ task_row 0 (key 10 0) 0 0 (spec 0 6 6)
    ∷ task_row 0 (key 11 0) 0 0 (spec 0 7 7)
    ∷ task_row 0 (key 10 0) 4 0 (spec 0 6 6)
    ∷ task_row 1000000 (key 4 0) 4 2 (spec 0 3 3)
    ∷ task_row 2000000 (key 13 0) 0 0 (spec 0 8 8) ∷ [])
    []

unfoldable history_ties : List Entry
history_ties =
    Round 0
    ∷ MachineAdd 1 (room 10 10)
    ∷ Round 1
    ∷ Commit 0 2 (txn 4 Fine Incremental (claim (key 4 0) 1 (spec 0 3 3) [] ∷ [])) (judged Placed [] ∷ [])
    ∷ Commit 1 2 (txn 10 Fine Incremental (claim (key 10 0) 1 (spec 0 6 6) [] ∷ [])) (judged Placed [] ∷ [])
    ∷ End (key 10 0) 1
    ∷ Commit 2 2 (txn 11 Fine Incremental (claim (key 11 0) 1 (spec 0 7 7) [] ∷ [])) (judged Placed [] ∷ [])
    ∷ Round 2
    ∷ End (key 4 0) 1
    ∷ Commit 2 8 (txn 13 Fine Incremental []) [] ∷ []

unfoldable times_ties : List Timed
times_ties =
    at_time 3 0 0 1000000
    ∷ at_time 4 1 0 1000000
    ∷ at_time 6 2 0 1000000
    ∷ at_time 9 2 2000000 3000000 ∷ []

runs_ties : FreeByLives settings_ties trace_ties history_ties times_ties
unfolding tenths room key spec apart task_row machine_row activity tables plain claim txn judged at_time settings_ties trace_ties history_ties times_ties state_after
runs_ties = record { steps = 9; over = refl; is_history = refl; is_times = refl }

-- an end behind the last round is no cause for a new pass
unfoldable settings_last : Settings
settings_last = record plain { window = 1000000 }

unfoldable trace_last : TraceTables
trace_last =
    tables
    (machine_row 0 1 0 (tenths 10 10) ∷ [])
    (task_row 0 (key 10 0) 0 0 (spec 0 6 6)
    ∷ task_row 2000000 (key 10 0) 4 0 (spec 0 6 6)
    ∷ task_row 2000000 (key 12 0) 0 0 (spec 0 5 5)
    ∷ task_row 2000000 (key 14 0) 0 0 (spec 0 9 9) ∷ [])
    []

unfoldable history_last : List Entry
history_last =
    Round 0
    ∷ MachineAdd 1 (room 10 10)
    ∷ Commit 1 2 (txn 10 Fine Incremental (claim (key 10 0) 1 (spec 0 6 6) [] ∷ [])) (judged Placed [] ∷ [])
    ∷ Round 2
    ∷ End (key 10 0) 1
    ∷ Commit 1 4 (txn 12 Fine Incremental []) []
    ∷ Commit 1 6 (txn 14 Fine Incremental (claim (key 14 0) 1 (spec 0 9 9) [] ∷ [])) (judged Placed [] ∷ []) ∷ []

unfoldable times_last : List Timed
times_last =
    at_time 2 1 0 105000
    ∷ at_time 5 1 2000000 2105000
    ∷ at_time 6 1 2105000 2210000 ∷ []

runs_last : FreeByLives settings_last trace_last history_last times_last
unfolding tenths room key spec apart task_row machine_row activity tables plain claim txn judged at_time settings_last trace_last history_last times_last state_after
runs_last = record { steps = 6; over = refl; is_history = refl; is_times = refl }

-- two tasks end at one time, and a scheduler begins a pass between the two
unfoldable settings_two : Settings
settings_two = record plain { window = 500000 }

unfoldable trace_two : TraceTables
trace_two =
    tables
    (machine_row 0 1 0 (tenths 5 5) ∷ [])
    (task_row 0 (key 4 0) 0 2 (spec 0 2 2)
    ∷ task_row 0 (key 4 1) 0 2 (spec 0 3 3)
    ∷ task_row 500000 (key 4 0) 4 2 (spec 0 2 2)
    ∷ task_row 500000 (key 4 1) 4 2 (spec 0 3 3)
    ∷ task_row 500000 (key 5 0) 0 0 (spec 0 4 4)
    ∷ task_row 4000000 (key 9 0) 8 0 (spec 0 0 0) ∷ [])
    []

unfoldable history_two : List Entry
history_two =
    Round 0
    ∷ MachineAdd 1 (room 5 5)
    ∷ Commit 0 2 (txn 4 Fine Incremental (claim (key 4 0) 1 (spec 0 2 2) [] ∷ claim (key 4 1) 1 (spec 0 3 3) [] ∷ [])) (judged Placed [] ∷ judged Placed [] ∷ [])
    ∷ Round 1
    ∷ Commit 1 4 (txn 5 Fine Incremental []) []
    ∷ End (key 4 0) 1
    ∷ End (key 4 1) 1
    ∷ Commit 1 6 (txn 5 Fine Incremental []) []
    ∷ Commit 1 8 (txn 5 Fine Incremental (claim (key 5 0) 1 (spec 0 4 4) [] ∷ [])) (judged Placed [] ∷ [])
    ∷ Round 8 ∷ []

unfoldable times_two : List Timed
times_two =
    at_time 2 0 0 110000
    ∷ at_time 4 1 500000 605000
    ∷ at_time 7 1 610000 715000
    ∷ at_time 8 1 715000 820000 ∷ []

runs_two : FreeByLives settings_two trace_two history_two times_two
unfolding tenths room key spec apart task_row machine_row activity tables plain claim txn judged at_time settings_two trace_two history_two times_two state_after
runs_two = record { steps = 9; over = refl; is_history = refl; is_times = refl }

-- under the coarse rule, with evictions
unfoldable settings_coarse : Settings
settings_coarse = record plain { rule = Coarse; preempt = All; tries = 4; window = 1000000; t_job = 900000; t_task = 100000; service_t_job = 2500000; service_t_task = 100000 }

unfoldable trace_coarse : TraceTables
trace_coarse =
    tables
    (machine_row 0 1 0 (tenths 4 10)
    ∷ machine_row 0 2 0 (tenths 7 9)
    ∷ machine_row 2000000 2 2 (tenths 5 5) ∷ [])
    (task_row 0 (key 4 1) 0 2 (apart 0 4 5)
    ∷ task_row 0 (key 4 2) 0 2 (spec 0 1 3)
    ∷ task_row 0 (key 5 0) 0 0 (apart 1 2 3)
    ∷ task_row 0 (key 5 2) 0 0 (spec 1 2 3)
    ∷ task_row 0 (key 5 2) 1 0 (spec 1 4 2)
    ∷ task_row 0 (key 7 0) 0 0 (spec 9 3 5)
    ∷ task_row 0 (key 7 0) 5 0 (spec 9 3 5)
    ∷ task_row 0 (key 7 0) 0 0 (spec 9 3 4)
    ∷ task_row 250000 (key 4 2) 1 2 (spec 0 4 2)
    ∷ task_row 500000 (key 7 0) 5 0 (spec 9 3 5)
    ∷ task_row 1250000 (key 4 1) 5 2 (apart 0 4 5)
    ∷ task_row 1250000 (key 4 2) 5 2 (spec 0 1 3)
    ∷ task_row 2000000 (key 4 0) 0 2 (apart 0 5 5)
    ∷ task_row 2000000 (key 5 0) 4 0 (apart 1 2 3)
    ∷ task_row 2000000 (key 5 1) 0 0 (apart 1 3 1)
    ∷ task_row 2000000 (key 5 1) 4 0 (apart 1 3 1)
    ∷ task_row 2000000 (key 5 2) 4 0 (spec 1 2 3)
    ∷ task_row 2000000 (key 6 0) 0 2 (apart 1 1 5)
    ∷ task_row 2000000 (key 7 1) 0 0 (spec 9 3 5)
    ∷ task_row 2250000 (key 4 2) 0 2 (spec 0 2 3)
    ∷ task_row 2500000 (key 4 0) 5 2 (apart 0 5 5)
    ∷ task_row 2500000 (key 5 0) 0 0 (spec 1 1 1)
    ∷ task_row 2500000 (key 7 1) 5 0 (spec 9 3 5)
    ∷ task_row 3000000 (key 5 1) 0 0 (spec 1 4 3)
    ∷ task_row 3250000 (key 6 0) 4 2 (apart 1 1 5)
    ∷ task_row 3500000 (key 5 1) 5 0 (apart 1 3 1) ∷ [])
    (activity 7 3 ∷ [])

unfoldable history_coarse : List Entry
history_coarse =
    Round 0
    ∷ MachineAdd 1 (room 4 10)
    ∷ MachineAdd 2 (room 7 9)
    ∷ Round 1
    ∷ Commit 1 3 (txn 5 Coarse Incremental (claim (key 5 0) 2 (apart 1 2 3) [] ∷ claim (key 5 2) 2 (spec 1 4 2) [] ∷ [])) (judged Placed [] ∷ judged Placed [] ∷ [])
    ∷ Commit 2 3 (txn 7 Coarse Incremental (claim (key 7 0) 1 (spec 9 3 5) [] ∷ claim (key 7 2147483648) 2 (spec 0 3 5) [] ∷ [])) (judged Placed [] ∷ judged (Changed 2 1) [] ∷ [])
    ∷ End (key 7 0) 1
    ∷ Round 2
    ∷ MachineUpdate 2 (room 5 5)
    ∷ Commit 2 6 (txn 7 Coarse Incremental []) []
    ∷ Commit 0 3 (txn 4 Coarse Incremental (claim (key 4 1) 1 (apart 0 4 5) [] ∷ claim (key 4 2) 2 (spec 0 4 2) [] ∷ [])) (judged (Changed 3 1) [] ∷ judged (Changed 3 1) [] ∷ [])
    ∷ Round 3
    ∷ End (key 5 2) 2
    ∷ Commit 1 9 (txn 5 Coarse Incremental (claim (key 5 0) 1 (apart 1 2 3) [] ∷ [])) (judged Placed [] ∷ [])
    ∷ Commit 2 10 (txn 7 Coarse Incremental (claim (key 7 0) 1 (spec 9 3 4) [] ∷ claim (key 7 1) 2 (spec 9 3 5) (key 5 2 ∷ []) ∷ [])) (judged (Changed 4 3) [] ∷ judged (Changed 4 3) [] ∷ [])
    ∷ Commit 1 14 (txn 5 Coarse Incremental (claim (key 5 1) 2 (apart 1 3 1) [] ∷ [])) (judged Placed [] ∷ [])
    ∷ End (key 5 1) 2
    ∷ Commit 2 15 (txn 7 Coarse Incremental (claim (key 7 0) 2 (spec 9 3 4) [] ∷ claim (key 7 1) 1 (spec 9 3 5) (key 5 0 ∷ []) ∷ [])) (judged (Changed 6 4) [] ∷ judged Placed (key 5 0 ∷ []) ∷ [])
    ∷ End (key 7 1) 1
    ∷ Commit 0 11 (txn 4 Coarse Incremental (claim (key 4 1) 1 (apart 0 4 5) [] ∷ [])) (judged (Changed 6 3) [] ∷ [])
    ∷ Commit 2 18 (txn 7 Coarse Incremental (claim (key 7 0) 2 (spec 9 3 4) [] ∷ [])) (judged Placed [] ∷ [])
    ∷ End (key 7 0) 2
    ∷ Commit 2 21 (txn 7 Coarse Incremental []) []
    ∷ Commit 0 20 (txn 4 Coarse Incremental (claim (key 4 1) 2 (apart 0 4 5) [] ∷ claim (key 4 2) 1 (spec 0 4 2) [] ∷ [])) (judged (Changed 8 6) [] ∷ judged Placed [] ∷ [])
    ∷ End (key 4 2) 1
    ∷ Commit 0 24 (txn 4 Coarse Incremental (claim (key 4 1) 2 (apart 0 4 5) [] ∷ [])) (judged Placed [] ∷ [])
    ∷ End (key 4 1) 2
    ∷ Commit 0 26 (txn 4 Coarse Incremental (claim (key 4 2) 1 (spec 0 2 3) [] ∷ [])) (judged Placed [] ∷ [])
    ∷ Commit 0 28 (txn 4 Coarse Incremental (claim (key 4 0) 2 (apart 0 5 5) [] ∷ [])) (judged Placed [] ∷ [])
    ∷ End (key 4 0) 2
    ∷ Commit 0 29 (txn 6 Coarse Incremental (claim (key 6 0) 1 (apart 1 1 5) [] ∷ [])) (judged Placed [] ∷ []) ∷ []

unfoldable times_coarse : List Timed
times_coarse =
    at_time 4 1 500000 1600000
    ∷ at_time 5 2 500000 1700000
    ∷ at_time 9 2 1700000 2800000
    ∷ at_time 10 0 500000 3200000
    ∷ at_time 13 1 2500000 3600000
    ∷ at_time 14 2 2800000 4000000
    ∷ at_time 15 1 3600000 4600000
    ∷ at_time 17 2 4000000 5200000
    ∷ at_time 19 0 3200000 5900000
    ∷ at_time 20 2 5200000 6300000
    ∷ at_time 22 2 6300000 7300000
    ∷ at_time 23 0 5900000 8600000
    ∷ at_time 25 0 8600000 11200000
    ∷ at_time 27 0 11200000 13900000
    ∷ at_time 28 0 13900000 16500000
    ∷ at_time 30 0 16500000 19100000 ∷ []

runs_coarse : FreeByLives settings_coarse trace_coarse history_coarse times_coarse
unfolding tenths room key spec apart task_row machine_row activity tables plain claim txn judged at_time settings_coarse trace_coarse history_coarse times_coarse state_after
runs_coarse = record { steps = 28; over = refl; is_history = refl; is_times = refl }

-- gangs, evictions and tasks withdrawn
unfoldable settings_gangs : Settings
settings_gangs = record plain { seed = 4; mode = Gang; preempt = All; extra = Cap 60; tries = 4; window = 1000000; t_job = 400000; service_t_job = 1700000 }

unfoldable trace_gangs : TraceTables
trace_gangs =
    tables
    (machine_row 0 1 0 (tenths 6 7)
    ∷ machine_row 0 2 0 (tenths 6 8)
    ∷ machine_row 1750000 2 2 (tenths 5 5) ∷ [])
    (task_row 0 (key 4 1) 0 0 (spec 1 4 2)
    ∷ task_row 0 (key 5 1) 0 0 (spec 0 4 3)
    ∷ task_row 0 (key 7 1) 0 2 (apart 9 3 3)
    ∷ task_row 0 (key 7 2) 0 2 (spec 9 3 4)
    ∷ task_row 1000000 (key 5 1) 4 0 (spec 0 4 3)
    ∷ task_row 1000000 (key 7 0) 0 2 (spec 9 2 4)
    ∷ task_row 1000000 (key 7 0) 7 2 (spec 9 4 3)
    ∷ task_row 1000000 (key 7 1) 4 2 (apart 9 3 3)
    ∷ task_row 1500000 (key 4 0) 0 0 (spec 1 1 3)
    ∷ task_row 2000000 (key 4 1) 4 0 (spec 1 4 2)
    ∷ task_row 2000000 (key 4 1) 0 0 (spec 1 1 3)
    ∷ task_row 2000000 (key 5 0) 0 0 (spec 0 3 2)
    ∷ task_row 2000000 (key 6 0) 0 0 (spec 0 1 5)
    ∷ task_row 3000000 (key 4 1) 5 0 (spec 1 4 2)
    ∷ task_row 3000000 (key 7 0) 5 2 (spec 9 2 4)
    ∷ task_row 3250000 (key 5 0) 5 0 (spec 0 3 2)
    ∷ task_row 3500000 (key 4 0) 5 0 (spec 1 1 3)
    ∷ task_row 4000000 (key 7 0) 0 2 (spec 9 4 4)
    ∷ task_row 5000000 (key 7 0) 5 2 (spec 9 2 4) ∷ [])
    []

unfoldable history_gangs : List Entry
history_gangs =
    Round 0
    ∷ MachineAdd 1 (room 6 7)
    ∷ MachineAdd 2 (room 6 8)
    ∷ Commit 1 3 (txn 4 Fine Gang (claim (key 4 1) 2 (spec 1 4 2) [] ∷ [])) (judged Placed [] ∷ [])
    ∷ Commit 1 4 (txn 5 Fine Gang (claim (key 5 1) 1 (spec 0 4 3) [] ∷ [])) (judged Placed [] ∷ [])
    ∷ Commit 0 3 (txn 7 Fine Gang (claim (key 7 1) 1 (apart 9 3 3) [] ∷ claim (key 7 2) 1 (spec 9 3 4) [] ∷ [])) (judged (Full (room 2 4)) [] ∷ judged (Full (room 2 4)) [] ∷ [])
    ∷ Round 1
    ∷ MachineUpdate 2 (room 5 5)
    ∷ End (key 5 1) 1
    ∷ Round 2
    ∷ Commit 1 8 (txn 4 Fine Gang (claim (key 4 0) 1 (spec 1 1 3) [] ∷ [])) (judged Placed [] ∷ [])
    ∷ End (key 4 1) 2
    ∷ Commit 1 11 (txn 5 Fine Gang (claim (key 5 0) 1 (spec 0 3 2) [] ∷ [])) (judged Placed [] ∷ [])
    ∷ Commit 1 13 (txn 6 Fine Gang (claim (key 6 0) 2 (spec 0 1 5) [] ∷ [])) (judged Placed [] ∷ [])
    ∷ Commit 1 14 (txn 4 Fine Gang (claim (key 4 1) 2 (spec 1 1 3) (key 6 0 ∷ []) ∷ [])) (judged Placed (key 6 0 ∷ []) ∷ [])
    ∷ Commit 0 6 (txn 7 Fine Gang (claim (key 7 1) 2 (apart 9 3 3) (key 4 1 ∷ []) ∷ claim (key 7 2) 2 (spec 9 3 4) [] ∷ [])) (judged (Withdrawn 1) [] ∷ judged (Full (room 2 2)) [] ∷ [])
    ∷ Round 3
    ∷ End (key 5 0) 1
    ∷ Commit 1 17 (txn 6 Fine Gang []) []
    ∷ Round 4
    ∷ End (key 4 0) 1
    ∷ Commit 1 19 (txn 6 Fine Gang []) []
    ∷ End (key 4 1) 2
    ∷ Commit 1 22 (txn 6 Fine Gang (claim (key 6 0) 1 (spec 0 1 5) [] ∷ [])) (judged Placed [] ∷ [])
    ∷ Round 5
    ∷ Commit 0 16 (txn 7 Fine Gang (claim (key 7 1) 2 (apart 9 3 3) (key 4 1 ∷ []) ∷ claim (key 7 2) 1 (spec 9 3 4) (key 5 0 ∷ []) ∷ [])) (judged (Withdrawn 1) [] ∷ judged (Full (room 5 2)) [] ∷ [])
    ∷ Commit 0 26 (txn 7 Fine Gang (claim (key 7 1) 2 (apart 9 3 3) [] ∷ claim (key 7 2) 1 (spec 9 3 4) (key 6 0 ∷ []) ∷ [])) (judged Placed [] ∷ judged Placed (key 6 0 ∷ []) ∷ [])
    ∷ End (key 7 1) 2
    ∷ Commit 0 27 (txn 7 Fine Gang []) [] ∷ []

unfoldable times_gangs : List Timed
times_gangs =
    at_time 3 1 0 405000
    ∷ at_time 4 1 405000 810000
    ∷ at_time 5 0 0 1710000
    ∷ at_time 10 1 1750000 2155000
    ∷ at_time 12 1 2155000 2560000
    ∷ at_time 13 1 2560000 2965000
    ∷ at_time 14 1 2965000 3370000
    ∷ at_time 15 0 1710000 3420000
    ∷ at_time 18 1 3500000 3905000
    ∷ at_time 21 1 3905000 4310000
    ∷ at_time 23 1 4310000 4715000
    ∷ at_time 25 0 3420000 5130000
    ∷ at_time 26 0 5130000 6840000
    ∷ at_time 28 0 6840000 8545000 ∷ []

runs_gangs : FreeByLives settings_gangs trace_gangs history_gangs times_gangs
unfolding tenths room key spec apart task_row machine_row activity tables plain claim txn judged at_time settings_gangs trace_gangs history_gangs times_gangs state_after
runs_gangs = record { steps = 26; over = refl; is_history = refl; is_times = refl }

-- many extra tasks
unfoldable settings_many : Settings
settings_many = record plain { seed = 8; batch = 2; mode = Gang; preempt = Service; extra = Max; tries = 3; give_up = 2; window = 1000000; t_job = 900000; service_t_job = 2500000 }

unfoldable trace_many : TraceTables
trace_many =
    tables
    (machine_row 0 1 0 (tenths 5 6)
    ∷ machine_row 0 2 0 (tenths 10 4)
    ∷ machine_row 1000000 3 0 (tenths 10 8) ∷ [])
    (task_row 0 (key 5 0) 0 2 (spec 0 1 2)
    ∷ task_row 500000 (key 5 0) 5 2 (spec 0 1 2)
    ∷ task_row 2000000 (key 4 0) 0 2 (spec 9 5 3)
    ∷ task_row 2000000 (key 5 1) 0 2 (apart 0 5 5)
    ∷ task_row 2000000 (key 5 1) 5 2 (apart 0 5 5)
    ∷ task_row 3000000 (key 4 0) 5 2 (spec 9 5 3)
    ∷ task_row 3000000 (key 5 1) 0 2 (spec 0 5 2)
    ∷ task_row 4000000 (key 5 1) 5 2 (apart 0 5 5) ∷ [])
    (activity 5 4 ∷ [])

unfoldable history_many : List Entry
history_many =
    Round 0
    ∷ MachineAdd 1 (room 5 6)
    ∷ MachineAdd 2 (room 10 4)
    ∷ Round 1
    ∷ MachineAdd 3 (room 10 8)
    ∷ Commit 3 3 (txn 5 Fine Incremental (claim (key 5 0) 1 (spec 0 1 2) [] ∷ claim (key 5 2147483648) 1 (spec 0 1 2) [] ∷ claim (key 5 2147483649) 1 (spec 0 1 2) [] ∷ claim (key 5 2147483650) 2 (spec 0 1 2) [] ∷ [])) (judged Placed [] ∷ judged Placed [] ∷ judged Placed [] ∷ judged Placed [] ∷ [])
    ∷ End (key 5 0) 1
    ∷ End (key 5 2147483648) 1
    ∷ End (key 5 2147483649) 1
    ∷ End (key 5 2147483650) 2
    ∷ Round 2
    ∷ Commit 3 11 (txn 5 Fine Incremental (claim (key 5 1) 3 (apart 0 5 5) [] ∷ claim (key 5 2147483648) 1 (spec 0 5 5) [] ∷ [])) (judged Placed [] ∷ judged Placed [] ∷ [])
    ∷ End (key 5 1) 3
    ∷ End (key 5 2147483648) 1
    ∷ Round 3
    ∷ Commit 3 12 (txn 5 Fine Incremental []) []
    ∷ Round 4
    ∷ Commit 0 11 (txn 4 Fine Gang (claim (key 4 0) 3 (spec 9 5 3) [] ∷ [])) (judged Placed [] ∷ [])
    ∷ Commit 3 16 (txn 5 Fine Incremental (claim (key 5 1) 1 (spec 0 5 2) [] ∷ claim (key 5 2147483648) 2 (spec 0 5 2) [] ∷ claim (key 5 2147483649) 2 (spec 0 5 2) [] ∷ claim (key 5 2147483650) 3 (spec 0 5 2) [] ∷ [])) (judged Placed [] ∷ judged Placed [] ∷ judged Placed [] ∷ judged Placed [] ∷ []) ∷ []

unfoldable times_many : List Timed
times_many =
    at_time 5 3 500000 1420000
    ∷ at_time 11 3 2000000 2920000
    ∷ at_time 15 3 2920000 3830000
    ∷ at_time 17 0 2000000 4505000
    ∷ at_time 18 3 3830000 4750000 ∷ []

runs_many : FreeByLives settings_many trace_many history_many times_many
unfolding tenths room key spec apart task_row machine_row activity tables plain claim txn judged at_time settings_many trace_many history_many times_many state_after
runs_many = record { steps = 12; over = refl; is_history = refl; is_times = refl }
