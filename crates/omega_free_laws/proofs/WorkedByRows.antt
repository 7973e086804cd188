-- Worked runs in which tasks end by the rows of the trace. Each history with its times is that of the definitions, by computing.
use Rattle.std.proofs.Common.{List, [], ◌∷◌, refl}
use Rattle.rand_pcg.specs.Lcg.{state_after}
use Rattle.omega_model.specs.declared.claims.Mode.TheVariants.{Gang, Incremental}
use Rattle.omega_model.specs.declared.claims.Rule.TheVariants.{Coarse, Fine}
use Rattle.omega_model.specs.declared.claims.Verdict.TheVariants.{Changed, Full, NoMachine, Placed, Withdrawn}
use Rattle.omega_model.specs.declared.entries.Entry.{Entry}
use Rattle.omega_model.specs.declared.entries.Entry.TheVariants.{Commit, End, MachineAdd, MachineRemove, MachineUpdate, Round}
use Rattle.omega_model.specs.declared.rows.TraceTables.{TraceTables}
use Rattle.omega_model.specs.declared.settings.Extra.TheVariants.{Cap, Max}
use Rattle.omega_model.specs.declared.settings.Preempt.TheVariants.{All}
use Rattle.omega_model.specs.declared.settings.Settings.{Settings}
use Rattle.omega_laws.specs.VirtualTime.{Timed}
use Rattle.omega_free_laws.specs.Free.{Free}
use Rattle.omega_free_laws.proofs.WorkedData.{activity, apart, at_time, claim, judged, key, machine_row, plain, room, spec, tables, task_row, tenths, txn}

-- one round, in which two schedulers decide at the same time and one is refused
unfoldable settings_one : Settings
settings_one = record plain { batch = 2 }

unfoldable trace_one : TraceTables
trace_one =
    tables
    (machine_row 0 1 0 (tenths 5 5)
    ∷ machine_row 0 2 0 (tenths 5 5) ∷ [])
    (task_row 0 (key 4 0) 0 2 (spec 9 4 4)
    ∷ task_row 0 (key 5 0) 0 0 (spec 1 4 4) ∷ [])
    []

unfoldable history_one : List Entry
history_one =
    Round 0
    ∷ MachineAdd 1 (room 5 5)
    ∷ MachineAdd 2 (room 5 5)
    ∷ Commit 0 3 (txn 4 Fine Incremental (claim (key 4 0) 1 (spec 9 4 4) [] ∷ [])) (judged Placed [] ∷ [])
    ∷ Commit 2 3 (txn 5 Fine Incremental (claim (key 5 0) 1 (spec 1 4 4) [] ∷ [])) (judged (Full (room 1 1)) [] ∷ [])
    ∷ Commit 2 5 (txn 5 Fine Incremental (claim (key 5 0) 2 (spec 1 4 4) [] ∷ [])) (judged Placed [] ∷ []) ∷ []

unfoldable times_one : List Timed
times_one =
    at_time 3 0 0 105000
    ∷ at_time 4 2 0 105000
    ∷ at_time 5 2 105000 210000 ∷ []

runs_one : Free settings_one trace_one history_one times_one
unfolding tenths room key spec apart task_row machine_row activity tables plain claim txn judged at_time settings_one trace_one history_one times_one state_after
runs_one = record { steps = 4; over = refl; is_history = refl; is_times = refl }

-- two rounds, the second after all is decided
unfoldable settings_apart : Settings
settings_apart = record plain { window = 1000000 }

unfoldable trace_apart : TraceTables
trace_apart =
    tables
    (machine_row 0 1 0 (tenths 10 10) ∷ [])
    (task_row 0 (key 4 0) 0 2 (spec 0 6 6)
    ∷ task_row 0 (key 5 0) 0 0 (spec 0 3 3)
    ∷ task_row 1000000 (key 5 0) 4 0 (spec 0 3 3)
    ∷ task_row 1500000 (key 5 1) 0 0 (spec 0 4 4) ∷ [])
    []

unfoldable history_apart : List Entry
history_apart =
    Round 0
    ∷ MachineAdd 1 (room 10 10)
    ∷ Commit 0 2 (txn 4 Fine Incremental (claim (key 4 0) 1 (spec 0 6 6) [] ∷ [])) (judged Placed [] ∷ [])
    ∷ Commit 1 2 (txn 5 Fine Incremental (claim (key 5 0) 1 (spec 0 3 3) [] ∷ [])) (judged Placed [] ∷ [])
    ∷ Round 1
    ∷ End (key 5 0) 1
    ∷ Commit 1 6 (txn 5 Fine Incremental (claim (key 5 1) 1 (spec 0 4 4) [] ∷ [])) (judged Placed [] ∷ []) ∷ []

unfoldable times_apart : List Timed
times_apart =
    at_time 2 0 0 105000
    ∷ at_time 3 1 0 105000
    ∷ at_time 6 1 1500000 1605000 ∷ []

runs_apart : Free settings_apart trace_apart history_apart times_apart
unfolding tenths room key spec apart task_row machine_row activity tables plain claim txn judged at_time settings_apart trace_apart history_apart times_apart state_after
runs_apart = record { steps = 5; over = refl; is_history = refl; is_times = refl }

-- the scheduler of services decides slowly: meanwhile two rounds open, a machine goes and batch jobs are placed
unfoldable settings_slow : Settings
settings_slow = record plain { window = 1000000; service_t_job = 3000000 }

unfoldable trace_slow : TraceTables
trace_slow =
    tables
    (machine_row 0 1 0 (tenths 10 10)
    ∷ machine_row 0 2 0 (tenths 6 6)
    ∷ machine_row 2500000 2 1 (tenths 0 0)
    ∷ machine_row 2500000 3 0 (tenths 10 10) ∷ [])
    (task_row 0 (key 4 0) 0 2 (spec 0 6 6)
    ∷ task_row 0 (key 4 1) 0 2 (spec 0 6 6)
    ∷ task_row 1000000 (key 5 0) 0 0 (spec 0 7 7)
    ∷ task_row 2000000 (key 7 0) 0 0 (spec 0 3 3) ∷ [])
    []

unfoldable history_slow : List Entry
history_slow =
    Round 0
    ∷ MachineAdd 1 (room 10 10)
    ∷ MachineAdd 2 (room 6 6)
    ∷ Round 1
    ∷ Commit 1 4 (txn 5 Fine Incremental (claim (key 5 0) 1 (spec 0 7 7) [] ∷ [])) (judged Placed [] ∷ [])
    ∷ Round 2
    ∷ MachineRemove 2
    ∷ MachineAdd 3 (room 10 10)
    ∷ Commit 1 8 (txn 7 Fine Incremental (claim (key 7 0) 3 (spec 0 3 3) [] ∷ [])) (judged Placed [] ∷ [])
    ∷ Commit 0 3 (txn 4 Fine Incremental (claim (key 4 0) 1 (spec 0 6 6) [] ∷ claim (key 4 1) 2 (spec 0 6 6) [] ∷ [])) (judged (Full (room 3 3)) [] ∷ judged NoMachine [] ∷ [])
    ∷ Commit 0 10 (txn 4 Fine Incremental (claim (key 4 0) 3 (spec 0 6 6) [] ∷ [])) (judged Placed [] ∷ [])
    ∷ Commit 0 11 (txn 4 Fine Incremental []) []
    ∷ Commit 0 12 (txn 4 Fine Incremental []) [] ∷ []

unfoldable times_slow : List Timed
times_slow =
    at_time 4 1 1000000 1105000
    ∷ at_time 8 1 2500000 2605000
    ∷ at_time 9 0 0 3010000
    ∷ at_time 10 0 3010000 6020000
    ∷ at_time 11 0 6020000 9025000
    ∷ at_time 12 0 9025000 12030000 ∷ []

runs_slow : Free settings_slow trace_slow history_slow times_slow
unfolding tenths room key spec apart task_row machine_row activity tables plain claim txn judged at_time settings_slow trace_slow history_slow times_slow state_after
runs_slow = record { steps = 9; over = refl; is_history = refl; is_times = refl }

-- tasks end while a scheduler decides on them, and one is wanted again
unfoldable settings_ended : Settings
settings_ended = record plain { window = 1000000; service_t_job = 3000000 }

unfoldable trace_ended : TraceTables
trace_ended =
    tables
    (machine_row 0 1 0 (tenths 10 10) ∷ [])
    (task_row 0 (key 4 0) 0 2 (spec 0 1 1)
    ∷ task_row 0 (key 4 1) 0 2 (spec 0 2 2)
    ∷ task_row 0 (key 6 0) 0 2 (spec 0 1 1)
    ∷ task_row 1000000 (key 4 0) 5 2 (spec 0 1 1)
    ∷ task_row 1000000 (key 4 1) 5 2 (spec 0 2 2)
    ∷ task_row 1000000 (key 6 0) 5 2 (spec 0 1 1)
    ∷ task_row 2000000 (key 4 1) 0 2 (spec 0 3 3) ∷ [])
    []

unfoldable history_ended : List Entry
history_ended =
    Round 0
    ∷ MachineAdd 1 (room 10 10)
    ∷ Round 1
    ∷ Round 2
    ∷ Commit 0 2 (txn 4 Fine Incremental (claim (key 4 1) 1 (spec 0 2 2) [] ∷ [])) (judged Placed [] ∷ []) ∷ []

unfoldable times_ended : List Timed
times_ended =
    at_time 4 0 0 3010000 ∷ []

runs_ended : Free settings_ended trace_ended history_ended times_ended
unfolding tenths room key spec apart task_row machine_row activity tables plain claim txn judged at_time settings_ended trace_ended history_ended times_ended state_after
runs_ended = record { steps = 4; over = refl; is_history = refl; is_times = refl }

-- a scheduler begins a pass at its commit, since a round opened while it decided
unfoldable settings_later : Settings
settings_later = record plain { window = 1000000; t_job = 1500000; service_t_job = 1500000 }

unfoldable trace_later : TraceTables
trace_later =
    tables
    (machine_row 0 1 0 (tenths 10 10) ∷ [])
    (task_row 0 (key 10 0) 0 0 (spec 0 1 1)
    ∷ task_row 0 (key 11 0) 0 0 (spec 0 2 2)
    ∷ task_row 1000000 (key 10 1) 0 0 (spec 0 1 1) ∷ [])
    []

unfoldable history_later : List Entry
history_later =
    Round 0
    ∷ MachineAdd 1 (room 10 10)
    ∷ Round 1
    ∷ Commit 1 2 (txn 10 Fine Incremental (claim (key 10 0) 1 (spec 0 1 1) [] ∷ [])) (judged Placed [] ∷ [])
    ∷ Commit 1 4 (txn 11 Fine Incremental (claim (key 11 0) 1 (spec 0 2 2) [] ∷ [])) (judged Placed [] ∷ [])
    ∷ Commit 1 5 (txn 10 Fine Incremental (claim (key 10 1) 1 (spec 0 1 1) [] ∷ [])) (judged Placed [] ∷ []) ∷ []

unfoldable times_later : List Timed
times_later =
    at_time 3 1 0 1505000
    ∷ at_time 4 1 1505000 3010000
    ∷ at_time 5 1 3010000 4515000 ∷ []

runs_later : Free settings_later trace_later history_later times_later
unfolding tenths room key spec apart task_row machine_row activity tables plain claim txn judged at_time settings_later trace_later history_later times_later state_after
runs_later = record { steps = 5; over = refl; is_history = refl; is_times = refl }

-- a round and three commits are due at one time
unfoldable settings_ties : Settings
settings_ties = record plain { batch = 2; window = 1000000; t_job = 1000000; t_task = 0; service_t_job = 1000000; service_t_task = 0 }

unfoldable trace_ties : TraceTables
trace_ties =
    tables
    (machine_row 0 1 0 (tenths 5 5) ∷ [])
    (task_row 0 (key 4 0) 0 2 (spec 0 3 3)
    ∷ task_row 0 (key 6 0) 0 0 (spec 0 3 3)
    ∷ task_row 0 (key 5 0) 0 0 (spec 0 1 1)
    ∷ task_row 0 (key 5 2) 0 0 (spec 0 9 9)
    ∷ task_row 1000000 (key 5 0) 5 0 (spec 0 1 1)
    ∷ task_row 1000000 (key 5 1) 0 0 (spec 0 2 2) ∷ [])
    []

unfoldable history_ties : List Entry
history_ties =
    Round 0
    ∷ MachineAdd 1 (room 5 5)
    ∷ Round 1
    ∷ Commit 0 2 (txn 4 Fine Incremental (claim (key 4 0) 1 (spec 0 3 3) [] ∷ [])) (judged Placed [] ∷ [])
    ∷ Commit 1 2 (txn 6 Fine Incremental (claim (key 6 0) 1 (spec 0 3 3) [] ∷ [])) (judged (Full (room 2 2)) [] ∷ [])
    ∷ Commit 2 2 (txn 5 Fine Incremental []) []
    ∷ Commit 1 5 (txn 6 Fine Incremental []) []
    ∷ Commit 2 6 (txn 5 Fine Incremental (claim (key 5 1) 1 (spec 0 2 2) [] ∷ [])) (judged Placed [] ∷ [])
    ∷ Commit 1 7 (txn 6 Fine Incremental []) []
    ∷ Commit 2 8 (txn 5 Fine Incremental []) [] ∷ []

unfoldable times_ties : List Timed
times_ties =
    at_time 3 0 0 1000000
    ∷ at_time 4 1 0 1000000
    ∷ at_time 5 2 0 1000000
    ∷ at_time 6 1 1000000 2000000
    ∷ at_time 7 2 1000000 2000000
    ∷ at_time 8 1 2000000 3000000
    ∷ at_time 9 2 2000000 3000000 ∷ []

runs_ties : Free settings_ties trace_ties history_ties times_ties
unfolding tenths room key spec apart task_row machine_row activity tables plain claim txn judged at_time settings_ties trace_ties history_ties times_ties state_after
runs_ties = record { steps = 9; over = refl; is_history = refl; is_times = refl }

-- a task of a gang ends while the scheduler decides: the others are committed, and then withdrawn or refused together
unfoldable settings_gang : Settings
settings_gang = record plain { mode = Gang; window = 1000000; service_t_job = 3000000 }

unfoldable trace_gang : TraceTables
trace_gang =
    tables
    (machine_row 0 1 0 (tenths 10 10)
    ∷ machine_row 2000000 2 0 (tenths 5 5) ∷ [])
    (task_row 0 (key 4 0) 0 2 (spec 0 3 3)
    ∷ task_row 0 (key 4 1) 0 2 (spec 0 3 3)
    ∷ task_row 0 (key 4 2) 0 2 (spec 0 3 3)
    ∷ task_row 1000000 (key 4 0) 5 2 (spec 0 3 3)
    ∷ task_row 1000000 (key 5 0) 0 0 (spec 0 5 5) ∷ [])
    []

unfoldable history_gang : List Entry
history_gang =
    Round 0
    ∷ MachineAdd 1 (room 10 10)
    ∷ Round 1
    ∷ Commit 1 3 (txn 5 Fine Gang (claim (key 5 0) 1 (spec 0 5 5) [] ∷ [])) (judged Placed [] ∷ [])
    ∷ Round 2
    ∷ MachineAdd 2 (room 5 5)
    ∷ Commit 0 2 (txn 4 Fine Gang (claim (key 4 1) 1 (spec 0 3 3) [] ∷ claim (key 4 2) 1 (spec 0 3 3) [] ∷ [])) (judged (Withdrawn 1) [] ∷ judged (Full (room 2 2)) [] ∷ [])
    ∷ Commit 0 7 (txn 4 Fine Gang (claim (key 4 1) 1 (spec 0 3 3) [] ∷ claim (key 4 2) 2 (spec 0 3 3) [] ∷ [])) (judged Placed [] ∷ judged Placed [] ∷ []) ∷ []

unfoldable times_gang : List Timed
times_gang =
    at_time 3 1 1000000 1105000
    ∷ at_time 6 0 0 3015000
    ∷ at_time 7 0 3015000 6025000 ∷ []

runs_gang : Free settings_gang trace_gang history_gang times_gang
unfolding tenths room key spec apart task_row machine_row activity tables plain claim txn judged at_time settings_gang trace_gang history_gang times_gang state_after
runs_gang = record { steps = 6; over = refl; is_history = refl; is_times = refl }

-- tasks end while a scheduler decides and are wanted again later, within one pass
unfoldable settings_back : Settings
settings_back = record plain { window = 1000000; service_t_job = 2500000; service_t_task = 0 }

unfoldable trace_back : TraceTables
trace_back =
    tables
    (machine_row 0 1 0 (tenths 10 10)
    ∷ machine_row 2000000 2 0 (tenths 10 10) ∷ [])
    (task_row 0 (key 4 0) 0 2 (spec 0 3 3)
    ∷ task_row 0 (key 4 1) 0 2 (spec 0 3 3)
    ∷ task_row 0 (key 4 2) 0 2 (spec 0 3 3)
    ∷ task_row 0 (key 6 0) 0 2 (spec 0 1 1)
    ∷ task_row 1000000 (key 4 1) 5 2 (spec 0 3 3)
    ∷ task_row 1000000 (key 6 0) 5 2 (spec 0 1 1)
    ∷ task_row 1000000 (key 5 0) 0 0 (spec 0 5 5)
    ∷ task_row 3000000 (key 4 1) 0 2 (spec 0 2 2)
    ∷ task_row 3000000 (key 6 0) 0 2 (spec 0 1 1)
    ∷ task_row 3000000 (key 4 3) 0 2 (spec 0 1 1) ∷ [])
    []

unfoldable history_back : List Entry
history_back =
    Round 0
    ∷ MachineAdd 1 (room 10 10)
    ∷ Round 1
    ∷ Commit 1 3 (txn 5 Fine Incremental (claim (key 5 0) 1 (spec 0 5 5) [] ∷ [])) (judged Placed [] ∷ [])
    ∷ Round 2
    ∷ MachineAdd 2 (room 10 10)
    ∷ Commit 0 2 (txn 4 Fine Incremental (claim (key 4 0) 1 (spec 0 3 3) [] ∷ claim (key 4 2) 1 (spec 0 3 3) [] ∷ [])) (judged Placed [] ∷ judged (Full (room 2 2)) [] ∷ [])
    ∷ Round 3
    ∷ Commit 0 7 (txn 4 Fine Incremental (claim (key 4 2) 2 (spec 0 3 3) [] ∷ [])) (judged Placed [] ∷ [])
    ∷ Commit 0 9 (txn 4 Fine Incremental (claim (key 4 1) 2 (spec 0 3 3) [] ∷ [])) (judged Placed [] ∷ [])
    ∷ Commit 0 10 (txn 6 Fine Incremental (claim (key 6 0) 1 (spec 0 1 1) [] ∷ [])) (judged Placed [] ∷ [])
    ∷ Commit 0 11 (txn 4 Fine Incremental (claim (key 4 3) 1 (spec 0 1 1) [] ∷ [])) (judged Placed [] ∷ []) ∷ []

unfoldable times_back : List Timed
times_back =
    at_time 3 1 1000000 1105000
    ∷ at_time 6 0 0 2500000
    ∷ at_time 8 0 2500000 5000000
    ∷ at_time 9 0 5000000 7500000
    ∷ at_time 10 0 7500000 10000000
    ∷ at_time 11 0 10000000 12500000 ∷ []

runs_back : Free settings_back trace_back history_back times_back
unfolding tenths room key spec apart task_row machine_row activity tables plain claim txn judged at_time settings_back trace_back history_back times_back state_after
runs_back = record { steps = 10; over = refl; is_history = refl; is_times = refl }

-- under the coarse rule, with evictions and extra tasks
unfoldable settings_coarse : Settings
settings_coarse = record plain { seed = 8; rule = Coarse; preempt = All; extra = Max; tries = 4; give_up = 3; window = 1000000; t_job = 400000; service_t_job = 2500000 }

unfoldable trace_coarse : TraceTables
trace_coarse =
    tables
    (machine_row 0 1 0 (tenths 5 9)
    ∷ machine_row 0 2 0 (tenths 7 8)
    ∷ machine_row 3000000 3 0 (tenths 10 8) ∷ [])
    (task_row 0 (key 4 1) 0 0 (spec 9 4 5)
    ∷ task_row 0 (key 4 2) 0 0 (apart 9 1 1)
    ∷ task_row 0 (key 5 0) 0 0 (spec 1 5 4)
    ∷ task_row 1500000 (key 4 0) 0 0 (apart 9 1 1)
    ∷ task_row 1500000 (key 5 2) 0 0 (spec 1 3 5)
    ∷ task_row 2000000 (key 4 0) 5 0 (apart 9 1 1)
    ∷ task_row 2000000 (key 4 2) 5 0 (apart 9 1 1)
    ∷ task_row 2000000 (key 5 1) 0 0 (spec 1 1 3)
    ∷ task_row 2500000 (key 4 2) 0 0 (spec 9 5 3)
    ∷ task_row 2500000 (key 5 2) 5 0 (spec 1 3 5)
    ∷ task_row 2500000 (key 5 2) 0 0 (spec 1 4 4)
    ∷ task_row 3000000 (key 4 0) 0 0 (spec 9 4 4) ∷ [])
    (activity 5 2 ∷ [])

unfoldable history_coarse : List Entry
history_coarse =
    Round 0
    ∷ MachineAdd 1 (room 5 9)
    ∷ MachineAdd 2 (room 7 8)
    ∷ Commit 1 3 (txn 4 Coarse Incremental (claim (key 4 1) 1 (spec 9 4 5) [] ∷ claim (key 4 2) 2 (apart 9 1 1) [] ∷ [])) (judged Placed [] ∷ judged Placed [] ∷ [])
    ∷ Commit 2 3 (txn 5 Coarse Incremental (claim (key 5 0) 1 (spec 1 5 4) [] ∷ claim (key 5 2147483648) 2 (spec 0 5 4) [] ∷ [])) (judged (Changed 2 1) [] ∷ judged (Changed 2 1) [] ∷ [])
    ∷ Commit 2 5 (txn 5 Coarse Incremental (claim (key 5 0) 2 (spec 1 5 4) [] ∷ [])) (judged Placed [] ∷ [])
    ∷ Commit 2 6 (txn 5 Coarse Incremental []) []
    ∷ Round 1
    ∷ Commit 1 8 (txn 4 Coarse Incremental []) []
    ∷ Commit 2 8 (txn 5 Coarse Incremental []) []
    ∷ Round 2
    ∷ End (key 4 2) 2
    ∷ Commit 1 12 (txn 4 Coarse Incremental (claim (key 4 2) 2 (spec 9 5 3) (key 5 0 ∷ []) ∷ [])) (judged Placed (key 5 0 ∷ []) ∷ [])
    ∷ Commit 2 12 (txn 5 Coarse Incremental (claim (key 5 1) 1 (spec 1 1 3) [] ∷ [])) (judged Placed [] ∷ [])
    ∷ Round 3
    ∷ MachineAdd 3 (room 10 8)
    ∷ Commit 2 14 (txn 5 Coarse Incremental []) []
    ∷ Commit 1 16 (txn 4 Coarse Incremental (claim (key 4 0) 3 (spec 9 4 4) [] ∷ [])) (judged Placed [] ∷ [])
    ∷ Commit 2 17 (txn 5 Coarse Incremental (claim (key 5 0) 3 (spec 1 5 4) [] ∷ claim (key 5 2) 3 (spec 1 4 4) [] ∷ [])) (judged (Changed 2 1) [] ∷ judged (Changed 2 1) [] ∷ [])
    ∷ Commit 2 19 (txn 5 Coarse Incremental (claim (key 5 0) 3 (spec 1 5 4) [] ∷ [])) (judged Placed [] ∷ [])
    ∷ Commit 2 20 (txn 5 Coarse Incremental []) [] ∷ []

unfoldable times_coarse : List Timed
times_coarse =
    at_time 3 1 0 410000
    ∷ at_time 4 2 0 410000
    ∷ at_time 5 2 410000 820000
    ∷ at_time 6 2 820000 1225000
    ∷ at_time 8 1 1500000 1905000
    ∷ at_time 9 2 1500000 1905000
    ∷ at_time 12 1 2500000 2905000
    ∷ at_time 13 2 2500000 2910000
    ∷ at_time 16 2 2910000 3315000
    ∷ at_time 17 1 3000000 3405000
    ∷ at_time 18 2 3315000 3725000
    ∷ at_time 19 2 3725000 4135000
    ∷ at_time 20 2 4135000 4540000 ∷ []

runs_coarse : Free settings_coarse trace_coarse history_coarse times_coarse
unfolding tenths room key spec apart task_row machine_row activity tables plain claim txn judged at_time settings_coarse trace_coarse history_coarse times_coarse state_after
runs_coarse = record { steps = 17; over = refl; is_history = refl; is_times = refl }

-- gangs and extra tasks under a cap, on machines that change
unfoldable settings_gangs : Settings
settings_gangs = record plain { seed = 1; batch = 2; mode = Gang; extra = Cap 60; tries = 1; give_up = 2; window = 1000000; t_job = 900000; t_task = 100000; service_t_job = 2500000; service_t_task = 100000 }

unfoldable trace_gangs : TraceTables
trace_gangs =
    tables
    (machine_row 0 1 0 (tenths 7 10)
    ∷ machine_row 0 2 0 (tenths 5 7)
    ∷ machine_row 0 3 0 (tenths 8 4)
    ∷ machine_row 1250000 2 2 (tenths 5 5)
    ∷ machine_row 2000000 4 0 (tenths 10 8) ∷ [])
    (task_row 0 (key 4 0) 0 0 (apart 9 2 2)
    ∷ task_row 0 (key 5 2) 0 0 (apart 9 5 3)
    ∷ task_row 1000000 (key 4 0) 4 0 (apart 9 2 2)
    ∷ task_row 1500000 (key 4 1) 0 0 (spec 9 3 3)
    ∷ task_row 1500000 (key 5 1) 0 0 (spec 9 3 1)
    ∷ task_row 2000000 (key 5 0) 0 0 (spec 9 2 2)
    ∷ task_row 4000000 (key 5 0) 5 0 (spec 9 2 2)
    ∷ task_row 4500000 (key 5 0) 0 0 (spec 9 2 2) ∷ [])
    (activity 5 4 ∷ [])

unfoldable history_gangs : List Entry
history_gangs =
    Round 0
    ∷ MachineAdd 1 (room 7 10)
    ∷ MachineAdd 2 (room 5 7)
    ∷ MachineAdd 3 (room 8 4)
    ∷ Commit 1 4 (txn 4 Fine Gang (claim (key 4 0) 2 (apart 9 2 2) [] ∷ [])) (judged Placed [] ∷ [])
    ∷ Commit 3 4 (txn 5 Fine Incremental (claim (key 5 2) 1 (apart 9 5 3) [] ∷ claim (key 5 2147483648) 2 (spec 0 5 3) [] ∷ claim (key 5 2147483649) 3 (spec 0 5 3) [] ∷ [])) (judged Placed [] ∷ judged (Full (room 3 5)) [] ∷ judged Placed [] ∷ [])
    ∷ Round 1
    ∷ End (key 4 0) 2
    ∷ MachineUpdate 2 (room 5 5)
    ∷ Round 2
    ∷ MachineAdd 4 (room 10 8)
    ∷ Commit 1 9 (txn 4 Fine Gang (claim (key 4 1) 2 (spec 9 3 3) [] ∷ [])) (judged Placed [] ∷ [])
    ∷ Commit 3 9 (txn 5 Fine Incremental (claim (key 5 1) 2 (spec 9 3 1) [] ∷ [])) (judged (Full (room 2 2)) [] ∷ [])
    ∷ Commit 3 13 (txn 5 Fine Incremental (claim (key 5 0) 1 (spec 9 2 2) [] ∷ claim (key 5 1) 3 (spec 9 3 1) [] ∷ [])) (judged Placed [] ∷ judged Placed [] ∷ [])
    ∷ Round 4
    ∷ End (key 5 0) 1
    ∷ Commit 3 16 (txn 5 Fine Incremental (claim (key 5 0) 1 (spec 9 2 2) [] ∷ [])) (judged Placed [] ∷ []) ∷ []

unfoldable times_gangs : List Timed
times_gangs =
    at_time 4 1 0 1000000
    ∷ at_time 5 3 0 1200000
    ∷ at_time 11 1 1500000 2500000
    ∷ at_time 12 3 1500000 2500000
    ∷ at_time 13 3 2500000 3600000
    ∷ at_time 16 3 4500000 5500000 ∷ []

runs_gangs : Free settings_gangs trace_gangs history_gangs times_gangs
unfolding tenths room key spec apart task_row machine_row activity tables plain claim txn judged at_time settings_gangs trace_gangs history_gangs times_gangs state_after
runs_gangs = record { steps = 10; over = refl; is_history = refl; is_times = refl }

-- with evictions and refusals, on the way to giving up
unfoldable settings_evicting : Settings
settings_evicting = record plain { seed = 5; preempt = All; extra = Cap 60; tries = 4; give_up = 3; window = 1000000; t_job = 1500000; service_t_job = 300000 }

unfoldable trace_evicting : TraceTables
trace_evicting =
    tables
    (machine_row 0 1 0 (tenths 6 7)
    ∷ machine_row 0 2 0 (tenths 10 5)
    ∷ machine_row 3000000 3 0 (tenths 10 8) ∷ [])
    (task_row 0 (key 4 0) 0 0 (spec 1 3 4)
    ∷ task_row 0 (key 5 0) 0 0 (spec 1 3 4)
    ∷ task_row 0 (key 5 1) 0 0 (spec 1 5 1)
    ∷ task_row 0 (key 5 2) 0 0 (spec 1 3 3)
    ∷ task_row 0 (key 6 1) 0 2 (apart 0 5 1)
    ∷ task_row 0 (key 7 0) 0 0 (spec 1 1 4)
    ∷ task_row 1000000 (key 6 2) 0 2 (apart 0 2 4)
    ∷ task_row 1000000 (key 7 1) 0 0 (spec 1 4 4)
    ∷ task_row 1250000 (key 6 1) 5 2 (apart 0 5 1)
    ∷ task_row 1500000 (key 4 1) 0 0 (spec 1 3 1)
    ∷ task_row 2000000 (key 6 0) 0 2 (apart 0 5 2)
    ∷ task_row 2250000 (key 6 1) 0 2 (spec 0 4 3)
    ∷ task_row 3000000 (key 6 0) 5 2 (apart 0 5 2)
    ∷ task_row 3000000 (key 6 0) 0 2 (spec 0 5 2) ∷ [])
    (activity 7 5 ∷ [])

unfoldable history_evicting : List Entry
history_evicting =
    Round 0
    ∷ MachineAdd 1 (room 6 7)
    ∷ MachineAdd 2 (room 10 5)
    ∷ Commit 0 3 (txn 6 Fine Incremental (claim (key 6 1) 2 (apart 0 5 1) [] ∷ [])) (judged Placed [] ∷ [])
    ∷ Round 1
    ∷ End (key 6 1) 2
    ∷ Commit 1 3 (txn 4 Fine Incremental (claim (key 4 0) 2 (spec 1 3 4) [] ∷ [])) (judged Placed [] ∷ [])
    ∷ Commit 2 3 (txn 7 Fine Incremental (claim (key 7 0) 1 (spec 1 1 4) [] ∷ claim (key 7 2147483648) 2 (spec 0 1 4) [] ∷ [])) (judged Placed [] ∷ judged (Full (room 7 1)) [] ∷ [])
    ∷ Commit 0 6 (txn 6 Fine Incremental (claim (key 6 2) 1 (apart 0 2 4) [] ∷ [])) (judged (Full (room 5 3)) [] ∷ [])
    ∷ Commit 0 9 (txn 6 Fine Incremental []) []
    ∷ Round 2
    ∷ Commit 0 11 (txn 6 Fine Incremental (claim (key 6 0) 1 (apart 0 5 2) [] ∷ [])) (judged Placed [] ∷ [])
    ∷ Commit 0 12 (txn 6 Fine Incremental []) []
    ∷ Round 3
    ∷ MachineAdd 3 (room 10 8)
    ∷ End (key 6 0) 1
    ∷ Commit 2 8 (txn 7 Fine Incremental []) []
    ∷ Commit 1 7 (txn 5 Fine Incremental (claim (key 5 0) 1 (spec 1 3 4) [] ∷ claim (key 5 1) 2 (spec 1 5 1) [] ∷ claim (key 5 2) 1 (spec 1 3 3) [] ∷ [])) (judged (Full (room 5 3)) [] ∷ judged Placed [] ∷ judged Placed [] ∷ [])
    ∷ Commit 0 16 (txn 6 Fine Incremental (claim (key 6 0) 3 (spec 0 5 2) [] ∷ claim (key 6 1) 3 (spec 0 4 3) [] ∷ [])) (judged Placed [] ∷ judged Placed [] ∷ [])
    ∷ Commit 0 19 (txn 6 Fine Incremental []) []
    ∷ Commit 1 18 (txn 5 Fine Incremental (claim (key 5 0) 3 (spec 1 3 4) [] ∷ [])) (judged (Full (room 1 3)) [] ∷ [])
    ∷ Commit 2 17 (txn 7 Fine Incremental (claim (key 7 1) 3 (spec 1 4 4) [] ∷ claim (key 7 2147483648) 3 (spec 0 1 4) [] ∷ [])) (judged (Full (room 1 3)) [] ∷ judged (Full (room 1 3)) [] ∷ [])
    ∷ Commit 1 21 (txn 5 Fine Incremental (claim (key 5 0) 3 (spec 1 3 4) (key 6 0 ∷ []) ∷ [])) (judged Placed (key 6 0 ∷ []) ∷ [])
    ∷ Commit 2 22 (txn 7 Fine Incremental (claim (key 7 1) 3 (spec 1 4 4) (key 6 0 ∷ []) ∷ [])) (judged (Full (room 3 1)) [] ∷ [])
    ∷ Commit 1 23 (txn 4 Fine Incremental (claim (key 4 1) 3 (spec 1 3 1) [] ∷ [])) (judged Placed [] ∷ []) ∷ []

unfoldable times_evicting : List Timed
times_evicting =
    at_time 3 0 0 305000
    ∷ at_time 6 1 0 1505000
    ∷ at_time 7 2 0 1510000
    ∷ at_time 8 0 1500000 1805000
    ∷ at_time 9 0 1805000 2110000
    ∷ at_time 11 0 2250000 2565000
    ∷ at_time 12 0 2565000 2875000
    ∷ at_time 16 2 1510000 3015000
    ∷ at_time 17 1 1505000 3020000
    ∷ at_time 18 0 3000000 3315000
    ∷ at_time 19 0 3315000 3620000
    ∷ at_time 20 1 3020000 4525000
    ∷ at_time 21 2 3015000 4525000
    ∷ at_time 22 1 4525000 6030000
    ∷ at_time 23 2 4525000 6035000
    ∷ at_time 24 1 6030000 7535000 ∷ []

runs_evicting : Free settings_evicting trace_evicting history_evicting times_evicting
unfolding tenths room key spec apart task_row machine_row activity tables plain claim txn judged at_time settings_evicting trace_evicting history_evicting times_evicting state_after
runs_evicting = record { steps = 20; over = refl; is_history = refl; is_times = refl }
