-- Worked answers: which scheduler works on a job, and the extra tasks of MapReduce jobs.
use Rattle.std.proofs.Common.{◌≡◌, ℕ, true, false, List, [], ◌∷◌, ◌++◌, refl}
use Rattle.omega_model.specs.ExtraTasks.{free_indexes, used_in, capacity_in_all}
use Rattle.omega_model.specs.Fields.{TaskFields, ActivityFields}
use Rattle.omega_model.specs.Planning.{plan_for}
use Rattle.omega_model.specs.Policy.{policy_of}
use Rattle.omega_model.specs.Requests.{requests}
use Rattle.omega_model.specs.Routing.{scheduler_of}
use Rattle.omega_model.specs.RowEntries.{row_entries}
use Rattle.omega_model.specs.State.{state}
use Rattle.omega_model.specs.Wanted.{WantedTask, wanted}
use Rattle.omega_model.specs.declared.cells.Need.{Need}
use Rattle.omega_model.specs.declared.cells.Spec.{Spec}
use Rattle.omega_model.specs.declared.cells.TaskKey.{TaskKey}
use Rattle.omega_model.specs.declared.claims.Claim.{Claim}
use Rattle.omega_model.specs.declared.claims.Judgement.{Judgement}
use Rattle.omega_model.specs.declared.claims.Mode.TheVariants.{Incremental, Gang}
use Rattle.omega_model.specs.declared.claims.Rule.TheVariants.{Fine}
use Rattle.omega_model.specs.declared.claims.Txn.{Txn}
use Rattle.omega_model.specs.declared.claims.Verdict.TheVariants.{Placed}
use Rattle.omega_model.specs.declared.entries.Entry.{Entry}
use Rattle.omega_model.specs.declared.entries.Entry.TheVariants.{Round, MachineAdd, MachineRemove, End, Commit}
use Rattle.omega_model.specs.declared.rows.Row.{Row}
use Rattle.omega_model.specs.declared.rows.Row.TheVariants.{Task}
use Rattle.omega_model.specs.declared.rows.TraceTables.{TraceTables}
use Rattle.omega_model.specs.declared.settings.Clock.TheVariants as clock
use Rattle.omega_model.specs.declared.settings.Command.TheVariants.{Replay}
use Rattle.omega_model.specs.declared.settings.Ends.TheVariants as ends
use Rattle.omega_model.specs.declared.settings.Extra.{Extra}
use Rattle.omega_model.specs.declared.settings.Extra.TheVariants.{Max, Cap, Relative}
use Rattle.omega_model.specs.declared.settings.Format.TheVariants.{Text}
use Rattle.omega_model.specs.declared.settings.Preempt.TheVariants.{Nobody}
use Rattle.omega_model.specs.declared.settings.Settings.{Settings}
use Rattle.omega_model.specs.declared.wishes.Constraint.{Constraint}
use Rattle.omega_model.specs.declared.wishes.Op.TheVariants.{Equal}
use Rattle.omega_model.specs.declared.wishes.Wish.{Wish}

unfoldable amount : ℕ → Need
amount n = record { cpu = n; mem = n; disk = 0 }

unfoldable room : ℕ → Need
room n = record { cpu = n; mem = n; disk = 1000000000000 }

unfoldable task_key : ℕ → ℕ → TaskKey
task_key job index = record { job = job; index = index }

unfoldable settings : ℕ → Extra → Settings
settings batch extra = record {
  command = Replay;
  seed = 0;
  batch = batch;
  rule = Fine;
  mode = Gang;
  preempt = Nobody;
  extra = extra;
  tries = 5;
  give_up = 1000;
  window = 300000000;
  format = Text;
  machines = 0;
  jobs = 0;
  t_job = 100000;
  t_task = 5000;
  service_t_job = 100000;
  service_t_task = 5000;
  clock = clock.Rounds;
  times = false;
  ends = ends.Trace;
}

-- a task row of this job, index, code and class; the task needs 100000000 and has precedence 2
unfoldable spec : Spec
spec = record { need = amount 100000000; prec = 2; differ = true }

unfoldable task_row : ℕ → ℕ → ℕ → ℕ → ℕ → TaskFields
task_row time job index code class = record { time = time; key = task_key job index; code = code; class = class; spec = spec }

-- jobs of class 2, 3, 1 and 0, and job 4, whose first row in the file is of class 2, but a row of class 0
-- comes earlier in time; job 20 is of MapReduce and class 3
unfoldable many : TraceTables
many = record {
  machines = [];
  attrs = [];
  tasks =
      task_row 5 4 0 0 2 ∷ task_row 0 5 0 0 2 ∷ task_row 0 6 0 0 3 ∷ task_row 0 7 0 0 1 ∷ task_row 0 8 0 0 0
      ∷ task_row 1 4 1 7 0 ∷ task_row 9 7 0 0 2 ∷ task_row 0 20 0 0 3 ∷ [];
  constraints = [];
  activities = record { job = 20; activities = 0 } ∷ [];
  disks = [];
}

-- classes 2 and 3 go to scheduler 0
service_2 : scheduler_of (settings 3 Max) many 5 ≡ 0
unfolding task_key settings spec task_row many
service_2 = refl

service_3 : scheduler_of (settings 3 Max) many 6 ≡ 0
unfolding task_key settings spec task_row many
service_3 = refl

-- the others by their number; the class of the first row counts, also where the row's code asks for nothing
batch_of_7 : scheduler_of (settings 3 Max) many 7 ≡ 2
unfolding task_key settings spec task_row many
batch_of_7 = refl

batch_of_8 : scheduler_of (settings 3 Max) many 8 ≡ 3
unfolding task_key settings spec task_row many
batch_of_8 = refl

batch_of_4 : scheduler_of (settings 3 Max) many 4 ≡ 2
unfolding task_key settings spec task_row many
batch_of_4 = refl

only_batch : scheduler_of (settings 1 Max) many 8 ≡ 1
unfolding task_key settings spec task_row many
only_batch = refl

-- a job in the table of activities goes to the last scheduler, whatever its class and its activities
mapreduce : scheduler_of (settings 3 Max) many 20 ≡ 4
unfolding task_key settings spec task_row many
mapreduce = refl

-- the least indexes that aren't held
lowest : free_indexes (2147483649 ∷ 2147483651 ∷ []) 3 ≡ 2147483648 ∷ 2147483650 ∷ 2147483652 ∷ []
lowest = refl

none_held : free_indexes [] 2 ≡ 2147483648 ∷ 2147483649 ∷ []
none_held = refl

none_asked : free_indexes (2147483648 ∷ []) 0 ≡ []
none_asked = refl

-- one machine of capacity 1, job 20 with so many activities, and its task 0, which ends in the next round
unfoldable likes : Constraint
likes = record { op = Equal; name = 107 ∷ []; value = [] }

unfoldable alone_spec : Spec
alone_spec = record { need = amount 100000000; prec = 2; differ = false }

unfoldable row_at : ℕ → ℕ → TaskFields
row_at time code = record { time = time; key = task_key 20 0; code = code; class = 0; spec = alone_spec }

unfoldable job_20 : List ActivityFields → TraceTables
job_20 activities = record {
  machines = record { time = 0; machine = 1; code = 0; cap = amount 1000000000 } ∷ [];
  attrs = [];
  tasks = row_at 0 0 ∷ row_at 300000000 4 ∷ [];
  constraints = record { key = task_key 20 0; constraint = likes } ∷ record { key = task_key 20 1; constraint = likes } ∷ [];
  activities = activities;
  disks = [];
}

unfoldable six : List ActivityFields
six = record { job = 20; activities = 99 } ∷ record { job = 21; activities = 1 } ∷ record { job = 20; activities = 6 } ∷ []

unfoldable begun : List Entry
begun = Round 0 ∷ MachineAdd 1 (room 1000000000) ∷ []

unfoldable rows : List Row
rows = Task (row_at 0 0) ∷ []

-- the wish for the task, and one for an extra of this index
unfoldable own_wish : Wish
own_wish = record { key = task_key 20 0; spec = alone_spec; constraints = likes ∷ [] }

unfoldable extra : ℕ → Wish
extra index = record { key = task_key 20 index; spec = record { need = amount 100000000; prec = 0; differ = false }; constraints = likes ∷ [] }

-- four times the one task are 4, so there are three extras
relative : requests (settings 1 Relative) (job_20 six) rows begun 2 ≡
    record { job = 20; wishes = own_wish ∷ extra 2147483648 ∷ extra 2147483649 ∷ extra 2147483650 ∷ [] } ∷ []
unfolding amount room task_key settings likes alone_spec row_at job_20 six begun rows own_wish extra
relative = refl

-- six activities without a bound: five extras
unbounded : requests (settings 1 Max) (job_20 six) rows begun 2 ≡
    record {
      job = 20;
      wishes = own_wish ∷ extra 2147483648 ∷ extra 2147483649 ∷ extra 2147483650 ∷ extra 2147483651 ∷ extra 2147483652 ∷ [];
    } ∷ []
unfolding amount room task_key settings likes alone_spec row_at job_20 six begun rows own_wish extra
unbounded = refl

-- within 30 percent of the capacity: three; the disk that nobody needs bounds nothing
capped : requests (settings 1 (Cap 30)) (job_20 six) rows begun 2 ≡
    record { job = 20; wishes = own_wish ∷ extra 2147483648 ∷ extra 2147483649 ∷ extra 2147483650 ∷ [] } ∷ []
unfolding amount room task_key settings likes alone_spec row_at job_20 six begun rows own_wish extra
capped = refl

-- the other schedulers are asked for nothing
not_batch : requests (settings 1 Max) (job_20 six) rows begun 1 ≡ []
unfolding amount room task_key settings likes alone_spec row_at job_20 six begun rows
not_batch = refl

-- a job without a row of activities has no extras and goes to a batch scheduler
no_activities : requests (settings 1 Max) (job_20 []) rows begun 1 ≡ record { job = 20; wishes = own_wish ∷ [] } ∷ []
unfolding amount room task_key settings likes alone_spec row_at job_20 begun rows own_wish
no_activities = refl

unfoldable claim : ℕ → ℕ → Claim
claim index prec = record { key = task_key 20 index; machine = 1; spec = record { need = amount 100000000; prec = prec; differ = false }; victims = [] }

-- the scheduler of MapReduce isn't all or nothing, whatever the settings say
planned_all : plan_for (state begun) (own_wish ∷ extra 2147483648 ∷ extra 2147483649 ∷ extra 2147483650 ∷ []) 0 (policy_of (settings 1 Relative) 2) ≡
    claim 0 2 ∷ claim 2147483648 0 ∷ claim 2147483649 0 ∷ claim 2147483650 0 ∷ []
unfolding amount room task_key settings likes alone_spec begun own_wish extra claim
planned_all = refl

unfoldable placed : Judgement
placed = record { verdict = Placed; evicted = [] }

unfoldable asks : List Claim → Txn
asks claims = record { job = 20; rule = Fine; mode = Incremental; claims = claims }

-- all four run
unfoldable running : List Entry
running = begun ++ Commit 2 2 (asks (claim 0 2 ∷ claim 2147483648 0 ∷ claim 2147483649 0 ∷ claim 2147483650 0 ∷ [])) (placed ∷ placed ∷ placed ∷ placed ∷ []) ∷ []

-- the end of the task ends them all, the extras by index
all_end : row_entries [] (state running) (wanted (rows ++ Task (row_at 300000000 4) ∷ [])) (Task (row_at 300000000 4)) ≡
    End (task_key 20 0) 1 ∷ End (task_key 20 2147483648) 1 ∷ End (task_key 20 2147483649) 1 ∷ End (task_key 20 2147483650) 1 ∷ []
unfolding amount room task_key alone_spec row_at begun rows claim placed asks running
all_end = refl

-- then nothing is asked for
nothing_more : requests (settings 1 Relative) (job_20 six) (rows ++ Task (row_at 300000000 4) ∷ []) running 2 ≡ []
unfolding amount room task_key settings likes alone_spec row_at job_20 six begun rows claim placed asks running
nothing_more = refl

-- while they run, and the task is wanted, there is nothing to ask for either
nothing_else : requests (settings 1 Relative) (job_20 six) rows running 2 ≡ []
unfolding amount room task_key settings likes alone_spec row_at job_20 six begun rows claim placed asks running
nothing_else = refl

-- an extra that stopped is asked for again, under the least index that is free
one_again : requests (settings 1 Relative) (job_20 six) rows (running ++ End (task_key 20 2147483649) 1 ∷ []) 2 ≡
    record { job = 20; wishes = extra 2147483649 ∷ [] } ∷ []
unfolding amount room task_key settings likes alone_spec row_at job_20 six begun rows claim placed asks running extra
one_again = refl

-- a second task that is wanted keeps the extras
unfoldable other_wanted : List WantedTask
other_wanted = record { key = task_key 20 1; spec = alone_spec } ∷ []

some_stay : row_entries [] (state running) other_wanted (Task (row_at 300000000 4)) ≡ End (task_key 20 0) 1 ∷ []
unfolding amount room task_key alone_spec row_at begun claim placed asks running other_wanted
some_stay = refl

-- a row that ends a task which doesn't run ends the extras all the same
late_end : row_entries [] (state (running ++ End (task_key 20 0) 1 ∷ [])) [] (Task (row_at 300000000 5)) ≡
    End (task_key 20 2147483648) 1 ∷ End (task_key 20 2147483649) 1 ∷ End (task_key 20 2147483650) 1 ∷ []
unfolding amount room task_key alone_spec row_at begun claim placed asks running
late_end = refl

-- another code ends nothing
no_end : row_entries [] (state running) [] (Task (row_at 300000000 2)) ≡ []
unfolding amount room task_key alone_spec row_at begun claim placed asks running
no_end = refl

-- what is used, and what there is, on machines that are up alone
used : used_in (state (running ++ MachineAdd 2 (room 5) ∷ MachineRemove 2 ∷ MachineAdd 3 (room 7) ∷ [])) ≡ amount 400000000
unfolding amount room task_key begun claim placed asks running
used = refl

there_is : capacity_in_all (state (running ++ MachineAdd 2 (room 5) ∷ MachineRemove 2 ∷ MachineAdd 3 (room 7) ∷ [])) ≡
    record { cpu = 1000000007; mem = 1000000007; disk = 2000000000000 }
unfolding amount room task_key begun claim placed asks running
there_is = refl
