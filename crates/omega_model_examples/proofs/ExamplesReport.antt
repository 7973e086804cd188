-- Worked answers: whole reports as text and as JSON, and the lines of single entries.
use Rattle.std.proofs.Common.{◌≡◌, ℕ, false, List, [], ◌∷◌, ◌++◌, refl, codes}
use Rattle.std.specs.Fmt.{digits}
use Rattle.csv.proofs.OnLiterals.{csv_on_literals}
use Rattle.omega_model.specs.Numbers.{ten_to}
use Rattle.omega_model.specs.ReportForms.{printed_report}
use Rattle.omega_model.specs.Trace.{trace_of, no_rows}
use Rattle.omega_model.specs.declared.cells.Need.{Need}
use Rattle.omega_model.specs.declared.cells.TaskKey.{TaskKey}
use Rattle.omega_model.specs.declared.claims.Claim.{Claim}
use Rattle.omega_model.specs.declared.claims.Judgement.{Judgement}
use Rattle.omega_model.specs.declared.claims.Mode.TheVariants.{Incremental, Gang}
use Rattle.omega_model.specs.declared.claims.Rule.TheVariants.{Fine}
use Rattle.omega_model.specs.declared.claims.Txn.{Txn}
use Rattle.omega_model.specs.declared.claims.Verdict.{Verdict}
use Rattle.omega_model.specs.declared.claims.Verdict.TheVariants.{Placed, Full, Withdrawn}
use Rattle.omega_model.specs.declared.entries.Entry.{Entry}
use Rattle.omega_model.specs.declared.entries.Entry.TheVariants.{Round, MachineAdd, MachineUpdate, End, Commit}
use Rattle.omega_model.specs.declared.rows.Table.{Table}
use Rattle.omega_model.specs.declared.rows.Table.TheVariants.{MachineEvents, MachineAttributes, TaskEvents, TaskConstraints, MapreduceJobs, MachineDisk}
use Rattle.omega_model.specs.declared.rows.TraceTables.{TraceTables}
use Rattle.omega_model.specs.declared.settings.Clock.TheVariants as clock
use Rattle.omega_model.specs.declared.settings.Command.{Command}
use Rattle.omega_model.specs.declared.settings.Command.TheVariants.{Replay, Generate}
use Rattle.omega_model.specs.declared.settings.Ends.TheVariants as ends
use Rattle.omega_model.specs.declared.settings.Extra.TheVariants.{Relative}
use Rattle.omega_model.specs.declared.settings.Format.{Format}
use Rattle.omega_model.specs.declared.settings.Format.TheVariants.{Text, Json}
use Rattle.omega_model.specs.declared.settings.Preempt.TheVariants.{Nobody, All}
use Rattle.omega_model.specs.declared.settings.Settings.{Settings}

-- the settings of a command in a format, and else the defaults
unfoldable settings : Command → Format → Settings
settings command format = record {
  command = command;
  seed = 0;
  batch = 1;
  rule = Fine;
  mode = Incremental;
  preempt = Nobody;
  extra = Relative;
  tries = 5;
  give_up = 1000;
  window = 300000000;
  format = format;
  machines = 64;
  jobs = 500;
  t_job = 100000;
  t_task = 5000;
  service_t_job = 100000;
  service_t_task = 5000;
  clock = clock.Rounds;
  times = false;
  ends = ends.Trace;
}

-- CPU and memory alike, and disk
unfoldable amount : ℕ → ℕ → Need
amount n disk = record { cpu = n; mem = n; disk = disk }

unfoldable key : ℕ → ℕ → TaskKey
key job index = record { job = job; index = index }

-- a claim with this need and precedence
unfoldable claim : ℕ → ℕ → ℕ → Need → ℕ → List TaskKey → Claim
claim job index machine need prec victims =
    record { key = key job index; machine = machine; spec = record { need = need; prec = prec; differ = false }; victims = victims }

unfoldable asks : ℕ → List Claim → Txn
asks job claims = record { job = job; rule = Fine; mode = Incremental; claims = claims }

unfoldable placed : Judgement
placed = record { verdict = Placed; evicted = [] }

-- the bytes of tables of machines and of tasks, where all others are empty
unfoldable two_tables : List ℕ → List ℕ → Table → List ℕ
two_tables machines tasks MachineEvents = machines
two_tables machines tasks MachineAttributes = []
two_tables machines tasks TaskEvents = tasks
two_tables machines tasks TaskConstraints = []
two_tables machines tasks MapreduceJobs = []
two_tables machines tasks MachineDisk = []

-- one machine, and one task that goes on it
unfoldable one_machine : TraceTables
one_machine = trace_of (two_tables (codes "0,1,0,p,0.5,0.5\n") (codes "0,,10,0,,0,u,0,1,0.25,0.25,0.001,0\n"))

unfoldable one_placed : List Entry
one_placed =
    Round 0
    ∷ MachineAdd 1 (amount 500000000 1000000000000)
    ∷ Commit 1 2 (asks 10 (claim 10 0 1 (amount 250000000 1000000) 1 [] ∷ [])) (placed ∷ []) ∷ []

one_machine_text : printed_report (settings Replay Text) one_machine one_placed ≡
    codes "omega 2\n"
    ++ codes "round 0\n"
    ++ codes "commit 1 2 10\n"
    ++ codes "place 10 0 1\n"
    ++ codes "use cpu 250000000 500000000 mem 250000000 500000000 disk 1000000 1000000000000\n"
    ++ codes "entries 3 rounds 1\n"
    ++ codes "scheduler 0 commits 0 empty 0 placing 0 conflicted 0 placed 0 refused 0 withdrawn 0 evicted 0\n"
    ++ codes "scheduler 1 commits 1 empty 0 placing 1 conflicted 0 placed 1 refused 0 withdrawn 0 evicted 0\n"
    ++ codes "scheduler 2 commits 0 empty 0 placing 0 conflicted 0 placed 0 refused 0 withdrawn 0 evicted 0\n"
    ++ codes "use cpu 250000000 500000000 mem 250000000 500000000 disk 1000000 1000000000000\n"
    ++ codes "waiting 0 abandoned 0\n"
unfolding settings amount key claim asks placed two_tables one_machine one_placed digits csv_on_literals ten_to
one_machine_text = refl

-- the same as JSON: an item for each line, and one line feed at the end
one_machine_json : printed_report (settings Replay Json) one_machine one_placed ≡
    codes "[[\"omega\",2],"
    ++ codes "[\"round\",0],"
    ++ codes "[\"commit\",1,2,10],"
    ++ codes "[\"place\",10,0,1],"
    ++ codes "[\"use\",\"cpu\",250000000,500000000,\"mem\",250000000,500000000,\"disk\",1000000,1000000000000],"
    ++ codes "[\"entries\",3,\"rounds\",1],"
    ++ codes "[\"scheduler\",0,\"commits\",0,\"empty\",0,\"placing\",0,\"conflicted\",0,\"placed\",0,\"refused\",0,\"withdrawn\",0,\"evicted\",0],"
    ++ codes "[\"scheduler\",1,\"commits\",1,\"empty\",0,\"placing\",1,\"conflicted\",0,\"placed\",1,\"refused\",0,\"withdrawn\",0,\"evicted\",0],"
    ++ codes "[\"scheduler\",2,\"commits\",0,\"empty\",0,\"placing\",0,\"conflicted\",0,\"placed\",0,\"refused\",0,\"withdrawn\",0,\"evicted\",0],"
    ++ codes "[\"use\",\"cpu\",250000000,500000000,\"mem\",250000000,500000000,\"disk\",1000000,1000000000000],"
    ++ codes "[\"waiting\",0,\"abandoned\",0]]\n"
unfolding settings amount key claim asks placed two_tables one_machine one_placed digits csv_on_literals ten_to
one_machine_json = refl

-- nothing at all
nothing_text : printed_report (settings Replay Text) no_rows [] ≡
    codes "omega 2\n"
    ++ codes "entries 0 rounds 0\n"
    ++ codes "scheduler 0 commits 0 empty 0 placing 0 conflicted 0 placed 0 refused 0 withdrawn 0 evicted 0\n"
    ++ codes "scheduler 1 commits 0 empty 0 placing 0 conflicted 0 placed 0 refused 0 withdrawn 0 evicted 0\n"
    ++ codes "scheduler 2 commits 0 empty 0 placing 0 conflicted 0 placed 0 refused 0 withdrawn 0 evicted 0\n"
    ++ codes "use cpu 0 0 mem 0 0 disk 0 0\n"
    ++ codes "waiting 0 abandoned 0\n"
unfolding settings digits
nothing_text = refl

nothing_json : printed_report (settings Replay Json) no_rows [] ≡
    codes "[[\"omega\",2],"
    ++ codes "[\"entries\",0,\"rounds\",0],"
    ++ codes "[\"scheduler\",0,\"commits\",0,\"empty\",0,\"placing\",0,\"conflicted\",0,\"placed\",0,\"refused\",0,\"withdrawn\",0,\"evicted\",0],"
    ++ codes "[\"scheduler\",1,\"commits\",0,\"empty\",0,\"placing\",0,\"conflicted\",0,\"placed\",0,\"refused\",0,\"withdrawn\",0,\"evicted\",0],"
    ++ codes "[\"scheduler\",2,\"commits\",0,\"empty\",0,\"placing\",0,\"conflicted\",0,\"placed\",0,\"refused\",0,\"withdrawn\",0,\"evicted\",0],"
    ++ codes "[\"use\",\"cpu\",0,0,\"mem\",0,0,\"disk\",0,0],"
    ++ codes "[\"waiting\",0,\"abandoned\",0]]\n"
unfolding settings digits
nothing_json = refl

-- three tasks of 0.3 on a machine that shrinks to half: the two of the lower priority stop, and the request
-- finds no room for them
unfoldable shrinking : TraceTables
shrinking = trace_of (two_tables
    (codes "0,1,0,p,1,1\n" ++ codes "300000000,1,2,p,0.5,0.5\n")
    (codes "0,,10,0,,0,u,0,2,0.3,0.3,,0\n" ++ codes "0,,10,1,,0,u,0,1,0.3,0.3,,0\n" ++ codes "0,,10,2,,0,u,0,1,0.3,0.3,,0\n"))

unfoldable task_of_three : ℕ → ℕ → Claim
task_of_three index prec = claim 10 index 1 (amount 300000000 0) prec []

unfoldable shrunk : List Entry
shrunk =
    Round 0
    ∷ MachineAdd 1 (amount 1000000000 1000000000000)
    ∷ Commit 1 2 (asks 10 (task_of_three 0 2 ∷ task_of_three 1 1 ∷ task_of_three 2 1 ∷ [])) (placed ∷ placed ∷ placed ∷ [])
    ∷ Round 1
    ∷ MachineUpdate 1 (amount 500000000 1000000000000)
    ∷ Commit 1 5 (asks 10 []) [] ∷ []

displaces : printed_report (settings Replay Text) shrinking shrunk ≡
    codes "omega 2\n"
    ++ codes "round 0\n"
    ++ codes "commit 1 2 10\n"
    ++ codes "place 10 0 1\n"
    ++ codes "place 10 1 1\n"
    ++ codes "place 10 2 1\n"
    ++ codes "use cpu 900000000 1000000000 mem 900000000 1000000000 disk 0 1000000000000\n"
    ++ codes "round 1\n"
    ++ codes "displace 10 1 1\n"
    ++ codes "displace 10 2 1\n"
    ++ codes "commit 1 5 10\n"
    ++ codes "use cpu 300000000 500000000 mem 300000000 500000000 disk 0 1000000000000\n"
    ++ codes "entries 6 rounds 2\n"
    ++ codes "scheduler 0 commits 0 empty 0 placing 0 conflicted 0 placed 0 refused 0 withdrawn 0 evicted 0\n"
    ++ codes "scheduler 1 commits 2 empty 1 placing 1 conflicted 0 placed 3 refused 0 withdrawn 0 evicted 0\n"
    ++ codes "scheduler 2 commits 0 empty 0 placing 0 conflicted 0 placed 0 refused 0 withdrawn 0 evicted 0\n"
    ++ codes "use cpu 300000000 500000000 mem 300000000 500000000 disk 0 1000000000000\n"
    ++ codes "waiting 2 abandoned 0\n"
unfolding settings amount key claim asks placed two_tables shrinking task_of_three shrunk digits csv_on_literals ten_to
displaces = refl

-- two jobs of two tasks, and one commit that places nothing is enough to give a job up: job 10 is given
-- up at once, and job 11 after its first task was placed
unfoldable crowd : TraceTables
crowd = trace_of (two_tables (codes "0,1,0,p,0.5,0.5\n")
    (codes "0,,10,0,,0,u,0,1,0.6,0.6,,0\n" ++ codes "0,,10,1,,0,u,0,1,0.7,0.7,,0\n"
    ++ codes "0,,11,0,,0,u,0,1,0.4,0.4,,0\n" ++ codes "0,,11,1,,0,u,0,1,0.4,0.4,,0\n"))

unfoldable given : List Entry
given =
    Round 0
    ∷ MachineAdd 1 (amount 500000000 1000000000000)
    ∷ Commit 1 2 (asks 10 []) []
    ∷ Commit 1 3 (asks 11 (claim 11 0 1 (amount 400000000 0) 1 [] ∷ [])) (placed ∷ [])
    ∷ Commit 1 4 (asks 11 []) [] ∷ []

gives_up : printed_report (record (settings Replay Text) { give_up = 1 }) crowd given ≡
    codes "omega 2\n"
    ++ codes "round 0\n"
    ++ codes "commit 1 2 10\n"
    ++ codes "commit 1 3 11\n"
    ++ codes "place 11 0 1\n"
    ++ codes "commit 1 4 11\n"
    ++ codes "use cpu 400000000 500000000 mem 400000000 500000000 disk 0 1000000000000\n"
    ++ codes "entries 5 rounds 1\n"
    ++ codes "scheduler 0 commits 0 empty 0 placing 0 conflicted 0 placed 0 refused 0 withdrawn 0 evicted 0\n"
    ++ codes "scheduler 1 commits 3 empty 2 placing 1 conflicted 0 placed 1 refused 0 withdrawn 0 evicted 0\n"
    ++ codes "scheduler 2 commits 0 empty 0 placing 0 conflicted 0 placed 0 refused 0 withdrawn 0 evicted 0\n"
    ++ codes "use cpu 400000000 500000000 mem 400000000 500000000 disk 0 1000000000000\n"
    ++ codes "waiting 3 abandoned 2\n"
unfolding settings amount key claim asks placed two_tables crowd given digits csv_on_literals ten_to
gives_up = refl

-- a task that makes room for one of higher priority
unfoldable rivals : TraceTables
rivals = trace_of (two_tables (codes "0,1,0,p,0.5,0.5\n")
    (codes "0,,10,0,,0,u,0,1,0.4,0.4,,0\n" ++ codes "300000000,,12,0,,0,u,0,9,0.4,0.4,,0\n"))

unfoldable rival_claim : ℕ → ℕ → List TaskKey → Claim
rival_claim job prec victims = claim job 0 1 (amount 400000000 0) prec victims

unfoldable evicted : List Entry
evicted =
    Round 0
    ∷ MachineAdd 1 (amount 500000000 1000000000000)
    ∷ Commit 1 2 (asks 10 (rival_claim 10 1 [] ∷ [])) (placed ∷ [])
    ∷ Round 1
    ∷ Commit 1 4 (asks 12 (rival_claim 12 9 (key 10 0 ∷ []) ∷ [])) (record { verdict = Placed; evicted = key 10 0 ∷ [] } ∷ []) ∷ []

evicts : printed_report (record (settings Replay Text) { preempt = All }) rivals evicted ≡
    codes "omega 2\n"
    ++ codes "round 0\n"
    ++ codes "commit 1 2 10\n"
    ++ codes "place 10 0 1\n"
    ++ codes "use cpu 400000000 500000000 mem 400000000 500000000 disk 0 1000000000000\n"
    ++ codes "round 1\n"
    ++ codes "commit 1 4 12\n"
    ++ codes "evict 10 0 1\n"
    ++ codes "place 12 0 1\n"
    ++ codes "use cpu 400000000 500000000 mem 400000000 500000000 disk 0 1000000000000\n"
    ++ codes "entries 5 rounds 2\n"
    ++ codes "scheduler 0 commits 0 empty 0 placing 0 conflicted 0 placed 0 refused 0 withdrawn 0 evicted 0\n"
    ++ codes "scheduler 1 commits 2 empty 0 placing 2 conflicted 0 placed 2 refused 0 withdrawn 0 evicted 1\n"
    ++ codes "scheduler 2 commits 0 empty 0 placing 0 conflicted 0 placed 0 refused 0 withdrawn 0 evicted 0\n"
    ++ codes "use cpu 400000000 500000000 mem 400000000 500000000 disk 0 1000000000000\n"
    ++ codes "waiting 1 abandoned 0\n"
unfolding settings amount key claim asks placed two_tables rivals rival_claim evicted digits csv_on_literals ten_to
evicts = refl

-- a gang that is withdrawn for its second claim, and placed once there is room
unfoldable gang_trace : TraceTables
gang_trace = trace_of (two_tables
    (codes "0,1,0,p,0.5,0.5\n" ++ codes "0,2,0,p,1,1\n")
    (codes "0,,4,0,,0,u,2,9,0.4,0.4,,0\n" ++ codes "0,,10,0,,0,u,0,1,0.6,0.6,,0\n"
    ++ codes "0,,10,1,,0,u,0,1,0.5,0.5,,0\n" ++ codes "0,,10,2,,0,u,0,1,0.4,0.4,,0\n"
    ++ codes "300000000,,4,0,,4,u,2,9,0.4,0.4,,0\n"))

unfoldable gang : ℕ → List Claim → Txn
gang job claims = record { job = job; rule = Fine; mode = Gang; claims = claims }

unfoldable three_claims : List Claim
three_claims =
    claim 10 0 2 (amount 600000000 0) 1 []
    ∷ claim 10 1 1 (amount 500000000 0) 1 []
    ∷ claim 10 2 2 (amount 400000000 0) 1 [] ∷ []

unfoldable refused : Verdict → Judgement
refused verdict = record { verdict = verdict; evicted = [] }

unfoldable gangs : List Entry
gangs =
    Round 0
    ∷ MachineAdd 1 (amount 500000000 1000000000000)
    ∷ MachineAdd 2 (amount 1000000000 1000000000000)
    ∷ Commit 0 3 (gang 4 (claim 4 0 1 (amount 400000000 0) 9 [] ∷ [])) (placed ∷ [])
    ∷ Commit 1 3 (gang 10 three_claims)
    (refused (Withdrawn 1) ∷ refused (Full (amount 100000000 1000000000000)) ∷ refused (Withdrawn 1) ∷ [])
    ∷ Commit 1 5 (gang 10 []) []
    ∷ Round 1
    ∷ End (key 4 0) 1
    ∷ Commit 1 8 (gang 10 three_claims) (placed ∷ placed ∷ placed ∷ []) ∷ []

withdraws : printed_report (record (settings Replay Text) { mode = Gang }) gang_trace gangs ≡
    codes "omega 2\n"
    ++ codes "round 0\n"
    ++ codes "commit 0 3 4\n"
    ++ codes "place 4 0 1\n"
    ++ codes "commit 1 3 10\n"
    ++ codes "refuse 10 0 2 withdrawn 1\n"
    ++ codes "refuse 10 1 1 full 100000000 100000000 1000000000000\n"
    ++ codes "refuse 10 2 2 withdrawn 1\n"
    ++ codes "commit 1 5 10\n"
    ++ codes "use cpu 400000000 1500000000 mem 400000000 1500000000 disk 0 2000000000000\n"
    ++ codes "round 1\n"
    ++ codes "end 4 0 1\n"
    ++ codes "commit 1 8 10\n"
    ++ codes "place 10 0 2\n"
    ++ codes "place 10 1 1\n"
    ++ codes "place 10 2 2\n"
    ++ codes "use cpu 1500000000 1500000000 mem 1500000000 1500000000 disk 0 2000000000000\n"
    ++ codes "entries 9 rounds 2\n"
    ++ codes "scheduler 0 commits 1 empty 0 placing 1 conflicted 0 placed 1 refused 0 withdrawn 0 evicted 0\n"
    ++ codes "scheduler 1 commits 3 empty 1 placing 1 conflicted 1 placed 3 refused 1 withdrawn 2 evicted 0\n"
    ++ codes "scheduler 2 commits 0 empty 0 placing 0 conflicted 0 placed 0 refused 0 withdrawn 0 evicted 0\n"
    ++ codes "use cpu 1500000000 1500000000 mem 1500000000 1500000000 disk 0 2000000000000\n"
    ++ codes "waiting 0 abandoned 0\n"
unfolding settings amount key claim asks placed two_tables gang_trace gang three_claims refused gangs digits csv_on_literals ten_to
withdraws = refl

-- the summary of `generate` for one machine and no job: the first line and what the history comes to
unfoldable one_made : List Entry
one_made = Round 0 ∷ MachineAdd 1 (amount 750000000 1000000000000) ∷ []

summary : printed_report (record (settings Generate Text) { machines = 1; jobs = 0 })
    (trace_of (two_tables (codes "0,1,0,g,0.75,0.75\n") [])) one_made ≡
    codes "omega 2\n"
    ++ codes "entries 2 rounds 1\n"
    ++ codes "scheduler 0 commits 0 empty 0 placing 0 conflicted 0 placed 0 refused 0 withdrawn 0 evicted 0\n"
    ++ codes "scheduler 1 commits 0 empty 0 placing 0 conflicted 0 placed 0 refused 0 withdrawn 0 evicted 0\n"
    ++ codes "scheduler 2 commits 0 empty 0 placing 0 conflicted 0 placed 0 refused 0 withdrawn 0 evicted 0\n"
    ++ codes "use cpu 0 750000000 mem 0 750000000 disk 0 1000000000000\n"
    ++ codes "waiting 0 abandoned 0\n"
unfolding settings amount two_tables one_made digits csv_on_literals ten_to
summary = refl
