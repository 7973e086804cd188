-- A worked answer: the whole report of some rows in the form of the published trace.
use Rattle.std.proofs.Common.{◌≡◌, ℕ, Bool, true, false, List, [], ◌∷◌, ◌++◌, refl, codes}
use Rattle.std.specs.Fmt.{digits}
use Rattle.csv.proofs.OnLiterals.{csv_on_literals}
use Rattle.omega_model.specs.Numbers.{ten_to}
use Rattle.omega_model.specs.ReportForms.{printed_report}
use Rattle.omega_model.specs.Trace.{trace_of}
use Rattle.omega_model.specs.declared.cells.Need.{Need}
use Rattle.omega_model.specs.declared.claims.Claim.{Claim}
use Rattle.omega_model.specs.declared.claims.Judgement.{Judgement}
use Rattle.omega_model.specs.declared.claims.Mode.TheVariants.{Incremental}
use Rattle.omega_model.specs.declared.claims.Rule.TheVariants.{Fine}
use Rattle.omega_model.specs.declared.claims.Txn.{Txn}
use Rattle.omega_model.specs.declared.claims.Verdict.TheVariants.{Placed}
use Rattle.omega_model.specs.declared.entries.Entry.{Entry}
use Rattle.omega_model.specs.declared.entries.Entry.TheVariants.{Round, MachineAdd, AttrSet, End, Commit}
use Rattle.omega_model.specs.declared.rows.Table.{Table}
use Rattle.omega_model.specs.declared.rows.Table.TheVariants.{MachineEvents, MachineAttributes, TaskEvents, TaskConstraints, MapreduceJobs, MachineDisk}
use Rattle.omega_model.specs.declared.settings.Clock.TheVariants as clock
use Rattle.omega_model.specs.declared.settings.Command.TheVariants.{Replay}
use Rattle.omega_model.specs.declared.settings.Ends.TheVariants as ends
use Rattle.omega_model.specs.declared.settings.Extra.TheVariants.{Relative}
use Rattle.omega_model.specs.declared.settings.Format.TheVariants.{Text}
use Rattle.omega_model.specs.declared.settings.Preempt.TheVariants.{Nobody}
use Rattle.omega_model.specs.declared.settings.Settings.{Settings}

unfoldable settings : Settings
settings = record {
  command = Replay;
  seed = 0;
  batch = 1;
  rule = Fine;
  mode = Incremental;
  preempt = Nobody;
  extra = Relative;
  tries = 5;
  give_up = 1000;
  window = 300000000;
  format = Text;
  machines = 64;
  jobs = 500;
  t_job = 100000;
  t_task = 5000;
  service_t_job = 100000;
  service_t_task = 5000;
  clock = clock.Rounds;
  times = false;
  ends = ends.Trace;
}

-- two tasks that were submitted on machines, a task that is killed, and two that must be apart, of which
-- one is killed before it ran
unfoldable slice : Table → List ℕ
slice MachineEvents =
    codes "0,5,0,platA/8Ildj2+Lq=,0.5,0.2493\n"
    ++ codes "0,6,0,platA/8Ildj2+Lq=,0.5,0.2493\n"
    ++ codes "0,7,0,,0.5,0.4995\n"
    ++ codes "0,10,0,,0.25,0.2498\n"
slice MachineAttributes =
    codes "0,5,kernel,17,0\n"
    ++ codes "0,6,kernel,17,0\n"
    ++ codes "0,7,kernel,21,0\n"
slice TaskEvents =
    codes "0,2,3418309,0,5,0,userA/1PCdI6fVX=,3,9,0.125,0.07446,0.0004244,0\n"
    ++ codes "0,2,3418309,1,6,0,userA/1PCdI6fVX=,3,9,0.125,0.07446,0.0004244,0\n"
    ++ codes "0,,3418314,0,,1,userB+5CKRSa72=,0,1,0.0625,0.0636,0.0001,\n"
    ++ codes "612183636,,3418314,0,,4,userB+5CKRSa72=,0,1,0.0625,0.0636,0.0001,\n"
    ++ codes "612183700,,6221861800,0,,0,userB+5CKRSa72=,1,0,0.38,0.1,,1\n"
    ++ codes "612183700,,6221861800,1,,0,userB+5CKRSa72=,1,0,0.38,0.1,,1\n"
    ++ codes "612183800,,6221861800,0,,1,userB+5CKRSa72=,1,0,0.38,0.1,,1\n"
    ++ codes "900000000,0,6221861800,1,,5,userB+5CKRSa72=,1,0,0.38,0.1,,1\n"
slice TaskConstraints =
    codes "0,3418309,1,3,kernel,20\n"
slice MapreduceJobs = []
slice MachineDisk = []

unfoldable amount : ℕ → ℕ → ℕ → Need
amount cpu mem disk = record { cpu = cpu; mem = mem; disk = disk }

-- a machine is added; it has all disk that there can be
unfoldable machine : ℕ → ℕ → ℕ → Entry
machine id cpu mem = MachineAdd id (amount cpu mem 1000000000000)

unfoldable claim : ℕ → ℕ → ℕ → Need → ℕ → Bool → Claim
claim job index machine need prec differ =
    record { key = record { job = job; index = index }; machine = machine; spec = record { need = need; prec = prec; differ = differ }; victims = [] }

unfoldable asks : ℕ → List Claim → Txn
asks job claims = record { job = job; rule = Fine; mode = Incremental; claims = claims }

unfoldable placed : Judgement
placed = record { verdict = Placed; evicted = [] }

-- its history
unfoldable run : List Entry
run =
    Round 0
    ∷ machine 5 500000000 249300000 ∷ machine 6 500000000 249300000
    ∷ machine 7 500000000 499500000 ∷ machine 10 250000000 249800000
    ∷ AttrSet 5 (codes "kernel") (codes "17") ∷ AttrSet 6 (codes "kernel") (codes "17")
    ∷ AttrSet 7 (codes "kernel") (codes "21")
    ∷ Commit 0 8
    (asks 3418309 (claim 3418309 0 5 (amount 125000000 74460000 424400) 9 false
    ∷ claim 3418309 1 7 (amount 125000000 74460000 424400) 9 false ∷ []))
    (placed ∷ placed ∷ [])
    ∷ Commit 1 8 (asks 3418314 (claim 3418314 0 6 (amount 62500000 63600000 100000) 1 false ∷ [])) (placed ∷ [])
    ∷ Round 2
    ∷ End (record { job = 3418314; index = 0 }) 6
    ∷ Commit 1 12 (asks 6221861800 (claim 6221861800 0 6 (amount 380000000 100000000 0) 0 true ∷ [])) (placed ∷ [])
    ∷ Commit 1 13 (asks 6221861800 []) []
    ∷ Round 3 ∷ []

slice_report : printed_report settings (trace_of slice) run ≡
    codes "omega 2\n"
    ++ codes "round 0\n"
    ++ codes "commit 0 8 3418309\n"
    ++ codes "place 3418309 0 5\n"
    ++ codes "place 3418309 1 7\n"
    ++ codes "commit 1 8 3418314\n"
    ++ codes "place 3418314 0 6\n"
    ++ codes "use cpu 312500000 1750000000 mem 212520000 1247900000 disk 948800 4000000000000\n"
    ++ codes "round 2\n"
    ++ codes "end 3418314 0 6\n"
    ++ codes "commit 1 12 6221861800\n"
    ++ codes "place 6221861800 0 6\n"
    ++ codes "commit 1 13 6221861800\n"
    ++ codes "use cpu 630000000 1750000000 mem 248920000 1247900000 disk 848800 4000000000000\n"
    ++ codes "round 3\n"
    ++ codes "use cpu 630000000 1750000000 mem 248920000 1247900000 disk 848800 4000000000000\n"
    ++ codes "entries 15 rounds 3\n"
    ++ codes "scheduler 0 commits 1 empty 0 placing 1 conflicted 0 placed 2 refused 0 withdrawn 0 evicted 0\n"
    ++ codes "scheduler 1 commits 3 empty 1 placing 2 conflicted 0 placed 2 refused 0 withdrawn 0 evicted 0\n"
    ++ codes "scheduler 2 commits 0 empty 0 placing 0 conflicted 0 placed 0 refused 0 withdrawn 0 evicted 0\n"
    ++ codes "use cpu 630000000 1750000000 mem 248920000 1247900000 disk 848800 4000000000000\n"
    ++ codes "waiting 0 abandoned 0\n"
unfolding settings slice amount machine claim asks placed run digits csv_on_literals ten_to
slice_report = refl
