-- What the tables, the settings and the histories of the worked runs are made of. Amounts are in tenths of the greatest machine.
use Rattle.std.proofs.Common.{ℕ, true, false, List, []}
use Rattle.std.specs.Prelude.{◌*◌}
use Rattle.omega_model.specs.Fields.{ActivityFields, MachineFields, TaskFields}
use Rattle.omega_model.specs.declared.cells.Need.{Need}
use Rattle.omega_model.specs.declared.cells.Spec.{Spec}
use Rattle.omega_model.specs.declared.cells.TaskKey.{TaskKey}
use Rattle.omega_model.specs.declared.claims.Claim.{Claim}
use Rattle.omega_model.specs.declared.claims.Judgement.{Judgement}
use Rattle.omega_model.specs.declared.claims.Mode.{Mode}
use Rattle.omega_model.specs.declared.claims.Mode.TheVariants.{Incremental}
use Rattle.omega_model.specs.declared.claims.Rule.{Rule}
use Rattle.omega_model.specs.declared.claims.Rule.TheVariants.{Fine}
use Rattle.omega_model.specs.declared.claims.Txn.{Txn}
use Rattle.omega_model.specs.declared.claims.Verdict.{Verdict}
use Rattle.omega_model.specs.declared.rows.TraceTables.{TraceTables}
use Rattle.omega_model.specs.declared.settings.Clock.TheVariants as clock
use Rattle.omega_model.specs.declared.settings.Command.TheVariants.{Simulate}
use Rattle.omega_model.specs.declared.settings.Ends.TheVariants as ends
use Rattle.omega_model.specs.declared.settings.Extra.TheVariants.{Relative}
use Rattle.omega_model.specs.declared.settings.Format.TheVariants.{Text}
use Rattle.omega_model.specs.declared.settings.Preempt.TheVariants.{Nobody}
use Rattle.omega_model.specs.declared.settings.Settings.{Settings}
use Rattle.omega_laws.specs.VirtualTime.{Timed}

-- an amount of CPU and of memory
unfoldable pub tenths : ℕ → ℕ → Need
tenths cpu mem = record { cpu = cpu * 100000000; mem = mem * 100000000; disk = 0 }

-- a capacity: a machine without a row of disks has the greatest disk
unfoldable pub room : ℕ → ℕ → Need
room cpu mem = record { cpu = cpu * 100000000; mem = mem * 100000000; disk = 1000000000000 }

-- a task's name, of a job and an index
unfoldable pub key : ℕ → ℕ → TaskKey
key job index = record { job = job; index = index }

-- what a task asks for, with its precedence
unfoldable pub spec : ℕ → ℕ → ℕ → Spec
spec prec cpu mem = record { need = tenths cpu mem; prec = prec; differ = false }

-- the same of a task that stands on a machine without others of its job
unfoldable pub apart : ℕ → ℕ → ℕ → Spec
apart prec cpu mem = record { need = tenths cpu mem; prec = prec; differ = true }

-- a row of the tasks: its time, task, code and class, and what the task asks for
unfoldable pub task_row : ℕ → TaskKey → ℕ → ℕ → Spec → TaskFields
task_row time key code class spec = record { time = time; key = key; code = code; class = class; spec = spec }

-- a row of the machines: its time, machine and code, and the capacity
unfoldable pub machine_row : ℕ → ℕ → ℕ → Need → MachineFields
machine_row time machine code cap = record { time = time; machine = machine; code = code; cap = cap }

-- a row of the activities of MapReduce jobs
unfoldable pub activity : ℕ → ℕ → ActivityFields
activity job count = record { job = job; activities = count }

-- a trace of three tables
unfoldable pub tables : List MachineFields → List TaskFields → List ActivityFields → TraceTables
tables machines tasks activities = record { machines = machines; attrs = []; tasks = tasks; constraints = []; activities = activities; disks = [] }

-- the settings of `simulate` with no further word
unfoldable pub plain : Settings
plain = record {
  command = Simulate;
  seed = 0;
  batch = 1;
  rule = Fine;
  mode = Incremental;
  preempt = Nobody;
  extra = Relative;
  tries = 5;
  give_up = 1000;
  window = 300000000;
  format = Text;
  machines = 64;
  jobs = 500;
  t_job = 100000;
  t_task = 5000;
  service_t_job = 100000;
  service_t_task = 5000;
  clock = clock.Rounds;
  times = false;
  ends = ends.Trace;
}

-- a claim of a task on a machine, with its victims
unfoldable pub claim : TaskKey → ℕ → Spec → List TaskKey → Claim
claim key machine spec victims = record { key = key; machine = machine; spec = spec; victims = victims }

-- the transaction of a job
unfoldable pub txn : ℕ → Rule → Mode → List Claim → Txn
txn job rule mode claims = record { job = job; rule = rule; mode = mode; claims = claims }

-- what is answered to a claim, with the tasks that it evicted
unfoldable pub judged : Verdict → List TaskKey → Judgement
judged verdict evicted = record { verdict = verdict; evicted = evicted }

-- the commit at a place, its scheduler, and when that synced and committed
unfoldable pub at_time : ℕ → ℕ → ℕ → ℕ → Timed
at_time place scheduler sync time = record { place = place; scheduler = scheduler; sync = sync; time = time }
