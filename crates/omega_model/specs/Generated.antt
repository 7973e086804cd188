-- The tables that `generate` makes. Its words are numbered from 0: the first go to the machines, one to
-- each, and then come six for each job.
use Rattle.std.specs.Prelude.{ℕ, List, [], ◌∷◌, ◌++◌, ◌+◌, ◌*◌, ◌/◌, ◌%◌, ◌==◌, codes, decimal, if◌then◌else◌}
use Rattle.std.specs.List.{flat_map, join_with_byte, range_with_len}
use Rattle.omega_model.specs.Draws.{new_generator, word_at}
use Rattle.omega_model.specs.declared.rows.Table.{Table}
use Rattle.omega_model.specs.declared.rows.Table.TheVariants.{MachineEvents, MachineAttributes, TaskEvents, TaskConstraints, MapreduceJobs, MachineDisk}

-- a row of a table: its fields parted by commas, and a line feed
abbrev pub row_text : List (List ℕ) → List ℕ
row_text fields = join_with_byte 44 fields ++ 10 ∷ []

-- the capacity that a word gives a machine, of CPU and of memory
abbrev pub capacity_text : ℕ → List ℕ
capacity_text word =
    if word % 3 == 0 then codes "0.5" else (if word % 3 == 1 then codes "0.75" else codes "1")

-- the row that adds a machine at time 0; machines are numbered from 1, and their words from 0
abbrev pub machine_text : (ℕ → ℕ) → ℕ → List ℕ
machine_text word place = row_text (
    codes "0" ∷ decimal (place + 1) ∷ codes "0" ∷ codes "g"
    ∷ capacity_text (word place) ∷ capacity_text (word place) ∷ [])

-- a job: how many tasks it has, their class and priority, the CPU and the memory of each in
-- thousandths, and how many times five minutes they live
pub record MadeJob : Type 0 where
  pub tasks : ℕ
  pub class : ℕ
  pub priority : ℕ
  pub cpu : ℕ
  pub mem : ℕ
  pub life : ℕ

-- the job of six words from this one on
abbrev pub made_job : (ℕ → ℕ) → ℕ → MadeJob
made_job word first = record {
  tasks = 1 + word first % 8;
  class = word (first + 1) % 4;
  priority = word (first + 2) % 12;
  cpu = 1 + word (first + 3) % 50;
  mem = 1 + word (first + 4) % 50;
  life = 1 + word (first + 5) % 20;
}

-- so many thousandths, fewer than a hundred
abbrev pub thousandths : ℕ → List ℕ
thousandths amount = codes "0.0" ++ (48 + amount / 10) ∷ (48 + amount % 10) ∷ []

-- the row of a task of a job at a time, with the code of the event
abbrev pub task_text : MadeJob → ℕ → ℕ → ℕ → ℕ → List ℕ
task_text job number time code index = row_text (
    decimal time ∷ [] ∷ decimal number ∷ decimal index ∷ [] ∷ decimal code ∷ codes "g"
    ∷ decimal job.class ∷ decimal job.priority
    ∷ thousandths job.cpu ∷ thousandths job.mem ∷ [] ∷ codes "0" ∷ [])

-- the rows of all tasks of a job at a time, by index, with the code of the event
abbrev pub tasks_text : MadeJob → ℕ → ℕ → ℕ → List ℕ
tasks_text job number time code = flat_map (task_text job number time code) (range_with_len 0 job.tasks)

-- when the job of a number is submitted, in microseconds: a trace begins at 600 seconds, and a job comes
-- every 10 seconds
abbrev pub submit_time : ℕ → ℕ
submit_time number = 600000000 + 10000000 * number

-- the rows of a job: its tasks are submitted, and finish when their life is over
abbrev pub job_text : MadeJob → ℕ → List ℕ
job_text job number =
    tasks_text job number (submit_time number) 0
    ++ tasks_text job number (submit_time number + 300000000 * job.life) 4

-- the rows of the job at a place, where the words of the jobs begin with this one; jobs are numbered from 1
abbrev pub job_at : (ℕ → ℕ) → ℕ → ℕ → List ℕ
job_at word first place = job_text (made_job word (first + 6 * place)) (place + 1)

-- the bytes of each table made of some words, for so many machines and jobs
abbrev pub made_of : (ℕ → ℕ) → ℕ → ℕ → Table → List ℕ
made_of word machines jobs MachineEvents = flat_map (machine_text word) (range_with_len 0 machines)
made_of word machines jobs MachineAttributes = []
made_of word machines jobs TaskEvents = flat_map (job_at word machines) (range_with_len 0 jobs)
made_of word machines jobs TaskConstraints = []
made_of word machines jobs MapreduceJobs = []
made_of word machines jobs MachineDisk = []

-- the bytes of each table made of a seed, by the words of the generator's stream 0
abbrev pub generated : ℕ → ℕ → ℕ → Table → List ℕ
generated seed machines jobs = made_of (word_at (new_generator seed 0)) machines jobs
