-- The tables that a run reads: on `generate` those that it makes, on `audit` none, else those that it is handed.
use Rattle.std.specs.Prelude.{◌≡◌, ℕ, Bool, true, false, List, [], Option}
use Rattle.omega_io.specs.Edge.{Tells}
use Rattle.omega_model.specs.Generated.{generated}
use Rattle.omega_model.specs.declared.rows.Table.{Table}
use Rattle.omega_model.specs.declared.settings.Command.{Command}
use Rattle.omega_model.specs.declared.settings.Settings.{Settings}
use Rattle.omega_model.specs.declared.settings.Command.TheVariants.{Audit, Generate, Replay, Resume, Run, Simulate}
use Rattle.omega_top.specs.Commands.{reads_tables}

-- these are the bytes of the tables that a command reads: those of the made tables on `generate`, none on
-- `audit`, and else what is left of the handed tables
abbrev pub ReadsBy : Command → (Table → List ℕ) → (Table → Option (List ℕ)) → (Table → List ℕ) → Type 0
ReadsBy Generate made handed bytes = bytes ≡ made
ReadsBy Audit made handed bytes = ⊥
ReadsBy Replay made handed bytes = Tells handed bytes
ReadsBy Run made handed bytes = Tells handed bytes
ReadsBy Simulate made handed bytes = Tells handed bytes
ReadsBy Resume made handed bytes = Tells handed bytes

-- these are the bytes of the tables that a run reads: those that it makes of its seed, or those that are told
-- to be left of the handed ones
abbrev pub Reads : Settings → (Table → Option (List ℕ)) → (Table → List ℕ) → Type 0
Reads settings = ReadsBy settings.command (generated settings.seed settings.machines settings.jobs)

-- the bytes that are left of the handed tables: none, if these are read, and else all
abbrev pub left_if : Bool → (Table → List ℕ) → Table → List ℕ
left_if true handed table = []
left_if false handed table = handed table

-- the bytes that a run which was done leaves of the handed tables
abbrev pub left_by : Command → (Table → List ℕ) → Table → List ℕ
left_by command = left_if (reads_tables command)

-- nothing was read of any table, and no count of faults moved
pub record StayUnread (rest rest_now : Table → Option (List ℕ)) (count count_now : Table → ℕ) : Type 0 where
  pub rests : (table : Table) → rest_now table ≡ rest table
  pub counts : (table : Table) → count_now table ≡ count table
