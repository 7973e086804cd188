-- The fields of the typed rows, and the ranges that each row type keeps.
use Rattle.std.specs.Prelude.{◌≡◌, ℕ, Bool, List, ◌<◌, ◌≤◌, ◌^◌}
use Rattle.omega_model.specs.Need.{Fits}
use Rattle.omega_model.specs.declared.cells.Need.{Need}
use Rattle.omega_model.specs.declared.cells.Spec.{Spec}
use Rattle.omega_model.specs.declared.cells.TaskKey.{TaskKey}
use Rattle.omega_model.specs.declared.wishes.Constraint.{Constraint}

-- what a row of `machine_events` says
pub record MachineFields : Type 0 where
  pub time : ℕ
  pub machine : ℕ
  pub code : ℕ
  pub cap : Need

-- what a row of `machine_attributes` says
pub record AttrFields : Type 0 where
  pub time : ℕ
  pub machine : ℕ
  pub name : List ℕ
  pub value : List ℕ
  pub deleted : Bool

-- what a row of `task_events` says
pub record TaskFields : Type 0 where
  pub time : ℕ
  pub key : TaskKey
  pub code : ℕ
  pub class : ℕ
  pub spec : Spec

-- what a row of `task_constraints` says
pub record ConstraintFields : Type 0 where
  pub key : TaskKey
  pub constraint : Constraint

-- what a row of `mapreduce_jobs` says
pub record ActivityFields : Type 0 where
  pub job : ℕ
  pub activities : ℕ

-- what a row of `machine_disk` says
pub record DiskFields : Type 0 where
  pub machine : ℕ
  pub disk : ℕ

-- the greatest quantity: 1000 times the trace's normalised amount
abbrev pub greatest_quantity : ℕ
greatest_quantity = 1000000000000

-- how many activities a MapReduce job may have
abbrev pub most_activities : ℕ
most_activities = 10000

-- so much of each component
abbrev pub greatest : Need
greatest = record { cpu = greatest_quantity; mem = greatest_quantity; disk = greatest_quantity }

-- the ranges of a machine row, whose table says nothing of disk
pub record IsMachineRow (moment event : ℕ) (capacity : Need) : Type 0 where
  pub time : moment < 2 ^ 63
  pub code : event ≤ 2
  pub cap : Fits capacity greatest
  pub disk : capacity.disk ≡ 0

-- the ranges of a task row
pub record IsTaskRow (moment : ℕ) (name : TaskKey) (event kind : ℕ) (asked : Spec) : Type 0 where
  pub time : moment < 2 ^ 63
  pub index : name.index < 2 ^ 31
  pub code : event ≤ 8
  pub class : kind ≤ 3
  pub need : Fits asked.need greatest
