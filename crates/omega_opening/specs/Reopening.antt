-- Which tasks an entry may stop, and that their jobs are looked at again.
use Rattle.std.specs.Prelude.{◌≡◌, ℕ, true, All, List, [], ◌∷◌, take}
use Rattle.std.specs.List.{flat_map}
use Rattle.omega_feed.specs.Asked.{Asked}
use Rattle.omega_feed.specs.Open.{IsOpen, OpenPlaces, OthersAreQuiet, StayOpen, is_missed}
use Rattle.omega_model.specs.Cell.{keys_of}
use Rattle.omega_model.specs.State.{ranked_on, state}
use Rattle.omega_model.specs.declared.cells.Task.{Task}
use Rattle.omega_model.specs.declared.cells.TaskKey.{TaskKey}
use Rattle.omega_model.specs.declared.entries.Entry.{Entry}
use Rattle.omega_model.specs.declared.entries.Entry.TheVariants.{Round, MachineAdd, MachineUpdate, MachineRemove, AttrSet, AttrDelete, End, Commit}

-- the keys of the tasks that an entry may stop: all on the machine that it is about, the task that ends,
-- and those that a commit evicted
abbrev pub may_stop : List Task → Entry → List TaskKey
may_stop tasks (Round number) = []
may_stop tasks (MachineAdd machine cap) = keys_of (ranked_on machine tasks)
may_stop tasks (MachineUpdate machine cap) = keys_of (ranked_on machine tasks)
may_stop tasks (MachineRemove machine) = keys_of (ranked_on machine tasks)
may_stop tasks (AttrSet machine name value) = []
may_stop tasks (AttrDelete machine name) = []
may_stop tasks (End key machine) = key ∷ []
may_stop tasks (Commit scheduler seen txn reply) = flat_map (λ judgement. judgement.evicted) reply

-- the job of a task is open, if its end may let something of the job wait
abbrev pub IsOpenIfMissed : OpenPlaces → Asked → TaskKey → Type 0
IsOpenIfMissed places asked key = is_missed asked key ≡ true → IsOpen places asked key.job

-- the jobs of those of these tasks that may be missed are opened, and what was open stays open
pub record OpensJobs (before after : OpenPlaces) (asked : Asked) (keys : List TaskKey) : Type 0 where
  pub stay : StayOpen before after
  pub opened : All (IsOpenIfMissed after asked) keys

-- the jobs that aren't open were quiet at this place of a history
abbrev pub WereQuiet : OpenPlaces → Asked → ℕ → List Entry → Type 0
WereQuiet open_places asked place history = OthersAreQuiet open_places asked (state (take place history)).tasks
