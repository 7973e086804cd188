-- The extra tasks of MapReduce jobs: which are asked for, and when they end.
use Rattle.std.specs.Prelude.{ℕ, Bool, List, [], ◌∷◌, Option, Some, None, ◌+◌, ◌^◌, ◌<◌, ◌==◌, ◌&&◌, not, nat_lt, nat_le, length, map, take, if◌then◌else◌, false}
use Rattle.std.specs.List.{filter, last_or, list_any, range_with_len}
use Rattle.omega_model.specs.Cell.{Cell, use_on}
use Rattle.omega_model.specs.Extras.{extras}
use Rattle.omega_model.specs.Need.{nothing, plus}
use Rattle.omega_model.specs.Wanted.{WantedTask}
use Rattle.omega_model.specs.Wishes.{constraints_of}
use Rattle.omega_model.specs.declared.cells.Machine.{Machine}
use Rattle.omega_model.specs.declared.cells.Need.{Need}
use Rattle.omega_model.specs.declared.cells.Task.{Task}
use Rattle.omega_model.specs.declared.entries.Entry.{Entry}
use Rattle.omega_model.specs.declared.entries.Entry.TheVariants.{End}
use Rattle.omega_model.specs.declared.rows.TraceTables.{TraceTables}
use Rattle.omega_model.specs.declared.settings.Settings.{Settings}
use Rattle.omega_model.specs.declared.wishes.Wish.{Wish}

-- the first index of extra tasks; the tasks of the trace have lower ones
abbrev pub first_extra : ℕ
first_extra = 2 ^ 31

-- a wanted task is none of the extras: its index is lower than theirs
abbrev pub HasLowIndex : WantedTask → Type 0
HasLowIndex task = task.key.index < first_extra

-- the activities of a job, by the last row for it; nothing where there is no row
abbrev pub activities_of : TraceTables → ℕ → Option ℕ
activities_of trace job =
    last_or None (map (λ row. row.activities) (filter (λ row. row.job == job) trace.activities))

-- whether a running task is an extra of this job
abbrev pub is_extra_of : ℕ → Task → Bool
is_extra_of job task = task.key.job == job && nat_le first_extra task.key.index

-- the running extras of a job, by index
abbrev pub running_extras : Cell → ℕ → List Task
running_extras cell job = filter (is_extra_of job) cell.tasks

-- the wanted tasks of a job, by index
abbrev pub wanted_of : ℕ → List WantedTask → List WantedTask
wanted_of job asked = filter (λ task. task.key.job == job) asked

-- the machines that are up
abbrev pub machines_up : Cell → List Machine
machines_up cell = filter (λ machine. machine.up) cell.machines

-- the sum of some amounts
abbrev pub sum_of : List Need → Need
sum_of [] = nothing
sum_of (need ∷ needs) = plus need (sum_of needs)

-- what is used, and what there is, on all machines that are up
abbrev pub used_in : Cell → Need
used_in cell = sum_of (map (λ machine. use_on cell.tasks machine.id) (machines_up cell))

abbrev pub capacity_in_all : Cell → Need
capacity_in_all cell = sum_of (map (λ machine. machine.cap) (machines_up cell))

-- how many extras a job gets on a cell, with these activities, these tasks wanted, and extras that
-- need so much
abbrev pub extra_count : Settings → Cell → ℕ → ℕ → List WantedTask → Need → ℕ
extra_count settings cell job activities asked need =
    extras settings.extra activities (length (wanted_of job asked)) (length (running_extras cell job)) need
    (used_in cell) (capacity_in_all cell)

-- so many of the least indexes of extras that aren't among these
abbrev pub free_indexes : List ℕ → ℕ → List ℕ
free_indexes held count = take count
    (filter (λ index. not (list_any (λ other. other == index) held)) (range_with_len first_extra (length held + count)))

-- the wish for an extra of this index: it needs what a wanted task needs and has its constraints, its
-- precedence is the lowest, and it may run beside others of its job
abbrev pub extra_wish : TraceTables → WantedTask → ℕ → Wish
extra_wish trace model index = record {
  key = record { job = model.key.job; index = index };
  spec = record { need = model.spec.need; prec = 0; differ = false };
  constraints = constraints_of trace model;
}

-- the wishes for extras of a job with these activities, after the first of its wanted tasks; there are
-- none where it has no wanted task, or no activities are told
abbrev pub wishes_after : Settings → TraceTables → Cell → List WantedTask → ℕ → Option ℕ → List WantedTask → List Wish
wishes_after settings trace cell asked job None models = []
wishes_after settings trace cell asked job (Some activities) [] = []
wishes_after settings trace cell asked job (Some activities) (model ∷ others) =
    map (extra_wish trace model)
    (free_indexes (map (λ task. task.key.index) (running_extras cell job))
    (extra_count settings cell job activities asked model.spec.need))

-- the wishes for a job's extras, by index
abbrev pub wishes_for_extras : Settings → TraceTables → Cell → List WantedTask → ℕ → List Wish
wishes_for_extras settings trace cell asked job =
    wishes_after settings trace cell asked job (activities_of trace job) (wanted_of job asked)

-- whether a task of the trace is still wanted of a job
abbrev pub is_wanted : List WantedTask → ℕ → Bool
is_wanted left job = list_any (λ task. task.key.job == job && nat_lt task.key.index first_extra) left

-- the ends of a job's running extras, by index, once no task of the trace is wanted of it any more
abbrev pub ends_of_extras : Cell → List WantedTask → ℕ → List Entry
ends_of_extras cell left job =
    if is_wanted left job then [] else map (λ task. End task.key task.machine) (running_extras cell job)
