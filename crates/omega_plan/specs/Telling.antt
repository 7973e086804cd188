-- What an index tells of the machines of a cell.
use Rattle.std.specs.Prelude.{◌≡◌, ℕ, Bool, false, List, [], ◌∷◌, ◌++◌, Option, Some, None, not, ◌==◌, ◌||◌, length, map, drop, if◌then◌else◌}
use Rattle.std.specs.Option.{option_map_or}
use Rattle.std.specs.List.{filter}
use Rattle.omega_model.specs.Cell.{Cell, total, use_on}
use Rattle.omega_model.specs.Need.{minus}
use Rattle.omega_model.specs.declared.cells.Machine.{Machine}
use Rattle.omega_model.specs.declared.cells.Need.{Need}
use Rattle.omega_model.specs.declared.cells.Spec.{Spec}
use Rattle.omega_model.specs.declared.cells.Task.{Task}
use Rattle.omega_running.specs.Staying.{staying_on, stays_against}

-- what is free on a machine while these tasks run, if it is up
abbrev pub free_on : List Task → Machine → Option Need
free_on tasks machine = if machine.up then Some (minus machine.cap (use_on tasks machine.id)) else None

-- what is free on each machine of a cell, in order of the list
abbrev pub frees_of : Cell → List (Option Need)
frees_of cell = map (free_on cell.tasks) cell.machines

-- what is free on a machine, if it is up, once all tasks of a lower precedence than this one are off it
abbrev pub freed_on : ℕ → List Task → Machine → Option Need
freed_on prec tasks machine = if machine.up then Some (minus machine.cap (staying_on prec tasks machine.id)) else None

-- the same, where these are the tasks on it
abbrev pub freed_beside : ℕ → List Task → Machine → Option Need
freed_beside prec own machine = if machine.up then Some (minus machine.cap (total (filter (stays_against prec) own))) else None

-- what is free once all tasks of a lower precedence are off, on each machine of a cell, in order of the list
abbrev pub freed_of : ℕ → Cell → List (Option Need)
freed_of prec cell = map (freed_on prec cell.tasks) cell.machines

-- what is left of what is free once one more task runs
abbrev pub taken_by : Spec → Need → Need
taken_by spec amount = minus amount spec.need

-- an index tells what evictions for this precedence could free on each machine, but perhaps not on those
-- whose numbers pass the test `stale`
abbrev pub TellsBut : (ℕ → Bool) → ℕ → List Task → List (Option Need) → List Machine → Type 0
TellsBut stale prec tasks [] [] = Unit {0}
TellsBut stale prec tasks [] (machine ∷ machines) = ⊥
TellsBut stale prec tasks (free ∷ frees) [] = ⊥
TellsBut stale prec tasks (free ∷ frees) (machine ∷ machines) =
    (stale machine.id ≡ false → free ≡ freed_on prec tasks machine) × TellsBut stale prec tasks frees machines

-- whether a number is this one, or passes a test
abbrev pub is_this_or : ℕ → (ℕ → Bool) → ℕ → Bool
is_this_or machine stale id = machine == id || stale id

-- whether a number is the one that was found, if one was
abbrev pub is_found : Option ℕ → ℕ → Bool
is_found found id = option_map_or (λ machine. machine == id) found false

-- an index tells what evictions could free on the machine of this number, if it is listed
abbrev pub TellsOf : ℕ → ℕ → List Task → List (Option Need) → List Machine → Type 0
TellsOf machine = TellsBut (λ id. not (machine == id))

-- an index with a place for each further machine
abbrev pub placed : List Machine → List (Option Need) → List (Option Need)
placed machines frees = frees ++ map (λ _. None) (drop (length frees) machines)
