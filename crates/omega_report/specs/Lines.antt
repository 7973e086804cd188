-- Lines by the numbers that stand in them.
use Rattle.std.specs.Prelude.{ℕ, [], ◌∷◌, ◌++◌, codes}
use Rattle.omega_model.specs.Report.{Line, Name, Number, task_words}
use Rattle.omega_model.specs.declared.cells.Need.{Need}
use Rattle.omega_model.specs.declared.cells.TaskKey.{TaskKey}
use Rattle.omega_model.specs.declared.claims.Claim.{Claim}

-- the line of a task with this name that is displaced: it stops since its machine shrank or went
abbrev pub stop_line : ℕ → TaskKey → Line
stop_line machine key = Name (codes "displace") ∷ task_words key machine

-- the line of a task that ends on its machine
abbrev pub end_line : TaskKey → ℕ → Line
end_line key machine = Name (codes "end") ∷ task_words key machine

-- the line of a claim that is refused, with the words of its reason
abbrev pub refusal_line : Claim → Line → Line
refusal_line claim reason = Name (codes "refuse") ∷ task_words claim.key claim.machine ++ reason

-- the line that says how much is used, and how much there is
abbrev pub usage_line : Need → Need → Line
usage_line used capacity =
    Name (codes "use")
    ∷ Name (codes "cpu") ∷ Number used.cpu ∷ Number capacity.cpu
    ∷ Name (codes "mem") ∷ Number used.mem ∷ Number capacity.mem
    ∷ Name (codes "disk") ∷ Number used.disk ∷ Number capacity.disk ∷ []

-- the line with the number of entries and that of rounds
abbrev pub sizes_line : ℕ → ℕ → Line
sizes_line entries rounds = Name (codes "entries") ∷ Number entries ∷ Name (codes "rounds") ∷ Number rounds ∷ []

-- the line with the number of tasks that wait and that of jobs that are given up
abbrev pub unplaced_line : ℕ → ℕ → Line
unplaced_line tasks jobs = Name (codes "waiting") ∷ Number tasks ∷ Name (codes "abandoned") ∷ Number jobs ∷ []
