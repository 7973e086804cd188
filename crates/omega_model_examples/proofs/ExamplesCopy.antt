-- Worked answers: which machines a delta brings, and steps in a small world.
use Rattle.std.proofs.Common.{◌≡◌, ℕ, true, false, List, [], ◌∷◌, ◌++◌, refl, take, lit≤}
use Rattle.omega_model.specs.Copy.{parts_between, Carries, StandsFor}
use Rattle.omega_model.specs.Parts.{DeltaState}
use Rattle.omega_model.specs.State.{state}
use Rattle.omega_model.specs.Touches.{seq}
use Rattle.omega_model.specs.declared.cells.Need.{Need}
use Rattle.omega_model.specs.declared.cells.Spec.{Spec}
use Rattle.omega_model.specs.declared.cells.Task.{Task}
use Rattle.omega_model.specs.declared.cells.TaskKey.{TaskKey}
use Rattle.omega_model.specs.declared.claims.Judgement.{Judgement}
use Rattle.omega_model.specs.declared.claims.Mode.TheVariants.{Incremental}
use Rattle.omega_model.specs.declared.claims.Rule.TheVariants.{Fine}
use Rattle.omega_model.specs.declared.claims.Verdict.TheVariants.{Placed}
use Rattle.omega_model.specs.declared.delta.Part.{Part}
use Rattle.omega_model.specs.declared.entries.Entry.{Entry}
use Rattle.omega_model.specs.declared.entries.Entry.TheVariants.{MachineAdd, AttrSet, End, Commit}

unfoldable room : ℕ → Need
room n = record { cpu = n; mem = n; disk = n }

unfoldable key : TaskKey
key = record { job = 1; index = 0 }

unfoldable spec : Spec
spec = record { need = room 5; prec = 3; differ = false }

unfoldable placed : Judgement
placed = record { verdict = Placed; evicted = [] }

-- a commit that places task (1, 0) on this machine
unfoldable place_on : ℕ → ℕ → Entry
place_on machine seen =
    Commit 1 seen (record { job = 1; rule = Fine; mode = Incremental; claims = record { key = key; machine = machine; spec = spec; victims = [] } ∷ [] }) (placed ∷ [])

unfoldable task_on : ℕ → Task
task_on machine = record { key = key; machine = machine; spec = spec }

-- a machine of capacity 10 at this position, with this sequence number and these tasks
unfoldable part : ℕ → ℕ → ℕ → List Task → Part
part position id seq tasks =
    record { position = position; machine = record { id = id; up = true; cap = room 10; attrs = [] }; seq = seq; tasks = tasks }

-- three machines, and a task on the second
unfoldable three : List Entry
three = MachineAdd 1 (room 10) ∷ MachineAdd 2 (room 10) ∷ MachineAdd 3 (room 10) ∷ place_on 2 3 ∷ []

-- since the machines were added only the second has changed
one_part : parts_between three 3 4 ≡ part 1 2 2 (task_on 2 ∷ []) ∷ []
unfolding room key spec placed place_on task_on part three
one_part = refl

-- since the beginning all three have
three_parts : parts_between three 0 4 ≡ part 0 1 1 [] ∷ part 1 2 2 (task_on 2 ∷ []) ∷ part 2 3 1 [] ∷ []
unfolding room key spec placed place_on task_on part three
three_parts = refl

-- since the end none has
no_part : parts_between three 4 4 ≡ []
unfolding room key spec placed place_on task_on part three
no_part = refl

-- a delta in the middle shows the machines as they were then
earlier_part : parts_between three 1 3 ≡ part 1 2 1 [] ∷ part 2 3 1 [] ∷ []
unfolding room key spec placed place_on task_on part three
earlier_part = refl

-- a delta with these parts carries the history
unfoldable last_step : DeltaState
last_step = record { from = 3; to = 4; parts = part 1 2 2 (task_on 2 ∷ []) ∷ [] }

carries : Carries last_step three 3 4
unfolding room key spec placed place_on task_on part three last_step
carries = record { order = lit≤ tt; within = lit≤ tt; begins = refl; ends = refl; parts = refl }

-- one without them doesn't
unfoldable empty_step : DeltaState
empty_step = record { from = 3; to = 4; parts = [] }

carries_not : Carries empty_step three 3 4 → ⊥
unfolding room key spec placed place_on task_on part three empty_step
carries_not wrong = cc (wrong.parts)

-- a task that runs on the first machine ends there and is placed on the second: both have changed, and it
-- stands among the tasks of the second alone
unfoldable moved : List Entry
moved = MachineAdd 1 (room 10) ∷ MachineAdd 2 (room 10) ∷ place_on 1 2 ∷ End key 1 ∷ place_on 2 4 ∷ []

moves_on : parts_between moved 3 5 ≡ part 0 1 3 [] ∷ part 1 2 2 (task_on 2 ∷ []) ∷ []
unfolding room key spec placed place_on task_on part moved
moves_on = refl

before_it_moved : parts_between moved 2 3 ≡ part 0 1 2 (task_on 1 ∷ []) ∷ []
unfolding room key spec placed place_on task_on part moved
before_it_moved = refl

-- the same with the two machines exchanged
unfoldable moved_back : List Entry
moved_back = MachineAdd 1 (room 10) ∷ MachineAdd 2 (room 10) ∷ place_on 2 2 ∷ End key 2 ∷ place_on 1 4 ∷ []

moves_back : parts_between moved_back 3 5 ≡ part 0 1 2 (task_on 1 ∷ []) ∷ part 1 2 3 [] ∷ []
unfolding room key spec placed place_on task_on part moved_back
moves_back = refl

-- a machine that was first mentioned in between stands at its position, down
new_machine : parts_between (three ++ AttrSet 9 (97 ∷ []) (49 ∷ []) ∷ []) 4 5 ≡
    record { position = 3; machine = record { id = 9; up = false; cap = room 0; attrs = record { name = 97 ∷ []; value = 49 ∷ [] } ∷ [] }; seq = 1; tasks = [] } ∷ []
unfolding room key spec placed place_on task_on part three
new_machine = refl

-- a copy that has seen three entries stands for the history with the machines and numbers of then
unfoldable seqs : ℕ → ℕ
seqs id = seq (take 3 three) id

stands : StandsFor (record { machines = (state (take 3 three)).machines; tasks = [] }) seqs 3 three
unfolding room key spec placed place_on three seqs
stands = record { within = lit≤ tt; machines = refl; tasks = refl; numbers = λ id. refl }
