-- Worked answers: what the definitions give on small cells, by computation.
use Rattle.std.proofs.Common.{◌≡◌, ℕ, Bool, true, false, List, [], ◌∷◌, ◌++◌, refl}
use Rattle.omega_model.specs.Cell.{keys_of}
use Rattle.omega_model.specs.Touches.{seq}
use Rattle.omega_model.specs.State.{state, reply_of, displaced}
use Rattle.omega_model.specs.declared.cells.Need.{Need}
use Rattle.omega_model.specs.declared.cells.Spec.{Spec}
use Rattle.omega_model.specs.declared.cells.TaskKey.{TaskKey}
use Rattle.omega_model.specs.declared.claims.Claim.{Claim}
use Rattle.omega_model.specs.declared.claims.Judgement.{Judgement}
use Rattle.omega_model.specs.declared.claims.Mode.{Mode}
use Rattle.omega_model.specs.declared.claims.Mode.TheVariants.{Incremental, Gang}
use Rattle.omega_model.specs.declared.claims.Rule.{Rule}
use Rattle.omega_model.specs.declared.claims.Rule.TheVariants.{Fine, Coarse}
use Rattle.omega_model.specs.declared.claims.Txn.{Txn}
use Rattle.omega_model.specs.declared.claims.Verdict.{Verdict}
use Rattle.omega_model.specs.declared.claims.Verdict.TheVariants.{Placed, NoMachine, AlreadyRunning, Changed, VictimRank, SameJob, Full, Withdrawn}
use Rattle.omega_model.specs.declared.entries.Entry.{Entry}
use Rattle.omega_model.specs.declared.entries.Entry.TheVariants.{MachineAdd, MachineUpdate, MachineRemove, Commit}

-- what a task needs: no disk
unfoldable amount : ℕ → Need
amount n = record { cpu = n; mem = n; disk = 0 }

-- a capacity, or what is free of it: disk is 10
unfoldable room : ℕ → Need
room n = record { cpu = n; mem = n; disk = 10 }

-- a claim that is placed and evicts these tasks
unfoldable placed : List TaskKey → Judgement
placed evicted = record { verdict = Placed; evicted = evicted }

-- a claim that isn't placed, for this reason
unfoldable refused : Verdict → Judgement
refused verdict = record { verdict = verdict; evicted = [] }

unfoldable task_key : ℕ → ℕ → TaskKey
task_key job index = record { job = job; index = index }

unfoldable spec_of : ℕ → ℕ → Bool → Spec
spec_of n prec differ = record { need = amount n; prec = prec; differ = differ }

unfoldable claim : TaskKey → ℕ → Spec → List TaskKey → Claim
claim key machine spec victims = record { key = key; machine = machine; spec = spec; victims = victims }

unfoldable asks : Rule → Mode → List Claim → Txn
asks rule mode claims = record { job = 1; rule = rule; mode = mode; claims = claims }

unfoldable fine : Claim → Txn
fine one = asks Fine Incremental (one ∷ [])

-- a machine of capacity 10 on which task (1, 0) of need 8 and precedence 3 runs
unfoldable base : List Entry
base =
    MachineAdd 1 (room 10)
    ∷ Commit 1 1 (fine (claim (task_key 1 0) 1 (spec_of 8 3 false) [])) (placed [] ∷ [])
    ∷ []

-- a victim that is mentioned twice counts at its first mention
twice : reply_of base 2 (fine (claim (task_key 2 0) 1 (spec_of 5 5 false) (task_key 1 0 ∷ task_key 1 0 ∷ []))) ≡ placed (task_key 1 0 ∷ []) ∷ []
unfolding amount task_key spec_of claim asks fine base room placed refused
twice = refl

-- a victim that doesn't run there is passed over, and the one that does makes room
passed_over : reply_of base 2 (fine (claim (task_key 2 0) 1 (spec_of 5 5 false) (task_key 7 0 ∷ task_key 1 0 ∷ []))) ≡ placed (task_key 1 0 ∷ []) ∷ []
unfolding amount task_key spec_of claim asks fine base room placed refused
passed_over = refl

-- where no victim runs there, what is free decides
none_stands : reply_of base 2 (fine (claim (task_key 2 0) 1 (spec_of 5 5 false) (task_key 7 0 ∷ []))) ≡ refused (Full (room 2)) ∷ []
unfolding amount task_key spec_of claim asks fine base room placed refused
none_stands = refl

-- a victim of equal precedence stays
equal_rank : reply_of base 2 (fine (claim (task_key 2 0) 1 (spec_of 5 3 false) (task_key 1 0 ∷ []))) ≡ refused (VictimRank (task_key 1 0)) ∷ []
unfolding amount task_key spec_of claim asks fine base room placed refused
equal_rank = refl

-- what is free is named where it is too little
too_big : reply_of base 2 (fine (claim (task_key 2 0) 1 (spec_of 5 5 false) [])) ≡ refused (Full (room 2)) ∷ []
unfolding amount task_key spec_of claim asks fine base room placed refused
too_big = refl

-- a running task isn't placed again
running : reply_of base 2 (fine (claim (task_key 1 0) 1 (spec_of 1 5 false) [])) ≡ refused (AlreadyRunning 1) ∷ []
unfolding amount task_key spec_of claim asks fine base room placed refused
running = refl

-- a machine that isn't listed takes nothing
nowhere : reply_of base 2 (fine (claim (task_key 2 0) 9 (spec_of 1 5 false) [])) ≡ refused NoMachine ∷ []
unfolding amount task_key spec_of claim asks fine base room placed refused
nowhere = refl

-- a victim of lower precedence makes room
evicts : reply_of base 2 (fine (claim (task_key 2 0) 1 (spec_of 5 5 false) (task_key 1 0 ∷ []))) ≡ placed (task_key 1 0 ∷ []) ∷ []
unfolding amount task_key spec_of claim asks fine base room placed refused
evicts = refl

-- on a machine of capacity 10 run tasks (1, 0) and (1, 1) of need 4 and precedence 3
unfoldable shared : List Entry
shared =
    MachineAdd 1 (room 10)
    ∷ Commit 1 1 (asks Fine Incremental (claim (task_key 1 0) 1 (spec_of 4 3 false) [] ∷ claim (task_key 1 1) 1 (spec_of 4 3 false) [] ∷ [])) (placed [] ∷ placed [] ∷ [])
    ∷ []

-- of two victims the first makes room enough, and the second is spared
one_spared : reply_of shared 2 (fine (claim (task_key 2 0) 1 (spec_of 5 5 false) (task_key 1 0 ∷ task_key 1 1 ∷ []))) ≡ placed (task_key 1 0 ∷ []) ∷ []
unfolding amount task_key spec_of claim asks fine shared room placed refused
one_spared = refl

-- both are spared where the task fits beside them
both_spared : reply_of shared 2 (fine (claim (task_key 2 0) 1 (spec_of 2 5 false) (task_key 1 0 ∷ task_key 1 1 ∷ []))) ≡ placed [] ∷ []
unfolding amount task_key spec_of claim asks fine shared room placed refused
both_spared = refl

-- a spared victim of equal precedence refuses the claim all the same
spared_rank : reply_of shared 2 (fine (claim (task_key 2 0) 1 (spec_of 2 3 false) (task_key 1 0 ∷ []))) ≡ refused (VictimRank (task_key 1 0)) ∷ []
unfolding amount task_key spec_of claim asks fine shared room placed refused
spared_rank = refl

-- a task that must be alone of its job isn't placed beside another of the job
beside : reply_of base 2 (fine (claim (task_key 1 1) 1 (spec_of 1 5 true) [])) ≡ refused (SameJob (task_key 1 0)) ∷ []
unfolding amount task_key spec_of claim asks fine base room placed refused
beside = refl

-- the flag of the claim decides, not that of the task that runs
unflagged : reply_of base 2 (fine (claim (task_key 1 1) 1 (spec_of 1 5 false) [])) ≡ placed [] ∷ []
unfolding amount task_key spec_of claim asks fine base room placed refused
unflagged = refl

-- under the coarse rule a machine that changed since the copy takes nothing
stale : reply_of base 1 (asks Coarse Incremental (claim (task_key 2 0) 1 (spec_of 1 5 false) [] ∷ [])) ≡ refused (Changed 2 1) ∷ []
unfolding amount task_key spec_of claim asks fine base room placed refused
stale = refl

-- a machine of capacity 10 with nothing on it
unfoldable blank : List Entry
blank = MachineAdd 1 (room 10) ∷ []

-- two claims of 5 and 8
unfoldable pair : List Claim
pair = claim (task_key 1 0) 1 (spec_of 5 1 false) [] ∷ claim (task_key 1 1) 1 (spec_of 8 1 false) [] ∷ []

-- a gang with a refusal is withdrawn as a whole
gang : reply_of blank 1 (asks Fine Gang pair) ≡ refused (Withdrawn 1) ∷ refused (Full (room 5)) ∷ []
unfolding amount task_key spec_of claim asks fine blank pair room placed refused
gang = refl

-- so nothing runs
gang_runs_nothing : (state (blank ++ Commit 1 1 (asks Fine Gang pair) (reply_of blank 1 (asks Fine Gang pair)) ∷ [])).tasks ≡ []
unfolding amount task_key spec_of claim asks fine blank pair room placed refused
gang_runs_nothing = refl

-- the same claims one by one: the second is judged on the cell after the first
one_by_one : reply_of blank 1 (asks Fine Incremental pair) ≡ placed [] ∷ refused (Full (room 5)) ∷ []
unfolding amount task_key spec_of claim asks fine blank pair room placed refused
one_by_one = refl

-- a transaction's own earlier claim is no change under the coarse rule
own_claim : reply_of blank 1 (asks Coarse Incremental (claim (task_key 1 0) 1 (spec_of 5 1 false) [] ∷ claim (task_key 1 1) 1 (spec_of 5 1 false) [] ∷ [])) ≡ placed [] ∷ placed [] ∷ []
unfolding amount task_key spec_of claim asks fine blank room placed refused
own_claim = refl

-- three tasks of need 3 with precedences 2, 1 and 1 on a machine of capacity 10
unfoldable three : List Entry
three =
    MachineAdd 1 (room 10)
    ∷ Commit 1 1 (asks Fine Incremental (claim (task_key 10 0) 1 (spec_of 3 2 false) [] ∷ claim (task_key 10 1) 1 (spec_of 3 1 false) [] ∷ claim (task_key 10 2) 1 (spec_of 3 1 false) [] ∷ [])) (placed [] ∷ placed [] ∷ placed [] ∷ [])
    ∷ []

-- a capacity of 5 displaces the two of the lowest precedence, by index, and no more
update_displaces : keys_of (displaced (state three).tasks (MachineUpdate 1 (room 5))) ≡ task_key 10 1 ∷ task_key 10 2 ∷ []
unfolding amount task_key spec_of claim asks three room placed refused
update_displaces = refl

-- a removal displaces all, in the same order
removal_displaces : keys_of (displaced (state three).tasks (MachineRemove 1)) ≡ task_key 10 1 ∷ task_key 10 2 ∷ task_key 10 0 ∷ []
unfolding amount task_key spec_of claim asks three room placed refused
removal_displaces = refl

-- each of these entries touches machine 1 once, and a commit that places three claims on it does so once
counted : seq three 1 ≡ 2
unfolding amount task_key spec_of claim asks three room placed refused
counted = refl

unfoldable readded : List Entry
readded = MachineAdd 1 (room 10) ∷ MachineRemove 1 ∷ MachineAdd 1 (room 10) ∷ []

-- a machine that went and came back has changed: the coarse rule refuses, the fine rule doesn't
gone_and_back : reply_of readded 1 (asks Coarse Incremental (claim (task_key 1 0) 1 (spec_of 1 1 false) [] ∷ [])) ≡ refused (Changed 3 1) ∷ []
unfolding amount task_key spec_of claim asks readded room placed refused
gone_and_back = refl

still_fine : reply_of readded 1 (fine (claim (task_key 1 0) 1 (spec_of 1 1 false) [])) ≡ placed [] ∷ []
unfolding amount task_key spec_of claim asks fine readded room placed refused
still_fine = refl
