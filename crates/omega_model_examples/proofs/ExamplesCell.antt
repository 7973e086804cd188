-- Worked answers: what entries make of a cell's machines and tasks, and which machines they touch.
use Rattle.std.proofs.Common.{◌≡◌, ℕ, Bool, true, false, List, [], ◌∷◌, ◌++◌, refl}
use Rattle.omega_model.specs.Cell.{keys_of}
use Rattle.omega_model.specs.Touches.{seq}
use Rattle.omega_model.specs.State.{state, reply_of}
use Rattle.omega_model.specs.declared.cells.Attr.{Attr}
use Rattle.omega_model.specs.declared.cells.Machine.{Machine}
use Rattle.omega_model.specs.declared.cells.Need.{Need}
use Rattle.omega_model.specs.declared.cells.TaskKey.{TaskKey}
use Rattle.omega_model.specs.declared.claims.Claim.{Claim}
use Rattle.omega_model.specs.declared.claims.Judgement.{Judgement}
use Rattle.omega_model.specs.declared.claims.Mode.TheVariants.{Incremental}
use Rattle.omega_model.specs.declared.claims.Rule.TheVariants.{Fine, Coarse}
use Rattle.omega_model.specs.declared.claims.Txn.{Txn}
use Rattle.omega_model.specs.declared.claims.Verdict.{Verdict}
use Rattle.omega_model.specs.declared.claims.Verdict.TheVariants.{Placed, NoMachine, AlreadyRunning, Changed, VictimRank, SameJob, Full}
use Rattle.omega_model.specs.declared.entries.Entry.{Entry}
use Rattle.omega_model.specs.declared.entries.Entry.TheVariants.{Round, MachineAdd, MachineUpdate, MachineRemove, AttrSet, AttrDelete, End, Commit}

unfoldable amount : ℕ → Need
amount n = record { cpu = n; mem = n; disk = 0 }

-- a claim that is placed and evicts these tasks
unfoldable placed : List TaskKey → Judgement
placed evicted = record { verdict = Placed; evicted = evicted }

-- a claim that isn't placed, for this reason
unfoldable refused : Verdict → Judgement
refused verdict = record { verdict = verdict; evicted = [] }

unfoldable key : ℕ → ℕ → TaskKey
key job index = record { job = job; index = index }

unfoldable machine : ℕ → Bool → ℕ → List Attr → Machine
machine id up cap attrs = record { id = id; up = up; cap = amount cap; attrs = attrs }

unfoldable attr : ℕ → ℕ → Attr
attr name value = record { name = name ∷ []; value = value ∷ [] }

-- each machine or attribute entry on a machine that isn't listed appends it: down and blank, but for an
-- addition
first_mentions : (state (
    MachineUpdate 5 (amount 9) ∷ MachineRemove 4 ∷ AttrSet 3 (97 ∷ []) (49 ∷ []) ∷ AttrDelete 2 (97 ∷ [])
    ∷ MachineAdd 1 (amount 8) ∷ End (key 1 0) 7 ∷ Round 1 ∷ MachineAdd 4 (amount 7) ∷ [])).machines ≡
    machine 5 false 9 [] ∷ machine 4 true 7 [] ∷ machine 3 false 0 (attr 97 49 ∷ []) ∷ machine 2 false 0 [] ∷ machine 1 true 8 [] ∷ []
unfolding amount key machine attr placed refused
first_mentions = refl

-- a removed machine keeps its capacity and attributes, and an addition keeps the attributes
keeps : (state (MachineAdd 1 (amount 8) ∷ AttrSet 1 (97 ∷ []) (49 ∷ []) ∷ MachineRemove 1 ∷ [])).machines ≡
    machine 1 false 8 (attr 97 49 ∷ []) ∷ []
unfolding amount machine attr placed refused
keeps = refl

added_again : (state (MachineAdd 1 (amount 8) ∷ AttrSet 1 (97 ∷ []) (49 ∷ []) ∷ MachineRemove 1 ∷ MachineAdd 1 (amount 3) ∷ [])).machines ≡
    machine 1 true 3 (attr 97 49 ∷ []) ∷ []
unfolding amount machine attr placed refused
added_again = refl

-- an update leaves a machine down that is down
still_down : (state (MachineAdd 1 (amount 8) ∷ MachineRemove 1 ∷ MachineUpdate 1 (amount 3) ∷ [])).machines ≡ machine 1 false 3 [] ∷ []
unfolding amount machine placed refused
still_down = refl

-- a value that is set anew stands where the old one stood; a name that isn't set is deleted in vain
attributes : (state (
    AttrSet 1 (97 ∷ []) (49 ∷ []) ∷ AttrSet 1 (98 ∷ []) (50 ∷ []) ∷ AttrSet 1 (97 ∷ []) (51 ∷ []) ∷ AttrDelete 1 (99 ∷ []) ∷ [])).machines ≡
    machine 1 false 0 (attr 97 51 ∷ attr 98 50 ∷ []) ∷ []
unfolding amount machine attr placed refused
attributes = refl

-- an empty value is a value
empty_value : (state (AttrSet 1 (97 ∷ []) [] ∷ [])).machines ≡ machine 1 false 0 (record { name = 97 ∷ []; value = [] } ∷ []) ∷ []
unfolding amount machine placed refused
empty_value = refl

-- a deleted attribute goes, and the others stay
deleted : (state (AttrSet 1 (97 ∷ []) (49 ∷ []) ∷ AttrSet 1 (98 ∷ []) (50 ∷ []) ∷ AttrDelete 1 (97 ∷ []) ∷ [])).machines ≡
    machine 1 false 0 (attr 98 50 ∷ []) ∷ []
unfolding amount machine attr placed refused
deleted = refl

unfoldable claim : ℕ → ℕ → ℕ → ℕ → ℕ → List TaskKey → Claim
claim on job index n prec victims =
    record { key = key job index; machine = on; spec = record { need = amount n; prec = prec; differ = false }; victims = victims }

unfoldable asks : List Claim → Txn
asks claims = record { job = 1; rule = Fine; mode = Incremental; claims = claims }

-- two machines of capacity 10, and on the first tasks (2, 0), (1, 1) and (1, 0) of need 3
unfoldable busy : List Entry
busy =
    MachineAdd 1 (amount 10) ∷ MachineAdd 2 (amount 10)
    ∷ Commit 1 2 (asks (claim 1 2 0 3 1 [] ∷ claim 1 1 1 3 2 [] ∷ claim 1 1 0 3 2 [] ∷ [])) (placed [] ∷ placed [] ∷ placed [] ∷ [])
    ∷ []

-- running tasks stand in order of job and index, whatever the order of their claims
in_order : keys_of (state busy).tasks ≡ key 1 0 ∷ key 1 1 ∷ key 2 0 ∷ []
unfolding amount key claim asks busy placed refused
in_order = refl

-- a task on another machine is not ended, nor one that doesn't run
ends_nothing : keys_of (state (busy ++ End (key 1 0) 2 ∷ End (key 9 0) 1 ∷ [])).tasks ≡ key 1 0 ∷ key 1 1 ∷ key 2 0 ∷ []
unfolding amount key claim asks busy placed refused
ends_nothing = refl

-- yet the entries touch their machines
touched_in_vain : seq (busy ++ End (key 1 0) 2 ∷ End (key 9 0) 1 ∷ []) 2 ≡ 2
unfolding amount key claim asks busy placed refused
touched_in_vain = refl

ends_one : keys_of (state (busy ++ End (key 1 0) 1 ∷ [])).tasks ≡ key 1 1 ∷ key 2 0 ∷ []
unfolding amount key claim asks busy placed refused
ends_one = refl

-- refused claims change no task and touch no machine
refused_claims : seq (busy ++ Commit 1 3 (asks (claim 2 3 0 99 1 [] ∷ [])) (refused (Full (amount 10)) ∷ []) ∷ []) 2 ≡ 1
unfolding amount key claim asks busy placed refused
refused_claims = refl

-- the tasks that a placed claim evicts stop before its task runs
evicted : keys_of (state (busy ++ Commit 1 3 (asks (claim 1 3 0 8 9 (key 1 0 ∷ key 2 0 ∷ key 1 1 ∷ []) ∷ [])) (placed (key 1 0 ∷ key 2 0 ∷ key 1 1 ∷ []) ∷ []) ∷ [])).tasks ≡ key 3 0 ∷ []
unfolding amount key claim asks busy placed refused
evicted = refl

-- a new capacity displaces the fewest in order of precedence, job, index: here one of precedence 1
displaced_by_update : keys_of (state (busy ++ MachineUpdate 1 (amount 6) ∷ [])).tasks ≡ key 1 0 ∷ key 1 1 ∷ []
unfolding amount key claim asks busy placed refused
displaced_by_update = refl

-- an addition with a smaller capacity displaces as well
displaced_by_addition : keys_of (state (busy ++ MachineAdd 1 (amount 5) ∷ [])).tasks ≡ key 1 1 ∷ []
unfolding amount key claim asks busy placed refused
displaced_by_addition = refl

-- one scarce component is enough
displaced_by_memory : keys_of (state (busy ++ MachineUpdate 1 (record { cpu = 99; mem = 6; disk = 99 }) ∷ [])).tasks ≡ key 1 0 ∷ key 1 1 ∷ []
unfolding amount key claim asks busy placed refused
displaced_by_memory = refl

-- all tasks of a removed machine stop
removed : keys_of (state (busy ++ MachineRemove 1 ∷ [])).tasks ≡ []
unfolding amount key claim asks busy placed refused
removed = refl

unfoldable alone : TaskKey → ℕ → ℕ → List TaskKey → Claim
alone name n prec victims =
    record { key = name; machine = 1; spec = record { need = amount n; prec = prec; differ = true }; victims = victims }

-- the least task of the job that stays is named
least_stays : reply_of busy 3 (asks (alone (key 1 7) 1 9 (key 1 0 ∷ []) ∷ [])) ≡ refused (SameJob (key 1 1)) ∷ []
unfolding amount key claim asks busy alone placed refused
least_stays = refl

-- once all of them are victims, it is placed, and all of them go though it would fit beside them
all_gone : reply_of busy 3 (asks (alone (key 1 7) 1 9 (key 1 0 ∷ key 1 1 ∷ []) ∷ [])) ≡ placed (key 1 0 ∷ key 1 1 ∷ []) ∷ []
unfolding amount key claim asks busy alone placed refused
all_gone = refl

-- a victim that doesn't run is passed over, and the first that stands is told
first_standing : reply_of busy 3 (asks (claim 1 3 0 1 1 (key 9 9 ∷ key 2 0 ∷ key 1 1 ∷ []) ∷ [])) ≡ refused (VictimRank (key 2 0)) ∷ []
unfolding amount key claim asks busy placed refused
first_standing = refl

-- the precedence of a victim is told before the job's other tasks, and these before what is free
rank_first : reply_of busy 3 (asks (alone (key 1 7) 99 2 (key 2 0 ∷ key 1 1 ∷ []) ∷ [])) ≡ refused (VictimRank (key 1 1)) ∷ []
unfolding amount key claim asks busy alone placed refused
rank_first = refl

job_first : reply_of busy 3 (asks (alone (key 1 7) 99 2 [] ∷ [])) ≡ refused (SameJob (key 1 0)) ∷ []
unfolding amount key claim asks busy alone placed refused
job_first = refl

-- a victim on another machine doesn't stand: it isn't evicted, and its precedence doesn't matter
elsewhere : reply_of busy 3 (asks (claim 2 3 0 1 9 (key 2 0 ∷ []) ∷ claim 2 3 1 1 1 (key 1 1 ∷ []) ∷ [])) ≡ placed [] ∷ placed [] ∷ []
unfolding amount key claim asks busy placed refused
elsewhere = refl

-- under the coarse rule a change is told before a victim's precedence, but after a task that runs
changed_first : reply_of busy 1 (record { job = 1; rule = Coarse; mode = Incremental; claims = claim 1 3 0 1 1 (key 1 1 ∷ []) ∷ claim 1 1 0 1 9 [] ∷ claim 3 3 0 1 9 [] ∷ [] }) ≡
    refused (Changed 2 1) ∷ refused (AlreadyRunning 1) ∷ refused NoMachine ∷ []
unfolding amount key claim asks busy placed refused
changed_first = refl

-- a machine that changed, but not since the copy, is as good as new
seen_all : reply_of busy 3 (record { job = 1; rule = Coarse; mode = Incremental; claims = claim 1 3 0 1 9 [] ∷ [] }) ≡ placed [] ∷ []
unfolding amount key claim asks busy placed refused
seen_all = refl

-- an exact fit is placed, and a second claim finds nothing free
exact : reply_of busy 3 (asks (claim 1 3 0 1 1 [] ∷ claim 1 3 1 1 1 [] ∷ [])) ≡ placed [] ∷ refused (Full (amount 0)) ∷ []
unfolding amount key claim asks busy placed refused
exact = refl

-- a task that needs nothing goes on a full machine
nothing_needed : reply_of busy 3 (asks (claim 1 3 0 1 1 [] ∷ claim 1 3 1 0 1 [] ∷ [])) ≡ placed [] ∷ placed [] ∷ []
unfolding amount key claim asks busy placed refused
nothing_needed = refl

-- the victims go in the order of the claim's list, as far as they are needed
in_given_order : reply_of busy 3 (asks (claim 1 3 0 5 9 (key 2 0 ∷ key 1 1 ∷ key 1 0 ∷ []) ∷ [])) ≡ placed (key 2 0 ∷ key 1 1 ∷ []) ∷ []
unfolding amount key claim asks busy placed refused
in_given_order = refl

-- a later claim of the transaction finds the tasks gone that an earlier one evicted
gone_by_then : reply_of busy 3 (asks (claim 1 3 0 4 9 (key 2 0 ∷ []) ∷ claim 1 3 1 3 9 (key 2 0 ∷ key 1 0 ∷ []) ∷ [])) ≡
    placed (key 2 0 ∷ []) ∷ placed (key 1 0 ∷ []) ∷ []
unfolding amount key claim asks busy placed refused
gone_by_then = refl

-- the same task twice in one transaction: the second claim finds it running
twice : reply_of busy 3 (asks (claim 1 3 0 1 1 [] ∷ claim 2 3 0 1 1 [] ∷ [])) ≡ placed [] ∷ refused (AlreadyRunning 1) ∷ []
unfolding amount key claim asks busy placed refused
twice = refl
