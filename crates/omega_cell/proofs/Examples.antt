-- Worked answers: what a cell's definitions say of a few small histories.
use Rattle.std.proofs.Common.{◌≡◌, ℕ, inl, inr, false, List, [], ◌∷◌, ◌++◌, refl, arith}
use Rattle.std.proofs.lemmas.Bool.{both_ways}
use Rattle.omega_model.specs.Applying.{MayApply}
use Rattle.omega_model.specs.Cell.{empty_cell}
use Rattle.omega_model.specs.State.{state}
use Rattle.omega_model.specs.Touches.{seq, copied_seqs}
use Rattle.omega_model.specs.declared.cells.Need.{Need}
use Rattle.omega_model.specs.declared.cells.TaskKey.{TaskKey}
use Rattle.omega_model.specs.declared.claims.Claim.{Claim}
use Rattle.omega_model.specs.declared.claims.Judgement.{Judgement}
use Rattle.omega_model.specs.declared.claims.Mode.TheVariants.{Incremental}
use Rattle.omega_model.specs.declared.claims.Rule.TheVariants.{Fine}
use Rattle.omega_model.specs.declared.claims.Verdict.{Verdict}
use Rattle.omega_model.specs.declared.claims.Verdict.TheVariants.{Placed, NoMachine}
use Rattle.omega_model.specs.declared.entries.Entry.{Entry}
use Rattle.omega_model.specs.declared.entries.Entry.TheVariants.{Round, MachineAdd, MachineUpdate, MachineRemove, End, Commit}
use Rattle.omega_cell.specs.Effects.{along, displaced_at, usage_at, usage_in}
use Rattle.omega_cell.specs.declared.effects.Usage.{Usage}
use Rattle.omega_cell.specs.Laws.{IsWhole, RunsBelow, HasToGo}
use Rattle.omega_cell.specs.Rooms.{EvictWithin}

unfoldable amount : ℕ → Need
amount n = record { cpu = n; mem = n; disk = 0 }

unfoldable key : ℕ → ℕ → TaskKey
key job index = record { job = job; index = index }

unfoldable claim : ℕ → ℕ → ℕ → ℕ → List TaskKey → Claim
claim on job n prec victims = record { key = key job 0; machine = on; spec = record { need = amount n; prec = prec; differ = false }; victims = victims }

-- an answer that evicts nothing, and one that evicts the task (1, 0)
unfoldable plain : Verdict → Judgement
plain verdict = record { verdict = verdict; evicted = [] }

unfoldable evicts : Judgement
evicts = record { verdict = Placed; evicted = key 1 0 ∷ [] }

-- machine 1 of capacity 10, on which the task (1, 0) of need 8 and precedence 3 runs
unfoldable busy : List Entry
busy =
    MachineAdd 1 (amount 10)
    ∷ Commit 1 1 (record { job = 1; rule = Fine; mode = Incremental; claims = claim 1 1 8 3 [] ∷ [] }) (plain Placed ∷ [])
    ∷ []

-- the numbers of a copy that has seen the addition alone, and of one that has seen the commit; a machine that isn't
-- listed has none
old_copy : copied_seqs (busy ++ MachineRemove 1 ∷ []) 1 (claim 1 2 1 1 [] ∷ claim 1 3 1 1 [] ∷ claim 2 4 1 1 [] ∷ []) ≡ 1 ∷ 1 ∷ 0 ∷ []
unfolding amount key claim plain busy
old_copy = refl

new_copy : copied_seqs (busy ++ MachineRemove 1 ∷ []) 2 (claim 1 2 1 1 [] ∷ []) ≡ 2 ∷ []
unfolding amount key claim plain busy
new_copy = refl

-- the task runs below precedence 5, and not below its own, nor on another machine
below : RunsBelow (state busy).tasks 1 5 (key 1 0)
unfolding amount key claim plain busy
below = (refl, omega arith)

not_below_itself : RunsBelow (state busy).tasks 1 3 (key 1 0) → ⊥
unfolding amount key claim plain busy
not_below_itself runs = omega (arith, runs.1)

not_elsewhere : RunsBelow (state busy).tasks 2 5 (key 1 0) → ⊥
unfolding amount key claim plain busy
not_elsewhere runs = omega (arith, runs.0)

-- it has to go for a task that needs 5, and not for one that needs 2 or doesn't name it
goes : HasToGo (state busy) (claim 1 2 5 5 (key 1 0 ∷ [])) [] (key 1 0)
unfolding amount key claim plain busy
goes = record { below = (refl, omega arith); named = refl; needed = refl }

fits_beside : HasToGo (state busy) (claim 1 2 2 5 (key 1 0 ∷ [])) [] (key 1 0) → ⊥
unfolding amount key claim plain busy
fits_beside has = both_ways _ has.needed refl

not_named : HasToGo (state busy) (claim 1 2 5 5 []) [] (key 1 0) → ⊥
unfolding amount key claim plain busy
not_named has = both_ways false refl has.named

-- two claims of which one is placed are no whole gang
split : IsWhole (claim 1 2 1 1 [] ∷ claim 2 3 1 1 [] ∷ []) (plain Placed ∷ plain NoMachine ∷ []) → ⊥
unfolding amount key claim plain
split whole = elim whole.together [
  | inl all ↦ both_ways _ refl (all 1 (plain Placed) (omega arith))
  | inr none ↦ both_ways _ (none 0 (plain Placed) (omega arith)) refl
]

-- nor are two claims with one answer
untold : IsWhole (claim 1 2 1 1 [] ∷ claim 2 3 1 1 [] ∷ []) (plain Placed ∷ []) → ⊥
unfolding amount key claim plain
untold whole = omega (arith, whole.answered)

-- a claim with a victim has room for one that is evicted, and one without for none
one_within : EvictWithin (claim 1 2 5 5 (key 1 0 ∷ []) ∷ []) (evicts ∷ [])
unfolding amount key claim evicts
one_within = (omega arith, tt)

none_within : EvictWithin (claim 1 2 5 5 [] ∷ []) (evicts ∷ []) → ⊥
unfolding amount key claim evicts
none_within within = omega (arith, within.0)

-- the task can't end on another machine
ends_not : MayApply (state busy) (seq busy) (End (key 1 0) 2) → ⊥
unfolding amount key claim plain busy
ends_not may = omega (arith, may.ends)

-- a round in which the machine comes and the task is placed, and one in which the machine becomes too small
-- for the task and then goes
unfoldable two_rounds : List Entry
two_rounds = Round 0 ∷ busy ++ Round 1 ∷ MachineUpdate 1 (amount 5) ∷ MachineRemove 1 ∷ []

unfoldable usage : ℕ → ℕ → Usage
usage used capacity = record { used = amount used; capacity = amount capacity }

-- nothing is there where the first round begins, and the second one finds the task; at the end nothing is
-- there again
used_where_rounds_begin : along usage_at empty_cell two_rounds ≡ usage 0 0 ∷ usage 8 10 ∷ []
unfolding amount key claim plain busy two_rounds usage
used_where_rounds_begin = refl

used_at_the_end : usage_in (state two_rounds) ≡ usage 0 0
unfolding amount key claim plain busy two_rounds usage
used_at_the_end = refl

-- of the three entries of the machine the second displaces the task
displaced_by_the_machine : along displaced_at empty_cell two_rounds ≡ [] ∷ (key 1 0 ∷ []) ∷ [] ∷ []
unfolding amount key claim plain busy two_rounds
displaced_by_the_machine = refl
