-- What may be applied to the state of a history may be applied to the cell and numbers after it.
use Rattle.std.proofs.Common.{◌≡◌, ℕ, ◌+◌, ◌-◌, ◌<◌, ◌^◌, List, [], ◌∷◌, ◌++◌, map, refl, sym, ap₂, subst, if◌then◌else◌}
use Rattle.std.proofs.lemmas.List.Sums.{fold-append}
use Rattle.omega_model.specs.Applying.{MayApply}
use Rattle.omega_model.specs.Cell.{Cell}
use Rattle.omega_model.specs.State.{state}
use Rattle.omega_model.specs.Touches.{touches, seq}
use Rattle.omega_model.specs.declared.claims.Claim.{Claim}
use Rattle.omega_model.specs.declared.entries.Entry.{Entry}
use Rattle.omega_machines.specs.declared.MachineState.{MachineState}
use Rattle.omega_machines.specs.Table.{seq_at}

-- the sequence number of a machine after one more entry
pub seq_push : (history : List Entry) (entry : Entry) (id : ℕ)
    → seq (history ++ entry ∷ []) id ≡ seq history id + (if touches id entry then 1 else 0)
seq_push history entry id = fold-append (λ (count : ℕ) (e : Entry). count + (if touches id e then 1 else 0)) 0 history (entry ∷ [])

-- the numbers that a table has of the machines of claims are those of the history that it stands for
pub numbers_alike : (table : List MachineState) (history : List Entry) (claims : List Claim) → ((id : ℕ) → seq_at table id ≡ seq history id)
    → map (λ (claim : Claim). seq_at table claim.machine) claims ≡ map (λ (claim : Claim). seq history claim.machine) claims
numbers_alike table history [] numbered = refl
numbers_alike table history (claim ∷ claims) numbered = ap₂ (λ (n : ℕ) (ns : List ℕ). n ∷ ns) (numbered claim.machine) (numbers_alike table history claims numbered)

-- on the cell after a history
pub may_apply : (cell : Cell) (seqs : ℕ → ℕ) (history : List Entry) (entry : Entry) → cell ≡ state history → ((id : ℕ) → seqs id ≡ seq history id)
    → MayApply (state history) (seq history) entry → MayApply cell seqs entry
may_apply cell seqs history entry current numbered may =
    subst (λ (c : Cell). MayApply c seqs entry) (sym current) (record {
      capacity = may.capacity;
      machines = may.machines;
      numbers = λ id touched. subst (λ n. n < 2 ^ 64 - 1) (sym (numbered id)) (may.numbers id touched);
      ends = may.ends;
      places = may.places;
    })
