-- A table of which the first machines are left.
use Rattle.std.proofs.Common.{◌≡◌, ℕ, zero, suc, false, nat_eq, List, [], ◌∷◌, take, sym, ap, ◌∙◌, subst, arith}
use Rattle.std.specs.List.{IsDistinct, AllByRecursion}
use Rattle.std.proofs.lemmas.List.{take-map, length-take}
use Rattle.std.proofs.lemmas.List.Elements.{All-take}
use Rattle.std.proofs.lemmas.Map.Keys.{IsDistinct-cons, IsDistinct-head, IsDistinct-tail}
use Rattle.omega_model.specs.Machines.{numbers_of}
use Rattle.omega_model.specs.declared.cells.Machine.{Machine}
use Rattle.omega_machines.specs.Table.{MachineState, machines_of, IsBounded, IsTable}

first_distinct : (n : ℕ) (ns : List ℕ) → IsDistinct nat_eq ns → IsDistinct nat_eq (take n ns)
unfolding IsDistinct
first_distinct zero ns distinct = tt
first_distinct (suc n) [] distinct = tt
first_distinct (suc n) (x ∷ ns) distinct =
    IsDistinct-cons nat_eq x (take n ns) (others n ns (IsDistinct-head nat_eq x ns distinct)) (first_distinct n ns (IsDistinct-tail nat_eq x ns distinct))
  where
    others : (m : ℕ) (ms : List ℕ) → AllByRecursion (λ y. nat_eq x y ≡ false) ms → AllByRecursion (λ y. nat_eq x y ≡ false) (take m ms)
    others zero ms all = tt
    others (suc m) [] all = tt
    others (suc m) (y ∷ ms) all = (all.0, others m ms all.1)

first_numbers : (n : ℕ) (table : List MachineState) → numbers_of (machines_of (take n table)) ≡ take n (numbers_of (machines_of table))
first_numbers n table =
    ap numbers_of (sym (take-map (λ (s : MachineState). s.machine) n table)) ∙ sym (take-map (λ (m : Machine). m.id) n (machines_of table))

-- the first machines of a table are a table
pub first_table : (n : ℕ) (table : List MachineState) → IsTable table → IsTable (take n table)
first_table n table held = record {
  few = omega (arith, length-take n table, held.few);
  distinct = subst (IsDistinct nat_eq) (sym (first_numbers n table)) (first_distinct n (numbers_of (machines_of table)) held.distinct);
  bounded = All-take IsBounded n table held.bounded;
}
