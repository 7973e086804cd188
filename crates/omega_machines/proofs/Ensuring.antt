-- A table that is made to list a number is a table.
use Rattle.std.proofs.Common.{◌≡◌, ℕ, ◌<◌, Bool, false, ◌||◌, nat_eq, List, [], ◌∷◌, ◌++◌, length, refl, sym, ap, ◌∙◌, subst, arith, length-append, if◌then◌else◌}
use Rattle.std.specs.Cmp.{nat_eq_equiv}
use Rattle.std.specs.List.{IsDistinct, list_any}
use Rattle.std.proofs.lemmas.List.{map-append}
use Rattle.std.proofs.lemmas.List.Elements.{All-push}
use Rattle.std.proofs.lemmas.Map.Keys.{IsDistinct-push}
use Rattle.omega_model.specs.Applying.{ListsOrHasRoom}
use Rattle.omega_model.specs.Limits.{most_machines}
use Rattle.omega_model.specs.Machines.{is_listed, numbers_of}
use Rattle.omega_model.specs.declared.cells.Machine.{Machine}
use Rattle.omega_machines.specs.Table.{MachineState, machines_of, new_state, ensured_states, IsBounded, IsTable}
use Rattle.omega_model.proofs.Lists.{by_answer}
use Rattle.omega_machines.proofs.Places.{has_room}

number_listed : (id : ℕ) (machines : List Machine) → list_any (nat_eq id) (numbers_of machines) ≡ is_listed id machines
number_listed id [] = refl
number_listed id (m ∷ ms) = λ i. nat_eq_equiv.symm id m.id i || number_listed id ms i

pub table_ensured : (id : ℕ) (table : List MachineState) → IsTable table → ListsOrHasRoom (machines_of table) id → IsTable (ensured_states id table)
table_ensured id table held room =
    by_answer (is_listed id (machines_of table))
    (λ t. subst (λ (b : Bool). IsTable (if b then table else table ++ new_state id ∷ [])) (sym t) held)
    (λ f. subst (λ (b : Bool). IsTable (if b then table else table ++ new_state id ∷ [])) (sym f) (grown f))
  where
    numbers : numbers_of (machines_of (table ++ new_state id ∷ [])) ≡ numbers_of (machines_of table) ++ id ∷ []
    numbers = ap numbers_of (map-append (λ (s : MachineState). s.machine) table (new_state id ∷ [])) ∙ map-append _ (machines_of table) _

    grown : is_listed id (machines_of table) ≡ false → IsTable (table ++ new_state id ∷ [])
    grown absent =
        let few : length table < most_machines = has_room table id absent room in
        record {
          few = omega (arith, length-append {A = MachineState}, few);
          distinct = subst (IsDistinct nat_eq) (sym numbers) (IsDistinct-push nat_eq_equiv (numbers_of (machines_of table)) id held.distinct (number_listed id (machines_of table) ∙ absent));
          bounded = All-push IsBounded table (new_state id) held.bounded (record { cap = (omega arith, omega arith); free = (omega arith, omega arith); down = λ _. refl });
        }
