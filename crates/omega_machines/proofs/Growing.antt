-- A table with a new machine at its end.
use Rattle.std.proofs.Common.{◌≡◌, ℕ, false, List, [], ◌∷◌, ◌++◌, refl, sym, ap, ◌∙◌, subst, true≢false, Option, Some, None, is_some, position, if◌then◌else◌, ◌==◌}
use Rattle.omega_model.specs.Applying.{ListsOrHasRoom}
use Rattle.omega_model.specs.Machines.{is_listed}
use Rattle.omega_model.specs.Need.{nothing}
use Rattle.omega_model.specs.declared.cells.Attr.{Attr}
use Rattle.omega_machines.specs.Table.{MachineState, machines_of, new_state, ensured_states, IsTable}
use Rattle.omega_machines.proofs.Ensuring.{table_ensured}
use Rattle.omega_machines.proofs.Places.{listed_position}

module _ (states table : List MachineState) (id : ℕ) (seen : states ≡ table) (absent : is_listed id (machines_of table) ≡ false) where
  -- a number that isn't listed has no position
  pub no_position : position (λ machine. machine.id == id) (machines_of states) ≡ None
  no_position = by (position (λ machine. machine.id == id) (machines_of states)) (listed_position id (machines_of states) ∙ ap (λ t. is_listed id (machines_of t)) seen ∙ absent)
    where
      by : (o : Option ℕ) → is_some o ≡ false → o ≡ None
      by None e = refl
      by (Some place) e = absurd (true≢false e)

  -- a table with room takes a new machine at its end, also where its empty list of attributes is made by the code
  pub grown : (attrs : List Attr) (next : List MachineState) → ListsOrHasRoom (machines_of table) id → attrs ≡ [] → IsTable states
      → next ≡ states ++ record { machine = record { id = id; up = false; cap = nothing; attrs = attrs }; free = nothing; seq = 0 } ∷ []
      → IsTable next × (next ≡ ensured_states id table)
  grown attrs next room none held pushed =
      let is : next ≡ table ++ new_state id ∷ [] =
      pushed ∙ (λ i. seen i ++ record { machine = record { id = id; up = false; cap = nothing; attrs = none i }; free = nothing; seq = 0 } ∷ []) in
      let all : next ≡ ensured_states id table = is ∙ sym (ap (λ b. if b then table else table ++ new_state id ∷ []) absent) in
      (subst IsTable (sym all) (table_ensured id table (subst IsTable seen held) room), all)
