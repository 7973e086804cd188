-- Parts of the reading of a record, and the machines that records name.
use Rattle.std.specs.Prelude.{◌≡◌, ℕ, Bool, ◌==◌, List, length, Result, Ok}
use Rattle.std.specs.BTreeSet.{BTreeSet, btree_set_len, contains}
use Rattle.std.specs.List.{list_any}
use Rattle.std.specs.Ordering.{nat_cmp}
use Rattle.omega_model.specs.Feed.{each_once}
use Rattle.omega_model.specs.Columns.{BadColumn, and_then, with_fields, time_in, id_in, key_in, number_in, operator}
use Rattle.omega_model.specs.declared.cells.TaskKey.{TaskKey}
use Rattle.omega_model.specs.declared.wishes.Op.{Op}

-- nothing is wrong with the number of fields
abbrev pub has_fields : ℕ → List (List ℕ) → Result (Unit {0}) BadColumn
has_fields number fields = with_fields number fields (Ok tt)

-- what of a row of attributes isn't text: time, machine, and whether it is deleted
abbrev pub attr_numbers : List (List ℕ) → Result (ℕ × ℕ × Bool) BadColumn
attr_numbers fields =
    with_fields 5 fields (
    and_then (time_in 1 fields) (λ moment.
    and_then (id_in 2 fields) (λ id.
    and_then (number_in 1 5 fields) (λ flag.
    Ok (moment, id, flag == 1)))))

-- what of a row of constraints isn't text: the task and the operator
abbrev pub constraint_numbers : List (List ℕ) → Result (TaskKey × Op) BadColumn
constraint_numbers fields =
    with_fields 6 fields (
    and_then (time_in 1 fields) (λ moment.
    and_then (key_in 2 fields) (λ name.
    and_then (number_in 3 4 fields) (λ code.
    Ok (name, operator code)))))

-- a set has exactly the numbers of a list, each of them once
pub record Holds (named : BTreeSet ℕ) (ids : List ℕ) : Type 0 where
  pub count : btree_set_len named ≡ length (each_once ids)
  pub members : (id : ℕ) → contains nat_cmp named id ≡ list_any (λ other. other == id) ids
