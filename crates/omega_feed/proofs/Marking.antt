-- What the rows of a table name is marked, so what has no mark is named by none of them.
use Rattle.std.proofs.Common.{◌≡◌, ◌%◌, ◌==◌, ℕ, zero, suc, Bool, true, false, List, [], ◌∷◌, ◌++◌, None, map, take, get_or, ap, sym, ◌∙◌, get_or-take, arith, mod-lt}
use Rattle.std.specs.List.{last_or}
use Rattle.std.proofs.lemmas.Bool.{both_ways, false_from_ne_true, ne_eqb}
use Rattle.omega_model.specs.Fields.{ConstraintFields}
use Rattle.omega_model.specs.Keys.{same_key}
use Rattle.omega_model.specs.declared.cells.TaskKey.{TaskKey}
use Rattle.omega_model.proofs.InOrder.{key_same}
use Rattle.omega_running.specs.Order.{job_and_index}
use Rattle.omega_model.proofs.Lists.{each_map, filter_none}
use Rattle.omega_feed.specs.Asked.{constraints_for}
use Rattle.omega_feed.specs.Last.{last_amount}
use Rattle.omega_feed.specs.Marks.{AreMarked, AreMarkedTasks, is_marked}

-- what holds at a place of a list holds where the list goes on
longer : (marks more : List Bool) (place : ℕ) → get_or marks place false ≡ true → get_or (marks ++ more) place false ≡ true
longer [] more place is = absurd (cc)
longer (mark ∷ marks) more zero is = is
longer (mark ∷ marks) more (suc place) is = longer marks more place is

-- a number stays marked where the marks are made more, of which the first 65,536 count
pub marked_longer : (marks more : List Bool) (number : ℕ) → is_marked marks number ≡ true → is_marked (take 65536 marks ++ more) number ≡ true
marked_longer marks more number is =
    let place = number % 65536 in
    longer (take 65536 marks) more place (get_or-take 65536 marks place false (mod-lt number (omega arith)) ∙ is)

-- a number that is marked is none without a mark
differs : (marks : List Bool) (one other : ℕ) → is_marked marks other ≡ false → is_marked marks one ≡ true → one ≡ other → ⊥
differs marks one other without has same = both_ways (is_marked marks other) without (ap (is_marked marks) (sym same) ∙ has)

-- no row has a name without a mark
pub unmarked_name : {Row : Type 0} (name amount : Row → ℕ) (marks : List Bool) (rows : List Row) (id : ℕ)
    → AreMarked name marks rows → is_marked marks id ≡ false → last_amount name amount rows id ≡ None
unmarked_name {Row} name amount marks rows id named without =
    ap (λ (found : List Row). last_or None (map amount found))
    (filter_none (λ row. name row == id) rows
    (each_map _ (λ row. (name row == id) ≡ false)
    (λ row has. ne_eqb (name row) id (differs marks (name row) id without has)) rows named))

-- a task without a mark has no constraints
pub unmarked_task : (marks : List Bool) (rows : List ConstraintFields) (key : TaskKey)
    → AreMarkedTasks marks rows → is_marked marks (job_and_index key) ≡ false → constraints_for rows key ≡ []
unmarked_task marks rows key named without =
    ap (map (λ (row : ConstraintFields). row.constraint))
    (filter_none (λ row. same_key row.key key) rows
    (each_map _ (λ (row : ConstraintFields). same_key row.key key ≡ false)
    (λ row has. false_from_ne_true _ (λ same. differs marks (job_and_index row.key) (job_and_index key) without has (ap job_and_index (key_same row.key key same)))) rows named))
