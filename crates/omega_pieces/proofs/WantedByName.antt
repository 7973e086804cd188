-- How a task is wanted follows from its own rows.
use Rattle.std.proofs.Common.{◌≡◌, ◌<◌, ℕ, Bool, true, false, List, [], ◌∷◌, ◌++◌, Option, Some, None, refl, sym, ap, subst, ◌∙◌, inl, inr, arith}
use Rattle.std.specs.Prelude.{◌⊎◌, ◌&&◌, not, is_some}
use Rattle.std.specs.List.{filter, find, fold, list_any, AllByRecursion as Each}
use Rattle.std.proofs.lemmas.Bool.{and_from, both_ways, eq-eqb}
use Rattle.omega_model.proofs.InOrder.{key_asym, key_differs, key_itself, key_same, same_key-sym, tested_before}
use Rattle.omega_model.proofs.Lists.{by_answer, each_map, each_passes}
use Rattle.omega_model.specs.Keys.{key_lt, same_key}
use Rattle.omega_model.specs.Fields.{TaskFields}
use Rattle.omega_model.specs.Wanted.{WantedTask, ends, is_named, submits, updates, wanted, wanted_after, wanted_after_task, with_wanted}
use Rattle.omega_model.specs.declared.cells.Spec.{Spec}
use Rattle.omega_model.specs.declared.cells.TaskKey.{TaskKey}
use Rattle.omega_model.specs.declared.entries.Entry.{Entry}
use Rattle.omega_model.specs.declared.rows.Row.{Row}
use Rattle.omega_model.specs.declared.rows.Row.TheVariants.{Machine, Attr as AttrEvent, Task as TaskEvent}
use Rattle.omega_free_laws.specs.Lives.{counting, ended}
use Rattle.omega_pieces.proofs.Counting.{counting_own, is_row_of}
use Rattle.omega_pieces.specs.PieceRows.{piece_rows_behind}

module _ {X : Type 0} (p : X → Bool) where
  find_past : (xs ys : List X) → Each (λ x. p x ≡ false) xs → find p (xs ++ ys) ≡ find p ys
  find_past [] ys none = refl
  find_past (x ∷ xs) ys none = rw none.0 (find_past xs ys none.1)

  find_front : (xs ys : List X) → find p ys ≡ None → find p (xs ++ ys) ≡ find p xs
  find_front [] ys none = none
  find_front (x ∷ xs) ys none = by_answer (p x) (λ t. rw t refl) (λ f. rw f (find_front xs ys none))

  pub find_kept : (q : X → Bool) → ((x : X) → p x ≡ true → q x ≡ true) → (xs : List X) → find p (filter q xs) ≡ find p xs
  find_kept q keeps [] = refl
  find_kept q keeps (x ∷ xs) =
      by_answer (p x)
      (λ t. let kept = keeps x t in rw (kept, t) refl)
      (λ f. by_answer (q x) (λ k. rw (k, f) (find_kept q keeps xs)) (λ k. rw (k, f) (find_kept q keeps xs)))

  pub find_gone : (q : X → Bool) → ((x : X) → p x ≡ true → q x ≡ false) → (xs : List X) → find p (filter q xs) ≡ None
  find_gone q goes [] = refl
  find_gone q goes (x ∷ xs) =
      by_answer (q x)
      (λ k. by_answer (p x) (λ t. absurd (both_ways _ (goes x t) k)) (λ f. rw (k, f) (find_gone q goes xs)))
      (λ k. rw k (find_gone q goes xs))

  any_found : (xs : List X) → list_any p xs ≡ is_some (find p xs)
  any_found [] = refl
  any_found (x ∷ xs) = by_answer (p x) (λ t. rw t refl) (λ f. rw f (any_found xs))

three : (x y : ℕ) → (x < y) ⊎ ((x ≡ y) ⊎ (y < x))
three x y = grind (arith)

key_total : (a b : TaskKey) → same_key a b ≡ false → (key_lt a b ≡ true) ⊎ (key_lt b a ≡ true)
key_total a b differ = by_job (three a.job b.job) where
  by_index : a.job ≡ b.job → (a.index < b.index) ⊎ ((a.index ≡ b.index) ⊎ (b.index < a.index)) → (key_lt a b ≡ true) ⊎ (key_lt b a ≡ true)
  by_index same (inl less) = inl (tested_before a b (inr (same, less)))
  by_index same (inr (inl equal)) = absurd (both_ways _ differ (and_from _ _ (eq-eqb _ _ same) (eq-eqb _ _ equal)))
  by_index same (inr (inr more)) = inr (tested_before b a (inr (sym same, more)))

  by_job : (a.job < b.job) ⊎ ((a.job ≡ b.job) ⊎ (b.job < a.job)) → (key_lt a b ≡ true) ⊎ (key_lt b a ≡ true)
  by_job (inl less) = inl (tested_before a b (inl less))
  by_job (inr (inl same)) = by_index same (three a.index b.index)
  by_job (inr (inr more)) = inr (tested_before b a (inl more))

-- the wanted task of a name
abbrev pub named : TaskKey → List WantedTask → Option WantedTask
named key tasks = find (is_named key) tasks

named_with : (key : TaskKey) (spec : Spec) (tasks : List WantedTask) → named key (with_wanted key spec tasks) ≡ Some (record { key = key; spec = spec })
named_with key spec tasks =
    find_past (is_named key) (filter (λ (other : WantedTask). key_lt other.key key) tasks) _
    (each_map (λ (other : WantedTask). key_lt other.key key ≡ true) (λ (other : WantedTask). same_key other.key key ≡ false)
    (λ other less. key_differs other.key key less) (filter (λ (other : WantedTask). key_lt other.key key) tasks) (each_passes (λ (other : WantedTask). key_lt other.key key) tasks))
    ∙ rw (key_itself key) refl

named_beside : (key other : TaskKey) (spec : Spec) (tasks : List WantedTask) → same_key key other ≡ false → named other (with_wanted key spec tasks) ≡ named other tasks
named_beside key other spec tasks differ = by_order (key_total key other differ) where
  back : List WantedTask
  back = filter (λ (it : WantedTask). key_lt key it.key) tasks

  is_before : (it : WantedTask) → same_key it.key other ≡ true → (first : TaskKey) → key_lt first other ≡ true → key_lt first it.key ≡ true
  is_before it named first less = subst (λ (k : TaskKey). key_lt first k ≡ true) (sym (key_same it.key other named)) less

  is_behind : (it : WantedTask) → same_key it.key other ≡ true → (last : TaskKey) → key_lt other last ≡ true → key_lt it.key last ≡ true
  is_behind it named last less = subst (λ (k : TaskKey). key_lt k last ≡ true) (sym (key_same it.key other named)) less

  by_order : (key_lt key other ≡ true) ⊎ (key_lt other key ≡ true) → named other (with_wanted key spec tasks) ≡ named other tasks
  by_order (inl less) =
      find_past (is_named other) (filter (λ (it : WantedTask). key_lt it.key key) tasks) (record { key = key; spec = spec } ∷ filter (λ (it : WantedTask). key_lt key it.key) tasks)
      (each_map (λ (it : WantedTask). key_lt it.key key ≡ true) (λ (it : WantedTask). same_key it.key other ≡ false)
      (λ it low. by_answer (same_key it.key other) (λ t. absurd (both_ways _ (key_asym key it.key (is_before it t key less)) low)) (λ f. f))
      (filter (λ (it : WantedTask). key_lt it.key key) tasks) (each_passes (λ (it : WantedTask). key_lt it.key key) tasks))
      ∙ rw differ (find_kept (is_named other) (λ (it : WantedTask). key_lt key it.key) (λ it t. is_before it t key less) tasks)
  by_order (inr more) =
      let none : named other (filter (λ (it : WantedTask). key_lt key it.key) tasks) ≡ None =
      find_gone (is_named other) (λ (it : WantedTask). key_lt key it.key) (λ it t. key_asym it.key key (is_behind it t key more)) tasks in
      let rest : named other (record { key = key; spec = spec } ∷ filter (λ (it : WantedTask). key_lt key it.key) tasks) ≡ None = rw differ none in
      find_front (is_named other) (filter (λ (it : WantedTask). key_lt it.key key) tasks) (record { key = key; spec = spec } ∷ filter (λ (it : WantedTask). key_lt key it.key) tasks) rest
      ∙ find_kept (is_named other) (λ (it : WantedTask). key_lt it.key key) (λ it t. is_behind it t key more) tasks

-- a row of another task leaves how this one is wanted
other_row : (key : TaskKey) (tasks : List WantedTask) (row : TaskFields) → same_key row.key key ≡ false → named key (wanted_after_task tasks row) ≡ named key tasks
other_row key tasks row differ =
    by_answer (submits row.code)
    (λ t. rw t (named_beside row.key key row.spec tasks differ))
    (λ f. by_answer (ends row.code)
    (λ t. rw (f, t) (find_kept (is_named key) (λ (task : WantedTask). not (is_named row.key task)) (λ task is. stays task is) tasks))
    (λ g. by_answer (updates row.code && list_any (is_named row.key) tasks)
    (λ t. rw (f, g, t) (named_beside row.key key row.spec tasks differ))
    (λ h. rw (f, g, h) refl))) where
      stays : (task : WantedTask) → same_key task.key key ≡ true → not (same_key task.key row.key) ≡ true
      stays task is =
          let same : task.key ≡ key = key_same task.key key is in
          let apart : same_key task.key row.key ≡ false = subst (λ (k : TaskKey). same_key k row.key ≡ false) (sym same) (same_key-sym row.key key differ) in
          rw apart refl

-- a row of its own makes the same of lists in which it is wanted alike
own_row : (key : TaskKey) (tasks others : List WantedTask) (row : TaskFields) → row.key ≡ key → named key tasks ≡ named key others
    → named key (wanted_after_task tasks row) ≡ named key (wanted_after_task others row)
own_row key tasks others row same alike =
    subst (λ (k : TaskKey). named k tasks ≡ named k others → named k (wanted_after_task tasks row) ≡ named k (wanted_after_task others row)) same here alike where
      here : named row.key tasks ≡ named row.key others → named row.key (wanted_after_task tasks row) ≡ named row.key (wanted_after_task others row)
      here same_there =
          let any : list_any (is_named row.key) tasks ≡ list_any (is_named row.key) others =
          any_found (is_named row.key) tasks ∙ ap is_some same_there ∙ sym (any_found (is_named row.key) others) in
          by_answer (submits row.code)
          (λ t. rw t (named_with row.key row.spec tasks ∙ sym (named_with row.key row.spec others)))
          (λ f. by_answer (ends row.code)
          (λ t. rw (f, t) (gone tasks ∙ sym (gone others)))
          (λ g. by_answer (updates row.code && list_any (is_named row.key) others)
          (λ t. let too : (updates row.code && list_any (is_named row.key) tasks) ≡ true = ap (λ (b : Bool). updates row.code && b) any ∙ t in
          rw (f, g, t, too) (named_with row.key row.spec tasks ∙ sym (named_with row.key row.spec others)))
          (λ h. let too : (updates row.code && list_any (is_named row.key) tasks) ≡ false = ap (λ (b : Bool). updates row.code && b) any ∙ h in
          rw (f, g, h, too) same_there))) where
            gone : (some : List WantedTask) → named row.key (filter (λ (task : WantedTask). not (is_named row.key task)) some) ≡ None
            gone some = find_gone (is_named row.key) (λ (task : WantedTask). not (is_named row.key task)) (λ task is. rw is refl) some

pub named_after : (key : TaskKey) (tasks others : List WantedTask) (rows : List Row) → named key tasks ≡ named key others
    → named key (fold wanted_after tasks rows) ≡ named key (fold wanted_after others (filter (is_row_of key) rows))
named_after key tasks others [] alike = alike
named_after key tasks others (Machine row ∷ rows) alike = named_after key tasks others rows alike
named_after key tasks others (AttrEvent row ∷ rows) alike = named_after key tasks others rows alike
named_after key tasks others (TaskEvent row ∷ rows) alike =
    by_answer (same_key row.key key)
    (λ t. rw t (named_after key (wanted_after_task tasks row) (wanted_after_task others row) rows (own_row key tasks others row (key_same row.key key t) alike)))
    (λ f. rw f (named_after key (wanted_after_task tasks row) others rows (other_row key tasks row f ∙ alike)))

-- how a task is wanted follows from its rows alone
pub wanted_by_rows : (key : TaskKey) (rows : List Row) → find (is_named key) (wanted rows) ≡ find (is_named key) (wanted (filter (is_row_of key) rows))
wanted_by_rows key rows = named_after key [] [] rows refl

-- so where tasks end by themselves it is wanted as the rows of its current piece say
pub wanted_by_piece : (history : List Entry) (key : TaskKey) (rows : List Row)
    → find (is_named key) (wanted (counting rows history)) ≡ find (is_named key) (wanted (piece_rows_behind key (ended history key) [] rows))
wanted_by_piece history key rows =
    wanted_by_rows key (counting rows history) ∙ ap (λ (some : List Row). find (is_named key) (wanted some)) (counting_own history key rows)
