-- What is wanted once a task has ended by itself: what a row that ends it would leave, and then its held rows.
use Rattle.std.proofs.Common.{◌≡◌, ℕ, Bool, true, false, List, [], ◌∷◌, ◌++◌, Some, None, refl, sym, ap, subst, ◌∙◌, ◌+◌}
use Rattle.std.specs.Prelude.{◌==◌, ◌&&◌, not, length}
use Rattle.std.specs.List.{filter, find, fold, list_any, AllByRecursion as Each}
use Rattle.std.proofs.lemmas.Bool.{both_ways}
use Rattle.std.proofs.lemmas.List.Sums.{fold-append}
use Rattle.std.proofs.lemmas.Option.{none-some, same_Some}
use Rattle.omega_model.proofs.InOrder.{key_asym, key_differs, key_itself, key_same, key_trans, same_key-sym}
use Rattle.omega_model.proofs.Lists.{by_answer, each_append, each_filter, each_map, each_passes}
use Rattle.omega_model.specs.Fields.{TaskFields}
use Rattle.omega_model.specs.Keys.{key_lt, same_key}
use Rattle.omega_model.specs.Wanted.{WantedTask, ends, is_named, submits, updates, wanted, wanted_after, wanted_after_task, with_wanted}
use Rattle.omega_model.specs.declared.cells.Spec.{Spec}
use Rattle.omega_model.specs.declared.cells.TaskKey.{TaskKey}
use Rattle.omega_model.specs.declared.entries.Entry.{Entry}
use Rattle.omega_model.specs.declared.entries.Entry.TheVariants.{End}
use Rattle.omega_model.specs.declared.rows.Row.{Row}
use Rattle.omega_model.specs.declared.rows.Row.TheVariants.{Machine, Attr as AttrEvent, Task as TaskEvent}
use Rattle.omega_free_laws.specs.Lives.{counting, pieces_of, ended}
use Rattle.omega_pieces.proofs.Counting.{is_row_of}
use Rattle.omega_pieces.specs.PieceRows.{piece_rows, piece_rows_behind}
use Rattle.omega_free_laws.proofs.DueEnds.{ended_own, ended_same}
use Rattle.omega_pieces.proofs.WantedByName.{find_gone, find_kept, named_after, wanted_by_piece, wanted_by_rows}

-- ---- wanted tasks stand in order of name

abbrev InOrder : List WantedTask → Type 0
InOrder [] = Unit {0}
InOrder (task ∷ tasks) = Each (λ (other : WantedTask). key_lt task.key other.key ≡ true) tasks × InOrder tasks

order_filter : (p : WantedTask → Bool) (tasks : List WantedTask) → InOrder tasks → InOrder (filter p tasks)
order_filter p [] order = tt
order_filter p (task ∷ tasks) order =
    by_answer (p task)
    (λ h. rw h (each_filter (λ (other : WantedTask). key_lt task.key other.key ≡ true) p tasks order.0, order_filter p tasks order.1))
    (λ h. rw h (order_filter p tasks order.1))

order_append : (xs ys : List WantedTask) → InOrder xs → InOrder ys
    → Each (λ (x : WantedTask). Each (λ (y : WantedTask). key_lt x.key y.key ≡ true) ys) xs → InOrder (xs ++ ys)
order_append [] ys first second between = second
order_append (x ∷ xs) ys first second between = (
  each_append (λ (y : WantedTask). key_lt x.key y.key ≡ true) xs ys first.0 between.0,
  order_append xs ys first.1 second between.1,
)

order_with : (key : TaskKey) (spec : Spec) (tasks : List WantedTask) → InOrder tasks → InOrder (with_wanted key spec tasks)
order_with key spec tasks order =
    let front : List WantedTask = filter (λ (o : WantedTask). key_lt o.key key) tasks in
    let back : List WantedTask = filter (λ (o : WantedTask). key_lt key o.key) tasks in
    let after : Each (λ (o : WantedTask). key_lt key o.key ≡ true) back = each_passes (λ (o : WantedTask). key_lt key o.key) tasks in
    order_append front (record { key = key; spec = spec } ∷ back) (order_filter (λ (o : WantedTask). key_lt o.key key) tasks order)
    (after, order_filter (λ (o : WantedTask). key_lt key o.key) tasks order)
    (each_map (λ (o : WantedTask). key_lt o.key key ≡ true)
    (λ (x : WantedTask). Each (λ (y : WantedTask). key_lt x.key y.key ≡ true) (record { key = key; spec = spec } ∷ back))
    (λ x less. (less, each_map (λ (o : WantedTask). key_lt key o.key ≡ true) (λ (y : WantedTask). key_lt x.key y.key ≡ true) (λ y more. key_trans x.key key y.key less more) back after))
    front (each_passes (λ (o : WantedTask). key_lt o.key key) tasks))

order_task : (tasks : List WantedTask) (row : TaskFields) → InOrder tasks → InOrder (wanted_after_task tasks row)
order_task tasks row order =
    by_answer (submits row.code)
    (λ t. rw t (order_with row.key row.spec tasks order))
    (λ f. by_answer (ends row.code)
    (λ t. rw (f, t) (order_filter (λ (task : WantedTask). not (is_named row.key task)) tasks order))
    (λ g. by_answer (updates row.code && list_any (is_named row.key) tasks)
    (λ t. rw (f, g, t) (order_with row.key row.spec tasks order))
    (λ h. rw (f, g, h) order)))

order_after : (tasks : List WantedTask) (rows : List Row) → InOrder tasks → InOrder (fold wanted_after tasks rows)
order_after tasks [] order = order
order_after tasks (Machine row ∷ rows) order = order_after tasks rows order
order_after tasks (AttrEvent row ∷ rows) order = order_after tasks rows order
order_after tasks (TaskEvent row ∷ rows) order = order_after (wanted_after_task tasks row) rows (order_task tasks row order)

-- ---- two such lists that are alike by name are equal

none_behind : (key : TaskKey) (tasks : List WantedTask) → Each (λ (other : WantedTask). key_lt key other.key ≡ true) tasks → find (is_named key) tasks ≡ None
none_behind key [] each = refl
none_behind key (task ∷ tasks) each =
    let other : same_key task.key key ≡ false = same_key-sym key task.key (key_differs key task.key each.0) in
    rw other (none_behind key tasks each.1)

found_is : (P : WantedTask → Type 0) (p : WantedTask → Bool) (tasks : List WantedTask) (task : WantedTask) → Each P tasks → find p tasks ≡ Some task → P task
found_is P p [] task each found = absurd (none-some task found)
found_is P p (first ∷ tasks) task each found =
    by_answer (p first)
    (λ t. subst P (same_Some first task (rw t at found)) each.0)
    (λ f. found_is P p tasks task each.1 (rw f at found))

alike_equal : (one other : List WantedTask) → InOrder one → InOrder other → ((key : TaskKey) → find (is_named key) one ≡ find (is_named key) other) → one ≡ other
alike_equal [] [] a b alike = refl
alike_equal [] (u ∷ us) a b alike = absurd (none-some u (let here = alike u.key in let itself = key_itself u.key in rw itself at here))
alike_equal (t ∷ ts) [] a b alike = absurd (none-some t (let here = sym (alike t.key) in let itself = key_itself t.key in rw itself at here))
alike_equal (t ∷ ts) (u ∷ us) a b alike =
    by_answer (same_key u.key t.key)
    (λ s.
    let same : t ≡ u = same_Some t u (rw (key_itself t.key, s) at (alike t.key)) in
    let rest : ts ≡ us = alike_equal ts us a.1 b.1 (λ key. tails key same) in
    subst (λ (x : WantedTask). t ∷ ts ≡ x ∷ us) same (ap (λ (more : List WantedTask). t ∷ more) rest))
    (λ f.
    let there : Some t ≡ find (is_named t.key) us = rw (key_itself t.key, f) at (alike t.key) in
    let back : find (is_named u.key) ts ≡ Some u = rw (key_itself u.key, same_key-sym u.key t.key f) at (alike u.key) in
    let behind : key_lt u.key t.key ≡ true = found_is (λ (it : WantedTask). key_lt u.key it.key ≡ true) (is_named t.key) us t b.0 (sym there) in
    let before : key_lt t.key u.key ≡ true = found_is (λ (it : WantedTask). key_lt t.key it.key ≡ true) (is_named u.key) ts u a.0 back in
    absurd (both_ways _ (key_asym t.key u.key before) behind)) where
      tails : (key : TaskKey) → t ≡ u → find (is_named key) ts ≡ find (is_named key) us
      tails key same =
          by_answer (same_key t.key key)
          (λ s.
          let name : t.key ≡ key = key_same t.key key s in
          let other : u.key ≡ key = ap (λ (it : WantedTask). it.key) (sym same) ∙ name in
          subst (λ (k : TaskKey). find (is_named k) ts ≡ None) name (none_behind t.key ts a.0)
          ∙ sym (subst (λ (k : TaskKey). find (is_named k) us ≡ None) other (none_behind u.key us b.0)))
          (λ f.
          let too : same_key u.key key ≡ false = subst (λ (it : WantedTask). same_key it.key key ≡ false) same f in
          rw (f, too) at (alike key))

-- ---- an end

none_held : (key other : TaskKey) (number : ℕ) (before rows : List Row) → same_key key other ≡ false → filter (is_row_of other) (piece_rows_behind key number before rows) ≡ []
none_held key other number before [] differ = refl
none_held key other number before (Machine row ∷ rows) differ = none_held key other number (before ++ Machine row ∷ []) rows differ
none_held key other number before (AttrEvent row ∷ rows) differ = none_held key other number (before ++ AttrEvent row ∷ []) rows differ
none_held key other number before (TaskEvent row ∷ rows) differ =
    let rest = none_held key other number (before ++ TaskEvent row ∷ []) rows differ in
    by_answer (same_key row.key key)
    (λ t.
    let apart : same_key row.key other ≡ false = subst (λ (k : TaskKey). same_key k other ≡ false) (sym (key_same row.key key t)) differ in
    by_answer (not (ends row.code) && length (pieces_of row.key before).lives == number)
    (λ c. rw (t, c, apart) rest)
    (λ c. rw (t, c) rest))
    (λ f. rw f rest)

-- once a task has ended, what is wanted is what a row that ends it would leave, and then what its rows of the next piece
-- that were applied make of that
pub asked_ended : (history : List Entry) (key : TaskKey) (machine : ℕ) (rows : List Row)
    → wanted (counting rows (history ++ End key machine ∷ []))
    ≡ fold wanted_after (filter (λ task. not (is_named key task)) (wanted (counting rows history))) (piece_rows_behind key (ended history key + 1) [] rows)
asked_ended history key machine rows =
    alike_equal (wanted (counting rows (history ++ End key machine ∷ []))) (fold wanted_after left held)
    (order_after [] (counting rows (history ++ End key machine ∷ [])) tt)
    (order_after left held (order_filter (λ (task : WantedTask). not (is_named key task)) (wanted (counting rows history)) (order_after [] (counting rows history) tt)))
    (λ other. by_answer (same_key key other) (λ t. subst (λ (k : TaskKey). find (is_named k) (wanted (counting rows (history ++ End key machine ∷ []))) ≡ find (is_named k) (fold wanted_after left held)) (key_same key other t) own) (λ f. others other f)) where
      left : List WantedTask
      left = filter (λ (task : WantedTask). not (is_named key task)) (wanted (counting rows history))

      held : List Row
      held = piece_rows_behind key (ended history key + 1) [] rows

      own : find (is_named key) (wanted (counting rows (history ++ End key machine ∷ [])))
          ≡ find (is_named key) (fold wanted_after (filter (λ (task : WantedTask). not (is_named key task)) (wanted (counting rows history))) (piece_rows_behind key (ended history key + 1) [] rows))
      own =
          wanted_by_piece (history ++ End key machine ∷ []) key rows
          ∙ ap (λ (n : ℕ). find (is_named key) (wanted (piece_rows_behind key n [] rows))) (ended_own key history machine)
          ∙ wanted_by_rows key (piece_rows_behind key (ended history key + 1) [] rows)
          ∙ sym (named_after key (filter (λ (task : WantedTask). not (is_named key task)) (wanted (counting rows history))) [] (piece_rows_behind key (ended history key + 1) [] rows)
          (find_gone (is_named key) (λ (task : WantedTask). not (is_named key task)) (λ task is. rw is refl) (wanted (counting rows history))))

      others : (other : TaskKey) → same_key key other ≡ false
          → find (is_named other) (wanted (counting rows (history ++ End key machine ∷ [])))
          ≡ find (is_named other) (fold wanted_after (filter (λ (task : WantedTask). not (is_named key task)) (wanted (counting rows history))) (piece_rows_behind key (ended history key + 1) [] rows))
      others other differ =
          wanted_by_piece (history ++ End key machine ∷ []) other rows
          ∙ ap (λ (n : ℕ). find (is_named other) (wanted (piece_rows_behind other n [] rows))) (ended_same other history (End key machine) differ)
          ∙ sym (wanted_by_piece history other rows)
          ∙ sym (named_after other (filter (λ (task : WantedTask). not (is_named key task)) (wanted (counting rows history))) (wanted (counting rows history)) (piece_rows_behind key (ended history key + 1) [] rows)
          (find_kept (is_named other) (λ (task : WantedTask). not (is_named key task))
          (λ task is. let apart : same_key task.key key ≡ false = subst (λ (k : TaskKey). same_key k key ≡ false) (sym (key_same task.key other is)) (same_key-sym key other differ) in rw apart refl)
          (wanted (counting rows history)))
          ∙ ap (λ (some : List Row). find (is_named other) (fold wanted_after (wanted (counting rows history)) some)) (none_held key other (ended history key + 1) [] rows differ))

-- so it is what is wanted of the rows that counted, then a row that ends the task, then the rows of the next piece
pub wanted_ended : (history : List Entry) (key : TaskKey) (machine : ℕ) (rows held : List Row) (end : TaskFields) → end.key ≡ key → end.code ≡ 4
    → held ≡ piece_rows key (ended history key + 1) rows
    → wanted (counting rows (history ++ End key machine ∷ [])) ≡ wanted (counting rows history ++ TaskEvent end ∷ held)
wanted_ended history key machine rows held end named code is =
    asked_ended history key machine rows
    ∙ ap (λ (k : TaskKey). fold wanted_after (filter (λ (task : WantedTask). not (is_named k task)) (wanted (counting rows history))) (piece_rows key (ended history key + 1) rows)) (sym named)
    ∙ ap (λ (tasks : List WantedTask). fold wanted_after tasks (piece_rows key (ended history key + 1) rows)) (sym made)
    ∙ ap (fold wanted_after (wanted_after_task (wanted (counting rows history)) end)) (sym is)
    ∙ sym (fold-append wanted_after [] (counting rows history) (TaskEvent end ∷ held)) where
      made : wanted_after_task (wanted (counting rows history)) end ≡ filter (λ (task : WantedTask). not (is_named end.key task)) (wanted (counting rows history))
      made = rw code refl
