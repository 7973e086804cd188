-- The places of a task's constraints.
use Rattle.std.proofs.Common.{◌≡◌, ℕ, zero, suc, ◌+◌, ◌<◌, false, cond, List, [], ◌∷◌, ◌++◌, Some, None, length, take, get_or, refl, ap, sym, ◌∙◌, arith, append-nil}
use Rattle.std.specs.Prelude.{slice_get, unwrap_or}
use Rattle.std.specs.BTreeMap as tree
use Rattle.std.specs.BTreeMap.{BTreeMap}
use Rattle.std.specs.List.{filter, filter_map, cons_option}
use Rattle.std.specs.Ordering.{is_eq}
use Rattle.std.specs.declared.cmp.Ordering.{Ordering}
use Rattle.std.specs.declared.cmp.Ordering.TheVariants.{Less, Equal, Greater}
use Rattle.std.proofs.lemmas.List.Elements.{filter_map-append, filter_more}
use Rattle.omega_model.specs.Fields.{ConstraintFields}
use Rattle.omega_model.specs.Keys.{same_key}
use Rattle.omega_model.specs.declared.cells.TaskKey.{TaskKey}
use Rattle.omega_feed.specs.Index.{key_cmp}
use Rattle.omega_feed.proofs.KeyOrder.{Facts, facts}
use Rattle.omega_model.proofs.InOrder.{key_itself}

slice_at : (rows : List ConstraintFields) (place : ℕ) (row : ConstraintFields) → place < length rows → row ≡ get_or rows place row → slice_get rows place ≡ Some row
slice_at [] place row h e = absurd (omega arith)
slice_at (other ∷ rows) zero row h e = ap Some (sym e)
slice_at (other ∷ rows) (suc place) row h e = slice_at rows place row (omega arith) e

-- one more row stands at the end of its task's places
pub listed_more : (rows : List ConstraintFields) (place : ℕ) (row : ConstraintFields) (key : TaskKey) (places without more : BTreeMap TaskKey (List ℕ)) (list : List ℕ)
    → place < length rows → row ≡ get_or rows place row → row.key ≡ key
    → list ≡ unwrap_or (tree.get key_cmp places key) [] ++ place ∷ []
    → tree.Updates key_cmp places without key None → tree.Updates key_cmp without more key (Some list)
    → ((key : TaskKey) → filter_map (slice_get rows) (unwrap_or (tree.get key_cmp places key) []) ≡ filter (λ row. same_key row.key key) (take place rows))
    → (other : TaskKey) → filter_map (slice_get rows) (unwrap_or (tree.get key_cmp more other) []) ≡ filter (λ row. same_key row.key other) (take (place + 1) rows)
listed_more rows place row key places without more list h at named end u v before other =
    by_cases (key_cmp key other) refl (facts key other) where
      here : filter (λ row. same_key row.key other) (take (place + 1) rows)
          ≡ filter (λ row. same_key row.key other) (take place rows) ++ cond (same_key key other) (row ∷ []) []
      here = filter_more (λ row. same_key row.key other) rows place row h ∙ rw (← at, named) refl

      same : key ≡ other → filter_map (slice_get rows) (unwrap_or (tree.get key_cmp more other) []) ≡ filter (λ row. same_key row.key other) (take (place + 1) rows)
      same e =
          let old = unwrap_or (tree.get key_cmp places key) [] in
          let placed : filter_map (slice_get rows) (place ∷ []) ≡ row ∷ [] = ap (λ z. cons_option z []) (slice_at rows place row h at) in
          ap (λ z. filter_map (slice_get rows) (unwrap_or z [])) (ap (λ k. tree.get key_cmp more k) (sym e) ∙ v.1)
          ∙ ap (filter_map (slice_get rows)) end
          ∙ filter_map-append (slice_get rows) old (place ∷ [])
          ∙ ap (λ z. z ++ filter_map (slice_get rows) (place ∷ [])) (before key ∙ ap (λ k. filter (λ row. same_key row.key k) (take place rows)) e)
          ∙ ap (λ z. filter (λ row. same_key row.key other) (take place rows) ++ z) placed
          ∙ sym (here ∙ rw (ap (same_key key) (sym e) ∙ key_itself key) refl)

      apart : tree.is_at (key_cmp key) other ≡ false → same_key key other ≡ false
          → filter_map (slice_get rows) (unwrap_or (tree.get key_cmp more other) []) ≡ filter (λ row. same_key row.key other) (take (place + 1) rows)
      apart off differs =
          ap (λ z. filter_map (slice_get rows) (unwrap_or z [])) (v.2 other off ∙ u.2 other off)
          ∙ before other
          ∙ sym (here ∙ rw differs (append-nil _))

      by_cases : (o : Ordering) → key_cmp key other ≡ o → Facts o key other
          → filter_map (slice_get rows) (unwrap_or (tree.get key_cmp more other) []) ≡ filter (λ row. same_key row.key other) (take (place + 1) rows)
      by_cases Less is f = apart (ap is_eq is) f.3
      by_cases Equal is f = same f
      by_cases Greater is f = apart (ap is_eq is) f.3
