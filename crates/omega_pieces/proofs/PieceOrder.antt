-- What is found in a table by task, and in one by task and number, once one entry of it was set.
use Rattle.std.proofs.Common.{◌≡◌, ℕ, Bool, true, cond, Option, Some, refl, sym, ap, subst, ◌∙◌, inl, inr, arith}
use Rattle.std.specs.Prelude.{◌==◌, ◌&&◌, unwrap_or}
use Rattle.std.specs.BTreeMap as tree
use Rattle.std.specs.BTreeMap.{BTreeMap}
use Rattle.std.specs.Ordering.{is_eq, nat_cmp, ordering_then}
use Rattle.std.specs.declared.cmp.Ordering.{Ordering}
use Rattle.std.specs.declared.cmp.Ordering.TheVariants.{Less, Equal, Greater}
use Rattle.std.proofs.lemmas.Bool.{cases_order, eq-eqb, le-ltb, lt-ltb, ne_eqb}
use Rattle.omega_feed.proofs.KeyOrder.{Facts, facts}
use Rattle.omega_feed.specs.Index.{key_cmp}
use Rattle.omega_model.proofs.InOrder.{key_itself}
use Rattle.omega_model.proofs.Lists.{by_answer}
use Rattle.omega_model.specs.Keys.{same_key}
use Rattle.omega_model.specs.declared.cells.TaskKey.{TaskKey}
use Rattle.omega_pieces.specs.HowFar.{progress_at, piece_cmp, unstarted}
use Rattle.omega_pieces.specs.declared.progress.Progress.{Progress}

pub at_key : (a b : TaskKey) → tree.is_at (key_cmp a) b ≡ same_key a b
at_key a b = by_order (key_cmp a b) (facts a b) where
  by_order : (o : Ordering) → Facts o a b → is_eq o ≡ same_key a b
  by_order Less f = sym f.3
  by_order Equal f = sym (subst (λ (k : TaskKey). same_key a k ≡ true) f (key_itself a))
  by_order Greater f = sym f.3

pub at_number : (m n : ℕ) → is_eq (nat_cmp m n) ≡ (m == n)
at_number m n =
    elim (cases_order m n) [
      | inl e ↦ rw (le-ltb m n (omega arith), eq-eqb m n e) refl
      | inr (inl less) ↦ rw (lt-ltb m n less, ne_eqb m n (λ d. omega arith)) refl
      | inr (inr more) ↦ rw (le-ltb m n (omega arith), ne_eqb m n (λ d. omega arith)) refl
    ]

pub both_equal : (o p : Ordering) → is_eq (ordering_then o p) ≡ (is_eq o && is_eq p)
both_equal Less p = refl
both_equal Equal p = refl
both_equal Greater p = refl

pub at_piece : (key other : TaskKey) (m n : ℕ) → tree.is_at (piece_cmp (key, m)) (other, n) ≡ (same_key key other && m == n)
at_piece key other m n =
    both_equal (key_cmp key other) (nat_cmp m n)
    ∙ ap (λ (b : Bool). b && is_eq (nat_cmp m n)) (at_key key other)
    ∙ ap (λ (b : Bool). same_key key other && b) (at_number m n)

-- how far tasks are once it was set for one
pub progress_set : (old new : BTreeMap TaskKey Progress) (key : TaskKey) (progress : Progress) → tree.Updates key_cmp old new key (Some progress)
    → (other : TaskKey) → progress_at new other ≡ cond (same_key key other) progress (progress_at old other)
progress_set old new key progress updates other =
    ap (λ (found : Option Progress). unwrap_or found unstarted)
    (updates.0 other ∙ ap (λ (b : Bool). cond b (Some progress) (tree.get key_cmp old other)) (at_key key other))
    ∙ by_answer (same_key key other) (λ t. rw t refl) (λ f. rw f refl)
