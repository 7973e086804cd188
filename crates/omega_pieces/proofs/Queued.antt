-- The times by task and the queue of them, once one is taken off or put in.
use Rattle.std.proofs.Common.{◌≡◌, ℕ, Bool, true, false, cond, List, Option, Some, None, refl, sym, ap, ap₂, ◌∙◌}
use Rattle.std.specs.Prelude.{◌==◌, ◌&&◌, ◌↔◌}
use Rattle.std.specs.BTreeMap as tree
use Rattle.std.specs.BTreeMap.{BTreeMap}
use Rattle.std.specs.BTreeSet as set
use Rattle.std.specs.BTreeSet.{BTreeSet}
use Rattle.std.specs.Ordering.{nat_cmp}
use Rattle.std.proofs.lemmas.Bool.{and_parts, both_ways, eq-eqb, eqb-true}
use Rattle.std.proofs.lemmas.Option.{none-some, same_Some}
use Rattle.omega_feed.specs.Index.{key_cmp}
use Rattle.omega_model.proofs.InOrder.{key_same}
use Rattle.omega_model.proofs.Lists.{by_answer}
use Rattle.omega_model.specs.Keys.{same_key}
use Rattle.omega_model.specs.declared.cells.TaskKey.{TaskKey}
use Rattle.omega_pieces.specs.Due.{AreQueued, SetsDue, due_at, end_cmp}
use Rattle.omega_pieces.proofs.PieceOrder.{at_key, at_number, both_equal}

pub at_end : (time other : ℕ) (key named : TaskKey) → tree.is_at (end_cmp (time, key)) (other, named) ≡ (time == other && same_key key named)
at_end time other key named =
    both_equal (nat_cmp time other) (key_cmp key named) ∙ ap₂ (λ (a b : Bool). a && b) (at_number time other) (at_key key named)

-- a time that was set for a task
pub sets_due : (old new : BTreeMap TaskKey ℕ) (key : TaskKey) (time : Option ℕ) → tree.Updates key_cmp old new key time → SetsDue old.entries new.entries key time
sets_due old new key time updates other =
    updates.0 other ∙ ap (λ (b : Bool). cond b time (tree.get key_cmp old other)) (at_key key other)

-- a time that was set for a task whose time was taken off
pub sets_over : (old without new : List (TaskKey × ℕ)) (key : TaskKey) (time : Option ℕ) → SetsDue old without key None → SetsDue without new key time → SetsDue old new key time
sets_over old without new key time off on other =
    on other ∙ by_answer (same_key key other) (λ t. rw t refl) (λ f. rw f (off other ∙ rw f refl))

module _ (old new : List (TaskKey × ℕ)) (queue after : BTreeSet (ℕ × TaskKey)) (key : TaskKey) (time : ℕ) where
  pub queue_less : SetsDue old new key None → due_at old key ≡ Some time → set.Updates end_cmp queue after (time, key) false → AreQueued old queue → AreQueued new after
  queue_less sets had updates are other named =
      by_answer (same_key key named) own apart where
        found : set.contains end_cmp after (other, named) ≡ cond (time == other && same_key key named) false (set.contains end_cmp queue (other, named))
        found = updates.0 (other, named) ∙ ap (λ (b : Bool). cond b false (set.contains end_cmp queue (other, named))) (at_end time other key named)

        own : same_key key named ≡ true → (set.contains end_cmp after (other, named) ≡ true) ↔ (due_at new named ≡ Some other)
        own t = (
          λ stands. absurd (by_answer (time == other)
              (λ e. both_ways _ (rw (e, t) at found) stands)
              (λ e.
              let before : set.contains end_cmp queue (other, named) ≡ true = sym (rw e at found) ∙ stands in
              let same : time ≡ other = same_Some time other (sym had ∙ ap (due_at old) (key_same key named t) ∙ (are other named).0 before) in
              both_ways _ e (eq-eqb time other same))),
          λ due. absurd (none-some other (sym (sets named ∙ rw t refl) ∙ due)),
        )

        apart : same_key key named ≡ false → (set.contains end_cmp after (other, named) ≡ true) ↔ (due_at new named ≡ Some other)
        apart f =
            let here : set.contains end_cmp after (other, named) ≡ set.contains end_cmp queue (other, named) =
            found ∙ rw f (by_answer (time == other) (λ e. rw e refl) (λ e. rw e refl)) in
            let there : due_at new named ≡ due_at old named = sets named ∙ rw f refl in (
              λ stands. there ∙ (are other named).0 (sym here ∙ stands),
              λ due. here ∙ (are other named).1 (sym there ∙ due),
            )

  pub queue_more : SetsDue old new key (Some time) → due_at old key ≡ None → set.Updates end_cmp queue after (time, key) true → AreQueued old queue → AreQueued new after
  queue_more sets none updates are other named =
      by_answer (same_key key named) own apart where
        found : set.contains end_cmp after (other, named) ≡ cond (time == other && same_key key named) true (set.contains end_cmp queue (other, named))
        found = updates.0 (other, named) ∙ ap (λ (b : Bool). cond b true (set.contains end_cmp queue (other, named))) (at_end time other key named)

        own : same_key key named ≡ true → (set.contains end_cmp after (other, named) ≡ true) ↔ (due_at new named ≡ Some other)
        own t =
            let there : due_at new named ≡ Some time = sets named ∙ rw t refl in (
              λ stands. by_answer (time == other)
                  (λ e. there ∙ ap (λ (n : ℕ). Some n) (eqb-true time other e))
                  (λ e.
                  let before : set.contains end_cmp queue (other, named) ≡ true = sym (rw e at found) ∙ stands in
                  absurd (none-some other (sym none ∙ ap (due_at old) (key_same key named t) ∙ (are other named).0 before))),
              λ due.
                  let same : (time == other) ≡ true = eq-eqb time other (same_Some time other (sym there ∙ due)) in
                  rw (same, t) at found,
            )

        apart : same_key key named ≡ false → (set.contains end_cmp after (other, named) ≡ true) ↔ (due_at new named ≡ Some other)
        apart f =
            let here : set.contains end_cmp after (other, named) ≡ set.contains end_cmp queue (other, named) =
            found ∙ rw f (by_answer (time == other) (λ e. rw e refl) (λ e. rw e refl)) in
            let there : due_at new named ≡ due_at old named = sets named ∙ rw f refl in (
              λ stands. there ∙ (are other named).0 (sym here ∙ stands),
              λ due. here ∙ (are other named).1 (sym there ∙ due),
            )

-- the queue is as it was once an end that was put in is taken out again
pub queue_back : (times : List (TaskKey × ℕ)) (queue more after : BTreeSet (ℕ × TaskKey)) (key : TaskKey) (time : ℕ) → due_at times key ≡ None
    → set.Updates end_cmp queue more (time, key) true → set.Updates end_cmp more after (time, key) false → AreQueued times queue → AreQueued times after
queue_back times queue more after key time none first second are other named = (λ stands. (are other named).0 (sym here ∙ stands), λ due. here ∙ (are other named).1 due) where
  put : set.contains end_cmp more (other, named) ≡ cond (time == other && same_key key named) true (set.contains end_cmp queue (other, named))
  put = first.0 (other, named) ∙ ap (λ (b : Bool). cond b true (set.contains end_cmp queue (other, named))) (at_end time other key named)

  taken : set.contains end_cmp after (other, named) ≡ cond (time == other && same_key key named) false (set.contains end_cmp more (other, named))
  taken = second.0 (other, named) ∙ ap (λ (b : Bool). cond b false (set.contains end_cmp more (other, named))) (at_end time other key named)

  here : set.contains end_cmp after (other, named) ≡ set.contains end_cmp queue (other, named)
  here =
      by_answer (time == other && same_key key named)
      (λ t.
      let parts = and_parts (time == other) (same_key key named) t in
      let gone : set.contains end_cmp after (other, named) ≡ false = rw t at taken in
      by_answer (set.contains end_cmp queue (other, named))
      (λ stands. absurd (none-some other (sym none ∙ ap (due_at times) (key_same key named parts.1) ∙ (are other named).0 stands)))
      (λ f. gone ∙ sym f))
      (λ f. (rw f at taken) ∙ (rw f at put))
