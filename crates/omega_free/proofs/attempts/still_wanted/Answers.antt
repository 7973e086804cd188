use Rattle.std.proofs.Common.{◌≡◌, ◌∙◌, ◌+◌, ◌++◌, ◌∷◌, [], List, sym, ap, subst, filter, drop}
use Rattle.omega_model.specs.declared.wishes.Constraint.{Constraint}
use Rattle.omega_model.specs.declared.wishes.Wish.{Wish}
use Rattle.omega_free_laws.specs.StillWanted.{is_still_wanted}
use Rattle.omega_free.proofs.KeptItems.{kept_on, left_out}
use Rattle.omega_free.proofs.attempts.still_wanted.Goals.{then-misses+in_ok-copy+in_ok-push, else-misses}
use Rattle.omega_free.proofs.attempts.still_wanted.Goals as goal

pub loop-wish-preserved : goal.loop-wish-preserved
loop-wish-preserved c =
    let items : List Wish = c.as_slice-wish-items.result.now in
    let wish : Wish = c.wish-item.result in
    elim c.if-misses.branch [
      | then-misses+in_ok-copy+in_ok-push w ↦
          subst (λ (kept : List Wish). kept ++ filter (λ (it : Wish). is_still_wanted c.args.wanted.now.tasks it.key) (drop (c.loop-wish.wish-index + 1) items)
          ≡ filter (λ (it : Wish). is_still_wanted c.args.wanted.now.tasks it.key) items)
          (sym (w.wishes-is ∙ w.in_ok-push.ensures.ok
          ∙ ap (λ (some : List Constraint). c.loop-wish.wishes ++ record { key = wish.key; spec = wish.spec; constraints = some } ∷ []) w.in_ok-copy.ensures))
          (kept_on (λ (it : Wish). is_still_wanted c.args.wanted.now.tasks it.key) items c.loop-wish.wish-index wish c.loop-wish.wishes
          (filter (λ (it : Wish). is_still_wanted c.args.wanted.now.tasks it.key) items) c.loop-wish-test.true c.wish-item.is c.loop-wish.invariant
          (sym c.misses.ensures ∙ w.if-misses.true))
      | else-misses w ↦
          subst (λ (kept : List Wish). kept ++ filter (λ (it : Wish). is_still_wanted c.args.wanted.now.tasks it.key) (drop (c.loop-wish.wish-index + 1) items)
          ≡ filter (λ (it : Wish). is_still_wanted c.args.wanted.now.tasks it.key) items)
          (sym w.wishes-is)
          (left_out (λ (it : Wish). is_still_wanted c.args.wanted.now.tasks it.key) items c.loop-wish.wish-index wish c.loop-wish.wishes
          (filter (λ (it : Wish). is_still_wanted c.args.wanted.now.tasks it.key) items) c.loop-wish-test.true c.wish-item.is c.loop-wish.invariant
          (sym c.misses.ensures ∙ w.if-misses.false))
    ]
