use Rattle.std.proofs.Common.{◌+◌, ℕ, List, ap, sym, ◌∙◌, subst}
use Rattle.omega_feed.proofs.AtEnd.{Adds, adds_new, adds_none, adds_old}
use Rattle.omega_feed.proofs.unplaced.each_once.Goals as goal
use Rattle.omega_feed.proofs.unplaced.each_once.Goals.{then-branch+in_ok-push, else-branch}

pub loop-number-init : goal.loop-number-init
loop-number-init c = adds_none c.args.numbers.now c.new-seen.result c.new-once.result.items c.new-seen.ensures.empty c.new-once.ensures.items

pub loop-number-preserved : goal.loop-number-preserved
loop-number-preserved c =
    let numbers = c.args.numbers.now in
    let place = c.loop-number.number-index in
    let P : List ℕ → Type 0 = λ once. Adds numbers (place + 1) c.insert.new.self once in
    elim c.if-branch.branch [
      | then-branch+in_ok-push w ↦
          subst P (sym (ap (λ v. v.items) w.once-is ∙ w.in_ok-push.ensures.items))
          (adds_new numbers place c.loop-number-test.true c.loop-number.seen c.insert.new.self c.loop-number.once.items c.loop-number.invariant c.in_ok-insert.ensures.updates
          (sym w.if-branch.true ∙ c.in_ok-insert.ensures.added))
      | else-branch w ↦
          subst P (sym (ap (λ v. v.items) w.once-is))
          (adds_old numbers place c.loop-number-test.true c.loop-number.seen c.insert.new.self c.loop-number.once.items c.loop-number.invariant c.in_ok-insert.ensures.updates
          (sym w.if-branch.false ∙ c.in_ok-insert.ensures.added))
    ]
