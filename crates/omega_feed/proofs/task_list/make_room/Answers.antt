use Rattle.std.proofs.Common.{◌∷◌, ◌∙◌, [], List, ℕ, ap, arith, length, subst, sym}
use Rattle.std.proofs.lemmas.List.{length-append}
use Rattle.omega_feed.specs.Slots.{AreCounted}
use Rattle.omega_feed.proofs.Blocks.{counts_reach, more_room}
use Rattle.omega_feed.proofs.task_list.make_room.Goals as goal

pub returns-in_ok-push-clause-counted : goal.returns-in_ok-push-clause-counted
returns-in_ok-push-clause-counted c =
    subst (λ (counts : List ℕ). AreCounted counts c.args.slots.now) (sym c.in_ok-push.ensures.items) (more_room c.args.counts.now.items c.args.slots.now c.requires)

pub returns-in_ok-push-clause-room : goal.returns-in_ok-push-clause-room
returns-in_ok-push-clause-room c =
    let reach = counts_reach c.args.counts.now.items c.args.slots.now c.requires in
    let long = ap length c.in_ok-push.ensures.items ∙ length-append c.args.counts.now.items (0 ∷ []) in
    omega (arith, reach, long)
