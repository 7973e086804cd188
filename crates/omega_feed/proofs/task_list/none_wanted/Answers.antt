use Rattle.std.proofs.Common.{List, ℕ, arith, subst, sym}
use Rattle.omega_feed.specs.Slots.{AreCounted}
use Rattle.omega_feed.proofs.Blocks.{none_counted}
use Rattle.omega_feed.proofs.task_list.none_wanted.Goals as goal

pub returns : goal.returns
returns c =
    let blocks = c.div_ceil.ensures in
    subst (λ (counts : List ℕ). AreCounted counts c.args.slots.now) (sym (c.in_ok-vec.ensures.items_if_clones_equal (λ y same. same)))
    (none_counted c.div_ceil.result c.args.slots.now c.requires (omega (arith, blocks)))
