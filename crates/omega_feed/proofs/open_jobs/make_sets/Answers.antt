use Rattle.std.proofs.Common.{refl}
use Rattle.omega_feed.proofs.OpenSets.{same_with_more}
use Rattle.omega_feed.proofs.open_jobs.make_sets.Goals as goal

pub loop-alloc-init : goal.loop-alloc-init
loop-alloc-init c = λ scheduler place. refl

pub loop-alloc-preserved : goal.loop-alloc-preserved
loop-alloc-preserved c =
    same_with_more c.args.places.now.items c.loop-alloc.places.items c.push.new.self.items c.new.result c.new.ensures.empty c.in_ok-push.ensures.items
    c.loop-alloc.invariant
