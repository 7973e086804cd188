use Rattle.std.proofs.Common.{◌≡◌, rules}
use Rattle.omega_running.specs.declared.orders.Order.TheVariants.{ByMachine}
use Rattle.omega_running.specs.Order.{led_by}
use Rattle.omega_running.proofs.Shares.{found_none, found_more, found_all}
use Rattle.omega_running.proofs.forest.Forest.collect.Goals as goal

pub loop-share-init : goal.loop-share-init
loop-share-init c = found_none c.args.found.now.items (led_by ByMachine c.args.machine c.args.self.now.tasks)

pub loop-share-preserved : goal.loop-share-preserved
loop-share-preserved c =
    found_more c.loop-share.share c.args.found.now.items c.loop-share.found.items c.collect_share.new.found.items (led_by ByMachine c.args.machine c.args.self.now.tasks)
    c.loop-share.invariant c.in_ok-collect_share.ensures

pub returns : goal.returns
returns c =
    let last : c.loop-share.share ≡ 8 = search rules in
    found_all c.args.found.now.items c.loop-share.found.items (led_by ByMachine c.args.machine c.args.self.now.tasks) (rw last at c.loop-share.invariant)
