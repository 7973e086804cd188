use Rattle.omega_plan.proofs.Overlaid.{overlay_none}
use Rattle.omega_plan.proofs.overlay.Overlay.over.Goals as goal

pub invariant_of-result : goal.invariant_of-result
invariant_of-result c =
    overlay_none c.new.result c.running-running.result.now.tasks c.new-3.result.items c.args.board.now c.new-2.result.items c.running-running.ensures.tasks c.new.ensures.own c.new.ensures.whole c.new-2.ensures.items
    c.running-running.ensures.sound c.running-running.ensures.ordered
