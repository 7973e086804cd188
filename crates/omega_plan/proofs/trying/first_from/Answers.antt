use Rattle.std.proofs.Common.{rules}
use Rattle.omega_plan.specs.Overlays.{cell_after}
use Rattle.omega_plan.proofs.Rooms.{takes_first}
use Rattle.omega_plan.proofs.trying.first_from.Goals as goal

pub returns-clause-first : goal.returns-clause-first
returns-clause-first c =
    takes_first (cell_after c.args.overlay.now) c.args.wish.now c.requires.sound.numbers c.requires.absent c.args.index.now.free c.requires.index _ c.args.begin c.first.result
    c.first.ensures.first (λ i b w. search rules)
