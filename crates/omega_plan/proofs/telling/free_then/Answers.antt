use Rattle.omega_plan.specs.Overlays.{tasks_with}
use Rattle.omega_plan.proofs.Claimed.{taken_there}
use Rattle.omega_plan.proofs.telling.free_then.Goals as goal

pub returns-then-is_empty : goal.returns-then-is_empty
returns-then-is_empty c = λ tasks placed so machine here same.
    taken_there c.args.board.now c.args.tenants.now c.args.claim.now tasks placed c.args.index.now.free so c.args.position c.at.result c.taken.result
    (c.is_empty.ensures.0 c.if-is_empty.true) c.at.ensures c.taken.ensures machine here same

pub returns : goal.returns
returns c = λ tasks placed so machine here same.
    c.freed_at.ensures (tasks_with tasks c.args.claim.now) machine placed.beside here
