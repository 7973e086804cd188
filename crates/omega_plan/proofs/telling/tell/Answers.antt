use Rattle.std.proofs.Common.{sym, ap, ◌∙◌}
use Rattle.omega_model.specs.Machines.{is_listed}
use Rattle.omega_machines.specs.Table.{machines_of}
use Rattle.omega_plan.proofs.Tells.{told_at, tells_unlisted}
use Rattle.omega_plan.proofs.telling.tell.Goals as goal

pub returns-in-Some : goal.returns-in-Some
returns-in-Some c = λ stale told.
    told_at stale 0 c.args.board.now.tasks c.args.machine c.args.board.now.table c.machines.result.now c.args.index.now.free c.put.new.self.free c.in-Some.position c.free_at.result
    c.machines.ensures.table c.machines.ensures.sound.numbers c.in-Some.ensures.place c.free_at.ensures c.put.ensures.free told

pub returns-in_default : goal.returns-in_default
returns-in_default c = λ stale told.
    tells_unlisted stale 0 c.args.board.now.tasks c.args.machine c.args.index.now.free (machines_of c.args.board.now.table)
    (ap (λ table. is_listed c.args.machine (machines_of table)) (sym c.machines.ensures.table) ∙ sym c.in_default.ensures.listed) told
