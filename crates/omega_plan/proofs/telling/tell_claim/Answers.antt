use Rattle.std.proofs.Common.{sym, ap, ◌∙◌}
use Rattle.omega_model.specs.Machines.{is_listed}
use Rattle.omega_machines.specs.Table.{machines_of}
use Rattle.omega_plan.proofs.Claimed.{claim_told, claim_unlisted}
use Rattle.omega_plan.proofs.telling.tell_claim.Goals as goal

pub returns-in-Some : goal.returns-in-Some
returns-in-Some c = λ tasks placed so.
    claim_told c.args.board.now c.args.tenants.now c.args.claim.now tasks placed c.args.index.now.free so c.machines.result.now c.put.new.self.free c.in-Some.position c.free_then-free.result
    c.machines.ensures.table c.machines.ensures.sound.numbers c.in-Some.ensures.place (c.free_then-free.ensures tasks placed so) c.put.ensures.free

pub returns-in_default : goal.returns-in_default
returns-in_default c = λ tasks placed so.
    claim_unlisted c.args.board.now c.args.tenants.now c.args.claim.now tasks placed c.args.index.now.free so
    (ap (λ table. is_listed c.args.claim.now.machine (machines_of table)) (sym c.machines.ensures.table) ∙ sym c.in_default.ensures.listed)
