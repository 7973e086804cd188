use Rattle.std.proofs.Common.{◌≡◌, nat_eq, sym, ap, ◌∙◌, subst}
use Rattle.std.specs.List.{IsDistinct}
use Rattle.omega_model.specs.Machines.{is_listed, numbers_of}
use Rattle.omega_machines.specs.Table.{machines_of}
use Rattle.omega_board.specs.Board.{BoardState}
use Rattle.omega_plan.specs.Overlays.{tasks_claimed}
use Rattle.omega_plan.proofs.Tells.{told_at, tells_unlisted}
use Rattle.omega_plan.proofs.levels.tell_of.Goals as goal

pub returns-in-Some : goal.returns-in-Some
returns-in-Some c = λ stale told.
    let overlay = c.args.overlay.now in
    let shown : c.machines.result.now ≡ overlay.board.table = c.machines.ensures.table ∙ ap (λ (b : BoardState). b.table) c.board.ensures.board in
    told_at stale c.args.prec (tasks_claimed overlay) c.args.machine overlay.board.table c.machines.result.now c.args.index.now.free c.put.new.self.free c.in-Some.position c.freed_at.result
    shown (subst (λ (b : BoardState). IsDistinct nat_eq (numbers_of (machines_of b.table))) c.board.ensures.board c.machines.ensures.sound.numbers)
    c.in-Some.ensures.place c.freed_at.ensures c.put.ensures.free told

pub returns-in_default : goal.returns-in_default
returns-in_default c = λ stale told.
    let overlay = c.args.overlay.now in
    let shown : c.machines.result.now ≡ overlay.board.table = c.machines.ensures.table ∙ ap (λ (b : BoardState). b.table) c.board.ensures.board in
    tells_unlisted stale c.args.prec (tasks_claimed overlay) c.args.machine c.args.index.now.free (machines_of overlay.board.table)
    (ap (λ table. is_listed c.args.machine (machines_of table)) (sym shown) ∙ sym c.in_default.ensures.listed) told
