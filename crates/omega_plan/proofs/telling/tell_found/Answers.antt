use Rattle.std.proofs.Common.{◌≡◌, ◌==◌, ◌||◌, Bool, true, ℕ, false, Option, subst}
use Rattle.omega_machines.specs.Table.{machines_of}
use Rattle.omega_plan.specs.Telling.{TellsBut, is_found}
use Rattle.omega_plan.proofs.Tells.{told_all, told_states, tells_where}
use Rattle.omega_plan.proofs.telling.tell_found.Goals as goal

pub tell-requires : goal.tell-requires
tell-requires c = told_states _ 0 c.args.board.now.tasks c.args.index.now.free c.args.board.now.table c.requires

pub returns-in-Some : goal.returns-in-Some
returns-in-Some c =
    let alone : ℕ → Bool = λ id. c.in-Some.machine == id in
    let either : ℕ → Bool = λ id. c.in-Some.machine == id || false in
    told_all 0 c.args.board.now.tasks c.tell.new.index.free (machines_of c.args.board.now.table)
    (c.tell.ensures (λ id. false)
    (tells_where alone either (λ id fresh. or-false_sym (alone id) fresh) 0 c.args.board.now.tasks c.args.index.now.free (machines_of c.args.board.now.table)
    (subst (λ (found : Option ℕ). TellsBut (is_found found) 0 c.args.board.now.tasks c.args.index.now.free (machines_of c.args.board.now.table)) c.in-Some.is c.requires)))
  where
    or-false_sym : (b : Bool) → (b || false) ≡ false → b ≡ false
    or-false_sym false e = e
    or-false_sym true e = e

pub returns-in_default : goal.returns-in_default
returns-in_default c =
    told_all 0 c.args.board.now.tasks c.args.index.now.free (machines_of c.args.board.now.table)
    (subst (λ (found : Option ℕ). TellsBut (is_found found) 0 c.args.board.now.tasks c.args.index.now.free (machines_of c.args.board.now.table)) c.in_default.is c.requires)
