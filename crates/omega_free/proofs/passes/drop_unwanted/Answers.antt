use Rattle.std.proofs.Common.{◌≡◌, ◌<◌, ◌∙◌, true, List, drop, length, sym, ap, subst}
use Rattle.omega_model.specs.Work.{Standing}
use Rattle.omega_model.specs.declared.wishes.Request.{Request}
use Rattle.omega_free.specs.PassDesks.{is_first_unwanted}
use Rattle.omega_free.proofs.Leaving.{fewer_left}
use Rattle.omega_free.proofs.passes.drop_unwanted.Goals as goal

pub loop-desk-smaller : goal.loop-desk-smaller
loop-desk-smaller c =
    let unwanted : is_first_unwanted c.args.wanted.now.tasks c.loop-desk.desk.requests ≡ true = sym c.in_ok-is_first_unwanted.ensures ∙ c.if-branch.true in
    let rest : c.skip.new.self.requests ≡ drop 1 c.loop-desk.desk.requests = ap (λ (left : Standing). left.requests) c.skip.ensures.left in
    subst (λ (left : List Request). length left < length c.loop-desk.desk.requests) (sym rest) (fewer_left c.args.wanted.now.tasks c.loop-desk.desk.requests unwanted)
