use Rattle.std.proofs.Common.{Some, sym, subst}
use Rattle.std.specs.Prelude.{Option}
use Rattle.omega_free.specs.EndsBy.{EndsBy}
use Rattle.omega_free.specs.declared.own_ends.OwnEnds.{OwnEnds}
use Rattle.omega_free.proofs.KeptEnds.{ends_own}
use Rattle.omega_free.proofs.ends_by.end_by.Goals as goal

pub returns-in_ok-place-in-Some-clause-ends : goal.returns-in_ok-place-in-Some-clause-ends
returns-in_ok-place-in-Some-clause-ends c =
    subst (λ (own : Option OwnEnds). EndsBy c.args.end c.args.cell.now.history c.args.demand.now.wanted own c.end.new.cell.history c.end.new.demand.wanted (Some c.end.new.self))
    (sym c.in-Some.is)
    (ends_own c.args.end c.args.cell.now.history c.end.new.cell.history c.args.demand.now.wanted c.end.new.demand.wanted c.in-Some.own c.end.new.self
    c.in_ok-place-in-Some.ensures.past c.in_ok-place-in-Some.ensures.kept)
