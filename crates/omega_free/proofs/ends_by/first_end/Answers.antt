use Rattle.std.proofs.Common.{Some, sym, subst}
use Rattle.std.specs.Prelude.{Option}
use Rattle.omega_free.specs.EndsBy.{FindsBy}
use Rattle.omega_free.specs.declared.own_ends.OwnEnds.{OwnEnds}
use Rattle.omega_free.proofs.KeptEnds.{finds_own}
use Rattle.omega_free.proofs.ends_by.first_end.Goals as goal

pub returns-in-Some : goal.returns-in-Some
returns-in-Some c =
    subst (λ (own : Option OwnEnds). FindsBy c.args.cell.now.history own (Some c.first.new.self) c.first.result) (sym c.in-Some.is)
    (finds_own c.args.cell.now.history c.in-Some.own c.first.new.self c.first.result c.first.ensures.first c.first.ensures.kept)
