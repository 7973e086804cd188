use Rattle.std.proofs.Common.{◌≡◌, None, sym, subst, ◌∙◌}
use Rattle.omega_feed.specs.Last.{last_amount}
use Rattle.omega_feed.proofs.Marking.{unmarked_name}
use Rattle.omega_feed.proofs.last.LastAmounts.of.Goals as goal

pub returns-then-not-has-clause-amount : goal.returns-then-not-has-clause-amount
returns-then-not-has-clause-amount g c =
    let kept = c.self.inside in
    sym (subst (λ rows. last_amount g.R.Named.name g.R.Named.amount rows c.args.name ≡ None) c.self.view_is
    (unmarked_name g.R.Named.name g.R.Named.amount kept.marks kept.rows.value c.args.name c.self.invariant.1 (sym c.has.ensures ∙ c.if-not-has.true)))
