use Rattle.std.proofs.Common.{◌≡◌, append-nil, false, sym, true, ◌∙◌}
use Rattle.omega_free_laws.specs.Lives.{counts}
use Rattle.omega_free.proofs.own_ends.take_next.Goals as goal

pub returns-in_ok-push-clause-counting : goal.returns-in_ok-push-clause-counting
returns-in_ok-push-clause-counting c trace before history keeps =
    let is : counts history before c.args.row ≡ true = sym (c.in_ok-take_row.ensures.counts trace before history keeps) ∙ c.if-branch.true in
    rw is c.in_ok-push.ensures.ok

pub returns-else-branch-clause-counting : goal.returns-else-branch-clause-counting
returns-else-branch-clause-counting c trace before history keeps =
    let is : counts history before c.args.row ≡ false = sym (c.in_ok-take_row.ensures.counts trace before history keeps) ∙ c.if-branch.false in
    rw is (sym (append-nil c.args.counting.now))
