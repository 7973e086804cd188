use Rattle.std.proofs.Common.{ap, arith, ◌+◌}
use Rattle.omega_rounds.proofs.kept.check_lines.Goals as goal

pub returns-else-count-entries-clause-refused : goal.returns-else-count-entries-clause-refused
returns-else-count-entries-clause-refused c =
    (ap (λ n. c.args.from + n) c.in_ok-count.ensures.count, omega (arith, c.in_ok-count.ensures.count, c.in_ok-count.ensures.within, c.if-count-entries.false))
