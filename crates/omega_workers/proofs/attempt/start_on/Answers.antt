use Rattle.std.proofs.Common.{◌≡◌, ◌≤◌, ◌∙◌, ℕ, length, ap, subst}
use Rattle.omega_workers.proofs.Attempted.{start_within}
use Rattle.omega_workers.proofs.attempt.start_on.Goals as goal

pub returns-clause-within : goal.returns-clause-within
returns-clause-within c =
    let desk = c.args.desk.now in
    let count : c.len.result ≡ length c.args.board.now.table = c.len.ensures.len ∙ ap length c.machines.ensures.table in
    subst (λ (n : ℕ). c.start.result ≤ n) count (start_within desk.settings desk.scheduler desk.attempts _ _ c.start.ensures.drawn c.start.ensures.below)
