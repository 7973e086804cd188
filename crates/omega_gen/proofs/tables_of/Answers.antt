use Rattle.std.proofs.Common.{◌*◌, ap, ◌∙◌}
use Rattle.omega_gen.specs.Words.{left_after}
use Rattle.omega_gen.proofs.Drawn.{left_later}
use Rattle.omega_gen.proofs.tables_of.Goals as goal

pub returns-clause-left : goal.returns-clause-left
returns-clause-left g c =
    let words = 6 * c.args.jobs in
    c.in_ok-task_events.ensures.left
    ∙ ap (λ s. left_after words s) c.in_ok-machine_events.ensures.left
    ∙ left_later words c.args.machines (g.R.Rng.stream c.args.words.now)
