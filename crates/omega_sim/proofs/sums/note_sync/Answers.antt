use Rattle.std.proofs.Common.{ℕ, Some, None, sym, ap, ◌∙◌}
use Rattle.std.specs.Prelude.{◌==◌, if◌then◌else◌}
use Rattle.std.specs.Option.{option_or}
use Rattle.omega_laws.specs.TimeReport.{job_at}
use Rattle.omega_laws.specs.VirtualTime.{Timed}
use Rattle.omega_sim.specs.Firsts.{time_at}
use Rattle.omega_sim.proofs.FirstOf.{noted, passed}
use Rattle.omega_sim.proofs.sums.note_sync.Goals as goal

pub returns-in_default : goal.returns-in_default
returns-in_default c before known job =
    passed (job_at c.args.history.now) (λ (timed : Timed). timed.sync) before c.args.timed.now job (time_at c.args.syncs.now job)
    (sym c.in_default.ensures) (known job)

pub returns : goal.returns
returns c before known job =
    noted (job_at c.args.history.now) (λ (timed : Timed). timed.sync) before c.args.timed.now c.in-Some.job job
    (time_at c.args.syncs.now job) (time_at c.note.new.self job)
    (sym c.in-Some.ensures)
    (c.in_ok-note.ensures job
    ∙ ap (λ (time : ℕ). option_or (time_at c.args.syncs.now job) (if c.in-Some.job == job then Some time else None)) (ap (λ (timed : Timed). timed.sync) c.timed.view_is))
    (known job)
