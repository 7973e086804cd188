use Rattle.std.proofs.Common.{ℕ, Some, None, sym, ap, ◌∙◌}
use Rattle.std.specs.Prelude.{◌==◌, if◌then◌else◌}
use Rattle.std.specs.Option.{option_or}
use Rattle.omega_model.specs.Feed.{time_of}
use Rattle.omega_model.specs.Requests.{job_of_row}
use Rattle.omega_sim.specs.Firsts.{time_at}
use Rattle.omega_sim.proofs.FirstOf.{noted, passed}
use Rattle.omega_sim.proofs.arrivals.note_row.Goals as goal

pub returns-in_default-clause-arrive : goal.returns-in_default-clause-arrive
returns-in_default-clause-arrive c before known job =
    passed job_of_row time_of before c.args.row.now job (time_at c.args.first_times.now job) (sym c.in_default.ensures) (known job)

pub returns-clause-arrive : goal.returns-clause-arrive
returns-clause-arrive c before known job =
    noted job_of_row time_of before c.args.row.now c.in-Some.job job (time_at c.args.first_times.now job) (time_at c.note.new.self job)
    (sym c.in-Some.ensures)
    (c.in_ok-note.ensures job
    ∙ ap (λ (time : ℕ). option_or (time_at c.args.first_times.now job) (if c.in-Some.job == job then Some time else None)) (c.from.ensures ∙ c.time_of-time.ensures))
    (known job)
