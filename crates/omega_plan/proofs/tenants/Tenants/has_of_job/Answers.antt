use Rattle.std.proofs.Common.{◌≡◌, [], is_some, ap, sym, ◌∙◌}
use Rattle.omega_model.specs.Jobs.{other_of_job}
use Rattle.omega_plan.proofs.Hosting.{job_own, job_none, job_board}
use Rattle.omega_plan.proofs.tenants.Tenants.has_of_job.Goals as goal

pub returns-then-has_of_job : goal.returns-then-has_of_job
returns-then-has_of_job c = λ tasks beside.
    job_own c.args.self.now c.args.board.now.tasks tasks beside c.args.machine c.args.job c.has_of_job.result c.if-has_of_job.true c.has_of_job.ensures

pub returns-then-is_whole : goal.returns-then-is_whole
returns-then-is_whole c = λ tasks beside.
    job_none c.args.self.now c.args.board.now.tasks tasks beside c.args.machine c.args.job c.has_of_job.result c.if-has_of_job.false c.has_of_job.ensures (sym c.is_whole.ensures ∙ c.if-is_whole.true)

pub returns : goal.returns
returns c = λ tasks beside.
    let board = c.args.board.now.tasks in
    let other : c.is_some.result ≡ is_some (other_of_job board c.args.job c.args.machine []) = c.is_some.ensures ∙ ap is_some c.other_of_job.ensures in
    job_board c.args.self.now board tasks beside c.args.machine c.args.job c.has_of_job.result c.is_some.result c.if-has_of_job.false c.has_of_job.ensures (sym c.is_whole.ensures ∙ c.if-is_whole.false) other
