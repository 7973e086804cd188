use Rattle.std.proofs.Common.{◌≡◌, ap, ◌∙◌, rules}
use Rattle.std.specs.Option.{option_map}
use Rattle.omega_model.specs.Jobs.{other_of_job}
use Rattle.omega_model.specs.declared.claims.Verdict.TheVariants.{SameJob}
use Rattle.omega_board.specs.Board.{BoardState, cell_of}
use Rattle.omega_board.proofs.Standing.{same_job_is}
use Rattle.omega_board.proofs.board.Board.same_job.Goals as goal

pub returns : goal.returns
returns c =
    let mapped : c.map.result ≡ option_map SameJob c.other_of_job.result = search rules in
    let other : c.other_of_job.result ≡ other_of_job c.self.inside.running.tasks c.args.claim.now.key.job c.args.claim.now.machine c.args.claim.now.victims =
    rw c.as_slice.ensures at c.other_of_job.ensures in
    mapped
    ∙ ap (option_map SameJob) (other ∙ ap (λ (board : BoardState). other_of_job board.tasks c.args.claim.now.key.job c.args.claim.now.machine c.args.claim.now.victims) c.self.view_is)
    ∙ same_job_is (cell_of c.args.self.now) c.args.claim.now c.if-not-claim.false
