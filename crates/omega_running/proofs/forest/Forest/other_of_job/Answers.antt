use Rattle.std.proofs.Common.{◌≡◌, sym, ap, ap₂, ◌∙◌, arith}
use Rattle.omega_running.specs.Others.{first_of}
use Rattle.omega_running.proofs.Others.{no_other_below, other_of_all, one_more_share, other_below}
use Rattle.omega_running.proofs.forest.Forest.other_of_job.Goals as goal

pub loop-share-init : goal.loop-share-init
loop-share-init c = sym (no_other_below c.args.job c.args.machine c.args.gone.now c.args.self.now.tasks)

pub loop-share-preserved : goal.loop-share-preserved
loop-share-preserved c =
    let now = c.args.self.now in
    c.first_of-first.ensures
    ∙ ap₂ first_of c.loop-share.invariant c.other_in_share.ensures
    ∙ one_more_share c.loop-share.share c.args.job c.args.machine c.args.gone.now now.tasks c.requires.ordered

pub returns : goal.returns
returns c =
    let all : c.loop-share.share ≡ 8 = omega (arith, c.loop-share-test.false, c.loop-share.auto.share-end) in
    c.loop-share.invariant
    ∙ ap (λ n. other_below n c.args.self.now.tasks c.args.job c.args.machine c.args.gone.now) all
    ∙ other_of_all c.args.job c.args.machine c.args.gone.now c.args.self.now.tasks
