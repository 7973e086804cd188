use Rattle.std.proofs.Common.{◌≡◌, rules}
use Rattle.std.specs.List.{filter}
use Rattle.omega_model.specs.Cell.{is_on}
use Rattle.omega_running.specs.Staying.{stays_against}
use Rattle.omega_running.proofs.Shares.{left_none, left_more, left_all}
use Rattle.omega_running.proofs.forest.Forest.left_on.Goals as goal

pub loop-share-init : goal.loop-share-init
loop-share-init c = left_none (stays_against c.args.prec) c.args.amount (filter (is_on c.args.machine) c.args.self.now.tasks)

pub loop-share-preserved : goal.loop-share-preserved
loop-share-preserved c =
    left_more c.loop-share.share (stays_against c.args.prec) c.args.amount c.loop-share.left c.left_in_share-left.result (filter (is_on c.args.machine) c.args.self.now.tasks)
    c.loop-share.invariant c.left_in_share-left.ensures

pub returns : goal.returns
returns c =
    let last : c.loop-share.share ≡ 8 = search rules in
    left_all (stays_against c.args.prec) c.args.amount c.loop-share.left (filter (is_on c.args.machine) c.args.self.now.tasks) (rw last at c.loop-share.invariant)
