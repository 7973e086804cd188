use Rattle.omega_machines.proofs.Indexed.{outside_none, outside_more, outside_end}
use Rattle.omega_machines.proofs.indexes.drop_between.Goals as goal

pub loop-place-init : goal.loop-place-init
loop-place-init c = outside_none c.args.indexes.now c.args.from

pub loop-place-preserved : goal.loop-place-preserved
loop-place-preserved c =
    outside_more c.args.indexes.now c.loop-place.indexes c.remove.new.self c.args.from c.loop-place.place-counter c.loop-place.invariant c.remove.ensures.updates

pub returns : goal.returns
returns c = outside_end c.args.indexes.now c.loop-place.indexes c.args.from c.args.to c.loop-place.place-counter c.loop-place-test.false c.loop-place.invariant
