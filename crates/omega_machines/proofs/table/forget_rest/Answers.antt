use Rattle.std.proofs.Common.{get_or}
use Rattle.std.proofs.lemmas.Option.{slice_get-get_or}
use Rattle.omega_machines.proofs.Finding.{left_more, left_first}
use Rattle.omega_machines.proofs.table.forget_rest.Goals as goal

pub loop-position-preserved : goal.loop-position-preserved
loop-position-preserved c =
    let states = c.args.states.now in
    let i = c.loop-position.position in
    let state = get_or states i c.index-states-position.result in
    left_more c.args.places.now c.loop-position.places states c.args.from i c.requires.placed c.loop-position.invariant state c.remove.new.self c.loop-position.auto.position
    (slice_get-get_or states i _ c.loop-position-test.true) c.remove.ensures.updates

pub returns : goal.returns
returns c =
    left_first c.args.places.now c.loop-position.places c.args.states.now c.args.from c.loop-position.position c.requires.placed c.loop-position.invariant c.loop-position-test.false
