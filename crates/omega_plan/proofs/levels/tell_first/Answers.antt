use Rattle.std.proofs.Common.{◌+◌, drop, arith, subst}
use Rattle.std.proofs.lemmas.List.{drop_more}
use Rattle.omega_machines.specs.Table.{machines_of}
use Rattle.omega_board.specs.Numbers.{is_among}
use Rattle.omega_plan.specs.Overlays.{tasks_claimed}
use Rattle.omega_plan.specs.Telling.{TellsBut}
use Rattle.omega_plan.proofs.Tells.{told_states}
use Rattle.omega_plan.proofs.levels.tell_first.Goals as goal

pub tell_of-requires : goal.tell_of-requires
tell_of-requires c = told_states _ c.args.prec (tasks_claimed c.args.overlay.now) c.loop-place.index.free c.args.overlay.now.board.table c.loop-place.invariant

pub loop-place-preserved : goal.loop-place-preserved
loop-place-preserved c =
    let overlay = c.args.overlay.now in
    let machines = c.args.machines.now in
    let i = c.loop-place.place in
    c.tell_of.ensures (is_among (drop (i + 1) machines))
    (subst (λ ids. TellsBut (is_among ids) c.args.prec (tasks_claimed overlay) c.loop-place.index.free (machines_of overlay.board.table))
    (drop_more machines i 0 (omega (arith, c.loop-place-test.true, c.requires.within))) c.loop-place.invariant)
