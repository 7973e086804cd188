use Rattle.std.proofs.Common.{◌+◌, drop, subst}
use Rattle.std.proofs.lemmas.List.{drop_more, drop_all}
use Rattle.omega_board.specs.Numbers.{is_among}
use Rattle.omega_plan.specs.Levels.{LevelsTellBut}
use Rattle.omega_plan.proofs.levels.Levels.note_all.Goals as goal

pub loop-machine-preserved : goal.loop-machine-preserved
loop-machine-preserved c = λ cell tell.
    let changed = c.args.changed.now in
    let i = c.loop-machine.machine-index in
    c.note.ensures cell (is_among (drop (i + 1) changed))
    (subst (λ ids. LevelsTellBut (is_among ids) cell c.loop-machine.self) (drop_more changed i 0 c.loop-machine-test.true) (c.loop-machine.invariant cell tell))

pub returns : goal.returns
returns c = λ cell tell.
    subst (λ ids. LevelsTellBut (is_among ids) cell c.loop-machine.self) (drop_all c.loop-machine.machine-index c.args.changed.now c.loop-machine-test.false) (c.loop-machine.invariant cell tell)
