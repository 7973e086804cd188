use Rattle.std.proofs.Common.{sym, subst}
use Rattle.std.specs.List.{AllByRecursion as Each}
use Rattle.omega_plan.specs.Levels.{TellsLate, no_number}
use Rattle.omega_plan.proofs.Noted.{each_rest}
use Rattle.omega_plan.proofs.levels.Levels.make_way.Goals as goal

pub loop-self-preserved : goal.loop-self-preserved
loop-self-preserved c = λ cell tell.
    let now = c.loop-self.self in
    subst (Each (TellsLate no_number cell now.changed.items)) (sym c.remove.ensures.items)
    (each_rest (TellsLate no_number cell now.changed.items) now.standing.items (c.loop-self.invariant cell tell))

pub loop-self-preserved-in-loop-self : goal.loop-self-preserved-in-loop-self
loop-self-preserved-in-loop-self c = λ cell tell.
    let now = c.loop-self.self in
    subst (Each (TellsLate no_number cell now.changed.items)) (sym c.remove.ensures.items)
    (each_rest (TellsLate no_number cell now.changed.items) now.standing.items (c.loop-self.invariant cell tell))
