use Rattle.std.proofs.Common.{◌++◌, ◌∷◌, [], ap, ◌∙◌, if◌then◌else◌}
use Rattle.omega_plan.proofs.Noted.{levels_noted}
use Rattle.omega_plan.proofs.levels.Levels.note.Goals as goal

pub returns-else-is_err : goal.returns-else-is_err
returns-else-is_err c = λ cell stale tell.
    let noted = c.args.self.now.changed.items in
    levels_noted c.args.machine stale cell c.args.self.now c.push.new.self.items
    (c.push.ensures.items ∙ ap (λ b. if b then noted ++ c.args.machine ∷ [] else noted) c.if-is_err.ensures.negation) tell
