use Rattle.std.proofs.Common.{None, is_ok, ◌∙◌}
use Rattle.omega_plan.specs.Levels.{TellsLate, no_number}
use Rattle.omega_plan.specs.declared.levels.Level.{Level}
use Rattle.omega_plan.proofs.Noted.{each_pushed, late_whole}
use Rattle.omega_plan.proofs.levels.Levels.take_back.Goals as goal

pub returns : goal.returns
returns c = λ cell kept tells.
    let now = c.forget.new.self in
    let level : Level = record c.args.level { told = c.len-told.result; found = None } in
    each_pushed (TellsLate no_number cell now.changed.items) now.standing.items c.push.new.self.items level (is_ok c.push.result) c.push.ensures.items
    (late_whole cell now.changed.items level (c.len-told.ensures ∙ now.changed.ok.0) tells) (c.forget.ensures cell (c.make_way.ensures.tell cell kept))
