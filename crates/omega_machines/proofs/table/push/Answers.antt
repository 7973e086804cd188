use Rattle.std.proofs.Common.{◌∙◌, ap, length}
use Rattle.omega_machines.proofs.Finding.{placed_more}
use Rattle.omega_machines.proofs.table.push.Goals as goal

pub returns-clause-placed : goal.returns-clause-placed
returns-clause-placed c =
    let same = c.in_ok-reserve.ensures.items in
    rw (c.push_reserved.ensures.items, same)
    (placed_more c.args.places.now c.insert.new.self c.args.states.now.items c.args.state _ c.requires.placed c.requires.new
    (c.len.ensures ∙ c.reserve.new.self.ok.0 ∙ ap length same) c.in_ok-insert.ensures.updates)
