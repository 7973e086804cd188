use Rattle.std.proofs.Common.{◌≡◌, ◌<◌, length, ap, ◌∙◌, arith}
use Rattle.std.proofs.lemmas.List.{length-map}
use Rattle.omega_machines.specs.Table.{machines_of}
use Rattle.omega_machines.specs.declared.MachineState.{MachineState}
use Rattle.omega_board.specs.Board.{BoardState}
use Rattle.omega_plan.specs.Overlays.{tasks_claimed}
use Rattle.omega_plan.specs.Telling.{freed_on}
use Rattle.omega_plan.proofs.Tells.{freed_more}
use Rattle.omega_plan.proofs.levels.level_of.Goals as goal

pub loop-position-preserved : goal.loop-position-preserved
loop-position-preserved c =
    let table = c.args.overlay.now.board.table in
    let place = c.loop-position.position in
    let shown : c.len-count.result ≡ length table = c.len-count.ensures.len ∙ ap length c.machines.ensures.table ∙ ap (λ (b : BoardState). length b.table) c.board.ensures.board in
    let long : length (machines_of table) ≡ length table = length-map table (λ (s : MachineState). s.machine) in
    let below : place < length (machines_of table) = omega (arith, c.loop-position-test.true, shown, long) in
    record {
      told = freed_more (freed_on c.args.prec (tasks_claimed c.args.overlay.now)) (machines_of table) c.loop-position.freed.items c.push_reserved.new.self.items place c.freed_at.result below
          c.freed_at.ensures c.push_reserved.ensures.items c.loop-position.invariant.told;
      room = omega (arith, c.loop-position.invariant.room, c.push_reserved.ensures.capacity);
    }
