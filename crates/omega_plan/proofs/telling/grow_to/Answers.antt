use Rattle.std.proofs.Common.{◌≡◌, ◌+◌, ◌<◌, None, [], ◌∷◌, length, length-append, ap, ◌∙◌, arith}
use Rattle.std.proofs.lemmas.List.{length-map}
use Rattle.omega_machines.specs.declared.MachineState.{MachineState}
use Rattle.omega_machines.specs.Table.{machines_of}
use Rattle.omega_plan.proofs.Tells.{one_more_place}
use Rattle.omega_plan.proofs.telling.grow_to.Goals as goal

pub loop-index-preserved : goal.loop-index-preserved
loop-index-preserved c =
    let table = c.args.board.now.table in
    let rows = machines_of table in
    let frees = c.loop-index.index.free in
    let after = c.push_reserved.new.self.free in
    let long : length rows ≡ length table = length-map table (λ (s : MachineState). s.machine) in
    let shown : c.len-in-loop-index.result ≡ length table = c.len-in-loop-index.ensures.len ∙ ap length c.machines.ensures.table in
    let told : c.len.result ≡ length frees = c.len.ensures in
    let below : length frees < length rows = omega (arith, c.loop-index-test.true, long, shown, told) in
    let more : length after ≡ length frees + 1 = ap length c.push_reserved.ensures.free ∙ length-append frees (None ∷ []) in
    record {
      free = one_more_place frees after rows below c.push_reserved.ensures.free ∙ c.loop-index.invariant.free;
      room = omega (arith, c.loop-index.invariant.room, more, c.push_reserved.ensures.spare);
    }
