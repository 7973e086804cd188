use Rattle.std.proofs.Common.{arith, sym}
use Rattle.omega_board.proofs.Claims.{without_none}
use Rattle.omega_plan.proofs.Placing.{gone_more}
use Rattle.omega_plan.proofs.tenants.take_out.Goals as goal

pub loop-key-init : goal.loop-key-init
loop-key-init c = record { gone = sym (without_none c.args.own.now.tasks); room = omega arith }

pub loop-key-preserved : goal.loop-key-preserved
loop-key-preserved c = record {
  gone = gone_more c.loop-key.own.tasks c.remove.new.self.tasks c.args.own.now.tasks c.args.keys.now c.loop-key.key-index (record { job = 0; index = 0 }) c.loop-key-test.true c.loop-key.invariant.gone c.remove.ensures.tasks;
  room = omega (arith, c.loop-key.invariant.room, c.remove.ensures.spare);
}
