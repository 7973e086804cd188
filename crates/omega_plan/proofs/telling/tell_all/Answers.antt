use Rattle.std.proofs.Common.{◌==◌, ◌+◌, drop}
use Rattle.std.proofs.Common.{subst}
use Rattle.std.specs.List.{list_any}
use Rattle.std.proofs.lemmas.List.{drop_more, drop_all}
use Rattle.omega_machines.specs.Table.{machines_of}
use Rattle.omega_plan.specs.Telling.{TellsBut}
use Rattle.omega_plan.proofs.Tells.{told_all, told_states}
use Rattle.omega_plan.proofs.telling.tell_all.Goals as goal

pub tell_next-requires-clause-long : goal.tell_next-requires-clause-long
tell_next-requires-clause-long c = told_states _ 0 c.args.board.now.tasks c.loop-machine.index.free c.args.board.now.table c.loop-machine.invariant.told

pub loop-machine-preserved : goal.loop-machine-preserved
loop-machine-preserved c =
    let machines = c.args.machines.now in
    let i = c.loop-machine.machine-index in
    record {
      told = c.tell_next.ensures.tells (λ id. list_any (λ machine. machine == id) (drop (i + 1) machines))
          (subst (λ ms. TellsBut (λ id. list_any (λ machine. machine == id) ms) 0 c.args.board.now.tasks c.loop-machine.index.free (machines_of c.args.board.now.table))
          (drop_more machines i 0 c.loop-machine-test.true) c.loop-machine.invariant.told);
      last = c.tell_next.ensures.own;
    }

pub returns : goal.returns
returns c =
    told_all 0 c.args.board.now.tasks c.loop-machine.index.free (machines_of c.args.board.now.table)
    (subst (λ ms. TellsBut (λ id. list_any (λ machine. machine == id) ms) 0 c.args.board.now.tasks c.loop-machine.index.free (machines_of c.args.board.now.table))
    (drop_all c.loop-machine.machine-index c.args.machines.now c.loop-machine-test.false) c.loop-machine.invariant.told)
