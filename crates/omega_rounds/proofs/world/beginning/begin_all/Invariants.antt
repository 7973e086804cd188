use Rattle.omega_feed.specs.Open.{OthersAreQuiet}
use Rattle.omega_model.specs.State.{state}
use Rattle.omega_rounds.proofs.Beginning.{HaveBegun}
use Rattle.omega_rounds.proofs.world.beginning.begin_all.Given as goal

abbrev pub invariant-loop-i : goal.invariant-loop-i
invariant-loop-i l = record {
  begun : HaveBegun l.wanted l.cell.history l.fn.workers.items l.workers.items l.i;
  quiet : OthersAreQuiet l.open_jobs l.wanted (state l.cell.history).tasks;
}
