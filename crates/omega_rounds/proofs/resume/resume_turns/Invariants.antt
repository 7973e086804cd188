use Rattle.std.proofs.Common.{◌≡◌, ◌≤◌, ◌-◌, length}
use Rattle.omega_rounds.proofs.ResumedRounds.{HasResumed}
use Rattle.omega_rounds.proofs.resume.resume_turns.Given as goal

abbrev pub invariant-loop-next : goal.invariant-loop-next
invariant-loop-next g l = record {
  resumed : HasResumed l.fn.kept (g.P.Keeper.kept l.fn.keeper) l.fn.world l.world (g.P.Keeper.kept l.keeper);
  path : g.P.Keeper.entered l.keeper ≡ g.P.Keeper.entered l.fn.keeper;
  later : g.P.Keeper.faults l.fn.keeper ≤ g.P.Keeper.faults l.keeper;
}

abbrev pub decreases-loop-next : goal.decreases-loop-next
decreases-loop-next g l = length l.world.stage.source.rounds - l.world.stage.begun
