use Rattle.std.proofs.Common.{◌≡◌, ℕ}
use Rattle.omega_model.specs.declared.rows.TraceTables.{TraceTables}
use Rattle.omega_free_laws.specs.Free.{after}
use Rattle.omega_free.specs.FreeLoop.{IsInSomeRun}
use Rattle.omega_free_laws.specs.FreeSteps.{beginning}
use Rattle.omega_free.proofs.clock.in_free_time.Given as goal

abbrev pub invariant-loop : goal.invariant-loop
invariant-loop g l = record {
  stays : g.W.FreeWorld.settings l.world ≡ g.W.FreeWorld.settings l.fn.world;
  made : IsInSomeRun g.W.FreeWorld.stands g.W.FreeWorld.reads (g.W.FreeWorld.settings l.fn.world) l.world;
  runs : (trace : TraceTables) → g.W.FreeWorld.stands l.fn.world trace (beginning (g.W.FreeWorld.settings l.fn.world) (g.W.FreeWorld.reads (g.W.FreeWorld.settings l.fn.world) trace))
      → (steps : ℕ) × g.W.FreeWorld.stands l.world trace (after (g.W.FreeWorld.settings l.fn.world) (g.W.FreeWorld.reads (g.W.FreeWorld.settings l.fn.world) trace) steps);
}

abbrev pub decreases-loop : goal.decreases-loop
decreases-loop g l = g.W.FreeWorld.to_come l.world
