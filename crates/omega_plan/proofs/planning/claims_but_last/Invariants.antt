use Rattle.std.proofs.Common.{◌≡◌}
use Rattle.omega_plan.specs.Indexes.{TellAll}
use Rattle.omega_plan.specs.Overlays.{cell_after}
use Rattle.omega_plan.proofs.Planned.{Planned}
use Rattle.omega_plan.proofs.planning.claims_but_last.Given as goal

abbrev pub invariant-loop-wish : goal.invariant-loop-wish
invariant-loop-wish l = record {
  planned : Planned l.overlay l.fn.overlay l.start l.preempts l.others l.last l.wish-index l.previous l.progress;
  tell : TellAll (cell_after l.overlay) l.indexes;
  seen : l.indexes.seen ≡ l.fn.indexes.seen;
}
