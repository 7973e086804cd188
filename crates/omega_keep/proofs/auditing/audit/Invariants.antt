use Rattle.std.proofs.Common.{take}
use Rattle.omega_keep.specs.Audited.{IsAudited}
use Rattle.omega_keep.specs.Touching.{AreTouches}
use Rattle.omega_keep.proofs.auditing.audit.Given as goal

abbrev pub invariant-loop-place : goal.invariant-loop-place
invariant-loop-place l = record {
  audited : IsAudited (take l.place l.lines) l.cell.history;
  touches : AreTouches l.touches.places l.cell.history;
}
