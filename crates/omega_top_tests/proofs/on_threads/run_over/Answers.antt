use Rattle.std.proofs.Common.{ℕ}
use denote.Param.{param}
use denote.Param.Send.{IsSync, param_sync, sendable}
use Rattle.std.proofs.Crossing.{crosses}
use Rattle.omega_io.proofs.held_gate.HeldGate.TheSendSync as gate
use Rattle.omega_top_tests.proofs.on_threads.run_over.Goals as goal

pub run_past-requires-after_bounds : goal.run_past-requires-after_bounds
run_past-requires-after_bounds g c κs within =
    let runtime : (i : ℕ) → IsSync (param i g.row.R) = λ i. param_sync i g.row.R (record { shared = c.type_bounds.sync-R.shared }) in
    search (gate.the_sync, runtime, crosses, sendable) depth 20
