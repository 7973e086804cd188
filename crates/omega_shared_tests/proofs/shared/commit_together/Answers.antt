use Rattle.std.proofs.Common.{ℕ}
use denote.Param.{param}
use denote.Param.Send.{IsSync, param_sync, sendable}
use Rattle.std.proofs.Crossing.{crosses, sync}
use Rattle.omega_shared.proofs.Crossing.{pass_send, shared_sync}
use Rattle.omega_shared_tests.proofs.shared.commit_together.Goals as goal

pub join-first-requires-send-F : goal.join-first-requires-send-F
join-first-requires-send-F g c κs within =
    let runtime : (i : ℕ) → IsSync (param i g.row.R) = λ i. param_sync i g.row.R (record { shared = c.type_bounds.sync-R.shared }) in
    search (pass_send, shared_sync, runtime, sync, crosses, sendable) depth 20

pub join-first-requires-send-A : goal.join-first-requires-send-A
join-first-requires-send-A g c κs within = search (pass_send, sendable) depth 20
