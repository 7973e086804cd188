use Rattle.std.proofs.Common.{rules, ℕ, ◌≡◌, ◌++◌, List, subst}
use denote.Param.{param}
use denote.Param.Send.{IsSync, param_sync, sendable}
use Rattle.omega_workers.proofs.Crossing.{lent_indexes_send, lent_worker_send}
use Rattle.omega_cell.proofs.Crossing.{cell_sync}
use Rattle.std.proofs.Crossing.{crosses, sync}
use Rattle.omega_workers.specs.Forked.{AllHaveSyncedOrStay}
use Rattle.omega_workers.specs.declared.worker.Worker.{Worker}
use Rattle.omega_workers.proofs.SyncedOrNot.{may_both}
use Rattle.omega_workers.proofs.forked.+fn-sync_pieces-join_mut+arg2+fn-sync_pieces-join_mut+arg3+sync_pieces.Goals as goal

-- the runtime is shared as what stands for a type parameter, at whatever place
pub join_mut-one-requires-send-F : goal.join_mut-one-requires-send-F
join_mut-one-requires-send-F g t c κs within =
    let runtime : (i : ℕ) → IsSync (param i g.row.R) = λ i. param_sync i g.row.R (record { shared = c.requires.sync.shared }) in
    search (lent_worker_send, lent_indexes_send, cell_sync, runtime, sync, crosses, sendable) depth 20

pub returns-in_err-one-clause-workers : goal.returns-in_err-one-clause-workers
returns-in_err-one-clause-workers g t c =
    let history = c.args.cell.now.history in
    let low : AllHaveSyncedOrStay history c.split_at_mut-low.result.0.now c.low-1.given.0 = search rules in
    let high : AllHaveSyncedOrStay history c.split_at_mut-low.result.1.now c.high-1.given.0 = search rules in
    let whole : c.split_at_mut-low.result.0.now ++ c.split_at_mut-low.result.1.now ≡ c.args.workers.now = search rules in
    subst (λ (olds : List Worker). AllHaveSyncedOrStay history olds (c.low-1.given.0 ++ c.high-1.given.0)) whole (may_both history _ _ _ _ low high)

pub returns-clause-workers : goal.returns-clause-workers
returns-clause-workers g t c =
    let history = c.args.cell.now.history in
    let low : AllHaveSyncedOrStay history c.split_at_mut-low.result.0.now c.low-1.given.0 = search rules in
    let high : AllHaveSyncedOrStay history c.split_at_mut-low.result.1.now c.high-1.given.0 = search rules in
    let whole : c.split_at_mut-low.result.0.now ++ c.split_at_mut-low.result.1.now ≡ c.args.workers.now = search rules in
    subst (λ (olds : List Worker). AllHaveSyncedOrStay history olds (c.low-1.given.0 ++ c.high-1.given.0)) whole (may_both history _ _ _ _ low high)

pub sync_each-requires-clause-ready : goal.sync_each-requires-clause-ready
sync_each-requires-clause-ready g t c = c.requires.ready
