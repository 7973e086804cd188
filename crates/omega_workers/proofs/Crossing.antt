-- Workers and indexes that are lent may go to another thread.
use denote.Param.Send.{IsSend, sendable}
use Rattle.omega_desk.proofs.desk.Desk.TheSendSync as desk
use Rattle.omega_plan.proofs.indexes.Indexes.TheSendSync as indexes
use Rattle.omega_plan.specs.contracts.indexes.Indexes as Indexes
use Rattle.omega_workers.proofs.plans.Plan.TheSendSync as plan
use Rattle.omega_workers.specs.contracts.worker.Worker as Worker

-- a worker
pub worker_send : IsSend (Worker.the_field).row
worker_send = search (plan.the_send, desk.the_send, sendable) depth 40

-- indexes
pub indexes_send : IsSend (Indexes.the_field).row
indexes_send = indexes.the_field_send

-- a worker and indexes that are lent to another thread
pub lent_worker_send : IsSend Worker.the_row
lent_worker_send = search (plan.the_send, desk.the_send, sendable) depth 40

pub lent_indexes_send : IsSend Indexes.the_row
lent_indexes_send = indexes.the_send
