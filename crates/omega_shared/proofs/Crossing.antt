-- Passes may go to other threads, and a shared cell may be shared among threads.
use denote.RattleType.{RattleType}
use Rattle.atomic_table.proofs.shared.Seat.TheSendSync as token
use Rattle.atomic_table.specs.contracts.shared.Seat as Token
use denote.Param.Send.{IsSend, IsSync, part_keyless, sendable, view_sync}
use Rattle.std.proofs.Crossing.{Arc-send, Vec-sync}
use Rattle.std.specs.contracts.alloc.Global as Heap
use Rattle.std.specs.contracts.impls.GlobalAllocator.TheImpl.{ghosts}
use Rattle.std.specs.contracts.option.Option as Maybe
use Rattle.std.specs.contracts.sync.Arc as Arc
use Rattle.omega_cell.specs.contracts.cell.Cell as Cell
use Rattle.omega_lock.proofs.lock.Lock.TheSendSync as lock
use Rattle.omega_lock.proofs.seat.Seat.TheSendSync as seat
use Rattle.omega_lock.specs.contracts.lock.Lock as Lock
use Rattle.omega_lock.specs.contracts.seat.Seat as Seat
use Rattle.omega_lock.specs.declared.counted.Counted.{Ghosts}
use Rattle.omega_shared.specs.contracts.held.Held as Held
use Rattle.omega_shared.specs.contracts.pass.Pass as Pass
use Rattle.omega_shared.specs.contracts.shared.SharedCell as SharedCell
use Rattle.omega_shared.specs.contracts.shared.SharedCell.TheInside as SharedInside
use Rattle.omega_cell.proofs.Crossing.{cell_send, cell_sync}

-- a cell that is lent
lent_send : IsSend (Arc.the_row Cell.the_row Heap.the_row ghosts)
lent_send = Arc-send Cell.the_row cell_send cell_sync

-- what the lock holds
held_send : IsSend Held.the_row
held_send = search (cell_send, lent_send, sendable) depth 20

-- a pass
pub pass_send : IsSend Pass.the_row
pass_send = search (held_send, seat.the_send, sendable) depth 20

-- a seat that is shared can only be looked at, so it may be shared where it may be sent
token_sync : (S V : RattleType) → IsSend S → IsSync (Token.the_row S V)
token_sync S V s =
    let whole : IsSend (Token.the_row S V) = search (token.the_send, s) depth 20 in
    record { shared = λ d b o κ q. part_keyless (Token.the_row S V) whole q d b o }

-- the lock and its seats
lock_sync : (E : RattleType) (g : Ghosts (Held.the_row).Denot E.Denot) → IsSync (Lock.the_row Held.the_row E g)
lock_sync E g = lock.the_sync Held.the_row E g held_send

held_send_maybe : IsSend (Maybe.the_row Held.the_row)
held_send_maybe = search (held_send, sendable) depth 20

seat_sync : (E : RattleType) (g : Ghosts (Held.the_row).Denot E.Denot) → IsSync (Seat.the_row Held.the_row E g)
seat_sync E g = search (held_send_maybe, token_sync, sendable) depth 20

-- a shared cell
parts_sync : IsSync SharedInside.the_row
parts_sync = search (lock_sync, seat_sync, Vec-sync, sendable) depth 20

pub shared_sync : IsSync SharedCell.the_row
shared_sync = view_sync _ _ _ _ _ parts_sync
