use Rattle.std.proofs.Common.{◌≡◌, IsTrue}
use Rattle.sqlite.specs.State.{HasCleanDisk, KeepsCommit}
use Rattle.sqlite.specs.Held.{state}
use Rattle.omega_sqlkeep.proofs.database.append_to.Given as goal

abbrev pub invariant-loop-line : goal.invariant-loop-line
invariant-loop-line g l =
    (l.work.conn.ghost_name ≡ l.initial.work.conn.ghost_name)
    × (HasCleanDisk (state g.S.Store l.work.conn.now) → IsTrue l.work.conn.now.in_transaction × KeepsCommit (state g.S.Store l.fn.connection) (state g.S.Store l.work.conn.now))
