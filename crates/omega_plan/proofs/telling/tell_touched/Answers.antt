use Rattle.std.proofs.Common.{ℕ, Bool, sym, subst}
use Rattle.std.specs.List.{zip}
use Rattle.omega_model.specs.declared.entries.Entry.{Entry}
use Rattle.omega_machines.specs.Table.{machines_of}
use Rattle.omega_model.specs.Touches.{is_claimed, is_touched_by}
use Rattle.omega_plan.specs.Telling.{TellsBut}
use Rattle.omega_plan.proofs.Tells.{no_commit}
use Rattle.omega_plan.proofs.telling.tell_touched.Goals as goal

pub tell_found-requires : goal.tell_found-requires
tell_found-requires c =
    subst (λ (stale : ℕ → Bool). TellsBut stale 0 c.args.board.now.tasks c.args.index.now.free (machines_of c.args.board.now.table))
    (λ i id. c.machine.ensures.touched (no_commit c.args.entry.now c.in_default.not-Commit) id i) c.requires

pub tell_placed-requires : goal.tell_placed-requires
tell_placed-requires c =
    subst (λ claims. TellsBut (is_claimed (zip claims c.as_slice-in-Commit.result.now)) 0 c.args.board.now.tasks c.args.index.now.free (machines_of c.args.board.now.table)) (sym c.as_slice.ensures)
    (subst (λ reply. TellsBut (is_claimed (zip c.in-Commit.txn.claims reply)) 0 c.args.board.now.tasks c.args.index.now.free (machines_of c.args.board.now.table)) (sym c.as_slice-in-Commit.ensures)
    (subst (λ (e : Entry). TellsBut (is_touched_by e) 0 c.args.board.now.tasks c.args.index.now.free (machines_of c.args.board.now.table)) c.in-Commit.is c.requires))
