use Rattle.std.proofs.Common.{sym, subst}
use Rattle.omega_plan.specs.Indexes.{TellAll}
use Rattle.omega_plan.specs.Overlays.{OverlayState, cell_after}
use Rattle.omega_plan.proofs.Overlaid.{may_tell_back}
use Rattle.omega_plan.proofs.overlay.Overlay.end.Goals as goal

pub tell_machines-requires : goal.tell_machines-requires
tell_machines-requires c =
    let overlay : OverlayState = record { board = c.self.inside.board.now; claims = c.self.inside.claims.items } in
    let tell = subst (λ (o : OverlayState). TellAll (cell_after o) c.args.indexes.now) (sym c.self.view_is) c.requires.tell in
    record {
      may = may_tell_back c.self.inside.tenants c.self.inside.running.now.tasks c.self.inside.machines.items c.deref.result.now overlay c.self.invariant c.deref.ensures.value c.args.indexes.now tell;
    }
