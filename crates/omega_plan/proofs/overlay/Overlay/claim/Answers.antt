use Rattle.std.proofs.Common.{◌∷◌, [], ◌++◌, List, sym, ap, ◌∙◌, subst}
use Rattle.omega_model.specs.declared.cells.Task.{Task}
use Rattle.omega_model.specs.declared.claims.Claim.{Claim}
use Rattle.omega_machines.specs.Table.{machines_of}
use Rattle.omega_plan.specs.Indexes.{TellAll}
use Rattle.omega_plan.specs.Overlays.{GoesInWhole, OverlayState, cell_after, tasks_claimed}
use Rattle.omega_plan.proofs.Overlaid.{goes_beside, one_claimed, overlay_more, placed_claim}
use Rattle.omega_plan.proofs.Placing.{may_take_over}
use Rattle.omega_plan.proofs.overlay.Overlay.claim.Goals as goal

pub make_room-requires : goal.make_room-requires
make_room-requires c =
    may_take_over c.self.inside.tenants c.self.inside.running.now.tasks (tasks_claimed (record { board = c.self.inside.board.now; claims = c.self.inside.claims.items })) c.args.claim.machine c.self.invariant.beside

pub place-requires-clause-may : goal.place-requires-clause-may
place-requires-clause-may c =
    let overlay : OverlayState = record { board = c.self.inside.board.now; claims = c.self.inside.claims.items } in
    let goes = subst (λ (o : OverlayState). GoesInWhole (cell_after o) c.args.claim) (sym c.self.view_is) c.requires.goes_in in
    record {
      tasks = tasks_claimed overlay;
      goes = goes_beside overlay c.args.claim goes c.make_room.new.self c.self.inside.running.now.tasks
          (c.in_ok-make_room.ensures.kept (tasks_claimed overlay) c.self.invariant.beside) c.in_ok-make_room.ensures.whole;
    }

pub tell_claim-requires : goal.tell_claim-requires
tell_claim-requires c =
    let overlay : OverlayState = record { board = c.self.inside.board.now; claims = c.self.inside.claims.items } in
    let goes = subst (λ (o : OverlayState). GoesInWhole (cell_after o) c.args.claim) (sym c.self.view_is) c.requires.goes_in in
    let placed = goes_beside overlay c.args.claim goes c.make_room.new.self c.self.inside.running.now.tasks
    (c.in_ok-make_room.ensures.kept (tasks_claimed overlay) c.self.invariant.beside) c.in_ok-make_room.ensures.whole in
    record {
      tasks = tasks_claimed overlay;
      placed = placed_claim overlay c.args.claim goes c.place.new.self c.self.inside.running.now.tasks c.self.invariant.run c.self.invariant.beside.ordered (c.place.ensures (tasks_claimed overlay) placed);
      tell = subst (λ (o : OverlayState). TellAll (cell_after o) c.args.indexes.now) (sym c.self.view_is) c.requires.tell;
    }

pub invariant_of-self-2 : goal.invariant_of-self-2
invariant_of-self-2 c =
    let overlay : OverlayState = record { board = c.self.inside.board.now; claims = c.self.inside.claims.items } in
    let goes = subst (λ (o : OverlayState). GoesInWhole (cell_after o) c.args.claim) (sym c.self.view_is) c.requires.goes_in in
    let placed = goes_beside overlay c.args.claim goes c.make_room.new.self c.self.inside.running.now.tasks
    (c.in_ok-make_room.ensures.kept (tasks_claimed overlay) c.self.invariant.beside) c.in_ok-make_room.ensures.whole in
    overlay_more overlay c.args.claim goes c.self.inside.tenants c.place.new.self c.self.inside.running.now.tasks c.self.inside.machines.items c.push_reserved.new.self.items c.push_reserved-2.new.self.items c.self.invariant
    (c.push_reserved-2.ensures.items ∙ ap (λ (cs : List Claim). cs ++ c.args.claim ∷ []) c.reserve.ensures.items)
    (c.push_reserved.ensures.items ∙ ap (λ ids. ids ++ c.args.claim.machine ∷ []) c.reserve-2.ensures.items)
    (c.place.ensures (tasks_claimed overlay) placed)

pub returns-clause-tell : goal.returns-clause-tell
returns-clause-tell c =
    let overlay : OverlayState = record { board = c.self.inside.board.now; claims = c.self.inside.claims.items } in
    let goes = subst (λ (o : OverlayState). GoesInWhole (cell_after o) c.args.claim) (sym c.self.view_is) c.requires.goes_in in
    let placed = goes_beside overlay c.args.claim goes c.make_room.new.self c.self.inside.running.now.tasks
    (c.in_ok-make_room.ensures.kept (tasks_claimed overlay) c.self.invariant.beside) c.in_ok-make_room.ensures.whole in
    let more = c.push_reserved-2.ensures.items ∙ ap (λ (cs : List Claim). cs ++ c.args.claim ∷ []) c.reserve.ensures.items in
    subst (λ (ts : List Task). TellAll (record { machines = machines_of overlay.board.table; tasks = ts }) c.tell_claim.new.self) (sym (one_claimed overlay c.args.claim goes c.push_reserved-2.new.self.items more))
    (c.tell_claim.ensures.tell (tasks_claimed overlay)
    (placed_claim overlay c.args.claim goes c.place.new.self c.self.inside.running.now.tasks c.self.invariant.run c.self.invariant.beside.ordered (c.place.ensures (tasks_claimed overlay) placed))
    (subst (λ (o : OverlayState). TellAll (cell_after o) c.args.indexes.now) (sym c.self.view_is) c.requires.tell))
