use Rattle.std.proofs.Common.{sym, ap, ◌∙◌, subst}
use Rattle.omega_model.specs.Need.{Fits}
use Rattle.omega_model.specs.Cell.{use_on, without}
use Rattle.omega_board.proofs.board.Board.add_machine.Goals as goal

pub bring_up-requires-clause-in_use : goal.bring_up-requires-clause-in_use
bring_up-requires-clause-in_use c =
    subst (λ tasks. Fits (use_on tasks c.args.machine) c.args.cap)
    (sym (c.in_ok-displace.ensures.tasks ∙ ap (λ keys. without keys c.args.self.now.tasks) c.as_slice.ensures)) c.in_ok-gone.ensures.fits
