use Rattle.std.proofs.Common.{Some, sym, subst}
use Rattle.std.specs.Prelude.{Option}
use Rattle.omega_free.specs.EndsBy.{NotesBy}
use Rattle.omega_free.specs.declared.own_ends.OwnEnds.{OwnEnds}
use Rattle.omega_free.proofs.KeptEnds.{notes_own}
use Rattle.omega_free.proofs.ends_by.note_commit.Goals as goal

pub returns-in_ok-commit-in-Some : goal.returns-in_ok-commit-in-Some
returns-in_ok-commit-in-Some c =
    subst (λ (own : Option OwnEnds). NotesBy c.args.time c.args.cell.now.history own (Some c.commit.new.self)) (sym c.in-Some.is)
    (notes_own c.args.time c.args.cell.now.history c.in-Some.own c.commit.new.self c.in_ok-commit-in-Some.ensures)
