use Rattle.std.proofs.Common.{◌≡◌, true, List, length, drop, sym, subst}
use Rattle.std.specs.Prelude.{All, Any}
use Rattle.omega_lock.specs.Lists.{StartsWith}
use Rattle.omega_model.specs.Work.{is_commit_of}
use Rattle.omega_model.specs.declared.entries.Entry.{Entry}
use Rattle.omega_shared.specs.Passes.{PassState}
use Rattle.omega_shared.proofs.shared.SharedCell.close.Goals as goal

pub returns-clause-seen : goal.returns-clause-seen
returns-clause-seen g c =
    subst (λ (history : List Entry). All (λ (pass : PassState). StartsWith history pass.seen) c.args.passes.items) (sym c.into_cell.ensures)
    c.closed.ensures.seen

pub returns-clause-commits : goal.returns-clause-commits
returns-clause-commits g c =
    subst
    (λ (history : List Entry). All (λ (entry : Entry). Any (λ (pass : PassState). is_commit_of pass.number entry ≡ true) c.args.passes.items)
    (drop (length c.args.self.first) history))
    (sym c.into_cell.ensures) c.closed.ensures.commits
