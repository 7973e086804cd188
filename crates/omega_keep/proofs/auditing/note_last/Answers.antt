use Rattle.std.proofs.Common.{rules, ◌≡◌, ◌++◌, ◌∷◌, []}
use Rattle.omega_keep.proofs.Audits.{noted_last}
use Rattle.omega_keep.proofs.auditing.note_last.Goals as goal

pub returns-in_ok-note-clause-notes : goal.returns-in_ok-note-clause-notes
returns-in_ok-note-clause-notes c = λ before entry is old.
    let split : c.args.cell.now.history ≡ c.in-Some.before.now ++ c.in-Some.entry.now ∷ [] = search (rules, c.history.ensures.history, c.split_last.ensures.cases, c.in-Some.is) in
    noted_last c.args.touches.now.places c.note.new.self.places c.args.cell.now.history c.in-Some.before.now before c.in-Some.entry.now entry split is c.in_ok-note.ensures old
