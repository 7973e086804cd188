use Rattle.std.proofs.Common.{List, [], ◌∷◌, ◌++◌, refl, sym, ap, subst}
use Rattle.omega_model.specs.declared.claims.Claim.{Claim}
use Rattle.omega_model.specs.declared.claims.Judgement.{Judgement}
use Rattle.omega_model.specs.declared.entries.Entry.{Entry}
use Rattle.omega_model.specs.declared.entries.Entry.TheVariants.{Commit}
use Rattle.omega_cell.specs.Cells.{CellState, IsCell}
use Rattle.omega_cell.specs.Effects.{AreNotes}
use Rattle.omega_cell.specs.Rooms.{EvictWithin}
use Rattle.omega_cell.proofs.Cells.{few_entries}
use Rattle.omega_cell.proofs.Noted.{notes_stay}
use Rattle.omega_cell.proofs.Committing.{placed_are_listed, reply_fits, committed}
use Rattle.omega_cell.proofs.cell.Cell.commit.Goals as goal

pub touch_placed-requires-clause-listed : goal.touch_placed-requires-clause-listed
touch_placed-requires-clause-listed c =
    placed_are_listed c.self.inside.board c.decide-reply.new.board c.self.inside.entries.items c.args.self.now.history c.prepared.inside.txn c.args.prepared
    c.args.seen c.args.seqs.now c.decide-reply.result
    (record { kept = c.self.invariant.0; history = ap (λ (cell : CellState). cell.history) c.self.view_is; txn_is = c.prepared.view_is; seqs_are = c.requires.seqs })
    (record { reply_is = c.decide-reply.ensures.reply; tasks = c.decide-reply.ensures.tasks; machines = c.decide-reply.ensures.machines; numbers = c.decide-reply.ensures.numbers })

pub outcomes_of-outcomes-requires-clause-reply : goal.outcomes_of-outcomes-requires-clause-reply
outcomes_of-outcomes-requires-clause-reply c =
    subst (λ (answered : List Judgement). EvictWithin c.as_slice.result.now answered) (sym c.as_slice-2.ensures)
    (subst (λ (claims : List Claim). EvictWithin claims c.decide-reply.result) (sym c.as_slice.ensures)
    (reply_fits c.self.inside.board c.decide-reply.new.board c.self.inside.entries.items c.args.self.now.history c.prepared.inside.txn c.args.prepared
    c.args.seen c.args.seqs.now c.decide-reply.result
    (record { kept = c.self.invariant.0; history = ap (λ (cell : CellState). cell.history) c.self.view_is; txn_is = c.prepared.view_is; seqs_are = c.requires.seqs })
    (record { reply_is = c.decide-reply.ensures.reply; tasks = c.decide-reply.ensures.tasks; machines = c.decide-reply.ensures.machines; numbers = c.decide-reply.ensures.numbers })))

pub invariant_of-self : goal.invariant_of-self
invariant_of-self c =
    let history = c.self.inside.entries.items in
    let grown : IsCell c.touch_placed.new.self (history ++ Commit c.args.scheduler c.args.seen c.prepared.inside.txn c.decide-reply.result ∷ []) =
    committed c.self.inside.board c.decide-reply.new.board history c.args.self.now.history c.prepared.inside.txn c.args.prepared
    c.args.seen c.args.seqs.now c.decide-reply.result
    (record { kept = c.self.invariant.0; history = ap (λ (cell : CellState). cell.history) c.self.view_is; txn_is = c.prepared.view_is; seqs_are = c.requires.seqs })
    (record { reply_is = c.decide-reply.ensures.reply; tasks = c.decide-reply.ensures.tasks; machines = c.decide-reply.ensures.machines; numbers = c.decide-reply.ensures.numbers })
    c.touch_placed.new.self c.args.scheduler c.requires.seen (few_entries c.self.inside.entries)
    c.touch_placed.ensures.tasks c.touch_placed.ensures.machines c.touch_placed.ensures.seqs in
    let noted : AreNotes (history ++ Commit c.args.scheduler c.args.seen c.prepared.inside.txn c.decide-reply.result ∷ []) c.self.inside.notes =
    notes_stay history (Commit c.args.scheduler c.args.seen c.prepared.inside.txn c.decide-reply.result) c.self.inside.notes refl refl c.self.invariant.1 in
    subst (λ (h : List Entry). IsCell c.touch_placed.new.self h × AreNotes h c.self.inside.notes) (sym c.push_reserved.ensures.items) (grown, noted)
