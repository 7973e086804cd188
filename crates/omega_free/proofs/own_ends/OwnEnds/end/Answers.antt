use Rattle.std.proofs.Common.{◌≡◌, ◌<◌, ◌++◌, ◌∷◌, [], ap, map, subst, sym, ◌∙◌}
use Rattle.omega_model.specs.ExtraTasks.{first_extra}
use Rattle.omega_model.specs.Wanted.{wanted}
use Rattle.omega_model.specs.declared.cells.TaskKey.{TaskKey}
use Rattle.omega_model.specs.declared.entries.Entry.TheVariants.{End}
use Rattle.omega_model.specs.declared.rows.Row.TheVariants.{Task as TaskEvent}
use Rattle.omega_free_laws.specs.Lives.{DueEnd, counting}
use Rattle.omega_pieces.specs.Kept.{KeepsPieces}
use Rattle.omega_free.proofs.OwnEnded.{ends_ended, pieces_ended}
use Rattle.omega_free.proofs.OwnPasts.{tells_ended}
use Rattle.omega_free.proofs.own_ends.OwnEnds.end.Goals as goal

pub apply_row-requires : goal.apply_row-requires
apply_row-requires c = record { quiet = c.in_ok-take_held.ensures.quiet _ (c.in_ok-take.ensures.quiet _ c.in_ok-reopen_since.ensures.quiet) }

pub returns-clause-past : goal.returns-clause-past
returns-clause-past c settings trace past times coming keeps tells is =
    let key : c.end.inside.key ≡ c.args.end.key = ap (λ (it : DueEnd). it.key) c.end.view_is in
    let low : c.end.inside.key.index < first_extra = subst (λ (it : TaskKey). it.index < first_extra) (sym key) c.requires.low in
    let wants : wanted (counting past.rows (past.history ++ End c.args.end.key c.args.end.machine ∷ []))
    ≡ wanted (counting past.rows past.history ++ TaskEvent c.row_of_end.result ∷ map (λ row. TaskEvent row) c.in_ok-held.held) =
    subst (λ (it : TaskKey). wanted (counting past.rows (past.history ++ End it c.args.end.machine ∷ []))
    ≡ wanted (counting past.rows past.history ++ TaskEvent c.row_of_end.result ∷ map (λ row. TaskEvent row) c.in_ok-held.held)) key
    (c.in_ok-held.ensures.wanted trace past.rows past.history keeps.pieces low c.args.end.machine c.row_of_end.result c.row_of_end.ensures.key c.row_of_end.ensures.code) in
    tells_ended settings trace past times coming c.args.end c.row_of_end.result c.in_ok-held.held c.args.cell.now.history c.apply_row.new.cell.history
    c.args.demand.now.wanted c.reopen_since.new.demand.wanted c.take.new.self c.take_held.new.wanted keeps.low tells c.in_ok-reopen_since.ensures.wanted is
    (c.row_of_end.ensures.key ∙ key) c.row_of_end.ensures.code wants c.in_ok-take.ensures.ok c.in_ok-take_held.ensures.wanted c.in_ok-apply_row.ensures.history

pub returns-clause-kept : goal.returns-clause-kept
returns-clause-kept c settings trace past times coming keeps tells is =
    let key : c.end.inside.key ≡ c.args.end.key = ap (λ (it : DueEnd). it.key) c.end.view_is in
    let low : c.end.inside.key.index < first_extra = subst (λ (it : TaskKey). it.index < first_extra) (sym key) c.requires.low in
    let alone : KeepsPieces trace past.rows (past.history ++ End c.args.end.key c.args.end.machine ∷ []) c.end-2.new.self =
    subst (λ (it : TaskKey). KeepsPieces trace past.rows (past.history ++ End it c.args.end.machine ∷ []) c.end-2.new.self) key
    (c.in_ok-held.ensures.kept trace past.rows past.history keeps.pieces low c.args.end.machine) in
    record {
      low = keeps.low;
      pieces = pieces_ended trace past.rows past.history c.args.end c.end-2.new.self alone;
      due = ends_ended trace past.rows past.history c.args.end times c.args.self.now.due is keeps.due;
    }
