use Rattle.std.proofs.Common.{◌≡◌, ◌∷◌, ◌++◌, [], List, ap, subst, sym, rules}
use Rattle.std.specs.Vec.Iter.{into_iter_items}
use Rattle.std.proofs.lemmas.List.{nil_from_length}
use Rattle.omega_model.specs.Lawful.{Applied}
use Rattle.omega_model.specs.declared.entries.Entry.{Entry}
use Rattle.omega_model.specs.declared.entries.Entry.TheVariants.{Round}
use Rattle.omega_model.specs.declared.rows.Row.{Row}
use Rattle.omega_opening.proofs.Applying.{AreAppliedBut, all_left, none_left, one_fewer}
use Rattle.omega_opening.proofs.Reopened.{opens_none, quiet_fed}
use Rattle.omega_opening.proofs.opening.open.Goals as goal

pub loop-row-init : goal.loop-row-init
loop-row-init c =
    let start : List Entry = c.args.cell.now.history ++ Round c.args.round.number ∷ [] in
    let items : c.args.round.rows ≡ into_iter_items c.into_iter-row-iterator.result = search rules in (
      subst (λ (left : List Row). AreAppliedBut c.args.wanted.now c.args.wanted.now start c.feed.new.cell.history left c.args.round.rows) items
          (subst (λ (h : List Entry). AreAppliedBut c.args.wanted.now c.args.wanted.now start h c.args.round.rows c.args.round.rows)
          (sym c.in_ok-feed.ensures) (all_left c.args.wanted.now start c.args.round.rows)),
      quiet_fed c.args.open_jobs.now c.args.open_jobs.now c.args.wanted.now c.args.cell.now.history c.feed.new.cell.history (Round c.args.round.number)
          c.requires.quiet (opens_none c.args.open_jobs.now c.args.wanted.now) c.in_ok-feed.ensures,
    )

pub apply_row-requires : goal.apply_row-requires
apply_row-requires c = record { quiet = c.in_ok-take.ensures.quiet _ c.loop-row.invariant.1 }

pub loop-row-preserved : goal.loop-row-preserved
loop-row-preserved c =
    let start : List Entry = c.args.cell.now.history ++ Round c.args.round.number ∷ [] in
    let row : Row = c.in-Some.row in
    let rest = into_iter_items c.next.new.self in
    let items : into_iter_items c.loop-row.row-iterator ≡ row ∷ rest = search rules in
    let before = subst (λ (left : List Row). AreAppliedBut c.args.wanted.now c.loop-row.wanted start c.loop-row.cell.history left c.args.round.rows) items c.loop-row.invariant.0 in (
      one_fewer c.args.wanted.now c.loop-row.wanted c.take.new.self start c.loop-row.cell.history c.apply_row.new.cell.history row rest c.args.round.rows
          before c.in_ok-take.ensures.ok c.in_ok-apply_row.ensures.history,
      c.in_ok-apply_row.ensures.quiet,
    )

pub returns-clause-history : goal.returns-clause-history
returns-clause-history c trace rows disks tasks =
    let start : List Entry = c.args.cell.now.history ++ Round c.args.round.number ∷ [] in
    let none : into_iter_items c.loop-row.row-iterator ≡ [] = nil_from_length (into_iter_items c.loop-row.row-iterator) (search rules) in
    let all = none_left c.args.wanted.now c.loop-row.wanted start c.loop-row.cell.history c.args.round.rows
    (subst (λ (left : List Row). AreAppliedBut c.args.wanted.now c.loop-row.wanted start c.loop-row.cell.history left c.args.round.rows) none c.loop-row.invariant.0) in
    ap (λ (now : Applied). now.history) (all.applied trace rows disks tasks)

pub returns-clause-wanted : goal.returns-clause-wanted
returns-clause-wanted c =
    let start : List Entry = c.args.cell.now.history ++ Round c.args.round.number ∷ [] in
    let none : into_iter_items c.loop-row.row-iterator ≡ [] = nil_from_length (into_iter_items c.loop-row.row-iterator) (search rules) in
    let all = none_left c.args.wanted.now c.loop-row.wanted start c.loop-row.cell.history c.args.round.rows
    (subst (λ (left : List Row). AreAppliedBut c.args.wanted.now c.loop-row.wanted start c.loop-row.cell.history left c.args.round.rows) none c.loop-row.invariant.0) in
    all.asked
