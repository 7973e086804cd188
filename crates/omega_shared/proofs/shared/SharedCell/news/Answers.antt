use Rattle.std.proofs.Common.{sym, subst, ◌∙◌}
use Rattle.omega_lock.proofs.Entries.{starts_self}
use Rattle.omega_model.specs.Applying.{EachMayApply}
use Rattle.omega_shared.specs.Commits.{GoesOnWithout}
use Rattle.omega_shared.specs.Held.{held_history}
use Rattle.omega_shared.proofs.Turning.{is_pass_seat, sees_others}
use Rattle.omega_shared.proofs.shared.SharedCell.news.Goals as goal

pub returns-clause-pass : goal.returns-clause-pass
returns-clause-pass g c =
    let turn = c.turn-held.ensures in
    let back = c.release.ensures in
    is_pass_seat c.args.seat.now c.turn-held.new.seat c.release.new.seat (held_history c.turn-held.result) (held_history c.turn-held.result) c.requires.pass
    record { same = turn.seat; seen = turn.seen; extends = turn.extends; own = turn.own; own_seen = turn.own_seen }
    record { same = back.seat; free = back.free; seen = back.seen; own_seen = back.own_seen }
    (starts_self (held_history c.turn-held.result))

pub returns-clause-seen : goal.returns-clause-seen
returns-clause-seen g c =
    let turn = c.turn-held.ensures in
    let back = c.release.ensures in
    subst (GoesOnWithout c.args.seat.now.number c.args.seat.now.seen) (sym back.seen)
    (sees_others c.args.seat.now c.turn-held.new.seat c.release.new.seat (held_history c.turn-held.result) (held_history c.turn-held.result) c.requires.pass
    record { same = turn.seat; seen = turn.seen; extends = turn.extends; own = turn.own; own_seen = turn.own_seen })

pub returns-clause-applied : goal.returns-clause-applied
returns-clause-applied g c = subst EachMayApply (c.cell.ensures ∙ sym c.release.ensures.seen) c.since-delta.ensures.applied
