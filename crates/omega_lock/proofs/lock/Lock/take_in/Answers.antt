use Rattle.std.proofs.Common.{rules, ap, sym, subst, ◌∙◌}
use Rattle.omega_lock.specs.Views.{lists}
use Rattle.omega_lock.specs.Gathering.{Has, HasAll}
use Rattle.omega_lock.proofs.Joining.{join_keeps}
use Rattle.omega_lock.proofs.Closing.{has_new, gathered_joined, joined_pairs}
use Rattle.omega_lock.proofs.lock.Lock.take_in.Goals as goal

pub join_seat-requires : goal.join_seat-requires
join_seat-requires g c =
    let r = c.requires.rest in
    let i = c.seat.invariant in
    let free = ap (λ s. s.holds) c.seat.view_is ∙ c.requires.free in (
      search rules,
      search rules,
      i.0.home free,
      search rules,
      join_keeps g.T.Counted.entries g.T.Counted.number _ _ _ _ _ r.0 i.0.has_number r.1 (i.0.has_ticket ∙ free, free, i.0.read ∙ free, i.0.told),
    )

pub returns-clause-pairs : goal.returns-clause-pairs
returns-clause-pairs g c = ap lists (ap (λ m. m.0) c.join_seat.ensures.2) ∙ joined_pairs c.seat.inside.token.table_id c.args.all.now.me.0 c.seat.inside.token.me.0 c.args.seat c.seat.invariant.0.has_number c.seat.invariant.0.kept c.seat.view_is

pub returns-clause-has : goal.returns-clause-has
returns-clause-has g c = subst (λ m. Has m c.args.seat) (sym (ap (λ m. m.0) c.join_seat.ensures.2)) (has_new c.seat.inside.token.table_id c.args.all.now.me.0 c.seat.inside.token.me.0 c.args.seat c.seat.invariant.0.has_number c.seat.view_is)

pub returns-clause-kept : goal.returns-clause-kept
returns-clause-kept g c = λ ss h. subst (λ m. HasAll m ss) (sym (ap (λ m. m.0) c.join_seat.ensures.2)) (gathered_joined c.args.all.now.me.0 c.seat.inside.token.me.0 ss h)
