use Rattle.std.proofs.Common.{◌≡◌, Some, ap, refl, subst, sym, ◌∙◌}
use Rattle.std.specs.Slice.{IsItemAt}
use Rattle.omega_feed.specs.Rounds.{part_round}
use Rattle.omega_laws.specs.Simulated.{greatest_time}
use Rattle.omega_feed.proofs.LastTimes.{part_read, pieces_in_order}
use Rattle.omega_feed.proofs.rounds.EventRounds.rows_time.Goals as goal

pub greatest_time-requires : goal.greatest_time-requires
greatest_time-requires c =
    let kept = c.self.inside in
    let part = c.in_ok-from.field-0.now in
    rw (c.deref-2.ensures.value, c.deref-3.ensures.value, c.deref-4.ensures.value)
    (pieces_in_order kept.machines.items kept.attrs.items kept.tasks.items part.from.machines part.to.machines part.from.attrs part.to.attrs part.from.tasks part.to.tasks c.self.invariant.0)

pub returns-clause-time : goal.returns-clause-time
returns-clause-time c =
    let kept = c.self.inside in
    let part = c.in_ok-from.field-0 in
    let time : c.greatest_time.result ≡ greatest_time (part_round kept.machines.items kept.attrs.items kept.tasks.items part.now).rows =
    c.greatest_time.ensures ∙ rw (c.deref-2.ensures.value, c.deref-3.ensures.value, c.deref-4.ensures.value) refl in
    ap Some time
    ∙ sym (part_read kept.machines.items kept.attrs.items kept.tasks.items kept.parts.items c.args.self.now c.args.i part
    (subst (λ parts. IsItemAt parts c.args.i (Some part)) c.deref.ensures.value c.in_ok-from.ensures.lookup) c.self.view_is)
