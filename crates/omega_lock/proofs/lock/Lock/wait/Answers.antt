use Rattle.std.proofs.Common.{rules, ap, ◌∙◌}
use Rattle.omega_lock.proofs.Looking.{look_keeps}
use Rattle.omega_lock.proofs.lock.Lock.wait.Goals as goal

pub load-requires : goal.load-requires
load-requires g c =
    let same = c.loop.invariant.1 in (
      search rules,
      search rules,
      look_keeps g.T.Counted.entries g.T.Counted.number _ _ _ _ (ap (λ m. m.0.has_ticket) same ∙ c.requires.ticket.0) (ap (λ m. m.0.holds) same ∙ c.requires.no_turn.0) (ap (λ m. m.0.read) same ∙ c.requires.no_turn.1),
    )
