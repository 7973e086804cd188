use Rattle.std.proofs.Common.{rules}
use Rattle.omega_lock.proofs.Publishing.{publish_keeps}
use Rattle.omega_lock.proofs.lock.Lock.publish.Goals as goal

pub fetch_add-requires : goal.fetch_add-requires
fetch_add-requires g c =
    let t = c.requires.turn in
    let s = c.requires.slot in (
      search rules,
      search rules,
      publish_keeps g.T.Counted.entries g.T.Counted.number _ _ _ _ s.0 s.1 c.self.invariant.few_turns c.self.invariant.short s.2 t.0 t.1 c.requires.once.0 c.requires.once.1 s.3 s.4,
    )
