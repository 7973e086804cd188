use Rattle.std.proofs.Common.{rules}
use Rattle.omega_lock.proofs.Passing.{pass_keeps}
use Rattle.omega_lock.proofs.lock.Lock.pass.Goals as goal

pub fetch_add-next-requires : goal.fetch_add-next-requires
fetch_add-next-requires g c =
    let t = c.requires.turn in
    let s = c.requires.slot in (
      search rules,
      search rules,
      pass_keeps g.T.Counted.entries g.T.Counted.number _ _ _ _ s.0 c.self.invariant.few_turns s.1 t.0 t.1 s.2,
    )
