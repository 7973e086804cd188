use Rattle.std.proofs.Common.{rules, arith, ap, sym, ◌∙◌, length}
use Rattle.omega_lock.proofs.Numbering.{number_keeps}
use Rattle.omega_lock.proofs.lock.Lock.name.Goals as goal

pub compare_exchange-requires : goal.compare_exchange-requires
compare_exchange-requires g c =
    let same = c.loop.invariant.1 ∙ c.requires.first in
    let v = ap (λ m. m.0) same in
    let k = c.self.view_is in (
      search rules,
      search rules,
      number_keeps g.T.Counted.entries g.T.Counted.number _ _ _ _ _ (ap (λ v. v.has_number) v) (ap (λ v. v.holds) v) (ap (λ v. v.kept) v)
          (ap (λ v. v.allotted) v ∙ ap (λ l. l.turns) (sym k)) (ap (λ v. v.first_length) v ∙ ap (λ l. length l.first) (sym k)) (let few = ap (λ l. l.callers) k in omega (arith, few, c.requires.number, c.from-number.ensures)),
    )
