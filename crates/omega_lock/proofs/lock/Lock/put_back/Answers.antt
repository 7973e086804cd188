use Rattle.std.proofs.Common.{◌∙◌, ap, sym, ◌∷◌, ◌++◌, []}
use Rattle.omega_lock.specs.Lists.{entries_since}
use Rattle.omega_lock.proofs.Releasing.{one_more, has_told}
use Rattle.omega_lock.proofs.lock.Lock.put_back.Goals as goal

pub returns-then-grown-clause-now : goal.returns-then-grown-clause-now
returns-then-grown-clause-now g c =
    let es = g.T.Counted.entries c.args.value in
    let v = c.args.token.now.me.0 in
    let out = c.requires.seat.out c.requires.holds in
    let e = one_more g.T.Counted.number v.number v.seen es c.requires.list (λ h. c.if-grown.true (c.count.ensures ∙ h ∙ sym out.2)) in
    let put = c.put.ensures.now in
    let now = c.publish.ensures.now c.args.value e.0 (ap (λ m. m.1) put) (e.1 ∙ ap (λ l. l ++ e.0 ∷ []) (sym out.1 ∙ sym (ap (λ m. m.0.held) put))) in
    has_told v _ c.put.new.token.me c.publish.new.token.me es _ _ put now.0
    (now.1 ∙ ap (λ m. entries_since g.T.Counted.number m.0.first_length m.0.number es) put)
