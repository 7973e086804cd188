use Rattle.std.proofs.Common.{arith, ◌≡◌, ◌∙◌, ap, sym, [], ◌∷◌, ◌++◌, length-append, append_assoc}
use Rattle.std.specs.Vec.Iter.{into_iter_items}
use Rattle.std.proofs.lemmas.List.{map-append}
use Rattle.omega_lock.specs.Gathering.{pair_of}
use Rattle.omega_lock.proofs.Closing.{gathered_more}
use Rattle.omega_lock.proofs.lock.Lock.gather.Goals as goal

pub loop-seat-preserved : goal.loop-seat-preserved
loop-seat-preserved g c =
    let i = c.loop-seat.invariant in
    let t = c.take_in.ensures in
    let before = t.kept (c.args.first ∷ c.loop-seat.yielded) i.6 in
    let steps : into_iter_items c.loop-seat.seat-iterator ≡ c.in-Some.seat ∷ into_iter_items c.next.new.self = c.in-Some.ensures.steps.0 in
    let long = length-append c.loop-seat.yielded (c.in-Some.seat ∷ []) in (
      append_assoc c.loop-seat.yielded (c.in-Some.seat ∷ []) _ ∙ rw (← steps) i.0,
      t.of ∙ i.1,
      t.rest.0,
      t.rest.1,
      t.rest.2,
      omega (arith, t.count, i.5, long),
      (before.0, gathered_more c.take_in.new.all.me.0 c.loop-seat.yielded (c.in-Some.seat ∷ []) before.1 (t.has, tt)),
      t.pairs ∙ ap (λ l. l ++ pair_of c.in-Some.seat ∷ []) i.7 ∙ sym (map-append pair_of (c.args.first ∷ c.loop-seat.yielded) (c.in-Some.seat ∷ [])),
    )
