use Rattle.std.proofs.Common.{◌≡◌, ◌∙◌, [], ◌∷◌, ◌++◌, ap, sym, append_assoc}
use Rattle.std.specs.Vec.Iter.{into_iter_items}
use Rattle.std.proofs.lemmas.List.{map-append}
use Rattle.std.proofs.lemmas.List.Elements.{All-same, All-tail}
use Rattle.omega_shared.specs.Passes.{IsPassSeat, pass_at}
use Rattle.omega_shared.proofs.shared.passes_of.Goals as goal

pub loop-seat-preserved : goal.loop-seat-preserved
loop-seat-preserved c =
    let kept = c.loop-seat.invariant in
    let steps : into_iter_items c.loop-seat.seat-iterator ≡ c.in-Some.seat ∷ into_iter_items c.next.new.self = c.in-Some.ensures.steps.0 in
    let remain = All-same IsPassSeat (c.in-Some.seat ∷ into_iter_items c.next.new.self) (into_iter_items c.loop-seat.seat-iterator) (sym steps) kept.2 in (
      append_assoc c.loop-seat.yielded (c.in-Some.seat ∷ []) (into_iter_items c.next.new.self) ∙ rw (← steps) kept.0,
      c.push_reserved.ensures.items ∙ ap (λ l. l ++ pass_at c.in-Some.seat ∷ []) kept.1 ∙ sym (map-append pass_at c.loop-seat.yielded (c.in-Some.seat ∷ [])),
      All-tail IsPassSeat c.in-Some.seat (into_iter_items c.next.new.self) remain,
      c.push_reserved.ensures.capacity ∙ kept.3,
    )
