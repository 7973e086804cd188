use Rattle.std.proofs.Common.{◌≡◌, ◌∙◌, List, [], ◌∷◌, ◌++◌, map, ap, ap₂, append_assoc}
use Rattle.std.specs.Vec.Iter.{into_iter_items}
use Rattle.std.proofs.lemmas.List.{map-append}
use Rattle.std.proofs.lemmas.List.Elements.{All-push, All-same}
use Rattle.omega_shared.specs.Passes.{IsPassSeat, PassState, pass_at}
use Rattle.omega_shared.proofs.shared.seats_of.Goals as goal

pub loop-pass-preserved : goal.loop-pass-preserved
loop-pass-preserved c =
    let kept = c.loop-pass.invariant in
    let seat = c.pass.inside.seat in
    let steps : into_iter_items c.loop-pass.pass-iterator ≡ c.in-Some.pass ∷ into_iter_items c.next.new.self = c.in-Some.ensures.steps.0 in (
      append_assoc c.loop-pass.yielded (c.in-Some.pass ∷ []) (into_iter_items c.next.new.self) ∙ rw (← steps) kept.0,
      ap (map pass_at) c.push_reserved.ensures.items ∙ map-append pass_at c.loop-pass.seats.items (seat ∷ [])
          ∙ ap₂ (λ (l : List PassState) (p : PassState). l ++ p ∷ []) kept.1 c.pass.view_is,
      All-same IsPassSeat c.push_reserved.new.self.items (c.loop-pass.seats.items ++ seat ∷ []) c.push_reserved.ensures.items
          (All-push IsPassSeat c.loop-pass.seats.items seat kept.2 c.pass.invariant),
      c.push_reserved.ensures.capacity ∙ kept.3,
    )
