use Rattle.std.proofs.Common.{◌≡◌, ◌∙◌, [], ◌∷◌, ◌++◌, ap, sym, append_assoc}
use Rattle.std.specs.Vec.Iter.{into_iter_items}
use Rattle.std.proofs.lemmas.List.{map-append}
use Rattle.omega_rounds.specs.declared.threads.player.Player.{Player}
use Rattle.omega_rounds.proofs.threads.apart.Goals as goal

pub loop-player-preserved : goal.loop-player-preserved
loop-player-preserved c =
    let kept = c.loop-player.invariant in
    let player : Player = c.in-Some.player in
    let steps : into_iter_items c.loop-player.player-iterator ≡ player ∷ into_iter_items c.next.new.self = c.in-Some.ensures.steps.0 in (
      append_assoc c.loop-player.yielded (player ∷ []) (into_iter_items c.next.new.self) ∙ rw (← steps) kept.0,
      c.push_reserved.ensures.items ∙ ap (λ l. l ++ player.worker ∷ []) kept.1 ∙ sym (map-append (λ (p : Player). p.worker) c.loop-player.yielded (player ∷ [])),
      c.push_reserved-in-loop-player.ensures.items ∙ ap (λ l. l ++ player.indexes ∷ []) kept.2 ∙ sym (map-append (λ (p : Player). p.indexes) c.loop-player.yielded (player ∷ [])),
      c.push_reserved-in-loop-player-2.ensures.items ∙ ap (λ l. l ++ player.pass ∷ []) kept.3 ∙ sym (map-append (λ (p : Player). p.pass) c.loop-player.yielded (player ∷ [])),
      c.push_reserved.ensures.capacity ∙ kept.4,
      c.push_reserved-in-loop-player.ensures.capacity ∙ kept.5,
      c.push_reserved-in-loop-player-2.ensures.capacity ∙ kept.6,
    )
