use Rattle.std.proofs.Common.{◌≡◌, ◌∙◌, false, List, [], ◌∷◌, ◌++◌, map, refl, ap, sym, append_assoc}
use Rattle.std.specs.Vec.Iter.{into_iter_items}
use Rattle.std.proofs.lemmas.List.{map-append}
use Rattle.std.proofs.lemmas.List.Elements.{All-push, All-same}
use Rattle.omega_plan.specs.declared.indexes.Indexes.{Indexes}
use Rattle.omega_shared.specs.Passes.{PassState}
use Rattle.omega_rounds.specs.declared.threads.player.Player.{Player}
use Rattle.omega_workers.specs.declared.worker.Worker.{Worker}
use Rattle.omega_rounds.proofs.threads.paired.Goals as goal

pub loop-worker-preserved : goal.loop-worker-preserved
loop-worker-preserved c =
    let kept = c.loop-worker.invariant in
    let player : Player = record { worker = c.in-Some.worker; indexes = c.in-Some-next.own; pass = c.in-Some-next-2.pass; failed = false } in
    let rest_indexes : List Indexes = into_iter_items c.next-in-loop-worker.new.self in
    let rest : List PassState = into_iter_items c.next-in-loop-worker-2.new.self in
    let steps : into_iter_items c.loop-worker.worker-iterator ≡ player.worker ∷ into_iter_items c.next.new.self = c.in-Some.ensures.steps.0 in
    let gives_indexes : into_iter_items c.loop-worker.indexes ≡ player.indexes ∷ rest_indexes = c.in-Some-next.ensures.items in
    let gives : into_iter_items c.loop-worker.passes ≡ player.pass ∷ rest = c.in-Some-next-2.ensures.items in
    let more = c.push_reserved.ensures.items in (
      append_assoc c.loop-worker.yielded (player.worker ∷ []) (into_iter_items c.next.new.self) ∙ rw (← steps) kept.0,
      ap (map (λ (p : Player). p.worker)) more ∙ map-append (λ (p : Player). p.worker) c.loop-worker.players.items (player ∷ [])
          ∙ ap (λ (l : List Worker). l ++ player.worker ∷ []) kept.1,
      ap (λ (l : List Player). map (λ (p : Player). p.indexes) l ++ rest_indexes) more
          ∙ ap (λ (l : List Indexes). l ++ rest_indexes) (map-append (λ (p : Player). p.indexes) c.loop-worker.players.items (player ∷ []))
          ∙ append_assoc (map (λ (p : Player). p.indexes) c.loop-worker.players.items) (player.indexes ∷ []) rest_indexes
          ∙ ap (λ (l : List Indexes). map (λ (p : Player). p.indexes) c.loop-worker.players.items ++ l) (sym gives_indexes) ∙ kept.2,
      ap (λ (l : List Player). map (λ (p : Player). p.pass) l ++ rest) more
          ∙ ap (λ (l : List PassState). l ++ rest) (map-append (λ (p : Player). p.pass) c.loop-worker.players.items (player ∷ []))
          ∙ append_assoc (map (λ (p : Player). p.pass) c.loop-worker.players.items) (player.pass ∷ []) rest
          ∙ ap (λ (l : List PassState). map (λ (p : Player). p.pass) c.loop-worker.players.items ++ l) (sym gives) ∙ kept.3,
      All-same (λ (p : Player). p.failed ≡ false) c.push_reserved.new.self.items (c.loop-worker.players.items ++ player ∷ []) more
          (All-push (λ (p : Player). p.failed ≡ false) c.loop-worker.players.items player kept.4 refl),
      c.push_reserved.ensures.capacity ∙ kept.5,
    )

pub returns-clause-fresh : goal.returns-clause-fresh
returns-clause-fresh c = c.loop-worker.invariant.4
