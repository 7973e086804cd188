use Rattle.std.proofs.Common.{◌≡◌, ◌++◌, false}
use Rattle.std.specs.Prelude.{All, map, vec_capacity}
use Rattle.std.specs.Vec.Iter.{into_iter_items}
use Rattle.omega_rounds.proofs.threads.paired.Given as goal

-- the players so far have the workers, the indexes and the passes so far, and of both as many remain as workers
abbrev pub invariant-loop-worker : goal.invariant-loop-worker
invariant-loop-worker l =
    (l.yielded ++ into_iter_items l.worker-iterator ≡ l.fn.workers.items)
    × (map (λ player. player.worker) l.players.items ≡ l.yielded)
    × (map (λ player. player.indexes) l.players.items ++ into_iter_items l.indexes ≡ l.fn.indexes.items)
    × (map (λ player. player.pass) l.players.items ++ into_iter_items l.passes ≡ l.fn.passes.items)
    × All (λ player. player.failed ≡ false) l.players.items
    × (vec_capacity l.players ≡ vec_capacity l.fn.players)
