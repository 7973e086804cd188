use Rattle.std.proofs.Common.{◌≡◌, ◌++◌}
use Rattle.std.specs.Prelude.{map, vec_capacity}
use Rattle.std.specs.Vec.Iter.{into_iter_items}
use Rattle.omega_rounds.proofs.threads.apart.Given as goal

-- the workers, the indexes and the passes so far are those of the players so far
abbrev pub invariant-loop-player : goal.invariant-loop-player
invariant-loop-player l =
    (l.yielded ++ into_iter_items l.player-iterator ≡ l.fn.players.items)
    × (l.workers.items ≡ map (λ player. player.worker) l.yielded)
    × (l.indexes.items ≡ map (λ player. player.indexes) l.yielded)
    × (l.passes.items ≡ map (λ player. player.pass) l.yielded)
    × (vec_capacity l.workers ≡ vec_capacity l.fn.workers)
    × (vec_capacity l.indexes ≡ vec_capacity l.fn.indexes)
    × (vec_capacity l.passes ≡ vec_capacity l.fn.passes)
