use Rattle.std.proofs.Common.{◌≡◌, ◌++◌, drop}
use Rattle.std.specs.List.{filter}
use Rattle.omega_model.specs.declared.wishes.Wish.{Wish}
use Rattle.omega_free_laws.specs.StillWanted.{is_still_wanted}
use Rattle.omega_free.proofs.attempts.still_wanted.Given as goal

abbrev pub invariant-loop-wish : goal.invariant-loop-wish
invariant-loop-wish l =
    l.wishes ++ filter (λ (wish : Wish). is_still_wanted l.wanted.tasks wish.key) (drop l.wish-index l.wish-items)
    ≡ filter (λ (wish : Wish). is_still_wanted l.wanted.tasks wish.key) l.wish-items
