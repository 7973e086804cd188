use Rattle.std.proofs.Common.{rules}
use Rattle.atomic_table.specs.Table.{keeps}
use Rattle.omega_lock.proofs.bells.Bells.ring.Goals as goal

pub load_new_seat-hand-requires : goal.load_new_seat-hand-requires
load_new_seat-hand-requires c = (search rules, λ s _ _ _. (tt, tt, tt))

pub fetch_add-requires : goal.fetch_add-requires
fetch_add-requires c = (search rules, search rules, λ s _ _ _ _. (tt, keeps, tt, tt, tt))
