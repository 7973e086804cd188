use Rattle.std.proofs.Common.{◌≡◌, ◌≤◌, ◌++◌, ◌*◌, ◌-◌, ℕ, List, length, take}
use Rattle.omega_feed.specs.Slots.{AreCounted, block}
use Rattle.omega_feed.proofs.task_list.count_anew.Given as goal

abbrev pub invariant-loop-place : goal.invariant-loop-place
invariant-loop-place l =
    ((counts : List ℕ) → AreCounted counts l.left → AreCounted (take l.place l.counts.items ++ counts) l.slots)
    × (length l.left ≤ (length l.counts.items - l.place) * block)
    × (length l.counts.items ≡ length l.fn.counts.items)
