use Rattle.std.proofs.Common.{◌≡◌, ◌≤◌, length, drop}
use Rattle.std.specs.Prelude.{vec_len, vec_capacity}
use Rattle.std.specs.Vec.Iter.{into_iter_items}
use Rattle.omega_cell.specs.Rooms.{victim_counts}
use Rattle.omega_cell.proofs.Judging.{IsJudging}
use Rattle.omega_cell.proofs.deciding.judge_all.Given as goal

abbrev pub invariant-loop-i : goal.invariant-loop-i
invariant-loop-i l =
    IsJudging l.fn.board l.board l.fn.undo l.undo l.rule l.claims l.seqs l.answered.items l.i
    × (into_iter_items l.rooms ≡ victim_counts (drop l.i l.claims))
    × (vec_len l.answered ≡ l.i)
    × (length l.claims ≤ vec_capacity l.answered)
