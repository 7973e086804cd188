use Rattle.std.proofs.Common.{◌≡◌, take}
use Rattle.std.specs.List.{AllByRecursion as Each}
use Rattle.omega_feed.proofs.Parting.{IsOf}
use Rattle.omega_feed.proofs.rounds.count_round.Given as goal

abbrev pub invariant-loop-row : goal.invariant-loop-row
invariant-loop-row g l = record {
  count : l.count ≡ l.row-index;
  own : Each (IsOf g.R.HasTime.time l.window l.number) (take l.row-index l.rows);
}
