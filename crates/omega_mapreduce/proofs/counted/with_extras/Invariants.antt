use Rattle.std.proofs.Common.{◌≡◌, ◌++◌, drop, map}
use Rattle.omega_mapreduce.specs.Counted.{counted_wish}
use Rattle.omega_mapreduce.proofs.counted.with_extras.Given as goal

abbrev pub invariant-loop-index : goal.invariant-loop-index
invariant-loop-index l =
    l.wishes ++ map (counted_wish l.job l.need l.constraints) (drop l.index-index l.indexes)
    ≡ l.fn.wishes ++ map (counted_wish l.job l.need l.constraints) l.indexes
