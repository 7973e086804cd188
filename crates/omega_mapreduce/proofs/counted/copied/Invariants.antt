use Rattle.std.proofs.Common.{◌≡◌, ◌++◌, drop}
use Rattle.omega_mapreduce.proofs.counted.copied.Given as goal

abbrev pub invariant-loop-wish : goal.invariant-loop-wish
invariant-loop-wish l = l.copied ++ drop l.wish-index l.wishes ≡ l.wishes
