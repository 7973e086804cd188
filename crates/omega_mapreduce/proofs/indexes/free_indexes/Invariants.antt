use Rattle.std.proofs.Common.{◌≡◌, ◌++◌, ◌+◌, ◌-◌, length}
use Rattle.std.specs.List.{filter, range_with_len}
use Rattle.omega_model.specs.ExtraTasks.{first_extra}
use Rattle.omega_mapreduce.specs.Counted.{RiseFrom}
use Rattle.omega_mapreduce.proofs.FreeIndexes.{is_free}
use Rattle.omega_mapreduce.proofs.indexes.free_indexes.Given as goal

abbrev pub invariant-loop-index : goal.invariant-loop-index
invariant-loop-index l =
    RiseFrom l.index l.ahead
    × (l.found.items ++ filter (is_free l.ahead) (range_with_len l.index (l.end - l.index))
    ≡ filter (is_free l.running) (range_with_len first_extra (length l.running + l.count)))
