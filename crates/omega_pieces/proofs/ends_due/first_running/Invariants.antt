use Rattle.std.specs.BTreeMap.{btree_map_len}
use Rattle.omega_pieces.specs.Due.{AreAsBefore, AreQueued}
use Rattle.omega_pieces.proofs.ends_due.first_running.Given as goal

abbrev pub invariant-loop-first : goal.invariant-loop-first
invariant-loop-first l = record {
  queued : AreQueued l.times.entries l.queue;
  same : AreAsBefore l.running.tasks l.initial.times.entries l.times.entries;
}

abbrev pub decreases-loop-first : goal.decreases-loop-first
decreases-loop-first l = btree_map_len l.times
