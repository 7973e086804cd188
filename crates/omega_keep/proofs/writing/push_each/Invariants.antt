use Rattle.std.proofs.Common.{◌≡◌, ◌++◌, drop}
use Rattle.std.specs.List.{flat_map, AllByRecursion}
use Rattle.omega_keep.specs.KeptLines.{key_words, IsKey}
use Rattle.omega_keep.specs.Writing.{more_text}
use Rattle.omega_keep.proofs.writing.push_each.Given as goal

abbrev pub invariant-loop-key : goal.invariant-loop-key
invariant-loop-key l = record {
  text : l.out.items ++ more_text (flat_map key_words (drop l.key-index l.keys)) ≡ l.fn.out.items ++ more_text (flat_map key_words l.keys);
  range : AllByRecursion IsKey (drop l.key-index l.keys) → AllByRecursion IsKey l.keys;
}
