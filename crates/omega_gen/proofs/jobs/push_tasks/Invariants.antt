use Rattle.std.proofs.Common.{◌≡◌, ◌++◌}
use Rattle.std.specs.List.{flat_map, range_with_len}
use Rattle.std.specs.String.{string_bytes}
use Rattle.omega_model.specs.Generated.{task_text}
use Rattle.omega_gen.proofs.jobs.push_tasks.Given as goal

abbrev pub invariant-loop-index : goal.invariant-loop-index
invariant-loop-index l =
    string_bytes l.out
    ≡ string_bytes l.fn.out ++ flat_map (task_text l.job l.number l.time l.code) (range_with_len 0 l.index)
