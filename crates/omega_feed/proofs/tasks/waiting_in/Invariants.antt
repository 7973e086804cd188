use Rattle.std.proofs.Common.{◌≡◌, ◌++◌, drop}
use Rattle.std.specs.List.{flat_map}
use Rattle.omega_feed.specs.Parts.{waiting_jobs}
use Rattle.omega_feed.proofs.tasks.waiting_in.Given as goal

abbrev pub invariant-loop-tasks : goal.invariant-loop-tasks
invariant-loop-tasks l =
    l.jobs.items ++ flat_map (waiting_jobs l.running.tasks) (drop l.tasks-index l.parts)
    ≡ flat_map (waiting_jobs l.running.tasks) l.parts
