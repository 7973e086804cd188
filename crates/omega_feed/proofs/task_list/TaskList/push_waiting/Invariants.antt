use Rattle.std.proofs.Common.{◌≡◌, ◌++◌}
use Rattle.std.specs.Iterator.Adapters.{zip_first, zip_second}
use Rattle.std.specs.Slice.Iter.{chunks_rest, chunks_size, iter_rest}
use Rattle.omega_feed.specs.Parts.{waiting_jobs}
use Rattle.omega_feed.specs.Slots.{AreCounted, block, tasks_in}
use Rattle.omega_feed.proofs.task_list.TaskList.push_waiting.Given as goal

abbrev pub invariant-loop-count : goal.invariant-loop-count
invariant-loop-count l =
    AreCounted (iter_rest (zip_first l.count-iterator)) (chunks_rest (zip_second l.count-iterator))
    × (chunks_size (zip_second l.count-iterator) ≡ block)
    × (l.jobs.items ++ waiting_jobs l.running.tasks (tasks_in (chunks_rest (zip_second l.count-iterator))) ≡ l.fn.jobs.items ++ waiting_jobs l.running.tasks l.self)
