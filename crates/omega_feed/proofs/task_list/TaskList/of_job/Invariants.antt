use Rattle.std.proofs.Common.{◌≡◌, ◌++◌, map}
use Rattle.std.specs.Iterator.Adapters.{zip_first, zip_second}
use Rattle.std.specs.Slice.Iter.{chunks_rest, chunks_size, iter_rest}
use Rattle.omega_model.specs.ExtraTasks.{wanted_of}
use Rattle.omega_feed.specs.Index.{wanted_task}
use Rattle.omega_feed.specs.Slots.{AreCounted, block, tasks_in}
use Rattle.omega_feed.proofs.task_list.TaskList.of_job.Given as goal

abbrev pub invariant-loop-count : goal.invariant-loop-count
invariant-loop-count l =
    AreCounted (iter_rest (zip_first l.count-iterator)) (chunks_rest (zip_second l.count-iterator))
    × (chunks_size (zip_second l.count-iterator) ≡ block)
    × (map wanted_task l.found.items ++ wanted_of l.job (tasks_in (chunks_rest (zip_second l.count-iterator))) ≡ wanted_of l.job l.self)
