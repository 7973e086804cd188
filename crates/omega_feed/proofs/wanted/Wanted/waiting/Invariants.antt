use Rattle.std.specs.Prelude.{is_some}
use Rattle.std.proofs.Common.{◌≡◌, ◌++◌, drop, map, not}
use Rattle.std.specs.List.{filter}
use Rattle.omega_model.specs.Cell.{task_at}
use Rattle.omega_feed.specs.Asked.{asked_wish}
use Rattle.omega_feed.specs.Index.{wanted_task}
use Rattle.omega_feed.proofs.wanted.Wanted.waiting.Given as goal

abbrev pub invariant-loop-key : goal.invariant-loop-key
invariant-loop-key l =
    l.wishes ++ map (asked_wish l.self.constraints) (filter (λ task. not (is_some (task_at l.running.tasks task.key))) (map wanted_task (drop l.key-index l.wanted)))
    ≡ map (asked_wish l.self.constraints) (filter (λ task. not (is_some (task_at l.running.tasks task.key))) (map wanted_task l.wanted))
