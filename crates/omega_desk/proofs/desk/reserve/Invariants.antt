use Rattle.std.proofs.Common.{take}
use Rattle.std.specs.List.{All}
use Rattle.omega_model.specs.declared.wishes.Request.{Request}
use Rattle.omega_desk.specs.Counts.{IsCounted, KeepsCounts}
use Rattle.omega_desk.proofs.desk.reserve.Given as goal

abbrev pub invariant-loop-request : goal.invariant-loop-request
invariant-loop-request l =
    KeepsCounts l.initial.failures l.failures
    × All (λ (request : Request). IsCounted l.failures request.job) (take l.request-index l.requests)
