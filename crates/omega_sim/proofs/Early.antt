-- Syncs are early.
use Rattle.std.proofs.Common.{◌^◌, ◌<◌, Bool, List, [], ◌∷◌, arith}
use Rattle.std.specs.Prelude.{All, unwrap_or, option_map}
use Rattle.std.specs.List.{find}
use Rattle.std.proofs.lemmas.List.Elements.{All-head, All-tail}
use Rattle.omega_laws.specs.TimeReport.{is_job, job_at}
use Rattle.omega_laws.specs.VirtualTime.{Timed}
use Rattle.omega_model.proofs.Lists.{by_answer}
use Rattle.omega_model.specs.declared.entries.Entry.{Entry}
use Rattle.omega_sim.specs.Summing.{AreEarly, AreFirstSyncs, IsTimely}
use Rattle.omega_sim.specs.declared.firsts.FirstTimes.{FirstTimes}

found_early : (test : Timed → Bool) (times : List Timed) → All IsTimely times
    → unwrap_or (option_map (λ (timed : Timed). timed.sync) (find test times)) 0 < 2 ^ 101
found_early test [] each = omega arith
found_early test (timed ∷ times) each =
    by_answer (test timed)
    (λ t. rw t (All-head IsTimely timed times each).syncs)
    (λ f. rw f (found_early test times (All-tail IsTimely timed times each)))

-- the first syncs of commits whose decisions begin early are early
pub are_early : (history : List Entry) (times : List Timed) (synced : FirstTimes) → All IsTimely times → AreFirstSyncs history times synced → AreEarly synced
are_early history times synced each syncs job =
    rw (syncs job) (found_early (λ timed. is_job job (job_at history timed)) times each)
