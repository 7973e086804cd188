use Rattle.std.proofs.Common.{append_assoc, arith}
use Rattle.omega_gen.proofs.jobs.push_task.Goals as goal

pub returns : goal.returns
returns c =
    rw (
      c.in_ok-push_str.ensures.bytes,
      c.in_ok-push_thousandths-2.ensures,
      c.in_ok-push.ensures.bytes,
      c.in_ok-push.ensures.ascii (omega arith),
      c.in_ok-push_thousandths.ensures,
      c.in_ok-write.ensures.bytes,
      ← c.job.view_is,
    )
    (simp append_assoc)
