-- The first time of each job.
use Rattle.std.specs.Prelude.{ℕ, Option}
use Rattle.std.specs.BTreeMap.{get}
use Rattle.std.specs.Ordering.{nat_cmp}
use Rattle.omega_sim.specs.declared.firsts.FirstTimes.{FirstTimes}

-- the first time that is noted for a job
abbrev pub time_at : FirstTimes → ℕ → Option ℕ
time_at times job = get nat_cmp times.times job
