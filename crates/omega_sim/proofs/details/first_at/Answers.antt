use Rattle.std.proofs.Common.{◌≡◌, ℕ, Option, ◌∷◌, ◌++◌, [], true, false, is_some, unwrap_or, sym, ap, ap₂, ◌∙◌}
use Rattle.omega_laws.specs.TimeReport.{job_at}
use Rattle.omega_laws.specs.VirtualTime.{Timed}
use Rattle.omega_sim.specs.Firsts.{time_at}
use Rattle.omega_sim.specs.TimeDetails.{first_commits_by, told_of}
use Rattle.omega_sim.specs.declared.details.FirstCommit.{FirstCommit}
use Rattle.omega_sim.proofs.FirstCommits.{told_before, told_first, told_none}
use Rattle.omega_sim.proofs.details.first_at.Goals as goal

pub returns-in_default : goal.returns-in_default
returns-in_default c before syncs =
    told_none (job_at c.args.history.now) (told_of (time_at c.args.came.now)) before c.args.timed.now (sym c.in_default.ensures)

pub returns-then-is_some : goal.returns-then-is_some
returns-then-is_some c before syncs =
    let job = c.in-Some.job in
    let there : is_some (time_at c.args.syncs.now job) ≡ true = ap is_some (sym c.of.ensures) ∙ sym c.is_some.ensures ∙ c.if-is_some.true in
    told_before (job_at c.args.history.now) (told_of (time_at c.args.came.now)) before c.args.timed.now job (sym c.in-Some.ensures) (λ (timed : Timed). timed.sync)
    (time_at c.args.syncs.now job) (syncs job) there

abbrev told_with : ℕ → Timed → ℕ → FirstCommit
told_with job timed time = record { job = job; scheduler = timed.scheduler; arrived = time; sync = timed.sync }

pub returns : goal.returns
returns c before syncs =
    let job = c.in-Some.job in
    let came = c.args.came.now in
    let absent : is_some (time_at c.args.syncs.now job) ≡ false = ap is_some (sym c.of.ensures) ∙ sym c.is_some.ensures ∙ c.if-is_some.false in
    let arrived : unwrap_or (time_at came job) 0 ≡ c.unwrap_or.result = ap (λ (time : Option ℕ). unwrap_or time 0) (sym c.of-2.ensures) ∙ sym c.unwrap_or.ensures in
    told_first (job_at c.args.history.now) (told_of (time_at came)) before c.args.timed.now job (sym c.in-Some.ensures) (λ (timed : Timed). timed.sync)
    (time_at c.args.syncs.now job) (syncs job) absent
    ∙ ap₂ (λ (timed : Timed) (time : ℕ). first_commits_by (time_at came) c.args.history.now before ++ told_with job timed time ∷ []) (sym c.timed.view_is) arrived
