use Rattle.std.proofs.Common.{ℕ, Option, ap, ◌∙◌, arith}
use Rattle.std.proofs.lemmas.List.{take_all}
use Rattle.omega_feed.proofs.Cutting.{rounds_have}
use Rattle.omega_sim.specs.Arriving.{first_time}
use Rattle.omega_sim.specs.Firsts.{time_at}
use Rattle.omega_sim.specs.TimeDetails.{first_commits_by}
use Rattle.omega_sim.proofs.details.first_commits.Goals as goal

pub returns : goal.returns
returns c settings trace range arrive =
    let history = c.args.history.now in
    let times = c.args.times.now in
    let came = c.args.arrivals.now.first_times in
    let window = range.window.0 in
    let rows = rounds_have trace settings.window (omega (arith, window)) in
    c.of.ensures ∙ c.loop-timed.invariant.firsts
    ∙ ap (first_commits_by (time_at came) history) (take_all c.loop-timed.timed-index times c.loop-timed-test.false)
    ∙ ap (λ (known : ℕ → Option ℕ). first_commits_by known history times) (λ i job. (arrive.came job ∙ ap (first_time job) rows) i)
