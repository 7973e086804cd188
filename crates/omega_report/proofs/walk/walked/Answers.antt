use Rattle.std.proofs.Common.{take, drop, subst, ◌+◌, ◌∷◌}
use Rattle.omega_model.specs.Policy.{schedulers}
use Rattle.omega_model.specs.State.{state}
use Rattle.omega_report.proofs.WalkGrows.{after_all, after_more, ahead_next, ahead_now, usage_due, Uses}
use Rattle.omega_report.specs.Noted.{IsAhead}
use Rattle.omega_report.proofs.walk.walked.Goals as goal

pub loop-place-preserved : goal.loop-place-preserved
loop-place-preserved c =
    let history = c.args.history.now in
    let n = c.loop-place.place in
    let entry = c.index-history-place.result in
    let before = state (take n history) in
    let below = c.loop-place-test.true in
    let is = c.index-history-place.is in
    let now : IsAhead before (entry ∷ drop (n + 1) history) c.loop-place.ahead =
    ahead_now history n entry below is c.loop-place.ahead c.loop-place.invariant.1 in
    let behind : IsAhead (state (take (n + 1) history)) (drop (n + 1) history) c.past.result.1 =
    ahead_next history n entry below is c.past.result.1 (c.past.ensures.ahead before (drop (n + 1) history) now) in (
      after_more (schedulers c.args.settings.now) c.args.page.format c.args.page.lines c.prints_rounds-prints.result history n entry c.loop-place.walk
          c.loop-place.invariant.0 below is c.take_in.new.self c.push_use_if.new.self c.usage.result
          (record {
            format = c.in_ok-take_in.ensures.format;
            lines = c.in_ok-take_in.ensures.lines before (c.past.ensures.stopped before (drop (n + 1) history) now);
            tally = c.in_ok-take_in.ensures.tally;
            failures = c.in_ok-take_in.ensures.failures;
          })
          (usage_due history (n + 1) (state (take (n + 1) history)) c.usage.result
          (c.usage.ensures (state (take (n + 1) history)) (drop (n + 1) history) behind))
          (subst (λ due. Uses due c.usage.result c.take_in.new.self c.push_use_if.new.self) c.use_is_due.ensures (record {
            format = c.in_ok-push_use_if.ensures.format;
            lines = c.in_ok-push_use_if.ensures.lines;
            tally = c.in_ok-push_use_if.ensures.tally;
            failures = c.in_ok-push_use_if.ensures.failures;
          })),
      behind,
    )

pub returns : goal.returns
returns c =
    after_all (schedulers c.args.settings.now) c.args.page.format c.args.page.lines c.args.settings.now.command c.prints_rounds-prints.result c.args.history.now c.loop-place.place c.loop-place.walk
    c.prints_rounds-prints.ensures c.loop-place-test.false c.loop-place.invariant.0
