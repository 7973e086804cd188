use Rattle.std.proofs.Common.{sym, subst, true≢false, ◌∙◌, List}
use Rattle.omega_feed.specs.Left.{AreLeft}
use Rattle.omega_model.specs.State.{state}
use Rattle.omega_model.specs.Wanted.{WantedTask}
use Rattle.omega_report.proofs.RoundsCounted.{rounds_counted}
use Rattle.omega_top.proofs.Clocks.{wanted_by_rounds}
use Rattle.omega_top.proofs.replay.whole_run.Goals as goal

pub returns-clause-run : goal.returns-clause-run
returns-clause-run c settings trace waits over told =
    let run = c.into_run-history in
    let history = c.args.world.history in
    rw run.ensures.history (record {
      history = record {
        lawful = λ it. over.lawful;
        ordered = λ it. over.ordered;
        free = λ free. absurd (true≢false (sym free ∙ waits));
        legal = run.ensures.legal;
      };
      begins = rounds_counted settings trace history over.lawful;
      effects = run.ensures.effects;
      left = subst (λ (tasks : List WantedTask). AreLeft tasks (state history) c.in_ok-left.left) (sym (wanted_by_rounds settings trace history waits))
          (c.in_ok-left.ensures.end trace over.made over.last);
      told = told;
    })
