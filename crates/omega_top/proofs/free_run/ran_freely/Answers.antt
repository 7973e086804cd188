use Rattle.std.proofs.Common.{◌∙◌, List, ap, length, subst, sym, true≢false}
use Rattle.omega_feed.specs.Left.{AreLeft}
use Rattle.omega_free.specs.FreeRuns.{reading_of}
use Rattle.omega_free.proofs.ReadingsOf.{trace_by}
use Rattle.omega_free_laws.proofs.RoundsCounted.{free_rounds_counted}
use Rattle.omega_free_laws.proofs.Seen.{free_is_legal}
use Rattle.omega_model.specs.Feed.{rounds}
use Rattle.omega_model.specs.State.{state}
use Rattle.omega_model.specs.Wanted.{WantedTask}
use Rattle.omega_model.specs.declared.entries.Entry.{Entry}
use Rattle.omega_model.specs.declared.rows.TraceTables.{TraceTables}
use Rattle.omega_top.proofs.Clocks.{by_free, free_is_simulate, wanted_by_free}
use Rattle.omega_top.proofs.TellingTimes.{told_simulated}
use Rattle.omega_top.specs.Clocks.{IsTimedRun}
use Rattle.omega_top.specs.Reports.{IsTold}
use Rattle.omega_top.proofs.free_run.ran_freely.Goals as goal

pub returns : goal.returns
returns c =
    let settings = c.args.settings.now in
    let trace = c.args.trace in
    let free = c.requires.free in
    let run = c.in_ok-history.ensures in
    let history = c.in_ok-history.field-0.history in
    let times = c.in_ok-history.field-0.times in
    record {
      history = record {
        lawful = λ waits. absurd (true≢false (sym free ∙ waits));
        ordered = λ waits. absurd (true≢false (sym free ∙ waits));
        free = λ it. (times, run.runs);
        legal = free_is_legal settings (reading_of settings trace) history times run.runs;
      };
      begins = free_rounds_counted settings (reading_of settings trace) history times run.runs
          ∙ ap (λ (read : TraceTables). length (rounds read settings.window)) (trace_by settings.ends trace);
      effects = run.effects;
      left = subst (λ (tasks : List WantedTask). AreLeft tasks (state history) c.in_ok-history.field-0.left)
          (sym (wanted_by_free settings trace history free)) run.left;
      told = told_simulated settings trace history settings.command c.in_ok-told.told (free_is_simulate settings free)
          (subst (λ (entries : List Entry). IsTold settings trace entries c.in_ok-told.told) c.as_slice.ensures
          (c.in_ok-told.ensures trace (record { within = c.requires.within; few = c.requires.few; rounds = run.rounds })
          (subst (λ (entries : List Entry). IsTimedRun settings trace entries times) (sym c.as_slice.ensures)
          (by_free settings trace history times free run.runs))));
    }
