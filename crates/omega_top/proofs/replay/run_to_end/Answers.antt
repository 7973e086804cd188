use Rattle.std.proofs.Common.{subst}
use Rattle.omega_laws.proofs.TimeOrder.{simulated_is_lawful}
use Rattle.omega_laws.specs.Simulated.{SimulatedWith}
use Rattle.omega_model.specs.declared.settings.Settings.{Settings}
use Rattle.omega_top.proofs.Clocks.{by_rounds}
use Rattle.omega_top.proofs.NewWorlds.{is_over}
use Rattle.omega_top.proofs.Ordering.{by_clock, by_threads, by_turns, timed_by_clock, untimed, untimed_by_threads}
use Rattle.omega_top.proofs.replay.run_to_end.Goals as goal

pub returns-in_ok-on_threads-in-Run : goal.returns-in_ok-on_threads-in-Run
returns-in_ok-on_threads-in-Run g c =
    let settings = c.args.settings.now in
    let run = c.in_ok-on_threads-in-Run.ensures in
    record {
      over = λ trace made. is_over settings trace c.args.world.stage _ c.requires.by made run.source run.settings run.last (run.lawful trace made)
          (by_threads settings.command _ trace _ c.in-Run.is);
      timed = λ trace made. untimed_by_threads settings.command _ trace _ c.in-Run.is;
    }

pub returns-in_ok-world-in-Simulate : goal.returns-in_ok-world-in-Simulate
returns-in_ok-world-in-Simulate g c =
    let settings = c.args.settings.now in
    let run = c.in_ok-world-in-Simulate.ensures in
    record {
      over = λ trace made. is_over settings trace c.args.world.stage _ c.requires.by made run.source run.settings run.last
          (simulated_is_lawful _ trace _ _ (run.simulated trace made))
          (by_clock settings.command _ trace _ _ c.in-Simulate.is (run.simulated trace made));
      timed = λ trace made. timed_by_clock settings.command settings trace _ _ c.in-Simulate.is
          (by_rounds settings trace _ _ c.in-Simulate.is c.requires.rounds
          (subst (λ (some : Settings). SimulatedWith some trace c.in_ok-world-in-Simulate.world.history c.in_ok-world-in-Simulate.times) c.requires.by (run.simulated trace made)));
    }

pub returns-in_ok-in_turns-in_default : goal.returns-in_ok-in_turns-in_default
returns-in_ok-in_turns-in_default g c =
    let settings = c.args.settings.now in
    let run = c.in_ok-in_turns-in_default.ensures in
    record {
      over = λ trace made. is_over settings trace c.args.world.stage _ c.requires.by made run.source run.settings run.last (run.lawful trace made)
          (by_turns settings.command _ trace _ c.in_default.not-Run c.in_default.not-Simulate run.turns);
      timed = λ trace made. untimed settings.command _ trace _ c.in_default.not-Run c.in_default.not-Simulate;
    }
