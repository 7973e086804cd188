-- What is told of the times of a run, by the command.
use Rattle.std.proofs.Common.{◌≡◌, List, Option, Some, None, false, refl, subst, sym}
use Rattle.omega_laws.specs.VirtualTime.{Timed}
use Rattle.omega_model.specs.declared.entries.Entry.{Entry}
use Rattle.omega_model.specs.declared.rows.Round.{Round}
use Rattle.omega_model.specs.declared.rows.TraceTables.{TraceTables}
use Rattle.omega_model.specs.declared.settings.Clock.{Clock}
use Rattle.omega_model.specs.declared.settings.Command.{Command}
use Rattle.omega_model.specs.declared.settings.Command.TheVariants.{Audit, Generate, Replay, Resume, Run, Simulate}
use Rattle.omega_model.specs.declared.settings.Settings.{Settings}
use Rattle.omega_top.specs.Clocks.{IsTimedRun, freely_by}
use Rattle.omega_top.specs.Reports.{AreReadRounds, AreTimesBy, IsOfSomeTraceBy, IsTold, IsToldBy}
use Rattle.omega_top.specs.declared.told.ToldTimes.{ToldTimes}

module _ (settings : Settings) (trace : TraceTables) (history : List Entry) where
  -- whose commits have times is a run by the clock of the settings, with these times
  pub timed_by : (command : Command) (times : List Timed) → AreTimesBy command settings trace history (Some times)
      → IsTimedRun settings trace history times
  timed_by Simulate times timed = timed
  timed_by Replay times timed = absurd (cc)
  timed_by Run times timed = absurd (cc)
  timed_by Generate times timed = absurd (cc)
  timed_by Resume times timed = absurd (cc)
  timed_by Audit times timed = absurd (cc)

  -- such a run is one of a trace that was read
  pub of_some_trace : (some : List Round) (times : Option (List Timed)) → AreReadRounds settings trace some
      → AreTimesBy settings.command settings trace history times → IsOfSomeTraceBy settings some history times
  of_some_trace some None rounds timed = tt
  of_some_trace some (Some times) rounds timed =
      record { trace = trace; rounds = rounds; timed = timed_by settings.command times timed }

  -- its times are told
  pub told_with : (command : Command) (times : List Timed) (told : ToldTimes) → AreTimesBy command settings trace history (Some times)
      → IsTold settings trace history told → IsToldBy command settings trace history (Some told)
  told_with Simulate times told timed is = is
  told_with Replay times told timed is = absurd (cc)
  told_with Run times told timed is = absurd (cc)
  told_with Generate times told timed is = absurd (cc)
  told_with Resume times told timed is = absurd (cc)
  told_with Audit times told timed is = absurd (cc)

  -- of a run without times nothing is
  pub told_without : (command : Command) → AreTimesBy command settings trace history None → IsToldBy command settings trace history None
  told_without Simulate timed = absurd timed
  told_without Replay timed = refl
  told_without Run timed = refl
  told_without Generate timed = refl
  told_without Resume timed = refl
  told_without Audit timed = refl

  -- so of one of `resume`
  pub nothing_told : (command : Command) → command ≡ Resume → IsToldBy command settings trace history None
  nothing_told command is = subst (λ (by : Command). IsToldBy by settings trace history None) (sym is) refl

  -- of one of `simulate` they are told
  pub told_simulated : (command : Command) (told : ToldTimes) → command ≡ Simulate → IsTold settings trace history told
      → IsToldBy command settings trace history (Some told)
  told_simulated command told is all = subst (λ (by : Command). IsToldBy by settings trace history (Some told)) (sym is) all

  -- a run of which nothing is told isn't free
  pub untold_not_free : (command : Command) (clock : Clock) → IsToldBy command settings trace history None → freely_by command clock ≡ false
  untold_not_free Simulate clock none = absurd none
  untold_not_free Replay clock none = refl
  untold_not_free Run clock none = refl
  untold_not_free Generate clock none = refl
  untold_not_free Resume clock none = refl
  untold_not_free Audit clock none = refl
