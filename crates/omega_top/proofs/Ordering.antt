-- The commits of a run in the order of its command.
use Rattle.std.proofs.Common.{◌≡◌, List, None, Some, refl, subst, sym}
use Rattle.omega_laws.specs.Simulated.{SimulatedWith}
use Rattle.omega_laws.specs.VirtualTime.{Timed}
use Rattle.omega_model.specs.Turns.{InTurns}
use Rattle.omega_model.specs.declared.entries.Entry.{Entry}
use Rattle.omega_model.specs.declared.rows.TraceTables.{TraceTables}
use Rattle.omega_model.specs.declared.settings.Command.{Command}
use Rattle.omega_model.specs.declared.settings.Command.TheVariants.{Audit, Generate, Replay, Resume, Run, Simulate}
use Rattle.omega_model.specs.declared.settings.Settings.{Settings}
use Rattle.omega_top.specs.Clocks.{IsTimedRun}
use Rattle.omega_top.specs.Commands.{OrderedBy}
use Rattle.omega_top.specs.Reports.{AreTimesBy}

-- of a command that has neither threads nor a clock
module _ (command : Command) (settings : Settings) (trace : TraceTables) (history : List Entry)
    (not_run : command ≡ Run → ⊥) (not_simulate : command ≡ Simulate → ⊥) where
  pub by_turns : InTurns history → OrderedBy command settings trace history
  by_turns turns = go command not_run not_simulate where
    go : (command : Command) → (command ≡ Run → ⊥) → (command ≡ Simulate → ⊥) → OrderedBy command settings trace history
    go Replay run simulate = turns
    go Generate run simulate = turns
    go Resume run simulate = turns
    go Audit run simulate = turns
    go Run run simulate = absurd (run refl)
    go Simulate run simulate = absurd (simulate refl)

  pub untimed : AreTimesBy command settings trace history None
  untimed = go command not_run not_simulate where
    go : (command : Command) → (command ≡ Run → ⊥) → (command ≡ Simulate → ⊥) → AreTimesBy command settings trace history None
    go Replay run simulate = refl
    go Generate run simulate = refl
    go Resume run simulate = refl
    go Audit run simulate = refl
    go Run run simulate = absurd (run refl)
    go Simulate run simulate = absurd (simulate refl)

-- of the command that has a clock
pub by_clock : (command : Command) (settings : Settings) (trace : TraceTables) (history : List Entry) (times : List Timed)
    → command ≡ Simulate → SimulatedWith settings trace history times → OrderedBy command settings trace history
by_clock command settings trace history times is simulated =
    subst (λ (by : Command). OrderedBy by settings trace history) (sym is) (times, simulated)

-- of the one that has threads
pub by_threads : (command : Command) (settings : Settings) (trace : TraceTables) (history : List Entry) → command ≡ Run → OrderedBy command settings trace history
by_threads command settings trace history is = subst (λ (by : Command). OrderedBy by settings trace history) (sym is) tt

pub untimed_by_threads : (command : Command) (settings : Settings) (trace : TraceTables) (history : List Entry) → command ≡ Run → AreTimesBy command settings trace history None
untimed_by_threads command settings trace history is = subst (λ (by : Command). AreTimesBy by settings trace history None) (sym is) refl

pub timed_by_clock : (command : Command) (settings : Settings) (trace : TraceTables) (history : List Entry) (times : List Timed)
    → command ≡ Simulate → IsTimedRun settings trace history times → AreTimesBy command settings trace history (Some times)
timed_by_clock command settings trace history times is timed =
    subst (λ (by : Command). AreTimesBy by settings trace history (Some times)) (sym is) timed

-- of the one that goes on from kept lines
pub by_resume : (command : Command) (settings : Settings) (trace : TraceTables) (history : List Entry) → command ≡ Resume → InTurns history
    → OrderedBy command settings trace history
by_resume command settings trace history is turns = subst (λ (by : Command). OrderedBy by settings trace history) (sym is) turns
