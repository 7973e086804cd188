-- Runs by a clock: which clock the settings choose, and what follows of their histories.
use Rattle.std.proofs.Common.{◌≡◌, ◌∙◌, List, Bool, true, false, refl, sym, ap, subst, arith}
use Rattle.std.specs.Prelude.{if◌then◌else◌}
use Rattle.omega_free.specs.FreeRuns.{reading_by, reading_of, wanted_last}
use Rattle.omega_free_laws.specs.Free.{FreeRun}
use Rattle.omega_free_laws.proofs.LawsOfRuns.{holds_by_lives, holds_by_rows, holds_of_runs}
use Rattle.omega_free_laws.proofs.OnlyFree.{only_free}
use Rattle.omega_laws.specs.Simulated.{SimulatedWith}
use Rattle.omega_laws.specs.VirtualTime.{Timed}
use Rattle.omega_model.specs.Feed.{feed}
use Rattle.omega_model.specs.Ranges.{IsInRange}
use Rattle.omega_model.specs.Wanted.{wanted}
use Rattle.omega_model.specs.declared.entries.Entry.{Entry}
use Rattle.omega_model.specs.declared.rows.TraceTables.{TraceTables}
use Rattle.omega_model.specs.declared.settings.Clock.{Clock}
use Rattle.omega_model.specs.declared.settings.Clock.TheVariants.{Free, Rounds}
use Rattle.omega_model.specs.declared.settings.Command.{Command}
use Rattle.omega_model.specs.declared.settings.Command.TheVariants.{Audit, Generate, Replay, Resume, Run, Simulate}
use Rattle.omega_model.specs.declared.settings.Ends.{Ends}
use Rattle.omega_model.specs.declared.settings.Ends.TheVariants.{Own, Trace}
use Rattle.omega_model.specs.declared.settings.Settings.{Settings}
use Rattle.omega_top.specs.Clocks.{IsFree, IsRunBy, IsTimedRun, freely_by, is_free, runs_freely, wanted_at_end}
use Rattle.omega_top.specs.Commands.{takes_turns}
use Rattle.omega_top.specs.FreeAnswers.{IsOnlyFree, KeepsFreeLaws}

-- ---- which clock it is

-- where schedulers take turns no run is free
pub turns_not_free : (command : Command) (clock : Clock) → takes_turns command ≡ true → freely_by command clock ≡ false
turns_not_free Replay clock takes = refl
turns_not_free Generate clock takes = refl
turns_not_free Resume clock takes = refl
turns_not_free Run clock takes = refl
turns_not_free Audit clock takes = refl
turns_not_free Simulate clock takes = absurd (cc)

-- nor is one of `resume`
pub resume_not_free : (settings : Settings) → settings.command ≡ Resume → runs_freely settings ≡ false
resume_not_free settings is = ap (λ (command : Command). freely_by command settings.clock) is

-- nor is an audit
pub audit_not_free : (settings : Settings) → settings.command ≡ Audit → runs_freely settings ≡ false
audit_not_free settings is = ap (λ (command : Command). freely_by command settings.clock) is

-- one that is free is of `simulate`, and the clock is the free one
free_choice : (command : Command) (clock : Clock) → freely_by command clock ≡ true → (command ≡ Simulate) × (clock ≡ Free)
free_choice Simulate Free free = (refl, refl)
free_choice Simulate Rounds free = absurd (cc)
free_choice Replay clock free = absurd (cc)
free_choice Run clock free = absurd (cc)
free_choice Generate clock free = absurd (cc)
free_choice Resume clock free = absurd (cc)
free_choice Audit clock free = absurd (cc)

pub free_is_simulate : (settings : Settings) → runs_freely settings ≡ true → settings.command ≡ Simulate
free_is_simulate settings free = (free_choice settings.command settings.clock free).0

rounds_choice : (clock : Clock) → is_free clock ≡ false → clock ≡ Rounds
rounds_choice Rounds waits = refl
rounds_choice Free waits = absurd (cc)

-- ---- the run by it

module _ (settings : Settings) (trace : TraceTables) (history : List Entry) (times : List Timed) where
  -- a simulated run that isn't free is one by the clock of rounds
  pub by_rounds : settings.command ≡ Simulate → runs_freely settings ≡ false → SimulatedWith settings trace history times → IsTimedRun settings trace history times
  by_rounds is waits simulated =
      let rounds : settings.clock ≡ Rounds = rounds_choice settings.clock (sym (ap (λ (command : Command). freely_by command settings.clock) is) ∙ waits) in
      subst (λ (clock : Clock). IsRunBy clock settings trace history times) (sym rounds) simulated

  -- one that is free is one by the free clock
  pub by_free : runs_freely settings ≡ true → FreeRun settings (reading_of settings trace) history times → IsTimedRun settings trace history times
  by_free free run =
      subst (λ (clock : Clock). IsRunBy clock settings trace history times) (sym (free_choice settings.command settings.clock free).1) run

-- ---- what is wanted at its end

module _ (settings : Settings) (trace : TraceTables) (history : List Entry) where
  pub wanted_by_rounds : runs_freely settings ≡ false → wanted_at_end settings trace history ≡ wanted (feed trace)
  wanted_by_rounds waits =
      ap (λ (free : Bool). if free then wanted_last settings trace history else wanted (feed trace)) waits

  pub wanted_by_free : runs_freely settings ≡ true → wanted_at_end settings trace history ≡ wanted_last settings trace history
  wanted_by_free free =
      ap (λ (free : Bool). if free then wanted_last settings trace history else wanted (feed trace)) free

-- ---- what holds of a free run

module _ (settings : Settings) (trace : TraceTables) (history : List Entry) where
  -- where it is known how tasks end, the trace is read so
  read_so : (times : List Timed) (ends : Ends) → settings.ends ≡ ends → FreeRun settings (reading_of settings trace) history times
      → FreeRun settings (reading_by ends trace) history times
  read_so times ends is run = subst (λ (some : Ends). FreeRun settings (reading_by some trace) history times) is run

  pub keeps_free_laws : IsInRange settings → IsFree settings trace history → KeepsFreeLaws settings trace history
  keeps_free_laws range free =
      let window = range.window.0 in
      record {
        times = free.0;
        free = free.1;
        always = holds_of_runs settings (reading_of settings trace) history free.0 free.1;
        by_rows = λ is. holds_by_rows settings trace history free.0 (omega (arith, window)) (read_so free.0 Trace is free.1);
        by_lives = λ is. holds_by_lives settings trace history free.0 (omega (arith, window)) (read_so free.0 Own is free.1);
      }

  pub only_by_free : IsFree settings trace history → IsOnlyFree settings trace history
  only_by_free free = record {
    times = free.0;
    free = free.1;
    only = λ other other_times also. only_free settings (reading_of settings trace) other history other_times free.0 also free.1;
  }
