-- What holds of the history of every run.
use Rattle.std.proofs.Common.{◌≡◌, List, [], true, false, refl, subst, sym}
use Rattle.std.specs.Prelude.{◌≢◌}
use Rattle.omega_cell.proofs.Evictions.{evictions_go_down}
use Rattle.omega_cell.proofs.Gangs.{no_gang_is_split}
use Rattle.omega_laws.proofs.TimeOrder.{only_simulated}
use Rattle.omega_laws.proofs.TurnOrder.{only_history}
use Rattle.omega_model.proofs.Soundness.{states_sound}
use Rattle.omega_model.specs.Lawful.{Lawful}
use Rattle.omega_model.specs.Legal.{Legal}
use Rattle.omega_model.specs.Turns.{InTurns}
use Rattle.omega_model.specs.declared.entries.Entry.{Entry}
use Rattle.omega_model.specs.declared.results.Status.{Status}
use Rattle.omega_model.specs.declared.results.Status.TheVariants as status
use Rattle.omega_model.specs.declared.rows.TraceTables.{TraceTables}
use Rattle.omega_model.specs.declared.settings.Command.{Command}
use Rattle.omega_model.specs.declared.settings.Command.TheVariants.{Audit, Generate, Replay, Resume, Run, Simulate}
use Rattle.omega_model.specs.declared.settings.Settings.{Settings}
use Rattle.omega_top.specs.Answers.{HasHistory, IfReported, IsTheOnly}
use Rattle.omega_top.specs.Clocks.{runs_freely}
use Rattle.omega_top.specs.Commands.{OrderedBy, takes_turns}
use Rattle.omega_top.specs.Runs.{IsRun}
use Rattle.omega_top.specs.SoundHistory.{IsSoundHistory}
use Rattle.omega_top.proofs.Clocks.{turns_not_free}

-- a legal history is sound
pub sound_of : (history : List Entry) → Legal history → IsSoundHistory history
sound_of history legal = record {
  legal = legal;
  states = states_sound history legal;
  gangs = no_gang_is_split history legal;
  evictions = evictions_go_down history legal;
}

module _ (settings : Settings) (trace : TraceTables) (history : List Entry) where
  turns_by : (command : Command) → OrderedBy command settings trace history → takes_turns command ≡ true → InTurns history
  turns_by Replay ordered takes = ordered
  turns_by Generate ordered takes = ordered
  turns_by Resume ordered takes = ordered
  turns_by Run ordered takes = absurd (cc)
  turns_by Simulate ordered takes = absurd (cc)
  turns_by Audit ordered takes = absurd (cc)

  -- where the schedulers take turns it is in turns
  pub turns_of_run : IsRun settings trace history → takes_turns settings.command ≡ true → InTurns history
  turns_of_run run takes = turns_by settings.command (run.ordered (turns_not_free settings.command settings.clock takes)) takes

  only_by : (command : Command) → command ≢ Run → Lawful settings trace history → OrderedBy command settings trace history
      → (other : List Entry) → Lawful settings trace other → OrderedBy command settings trace other → other ≡ history
  only_by Replay ordered_so lawful ordered other also turns = only_history settings trace other history also turns lawful ordered
  only_by Generate ordered_so lawful ordered other also turns = only_history settings trace other history also turns lawful ordered
  only_by Resume ordered_so lawful ordered other also turns = only_history settings trace other history also turns lawful ordered
  only_by Audit ordered_so lawful ordered other also turns = only_history settings trace other history also turns lawful ordered
  only_by Simulate ordered_so lawful ordered other also simulated =
      (only_simulated settings trace other history simulated.0 ordered.0 simulated.1 ordered.1).0
  only_by Run ordered_so lawful ordered other also any = absurd (ordered_so refl)

  -- without threads, and where rounds wait for all, it is the only one
  pub only_run : IsRun settings trace history → runs_freely settings ≡ false → settings.command ≢ Run → IsTheOnly settings trace history
  only_run run waits no_threads = only_by settings.command no_threads (run.lawful waits) (run.ordered waits)

-- what follows from what holds of a run that reached its report
pub reported : (Fact More : Type 0) (status : Status) → (Fact → More) → IfReported Fact status → IfReported More status
reported Fact More status.Done follows fact = follows fact
reported Fact More status.WriteFault follows fact = follows fact
reported Fact More status.NoMemory follows fact = tt
reported Fact More status.Usage follows fact = tt
reported Fact More (status.ReadFault table) follows fact = tt
reported Fact More (status.TooLong table) follows fact = tt
reported Fact More (status.BadRow table row column cause) follows fact = tt
reported Fact More (status.TooMany kind number) follows fact = tt
reported Fact More (status.BadKept number) follows fact = tt
reported Fact More status.KeepFault follows fact = tt

-- what holds of the empty history, and of that of a run that reached its report, holds of every one that is answered
pub answered : (Fact : Type 0) (Says : List Entry → Type 0) (history : List Entry) (status : Status) → Says [] → (Fact → Says history)
    → HasHistory history status → IfReported Fact status → Says history
answered Fact Says history status.Done none follows has fact = follows fact
answered Fact Says history status.WriteFault none follows has fact = follows fact
answered Fact Says history status.NoMemory none follows has fact = subst Says (sym has) none
answered Fact Says history status.Usage none follows has fact = subst Says (sym has) none
answered Fact Says history (status.ReadFault table) none follows has fact = subst Says (sym has) none
answered Fact Says history (status.TooLong table) none follows has fact = subst Says (sym has) none
answered Fact Says history (status.BadRow table row column cause) none follows has fact = subst Says (sym has) none
answered Fact Says history (status.TooMany kind number) none follows has fact = subst Says (sym has) none
answered Fact Says history (status.BadKept number) none follows has fact = subst Says (sym has) none
answered Fact Says history status.KeepFault none follows has fact = subst Says (sym has) none
