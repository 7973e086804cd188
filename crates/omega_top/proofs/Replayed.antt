-- Runs of `resume` are runs of `replay`.
use Rattle.std.proofs.Common.{◌≡◌, ◌∙◌, ℕ, List, [], Option, subst, sym}
use Rattle.omega_laws.specs.AsReplay.{as_replay}
use Rattle.omega_laws.proofs.AnyCommand.{lawful_back, lawful_too, resume_prints}
use Rattle.omega_model.specs.Lawful.{Lawful}
use Rattle.omega_model.specs.declared.entries.Entry.{Entry}
use Rattle.omega_model.specs.declared.results.Status.{Status}
use Rattle.omega_model.specs.declared.results.Status.TheVariants.{Done, Usage, ReadFault, TooLong, BadRow, TooMany, BadKept, KeepFault, WriteFault, NoMemory}
use Rattle.omega_model.specs.declared.rows.TraceTables.{TraceTables}
use Rattle.omega_model.specs.declared.settings.Command.{Command}
use Rattle.omega_model.specs.declared.settings.Command.TheVariants.{Replay, Resume}
use Rattle.omega_model.specs.declared.settings.Settings.{Settings}
use Rattle.omega_top.specs.Answers.{IfReported, IsTheOnly, Writes}
use Rattle.omega_top.specs.Commands.{IsOrdered, OrderedBy}
use Rattle.omega_top.specs.Replayed.{IsReplayed}
use Rattle.omega_top.specs.Reports.{IsReport, ReportedBy}
use Rattle.omega_top.proofs.Written.{if_reported, written_if}

module _ (settings : Settings) (trace : TraceTables) (history : List Entry) where
  -- one that reached its report
  pub replayed : (status : Status) (before now : Option (List ℕ)) (report : List ℕ) → settings.command ≡ Resume
      → Lawful settings trace history → IsOrdered settings trace history → IsTheOnly settings trace history
      → IsReport settings trace history report → Writes report before now status
      → IsReplayed settings trace history status before now
  replayed status before now report is lawful ordered only said writes = record {
    whole = if_reported (Lawful (as_replay settings) trace history) status (lawful_too settings Replay trace history lawful);
    ordered = if_reported (IsOrdered (as_replay settings) trace history) status
        (subst (λ (command : Command). OrderedBy command settings trace history) is ordered);
    only = if_reported (IsTheOnly (as_replay settings) trace history) status (λ other lawful_other ordered_other.
        only other (lawful_back settings Replay trace other lawful_other)
        (subst (λ (command : Command). OrderedBy command settings trace other) (sym is) ordered_other));
    written = written_if (as_replay settings) trace history status before now report
        (subst (λ (command : Command). ReportedBy command settings trace history report) is said ∙ resume_prints settings trace history is)
        writes;
  }

-- one that didn't, and wrote nothing
pub replayed_none : (settings : Settings) (trace : TraceTables) (status : Status) (before now : Option (List ℕ)) → IfReported ⊥ status → now ≡ before
    → IsReplayed settings trace [] status before now
replayed_none settings trace Done before now none stays = absurd none
replayed_none settings trace WriteFault before now none stays = absurd none
replayed_none settings trace NoMemory before now none stays = record { whole = tt; ordered = tt; only = tt; written = record { report = []; is_report = tt; written = stays } }
replayed_none settings trace Usage before now none stays = record { whole = tt; ordered = tt; only = tt; written = record { report = []; is_report = tt; written = stays } }
replayed_none settings trace (ReadFault table) before now none stays = record { whole = tt; ordered = tt; only = tt; written = record { report = []; is_report = tt; written = stays } }
replayed_none settings trace (TooLong table) before now none stays = record { whole = tt; ordered = tt; only = tt; written = record { report = []; is_report = tt; written = stays } }
replayed_none settings trace (BadRow table row column cause) before now none stays = record { whole = tt; ordered = tt; only = tt; written = record { report = []; is_report = tt; written = stays } }
replayed_none settings trace (TooMany kind number) before now none stays = record { whole = tt; ordered = tt; only = tt; written = record { report = []; is_report = tt; written = stays } }
replayed_none settings trace (BadKept place) before now none stays = record { whole = tt; ordered = tt; only = tt; written = record { report = []; is_report = tt; written = stays } }
replayed_none settings trace KeepFault before now none stays = record { whole = tt; ordered = tt; only = tt; written = record { report = []; is_report = tt; written = stays } }
