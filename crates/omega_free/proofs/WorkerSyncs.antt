-- A worker once it has synced.
use Rattle.std.proofs.Common.{◌≡◌, ℕ, List, sym, ap, subst, ◌∙◌}
use Rattle.std.specs.Prelude.{IfSome}
use Rattle.omega_desk.specs.Desks.{IsSameDesk}
use Rattle.omega_feed.specs.Asked.{Asked}
use Rattle.omega_model.specs.Cell.{Cell}
use Rattle.omega_model.specs.State.{state}
use Rattle.omega_model.specs.Work.{commits_of}
use Rattle.omega_model.specs.declared.entries.Entry.{Entry}
use Rattle.omega_model.specs.declared.settings.Settings.{Settings}
use Rattle.omega_free_laws.specs.Passes.{Past}
use Rattle.omega_free_laws.specs.Readings.{Reading}
use Rattle.omega_free.specs.FreeWorkers.{IsMoment, SyncsWorker}
use Rattle.omega_free.specs.KeptAttempts.{BeginsFirst, IsCounted, IsKeptFor}
use Rattle.omega_free.specs.PassDesks.{SyncsDesk}
use Rattle.omega_free.specs.declared.worker.Worker.{Worker}

-- its desk has synced, and its attempt begins now
pub worker_synced : (settings : Settings) (asked : Asked) (history : List Entry) (cell : Cell) (triggers now : ℕ) (old new : Worker) → cell ≡ state history
    → IsSameDesk old.desk new.desk → new.desk.attempts ≡ old.desk.attempts
    → SyncsDesk asked cell triggers old.desk old.begun new.desk new.begun
    → BeginsFirst settings asked.tasks history now new.desk new.attempt → IfSome new.attempt (IsKeptFor history new.desk)
    → (reading : Reading) (past : Past) → IsMoment settings reading asked history triggers past → IsCounted history old.desk
    → SyncsWorker settings reading past now old new
worker_synced settings asked history cell triggers now old new is_cell same attempts desk begins kept reading past moment counted =
    let there : cell ≡ state past.history = is_cell ∙ ap state (sym moment.history_is) in
    let at_triggers : SyncsDesk asked (state past.history) past.triggers old.desk old.begun new.desk new.begun =
    subst (λ (n : ℕ). SyncsDesk asked (state past.history) n old.desk old.begun new.desk new.begun) (sym moment.triggers_are)
    (subst (λ (c : Cell). SyncsDesk asked c triggers old.desk old.begun new.desk new.begun) there desk) in
    record {
      desk = subst (λ (a : Asked). SyncsDesk a (state past.history) past.triggers old.desk old.begun new.desk new.begun) moment.asks at_triggers;
      attempt = begins reading past moment.history_is (sym (ap (λ (a : Asked). a.tasks) moment.asks))
          (attempts ∙ counted ∙ ap (λ (n : ℕ). commits_of n history) (sym same.scheduler));
      kept = subst (λ (h : List Entry). IfSome new.attempt (IsKeptFor h new.desk)) (sym moment.history_is) kept;
    }
