-- What has happened, and what is asked for, after a round has opened and after a task has ended where tasks end of themselves.
use Rattle.std.proofs.Common.{◌≡◌, ◌++◌, ◌∷◌, [], List, Some, map, sym, ap, ap₂, ◌∙◌}
use Rattle.std.specs.List.{fold, AllByRecursion as Each}
use Rattle.std.proofs.lemmas.List.Sums.{fold-append}
use Rattle.omega_feed.specs.Asked.{Asked, asked_after}
use Rattle.omega_model.specs.Fields.{TaskFields}
use Rattle.omega_model.specs.Lawful.{opened}
use Rattle.omega_model.specs.RowEntries.{task_entries}
use Rattle.omega_model.specs.State.{state}
use Rattle.omega_model.specs.Wanted.{WantedTask, wanted, wanted_after}
use Rattle.omega_model.specs.declared.entries.Entry.{Entry}
use Rattle.omega_model.specs.declared.rows.Round.{Round}
use Rattle.omega_model.specs.declared.rows.Row.{Row}
use Rattle.omega_model.specs.declared.rows.Row.TheVariants.{Task as TaskEvent}
use Rattle.omega_model.specs.declared.rows.TraceTables.{TraceTables}
use Rattle.omega_model.specs.declared.settings.Settings.{Settings}
use Rattle.omega_laws.specs.VirtualTime.{Timed}
use Rattle.omega_free_laws.specs.FreeSteps.{end_entries, ended_alone, past_ended, past_opened}
use Rattle.omega_free_laws.specs.Lives.{DueEnd, counting, counting_behind, first_own_end}
use Rattle.omega_free_laws.specs.Passes.{Past}
use Rattle.omega_free_laws.specs.Readings.{by_lives}
use Rattle.omega_free.specs.KeptEnds.{IsLowRow, TellsPast}
use Rattle.omega_free.proofs.OwnEnded.{counting_ended, end_of_row}
use Rattle.omega_free.proofs.OwnOpened.{counting_more, counting_opened, opened_alike}

-- what is asked for after more rows
asked_more : (settings : Settings) (trace : TraceTables) (rows more : List Row) (asked : Asked) → asked ≡ asked_after settings trace rows
    → record asked { tasks = fold wanted_after asked.tasks more } ≡ asked_after settings trace (rows ++ more)
asked_more settings trace rows more asked is =
    ap (λ (it : Asked). record it { tasks = fold wanted_after it.tasks more }) is
    ∙ ap (λ (tasks : List WantedTask). record (asked_after settings trace rows) { tasks = tasks }) (sym (fold-append wanted_after [] rows more))

asked_alike : (settings : Settings) (trace : TraceTables) (one other : List Row) → wanted one ≡ wanted other
    → asked_after settings trace one ≡ asked_after settings trace other
asked_alike settings trace one other same = ap (λ (tasks : List WantedTask). record (asked_after settings trace one) { tasks = tasks }) same

module _ (settings : Settings) (trace : TraceTables) (past : Past) where
  -- a round has opened by those of its rows that count
  pub tells_opened : (round : Round) (counted : List Row) (old new : List Entry) (asked middle after : Asked)
      → TellsPast settings (by_lives trace) past old asked → middle ≡ asked
      → counted ≡ counting_behind past.history past.rows round.rows
      → ((tables : TraceTables) (rows : List Row) → middle.disks ≡ tables.disks → middle.tasks ≡ wanted rows
      → new ≡ (opened tables rows old (record { number = round.number; rows = counted })).history)
      → after ≡ record middle { tasks = fold wanted_after middle.tasks counted }
      → TellsPast settings (by_lives trace) (past_opened (by_lives trace) past round) new after
  tells_opened round counted old new asked middle after tells same are opens takes =
      let before : List Row = counting past.rows past.history in
      let asks : middle ≡ asked_after settings trace before = same ∙ tells.asks in
      record {
        history_is =
            opens trace before (ap (λ (it : Asked). it.disks) asks) (ap (λ (it : Asked). it.tasks) asks)
            ∙ ap₂ (λ (history : List Entry) (rows : List Row). (opened trace before history (record { number = round.number; rows = rows })).history) tells.history_is are
            ∙ opened_alike trace past.rows before past.rows past.history round;
        asks =
            takes ∙ asked_more settings trace before counted middle asks
            ∙ ap (asked_after settings trace)
            (ap (λ (rows : List Row). before ++ rows) are ∙ sym (counting_more past.history past.rows round.rows)
            ∙ sym (counting_opened trace past.rows past.history round (past.rows ++ round.rows)));
      }

  -- a task has ended by a row that ends it, and by its held rows
  pub tells_ended : (times : List Timed) (coming : List Round) (end : DueEnd) (row : TaskFields) (held : List TaskFields) (old new : List Entry)
      (asked middle taken after : Asked) → Each IsLowRow past.rows
      → TellsPast settings (by_lives trace) past old asked → middle ≡ asked → first_own_end trace past.history times ≡ Some end
      → row.key ≡ end.key → row.code ≡ 4
      → wanted (counting past.rows (ended_alone past.history end)) ≡ wanted (counting past.rows past.history ++ TaskEvent row ∷ map (λ row. TaskEvent row) held)
      → taken ≡ record middle { tasks = wanted_after middle.tasks (TaskEvent row) }
      → after ≡ record taken { tasks = fold wanted_after taken.tasks (map (λ row. TaskEvent row) held) }
      → new ≡ old ++ task_entries (state old) after.tasks row
      → TellsPast settings (by_lives trace) (past_ended (by_lives trace) past end coming) new after
  tells_ended times coming end row held old new asked middle taken after low tells same is named code wants takes more appends =
      let before : List Row = counting past.rows past.history in
      let all : List Row = TaskEvent row ∷ map (λ row. TaskEvent row) held in
      let whole : after ≡ asked_after settings trace (before ++ all) =
      more ∙ ap (λ (it : Asked). record it { tasks = fold wanted_after it.tasks (map (λ row. TaskEvent row) held) }) takes
      ∙ asked_more settings trace before all middle (same ∙ tells.asks) in
      let left : after.tasks ≡ wanted (counting past.rows (ended_alone past.history end)) = ap (λ (it : Asked). it.tasks) whole ∙ sym wants in
      record {
        history_is =
            appends ∙ ap (λ (history : List Entry). history ++ task_entries (state history) after.tasks row) tells.history_is
            ∙ ap (λ (entries : List Entry). past.history ++ entries) (end_of_row trace past.rows past.history times end row after.tasks is named code left);
        asks =
            whole ∙ asked_alike settings trace (before ++ all) (counting past.rows (past.history ++ end_entries (by_lives trace) past.rows past.history end))
            (sym wants ∙ ap wanted (sym (counting_ended trace past.rows past.history end low)));
      }
