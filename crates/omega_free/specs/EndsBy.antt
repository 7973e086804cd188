-- What a round, an end and a commit do to a world's history, to what is asked for and to the kept ends, whichever way tasks
-- end.
use Rattle.std.specs.Prelude.{◌≡◌, ◌++◌, ◌∷◌, [], ℕ, List, Option, Some, None, length}
use Rattle.omega_feed.specs.Asked.{Asked}
use Rattle.omega_laws.specs.VirtualTime.{Timed}
use Rattle.omega_model.specs.declared.claims.Judgement.{Judgement}
use Rattle.omega_model.specs.declared.claims.Txn.{Txn}
use Rattle.omega_model.specs.declared.entries.Entry.{Entry}
use Rattle.omega_model.specs.declared.entries.Entry.TheVariants.{Commit}
use Rattle.omega_model.specs.declared.rows.Round.{Round}
use Rattle.omega_model.specs.declared.rows.Row.{Row}
use Rattle.omega_model.specs.declared.rows.TraceTables.{TraceTables}
use Rattle.omega_model.specs.declared.settings.Ends.{Ends}
use Rattle.omega_model.specs.declared.settings.Settings.{Settings}
use Rattle.omega_free_laws.specs.FreeSteps.{past_ended, past_opened}
use Rattle.omega_free_laws.specs.Lives.{DueEnd}
use Rattle.omega_free_laws.specs.Passes.{Past}
use Rattle.omega_free.specs.FreeRuns.{reading_by}
use Rattle.omega_free.specs.KeptEnds.{KeepsEndsBy, TellsPast}
use Rattle.omega_free.specs.declared.next_round.NextRound.{NextRound}
use Rattle.omega_free.specs.declared.own_ends.OwnEnds.{OwnEnds}

-- this is the history of a past, what is asked for then, and what is kept of ends
pub record StandsBy (ends : Ends) (settings : Settings) (trace : TraceTables) (past : Past) (times : List Timed) (history : List Entry) (asked : Asked) (own : Option OwnEnds) : Type 0 where
  pub tells : TellsPast settings (reading_by ends trace) past history asked
  pub keeps : KeepsEndsBy ends trace past.rows past.history times own

-- wherever these stood before a round, those stand after it has opened
abbrev pub OpensBy : Round → List Entry → Asked → Option OwnEnds → List Entry → Asked → Option OwnEnds → Type 0
OpensBy round history asked own later asked_then own_then =
    (ends : Ends) (settings : Settings) (trace : TraceTables) (past : Past) (times : List Timed)
    → StandsBy ends settings trace past times history asked own
    → StandsBy ends settings trace (past_opened (reading_by ends trace) past round) times later asked_then own_then

-- wherever this end was due first, those stand after it
abbrev pub EndsBy : DueEnd → List Entry → Asked → Option OwnEnds → List Entry → Asked → Option OwnEnds → Type 0
EndsBy end history asked own later asked_then own_then =
    (ends : Ends) (settings : Settings) (trace : TraceTables) (past : Past) (times : List Timed) (coming : List Round)
    → StandsBy ends settings trace past times history asked own → (reading_by ends trace).end_due past.history times ≡ Some end
    → StandsBy ends settings trace (past_ended (reading_by ends trace) past end coming) times later asked_then own_then

-- a commit at this time made this history, and the kept ends are those after it
abbrev pub NotesBy : ℕ → List Entry → Option OwnEnds → Option OwnEnds → Type 0
NotesBy time later own own_then =
    (ends : Ends) (trace : TraceTables) (rows : List Row) (history : List Entry) (times : List Timed) (by seen : ℕ) (txn : Txn) (reply : List Judgement) (timed : Timed)
    → KeepsEndsBy ends trace rows history times own → later ≡ history ++ Commit by seen txn reply ∷ []
    → timed.place ≡ length history → timed.time ≡ time
    → KeepsEndsBy ends trace rows later (times ++ timed ∷ []) own_then

-- this is the end that is due first, and what is kept of ends is kept
abbrev pub FindsBy : List Entry → Option OwnEnds → Option OwnEnds → Option DueEnd → Type 0
FindsBy history own own_then found =
    (ends : Ends) (trace : TraceTables) (rows : List Row) (times : List Timed) → KeepsEndsBy ends trace rows history times own
    → (found ≡ (reading_by ends trace).end_due history times) × KeepsEndsBy ends trace rows history times own_then

-- how often an end is cause for a new pass, where this is the next round
abbrev pub cause_of_end : Option NextRound → ℕ
cause_of_end None = 0
cause_of_end (Some next) = 1
