-- What is kept of ends stays kept, whichever way tasks end, where it stays so where they end of themselves.
use Rattle.std.proofs.Common.{◌≡◌, ◌++◌, ◌∷◌, [], ℕ, List, Some, length}
use Rattle.std.specs.Prelude.{Option}
use Rattle.omega_feed.specs.Asked.{Asked}
use Rattle.omega_laws.specs.VirtualTime.{Timed}
use Rattle.omega_model.specs.declared.claims.Judgement.{Judgement}
use Rattle.omega_model.specs.declared.claims.Txn.{Txn}
use Rattle.omega_model.specs.declared.entries.Entry.{Entry}
use Rattle.omega_model.specs.declared.entries.Entry.TheVariants.{Commit}
use Rattle.omega_model.specs.declared.rows.Round.{Round}
use Rattle.omega_model.specs.declared.rows.Row.{Row}
use Rattle.omega_model.specs.declared.rows.TraceTables.{TraceTables}
use Rattle.omega_model.specs.declared.settings.Ends.TheVariants.{Own, Trace}
use Rattle.omega_model.specs.declared.settings.Settings.{Settings}
use Rattle.omega_free_laws.specs.FreeSteps.{past_ended}
use Rattle.omega_free_laws.specs.Lives.{DueEnd, first_own_end}
use Rattle.omega_free_laws.specs.Passes.{Past}
use Rattle.omega_free_laws.specs.Readings.{by_lives}
use Rattle.omega_free.specs.EndsBy.{EndsBy, FindsBy, NotesBy}
use Rattle.omega_free.specs.KeptEnds.{KeepsOwnEnds, TellsPast}
use Rattle.omega_free.specs.declared.own_ends.OwnEnds.{OwnEnds}

-- the end that is due first is found
pub finds_own : (history : List Entry) (own own_then : OwnEnds) (found : Option DueEnd)
    → ((trace : TraceTables) (rows : List Row) (times : List Timed) → KeepsOwnEnds trace rows history times own → found ≡ first_own_end trace history times)
    → ((trace : TraceTables) (rows : List Row) (times : List Timed) → KeepsOwnEnds trace rows history times own → KeepsOwnEnds trace rows history times own_then)
    → FindsBy history (Some own) (Some own_then) found
finds_own history own own_then found first kept Trace trace rows times keeps = absurd keeps
finds_own history own own_then found first kept Own trace rows times keeps = (first trace rows times keeps, kept trace rows times keeps)

-- a commit is noted
pub notes_own : (time : ℕ) (later : List Entry) (own own_then : OwnEnds)
    → ((trace : TraceTables) (rows : List Row) (history : List Entry) (times : List Timed) (by seen : ℕ) (txn : Txn) (reply : List Judgement) (timed : Timed)
    → KeepsOwnEnds trace rows history times own → later ≡ history ++ Commit by seen txn reply ∷ []
    → timed.place ≡ length history → timed.time ≡ time → KeepsOwnEnds trace rows later (times ++ timed ∷ []) own_then)
    → NotesBy time later (Some own) (Some own_then)
notes_own time later own own_then kept Trace trace rows history times by seen txn reply timed keeps = absurd keeps
notes_own time later own own_then kept Own trace rows history times by seen txn reply timed keeps = kept trace rows history times by seen txn reply timed keeps

-- an end that is due first comes
pub ends_own : (end : DueEnd) (history later : List Entry) (asked asked_then : Asked) (own own_then : OwnEnds)
    → ((settings : Settings) (trace : TraceTables) (past : Past) (times : List Timed) (coming : List Round)
    → KeepsOwnEnds trace past.rows past.history times own → TellsPast settings (by_lives trace) past history asked
    → first_own_end trace past.history times ≡ Some end
    → TellsPast settings (by_lives trace) (past_ended (by_lives trace) past end coming) later asked_then)
    → ((settings : Settings) (trace : TraceTables) (past : Past) (times : List Timed) (coming : List Round)
    → KeepsOwnEnds trace past.rows past.history times own → TellsPast settings (by_lives trace) past history asked
    → first_own_end trace past.history times ≡ Some end
    → KeepsOwnEnds trace past.rows (past_ended (by_lives trace) past end coming).history times own_then)
    → EndsBy end history asked (Some own) later asked_then (Some own_then)
ends_own end history later asked asked_then own own_then tells kept Trace settings trace past times coming stood due = absurd stood.keeps
ends_own end history later asked asked_then own own_then tells kept Own settings trace past times coming stood due = record {
  tells = tells settings trace past times coming stood.keeps stood.tells due;
  keeps = kept settings trace past times coming stood.keeps stood.tells due;
}
