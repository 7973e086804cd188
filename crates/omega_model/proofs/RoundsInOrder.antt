-- Rounds one after the other.
use Rattle.std.proofs.Common.{◌≡◌, ℕ, Bool, false, List, [], ◌∷◌, ◌++◌, refl, sym, subst, append_assoc}
use Rattle.std.specs.List.{filter}
use Rattle.std.proofs.lemmas.List.{append-nil}
use Rattle.omega_model.specs.Lawful.{IsCommitOfRound, RoundOf, Rounds, begins_round, rows_of}
use Rattle.omega_model.specs.declared.entries.Entry.{Entry}
use Rattle.omega_model.specs.declared.entries.Entry.TheVariants.{Round as RoundEntry, MachineAdd, MachineUpdate, MachineRemove, AttrSet, AttrDelete, End, Commit}
use Rattle.omega_model.specs.declared.rows.Row.{Row}
use Rattle.omega_model.specs.declared.rows.Round.{Round}
use Rattle.omega_model.specs.declared.rows.TraceTables.{TraceTables}
use Rattle.omega_model.specs.declared.settings.Settings.{Settings}

-- one more round after some rounds
pub rounds_push : (settings : Settings) (trace : TraceTables) (rows : List Row) (start : List Entry) (some : List Round) (round : Round) (middle history : List Entry)
    → Rounds settings trace rows start some middle
    → RoundOf settings trace (rows ++ rows_of some) middle round history
    → Rounds settings trace rows start (some ++ round ∷ []) history
rounds_push settings trace rows start [] round middle history whole next =
    let here : RoundOf settings trace rows start round history =
    subst (λ (begun : List Entry). RoundOf settings trace rows begun round history) whole
    (subst (λ (all : List Row). RoundOf settings trace all middle round history) (append-nil rows) next) in
    (history, (here, refl))
rounds_push settings trace rows start (first ∷ some) round middle history whole next =
    let later : RoundOf settings trace ((rows ++ first.rows) ++ rows_of some) middle round history =
    subst (λ (all : List Row). RoundOf settings trace all middle round history) (sym (append_assoc rows first.rows (rows_of some))) next in
    (whole.0, (whole.1.0, rounds_push settings trace (rows ++ first.rows) whole.0 some round middle history whole.1.1 later))

-- nothing passes a test that all fail
pub filter-none : {X : Type 0} (test : X → Bool) → ((x : X) → test x ≡ false) → (xs : List X) → filter test xs ≡ []
filter-none test fails [] = refl
filter-none test fails (x ∷ xs) = rw (fails x) (filter-none test fails xs)

-- a round's commit begins none
pub commit_begins_none : (settings : Settings) (opened_at : ℕ) (before : List Entry) (entry : Entry) → IsCommitOfRound settings opened_at before entry → begins_round entry ≡ false
commit_begins_none settings opened_at before (RoundEntry number) may = absurd may
commit_begins_none settings opened_at before (MachineAdd machine cap) may = refl
commit_begins_none settings opened_at before (MachineUpdate machine cap) may = refl
commit_begins_none settings opened_at before (MachineRemove machine) may = refl
commit_begins_none settings opened_at before (AttrSet machine name value) may = refl
commit_begins_none settings opened_at before (AttrDelete machine name) may = refl
commit_begins_none settings opened_at before (End key machine) may = refl
commit_begins_none settings opened_at before (Commit scheduler seen txn reply) may = refl
