-- What holds of the history and of the times of every run by the free clock.
use Rattle.std.specs.List.{fold, AllByRecursion as Each}
use Rattle.std.specs.Prelude.{◌≡◌, ℕ, Bool, true, false, List, [], ◌∷◌, ◌++◌, Option, Some, ◌+◌, ◌≤◌, ◌⊎◌, All, IsTrue, length, map, take, slice_get}
use Rattle.omega_model.specs.Lawful.{after_last, opened}
use Rattle.omega_model.specs.ExtraTasks.{first_extra}
use Rattle.omega_model.specs.Wishes.{constraints_of}
use Rattle.omega_model.specs.State.{state}
use Rattle.omega_model.specs.declared.rows.TraceTables.{TraceTables}
use Rattle.omega_model.specs.Wanted.{WantedTask}
use Rattle.omega_model.specs.Work.{commits_of, planned}
use Rattle.omega_model.specs.declared.claims.Txn.{Txn}
use Rattle.omega_model.specs.declared.entries.Entry.TheVariants.{Commit, End}
use Rattle.omega_model.specs.declared.entries.Entry.{Entry}
use Rattle.omega_model.specs.declared.rows.Round.{Round}
use Rattle.omega_model.specs.declared.rows.Row.{Row}
use Rattle.omega_model.specs.declared.settings.Settings.{Settings}
use Rattle.omega_model.specs.declared.wishes.Wish.{Wish}
use Rattle.omega_laws.specs.Constraints.{SuitsItsWish}
use Rattle.omega_laws.specs.VirtualTime.{Timed, decision}
use Rattle.omega_free_laws.specs.Readings.{Reading}
use Rattle.omega_free_laws.specs.StillWanted.{wanted_claims}

-- the times never fall
abbrev pub TimesRise : List Timed → Type 0
TimesRise times =
    (place : ℕ) (timed : Timed) → slice_get times place ≡ Some timed → All (λ (earlier : Timed). earlier.time ≤ timed.time) (take place times)

-- a wish as the trace has it: its constraints are those of its task, or, where that is an extra, of some task of its job
pub record IsWishOf (trace : TraceTables) (wish : Wish) : Type 0 where
  pub model : WantedTask
  pub whose : (model.key ≡ wish.key) ⊎ ((first_extra ≤ wish.key.index) × (model.key.job ≡ wish.key.job))
  pub constraints : wish.constraints ≡ constraints_of trace model

-- a commit on these entries, with its time, is what was still wanted of the plan for some wishes of the trace: on what its
-- scheduler had seen, as the scheduler's attempt of this number. Each claim is on a machine that met the constraints of its
-- wish as it was seen. The commit comes when the scheduler has decided on so many wishes since it synced
pub record IsDecided (settings : Settings) (trace : TraceTables) (before : List Entry) (timed : Timed) (seen : ℕ) (txn : Txn) : Type 0 where
  pub wishes : List Wish
  pub wished : Each (IsWishOf trace) wishes
  pub asked : List WantedTask
  pub claims : txn.claims ≡ wanted_claims asked (planned settings timed.scheduler (commits_of timed.scheduler before) (take seen before) wishes)
  pub suited : Each (SuitsItsWish (state (take seen before)).machines wishes) txn.claims
  pub time : timed.time ≡ timed.sync + decision settings timed.scheduler (length wishes)

-- the entry at its place is such a commit of its scheduler
abbrev pub IsDecidedCommit : Settings → TraceTables → List Entry → Timed → Option Entry → Type 0
IsDecidedCommit settings trace before timed (Some (Commit by seen txn reply)) = (by ≡ timed.scheduler) × IsDecided settings trace before timed seen txn
IsDecidedCommit settings trace before timed _ = ⊥

-- so it is of each of these commits with their times
abbrev pub EachDecided : Settings → TraceTables → List Entry → List Timed → Type 0
EachDecided settings trace history times =
    Each (λ (timed : Timed). IsDecidedCommit settings trace (take timed.place history) timed (slice_get history timed.place)) times

-- an entry, if it is a commit, had seen its scheduler's last commit, and nothing but what stands before it
abbrev pub SeesItsOwn : List Entry → Entry → Type 0
SeesItsOwn before (Commit by seen txn reply) = (after_last by before ≤ seen) × (seen ≤ length before)
SeesItsOwn before _ = Unit {0}

-- so it is of each commit
abbrev pub EachSeesItsOwn : List Entry → Type 0
EachSeesItsOwn history = (place : ℕ) (entry : Entry) → slice_get history place ≡ Some entry → SeesItsOwn (take place history) entry

-- a history goes on from a shorter one, by entries that pass a test alone
abbrev pub GoesOnBy : (Entry → Bool) → List Entry → List Entry → Type 0
GoesOnBy between start history = (later : List Entry) × ((history ≡ start ++ later) × All (λ entry. IsTrue (between entry)) later)

-- a history goes on from a shorter one, which came of these rows, by the entries of these rounds in order: those of a round
-- stand in one stretch, each on the state before it, and before, between and behind the stretches stand entries that pass
-- the test
abbrev pub RoundsInStretches : (Entry → Bool) → Reading → List Row → List Entry → List Round → List Entry → Type 0
RoundsInStretches between reading rows start [] history = GoesOnBy between start history
RoundsInStretches between reading rows start (round ∷ rest) history =
    (middle : List Entry) × (GoesOnBy between start middle
    × RoundsInStretches between reading (rows ++ round.rows) (opened reading.trace rows middle (reading.heeded round)).history rest history)

-- whether an entry may stand between rounds where tasks end of themselves
abbrev pub is_commit_or_end : Entry → Bool
is_commit_or_end (Commit by seen txn reply) = true
is_commit_or_end (End key machine) = true
is_commit_or_end _ = false

-- where a commit stands, and whose it is
pub record CommitPlace : Type 0 where
  pub place : ℕ
  pub scheduler : ℕ

-- how many entries are read, and the commits among them
pub record CommitsSoFar : Type 0 where
  pub place : ℕ
  pub commits : List CommitPlace

-- one more entry is read
abbrev pub read_one : CommitsSoFar → Entry → CommitsSoFar
read_one read (Commit by seen txn reply) = record {
  place = read.place + 1;
  commits = read.commits ++ record { place = read.place; scheduler = by } ∷ [];
}
read_one read _ = record { place = read.place + 1; commits = read.commits }

-- the commits of a history, in order
abbrev pub placed_commits : List Entry → List CommitPlace
placed_commits history = (fold read_one (record { place = 0; commits = [] }) history).commits

-- the times are those of the commits of a history: one for each, in order
abbrev pub AreTimesOf : List Entry → List Timed → Type 0
AreTimesOf history times = map (λ (timed : Timed). record { place = timed.place; scheduler = timed.scheduler }) times ≡ placed_commits history
