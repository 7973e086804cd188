-- One step of a scheduler in a world of one history.
use Rattle.std.specs.Prelude.{◌≡◌, ◌≢◌, ℕ, List, [], ◌∷◌, ◌++◌, Option, Some, None, length}
use Rattle.omega_model.specs.State.{reply_of}
use Rattle.omega_model.specs.Work.{Agrees}
use Rattle.omega_model.specs.declared.claims.Txn.{Txn}
use Rattle.omega_model.specs.declared.entries.Entry.{Entry}
use Rattle.omega_model.specs.declared.entries.Entry.TheVariants.{Commit}
use Rattle.omega_model.specs.declared.settings.Settings.{Settings}
use Rattle.omega_model.specs.declared.wishes.Request.{Request}

-- a history, and for each scheduler that has synced since its last commit how many entries it had seen
pub record World : Type 0 where
  pub history : List Entry
  pub synced : ℕ → Option ℕ

-- no scheduler has synced: so a round begins
abbrev pub NobodySynced : World → Type 0
NobodySynced world = (scheduler : ℕ) → world.synced scheduler ≡ None

-- what a step did
pub data StepAnswer : Type 0 where
  Idle : StepAnswer
  Synced : StepAnswer
  Committed : ℕ → StepAnswer

-- the other schedulers are as they were
abbrev pub OthersStay : ℕ → World → World → Type 0
OthersStay scheduler old new = (other : ℕ) → other ≢ scheduler → new.synced other ≡ old.synced other

-- a scheduler without work does nothing
pub record IsIdle (old new : World) (left : List Request) : Type 0 where
  pub no_work : left ≡ []
  pub same_history : new.history ≡ old.history
  pub same_synced : (scheduler : ℕ) → new.synced scheduler ≡ old.synced scheduler

-- a scheduler with work that hasn't synced sees the whole history
pub record Syncs (old : World) (scheduler : ℕ) (new : World) (left : List Request) : Type 0 where
  pub has_work : left ≢ []
  pub first : old.synced scheduler ≡ None
  pub same_history : new.history ≡ old.history
  pub seen_all : new.synced scheduler ≡ Some (length old.history)
  pub others : OthersStay scheduler old new

-- a scheduler with work that has synced commits its plan for its first request
pub record Commits (settings : Settings) (old : World) (scheduler : ℕ) (new : World) (left : List Request) (place : ℕ) : Type 0 where
  pub request : Request
  pub rest : List Request
  pub has_work : left ≡ request ∷ rest
  pub seen : ℕ
  pub synced_before : old.synced scheduler ≡ Some seen
  pub txn : Txn
  pub agrees : Agrees settings scheduler old.history seen txn request
  pub at_end : place ≡ length old.history
  pub appended : new.history ≡ old.history ++ Commit scheduler seen txn (reply_of old.history seen txn) ∷ []
  pub spent : new.synced scheduler ≡ None
  pub others : OthersStay scheduler old new

-- a step of a scheduler with these requests left, by what it answers
abbrev pub Steps : Settings → World → ℕ → World → List Request → StepAnswer → Type 0
Steps settings old scheduler new left Idle = IsIdle old new left
Steps settings old scheduler new left Synced = Syncs old scheduler new left
Steps settings old scheduler new left (Committed place) = Commits settings old scheduler new left place
