-- What a pass does in a turn.
use Rattle.std.specs.Prelude.{◌≡◌, ℕ, ◌+◌, List, [], ◌∷◌, ◌++◌, length}
use Rattle.omega_model.specs.State.{reply_of}
use Rattle.omega_model.specs.Work.{outcomes_of}
use Rattle.omega_model.specs.declared.claims.Reply.{Reply}
use Rattle.omega_model.specs.declared.claims.Txn.{Txn}
use Rattle.omega_model.specs.declared.entries.Entry.{Entry}
use Rattle.omega_shared.specs.Commits.{GoesOnWithout, commit_after}
use Rattle.omega_shared.specs.Passes.{PassState}

-- the pass is the same one, and has one turn less
pub record SpendsTurn (old new : PassState) : Type 0 where
  pub of : new.of ≡ old.of
  pub number : new.number ≡ old.number
  pub first_length : new.first_length ≡ old.first_length
  pub turns : new.turns + 1 ≡ old.turns

-- a transaction is answered on exactly the history before its commit: for each claim the verdict and the
-- tasks that it evicts, and the place of the commit
pub record Answers (before : List Entry) (seen : ℕ) (txn : Txn) (reply : Reply) : Type 0 where
  pub place : reply.place ≡ length before
  pub outcomes : reply.outcomes ≡ outcomes_of txn.claims (reply_of before seen txn)

-- a pass commits a transaction that was planned after so many entries. It has then seen what others did and
-- its commit after that, which is the last of its own
pub record Commits (old new : PassState) (seen : ℕ) (txn : Txn) (reply : Reply) : Type 0 where
  pub before : List Entry
  pub others : GoesOnWithout old.number old.seen before
  pub commit_seen : new.seen ≡ before ++ commit_after before old.number seen txn ∷ []
  pub own : new.own ≡ old.own ++ commit_after before old.number seen txn ∷ []
  pub answers : Answers before seen txn reply
