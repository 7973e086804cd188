-- The commits of one scheduler in a history.
use Rattle.std.specs.Prelude.{◌≡◌, ℕ, List, ◌++◌, drop, Option, Some, None}
use Rattle.std.specs.List.{filter}
use Rattle.omega_model.specs.State.{reply_of}
use Rattle.omega_model.specs.Work.{commits_of, is_commit_of}
use Rattle.omega_model.specs.declared.claims.Txn.{Txn}
use Rattle.omega_model.specs.declared.entries.Entry.{Entry}
use Rattle.omega_model.specs.declared.entries.Entry.TheVariants.{Commit}

-- the number of the scheduler that made an entry, if it is a commit
abbrev pub committer_of : Entry → Option ℕ
committer_of (Commit scheduler seen txn reply) = Some scheduler
committer_of _ = None

-- the commits of a scheduler after the first entries of a history, in order
abbrev pub commits_since : ℕ → ℕ → List Entry → List Entry
commits_since first_length scheduler history = filter (is_commit_of scheduler) (drop first_length history)

-- a scheduler's commit after these entries, planned when it had seen the first `seen` of them
abbrev pub commit_after : List Entry → ℕ → ℕ → Txn → Entry
commit_after before scheduler seen txn = Commit scheduler seen txn (reply_of before seen txn)

-- a history goes on from another without a commit of this scheduler
pub record GoesOnWithout (scheduler : ℕ) (old new : List Entry) : Type 0 where
  pub later : List Entry
  pub goes_on : new ≡ old ++ later
  pub others : commits_of scheduler later ≡ 0
