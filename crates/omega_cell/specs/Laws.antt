-- What holds of the commits of every legal history.
use Rattle.std.specs.Prelude.{◌≡◌, ℕ, ◌<◌, ◌⊎◌, List, Some, All, length, take, slice_get, IsTrue, IsFalse, IsSomeAnd}
use Rattle.std.specs.List.{fold, zip}
use Rattle.omega_model.specs.Cell.{Cell, task_at, without}
use Rattle.omega_model.specs.Judge.{would_be_placed}
use Rattle.omega_model.specs.Keys.{is_among}
use Rattle.omega_model.specs.Reply.{admits, after_claim}
use Rattle.omega_model.specs.State.{state}
use Rattle.omega_model.specs.declared.cells.Task.{Task}
use Rattle.omega_model.specs.declared.cells.TaskKey.{TaskKey}
use Rattle.omega_model.specs.declared.claims.Claim.{Claim}
use Rattle.omega_model.specs.declared.claims.Judgement.{Judgement}
use Rattle.omega_model.specs.declared.claims.Mode.TheVariants.{Gang}
use Rattle.omega_model.specs.declared.entries.Entry.{Entry}
use Rattle.omega_model.specs.declared.entries.Entry.TheVariants.{Commit}

-- each claim is answered, and all of them are placed or none is
pub record IsWhole (claims : List Claim) (reply : List Judgement) : Type 0 where
  pub answered : length reply ≡ length claims
  pub together : All (λ judgement. IsTrue (admits judgement)) reply ⊎ All (λ judgement. IsFalse (admits judgement)) reply

-- a commit in gang mode is whole
abbrev pub IsUnsplit : Entry → Type 0
IsUnsplit (Commit scheduler seen txn reply) = txn.mode ≡ Gang → IsWhole txn.claims reply
IsUnsplit _ = Unit {0}

-- no gang is split
abbrev pub NoGangIsSplit : List Entry → Type 0
NoGangIsSplit history = (place : ℕ) (entry : Entry) → slice_get history place ≡ Some entry → IsUnsplit entry

-- the task of this name runs on this machine, with a precedence below this one
abbrev pub RunsBelow : List Task → ℕ → ℕ → TaskKey → Type 0
RunsBelow tasks machine prec key = IsSomeAnd (task_at tasks key) (λ task. (task.machine ≡ machine) × (task.spec.prec < prec))

-- a task has to go for a claim once these are gone: it runs on the claim's machine with lower precedence,
-- the claim names it, and with these alone as its victims the claim would not be placed
pub record HasToGo (cell : Cell) (claim : Claim) (gone : List TaskKey) (key : TaskKey) : Type 0 where
  pub below : RunsBelow (without gone cell.tasks) claim.machine claim.spec.prec key
  pub named : IsTrue (is_among key claim.victims)
  pub needed : IsFalse (would_be_placed cell (record claim { victims = gone }))

-- each of these tasks, in order, has to go for a claim once those before it are gone
abbrev pub EachHasToGo : Cell → Claim → List TaskKey → Type 0
EachHasToGo cell claim evicted = (turn : ℕ) (key : TaskKey) → slice_get evicted turn ≡ Some key → HasToGo cell claim (take turn evicted) key

-- each task that claims evict has to go, on the cell that the claims before left
abbrev pub EvictInOrder : Cell → List (Claim × Judgement) → Type 0
EvictInOrder cell decided = (place : ℕ) (claim : Claim) (judgement : Judgement) → slice_get decided place ≡ Some (claim, judgement)
    → EachHasToGo (fold after_claim cell (take place decided)) claim judgement.evicted

-- a commit evicts only what has to go
abbrev pub EvictsWhatHasToGo : List Entry → Entry → Type 0
EvictsWhatHasToGo before (Commit scheduler seen txn reply) = EvictInOrder (state before) (zip txn.claims reply)
EvictsWhatHasToGo before _ = Unit {0}

-- commits evict only tasks of lower precedence than the claim's, and only those that have to go
abbrev pub EvictionsGoDown : List Entry → Type 0
EvictionsGoDown history = (place : ℕ) (entry : Entry) → slice_get history place ≡ Some entry → EvictsWhatHasToGo (take place history) entry
