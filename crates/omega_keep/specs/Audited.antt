-- Kept lines whose entries may follow each other, and the first line that may not.
use Rattle.std.specs.Prelude.{◌≡◌, ℕ, ◌<◌, ◌^◌, ⊤, List, Some, IfSome, length, map, take, slice_get}
use Rattle.omega_model.specs.Applying.{machine_in, CapacityIsInRange, EndsRunning, ListsOrHasRoom}
use Rattle.omega_model.specs.Legal.{Follows}
use Rattle.omega_model.specs.State.{state}
use Rattle.omega_model.specs.declared.entries.Entry.{Entry}
use Rattle.omega_model.specs.declared.entries.Entry.TheVariants.{Commit}
use Rattle.omega_keep.specs.KeptLines.{entry_text, IsLineOf}
use Rattle.omega_keep.specs.declared.auditing.AuditRefusal.{AuditRefusal}
use Rattle.omega_keep.specs.declared.auditing.AuditRefusal.TheVariants.{BadKept, NoMemory}

-- a commit has fewer claims than a withdrawn claim can name
abbrev pub HasFewClaims : Entry → Type 0
HasFewClaims (Commit scheduler seen txn reply) = length txn.claims < 2 ^ 32
HasFewClaims _ = ⊤

-- an entry is possible on the entries before it: its capacity is at most the greatest quantity, its
-- machine is in the list or has room there, an end names a task that runs on its machine, and a commit
-- has few claims, has seen no more than the entries before, and has the reply that is due on them
pub record IsPossible (before : List Entry) (entry : Entry) : Type 0 where
  pub capacity : CapacityIsInRange entry
  pub machines : IfSome (machine_in entry) (ListsOrHasRoom (state before).machines)
  pub ends : EndsRunning (state before).tasks entry
  pub few : HasFewClaims entry
  pub follows : Follows before entry

-- each entry is possible on those before it
abbrev pub EachIsPossible : List Entry → Type 0
EachIsPossible history = (place : ℕ) (entry : Entry) → slice_get history place ≡ Some entry → IsPossible (take place history) entry

-- each entry has a line: it is in range, and its reply is as long as its claims
abbrev pub HaveLines : List Entry → Type 0
HaveLines history = (place : ℕ) (entry : Entry) → slice_get history place ≡ Some entry → IsLineOf (entry_text entry) entry

-- lines are those of a history each of whose entries is possible
pub record IsAudited (lines : List (List ℕ)) (history : List Entry) : Type 0 where
  pub told : lines ≡ map entry_text history
  pub entries : HaveLines history
  pub possible : EachIsPossible history

-- a line is no entry's, or the entry isn't possible on those before it
abbrev pub IsRefused : List Entry → List ℕ → Type 0
IsRefused before line = (entry : Entry) → IsLineOf line entry → IsPossible before entry → ⊥

-- the line at a place is the first that is refused
pub record IsFirstRefused (lines : List (List ℕ)) (place : ℕ) : Type 0 where
  pub before : List Entry
  pub audited : IsAudited (take place lines) before
  pub line : List ℕ
  pub there : slice_get lines place ≡ Some line
  pub refused : IsRefused before line

-- lines are refused for the first line that is refused, unless memory ran out
abbrev pub Refuses : List (List ℕ) → AuditRefusal → Type 0
Refuses lines (BadKept place) = IsFirstRefused lines place
Refuses lines NoMemory = ⊤
