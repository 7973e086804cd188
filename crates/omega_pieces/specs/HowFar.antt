-- How far tasks are, as it is kept for each.
use Rattle.std.specs.Prelude.{◌≡◌, ℕ, List, Option, Some, None, ◌-◌, length, slice_get, unwrap_or, if◌then◌else◌}
use Rattle.std.specs.BTreeMap as tree
use Rattle.std.specs.BTreeMap.{BTreeMap}
use Rattle.std.specs.Ordering.{nat_cmp, ordering_then}
use Rattle.std.specs.declared.cmp.Ordering.{Ordering}
use Rattle.omega_model.specs.Fields.{TaskFields}
use Rattle.omega_model.specs.Wanted.{ends}
use Rattle.omega_model.specs.declared.cells.TaskKey.{TaskKey}
use Rattle.omega_model.specs.declared.rows.Row.{Row}
use Rattle.omega_free_laws.specs.Lives.{Pieces, pieces_of}
use Rattle.omega_feed.specs.Index.{key_cmp}
use Rattle.omega_pieces.specs.declared.progress.Progress.{Progress}

-- the order of pieces: by task, then by number
abbrev pub piece_cmp : TaskKey × ℕ → TaskKey × ℕ → Ordering
piece_cmp a b = ordering_then (key_cmp a.0 b.0) (nat_cmp a.1 b.1)

-- a task of which no row was applied, and that hasn't ended
abbrev pub unstarted : Progress
unstarted = record { since = None; cuts = 0; ended = 0 }

-- how far a task is
abbrev pub progress_at : BTreeMap TaskKey Progress → TaskKey → Progress
progress_at by_task key = unwrap_or (tree.get key_cmp by_task key) unstarted

-- a task with these pieces that has ended so often is so far
pub record IsProgress (pieces : Pieces) (often : ℕ) (progress : Progress) : Type 0 where
  pub since : progress.since ≡ pieces.since
  pub cuts : progress.cuts ≡ length pieces.lives
  pub ended : progress.ended ≡ often

-- how long a piece lived whose life counts since then and that a row at this time ends
abbrev pub life_since : ℕ → Option ℕ → Option ℕ
life_since time None = None
life_since time (Some since) = Some (time - since)

-- the life of the piece that a row of a task ends, if it ends one
abbrev pub life_ended : Option ℕ → TaskFields → Option ℕ
life_ended since row = if ends row.code then life_since row.time since else None

-- the lives by piece, with one more where there is one
abbrev pub lives_with : (TaskKey × ℕ → Option ℕ) → TaskKey × ℕ → Option ℕ → TaskKey × ℕ → Option ℕ
lives_with lives piece None other = lives other
lives_with lives piece (Some life) other = if tree.is_at (piece_cmp piece) other then Some life else lives other

-- the lives are those of the pieces that these rows have ended, each by its task and its number
abbrev pub AreLives : List Row → BTreeMap (TaskKey × ℕ) ℕ → Type 0
AreLives rows lives = (key : TaskKey) (number : ℕ) → tree.get piece_cmp lives (key, number) ≡ slice_get (pieces_of key rows).lives number

-- after these rows, where no task has ended, the tasks are so far, and these are the lives
pub record KeepsLives (rows : List Row) (by_task : BTreeMap TaskKey Progress) (lives : BTreeMap (TaskKey × ℕ) ℕ) : Type 0 where
  pub progress_are : (key : TaskKey) → IsProgress (pieces_of key rows) 0 (progress_at by_task key)
  pub lives_are : AreLives rows lives
