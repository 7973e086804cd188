-- Counts of commits in a row that placed nothing, as pairs of a job and its count.
use Rattle.std.specs.Prelude.{◌≡◌, ℕ, Bool, ◌+◌, ◌==◌, ◌≤◌, List, IsSome, unwrap_or, if◌then◌else◌}
use Rattle.std.specs.Ordering.{nat_cmp}
use Rattle.std.specs.BTreeMap.{is_at}
use Rattle.std.specs.Map.{lookup}

-- the count of a job, 0 where it has none
abbrev pub count_of : List (ℕ × ℕ) → ℕ → ℕ
count_of counts job = unwrap_or (lookup (is_at (nat_cmp job)) counts) 0

-- there is room for a count of this job
abbrev pub IsCounted : List (ℕ × ℕ) → ℕ → Type 0
IsCounted counts job = IsSome (lookup (is_at (nat_cmp job)) counts)

-- each job has the count that it had
abbrev pub KeepsCounts : List (ℕ × ℕ) → List (ℕ × ℕ) → Type 0
KeepsCounts old new = (job : ℕ) → count_of new job ≡ count_of old job

-- each job that had room for its count has it still
abbrev pub KeepsRoom : List (ℕ × ℕ) → List (ℕ × ℕ) → Type 0
KeepsRoom old new = (job : ℕ) → IsCounted old job → IsCounted new job

-- one more commit for a job, which placed something or nothing; other jobs keep their counts
abbrev pub Notes : List (ℕ × ℕ) → List (ℕ × ℕ) → ℕ → Bool → Type 0
Notes old new job placed =
    (other : ℕ) → count_of new other ≡ (if job == other then (if placed then 0 else count_of old other + 1) else count_of old other)

-- no count is above this number
abbrev pub AreWithin : List (ℕ × ℕ) → ℕ → Type 0
AreWithin counts most = (job : ℕ) → count_of counts job ≤ most
