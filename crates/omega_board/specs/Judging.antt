-- What is answered to a claim, where the machine's sequence number now is given, and the one in the scheduler's
-- copy if the two have to be the same.
use Rattle.std.specs.Prelude.{◌≡◌, ℕ, Bool, true, false, List, [], Option, Some, None, ◌==◌, not}
use Rattle.omega_model.specs.Cell.{Cell, goes_before, task_at}
use Rattle.omega_model.specs.Judge.{judged_given, refusal_if}
use Rattle.omega_model.specs.declared.cells.Task.{Task}
use Rattle.omega_model.specs.declared.cells.TaskKey.{TaskKey}
use Rattle.omega_model.specs.declared.claims.Claim.{Claim}
use Rattle.omega_model.specs.declared.claims.Judgement.{Judgement}
use Rattle.omega_model.specs.declared.claims.Verdict.{Verdict}
use Rattle.omega_model.specs.declared.claims.Verdict.TheVariants.{Changed}
use Rattle.std.specs.List.{AllByRecursion as Each}

-- that the machine changed, where the numbers differ
abbrev pub changed_on : ℕ → Option ℕ → Option Verdict
changed_on now None = None
changed_on now (Some copy) = refusal_if (not (copy == now)) (Changed now copy)

-- what is answered to the claim
abbrev pub judge_on : Cell → ℕ → Option ℕ → Claim → Judgement
judge_on cell now copy claim = judged_given (changed_on now copy) cell claim

-- a task comes behind another in order of eviction, if there is another
abbrev pub comes_behind : Option Task → Task → Bool
comes_behind None task = true
comes_behind (Some other) task = goes_before other task

-- of the tasks of these keys none comes behind this one; where it is none there are no keys
abbrev pub ComesLast : List Task → List TaskKey → Option Task → Type 0
ComesLast tasks keys None = keys ≡ []
ComesLast tasks keys (Some last) = Each (λ key. (task : Task) → task_at tasks key ≡ Some task → goes_before last task ≡ false) keys
