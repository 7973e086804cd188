-- Jobs with activities, and the jobs that have anything to place.
use Rattle.std.proofs.Common.{◌≡◌, ℕ, Bool, true, false, ◌||◌, ◌==◌, List, [], ◌∷◌, Option, Some, None, map, refl}
use Rattle.std.specs.List.{filter, last_or, list_any}
use Rattle.std.specs.Prelude.{is_some}
use Rattle.omega_model.specs.Fields.{ActivityFields}
use Rattle.omega_model.proofs.Lists.{by_answer}
use Rattle.omega_feed.specs.Asked.{activities_in}

or_true : (b : Bool) → true ≡ (b || true)
or_true true = refl
or_true false = refl

last_named : (job : ℕ) (before : Option ℕ) (rows : List ActivityFields)
    → is_some (last_or before (map (λ row. row.activities) (filter (λ row. row.job == job) rows))) ≡ (is_some before || list_any (λ row. row.job == job) rows)
last_named job None [] = refl
last_named job (Some activities) [] = refl
last_named job before (row ∷ rows) =
    by_answer (row.job == job)
    (λ t. rw (t, last_named job (Some row.activities) rows) (or_true (is_some before)))
    (λ f. rw (f, last_named job before rows) refl)

-- a job has activities where a row names it
pub has_activities : (rows : List ActivityFields) (job : ℕ) → is_some (activities_in rows job) ≡ list_any (λ row. row.job == job) rows
has_activities rows job = last_named job None rows
