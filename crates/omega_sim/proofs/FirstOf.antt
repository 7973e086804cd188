-- What comes first for a job in a list that grows.
use Rattle.std.proofs.Common.{◌≡◌, ℕ, List, [], ◌∷◌, ◌++◌, Option, Some, None, refl, ap, ◌∙◌}
use Rattle.std.specs.Prelude.{option_map, ◌==◌, if◌then◌else◌}
use Rattle.std.specs.Option.{option_or}
use Rattle.std.specs.List.{find}
use Rattle.std.proofs.lemmas.List.Folds.{find-append}
use Rattle.omega_laws.specs.TimeReport.{is_job}
use Rattle.omega_model.proofs.Lists.{by_answer}

map_either : {X Y : Type 0} (f : X → Y) (one other : Option X) → option_map f (option_or one other) ≡ option_or (option_map f one) (option_map f other)
map_either f None other = refl
map_either f (Some x) other = refl

pub either_none : {X : Type 0} (one : Option X) → option_or one None ≡ one
either_none None = refl
either_none (Some x) = refl

module _ {X : Type 0} (key : X → Option ℕ) (time : X → ℕ) where
  -- the time of the first item of a job
  abbrev pub first_of : List X → ℕ → Option ℕ
  first_of items job = option_map time (find (λ item. is_job job (key item)) items)

  pub first_push : (items : List X) (item : X) (job : ℕ) → first_of (items ++ item ∷ []) job ≡ option_or (first_of items job) (first_of (item ∷ []) job)
  first_push items item job =
      ap (option_map time) (find-append (λ x. is_job job (key x)) items (item ∷ []))
      ∙ map_either time (find (λ x. is_job job (key x)) items) (find (λ x. is_job job (key x)) (item ∷ []))

  one_of : (item : X) (number job : ℕ) → key item ≡ Some number → first_of (item ∷ []) job ≡ (if number == job then Some (time item) else None)
  one_of item number job is = rw is (by_answer (number == job) (λ t. rw t refl) (λ f. rw f refl))

  none_of : (item : X) (job : ℕ) → key item ≡ None → first_of (item ∷ []) job ≡ None
  none_of item job is = rw is refl

  -- an item of a job is noted, unless there was one before
  pub noted : (items : List X) (item : X) (number job : ℕ) (before after : Option ℕ) → key item ≡ Some number
      → after ≡ option_or before (if number == job then Some (time item) else None) → before ≡ first_of items job
      → after ≡ first_of (items ++ item ∷ []) job
  noted items item number job before after is notes known =
      rw (first_push items item job, one_of item number job is, ← known) notes

  -- an item of no job is passed
  pub passed : (items : List X) (item : X) (job : ℕ) (before : Option ℕ) → key item ≡ None → before ≡ first_of items job
      → before ≡ first_of (items ++ item ∷ []) job
  passed items item job before is known =
      rw (first_push items item job, none_of item job is, either_none (first_of items job)) known
