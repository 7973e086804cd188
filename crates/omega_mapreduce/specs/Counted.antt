-- Wishes for extra tasks that are counted, and not listed.
use Rattle.std.specs.Prelude.{◌≤◌, ◌+◌, ◌==◌, ℕ, Bool, false, List, [], ◌∷◌, length, map}
use Rattle.omega_model.specs.ExtraTasks.{first_extra, free_indexes}
use Rattle.omega_model.specs.Fields.{most_activities}
use Rattle.omega_model.specs.declared.cells.Need.{Need}
use Rattle.omega_model.specs.declared.wishes.Constraint.{Constraint}
use Rattle.omega_model.specs.declared.wishes.Wish.{Wish}

-- the wish for an extra of a job, of this index
abbrev pub counted_wish : ℕ → Need → List Constraint → ℕ → Wish
counted_wish job need constraints index = record {
  key = record { job = job; index = index };
  spec = record { need = need; prec = 0; differ = false };
  constraints = constraints;
}

-- the wishes for so many more extras of a job: they have the least indexes that none of its running ones has
abbrev pub counted_wishes : ℕ → Need → List Constraint → List ℕ → ℕ → List Wish
counted_wishes job need constraints running count = map (counted_wish job need constraints) (free_indexes running count)

-- numbers from this one on, each greater than the one before
abbrev pub RiseFrom : ℕ → List ℕ → Type 0
RiseFrom from [] = Unit {0}
RiseFrom from (number ∷ numbers) = (from ≤ number) × RiseFrom (number + 1) numbers

-- so many extras may run and be asked for: the running ones have the indexes of extras, in order, and with
-- those that are asked for they are no more than there are activities
pub record MayCount (running : List ℕ) (count : ℕ) : Type 0 where
  pub rise : RiseFrom first_extra running
  pub few : length running + count ≤ most_activities

-- whether an index is the first of these
abbrev pub leads : List ℕ → ℕ → Bool
leads [] index = false
leads (first ∷ others) index = first == index
