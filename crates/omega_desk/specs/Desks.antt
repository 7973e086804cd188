-- What a desk is seen as.
use Rattle.std.specs.Prelude.{◌≡◌, ℕ, ◌≤◌, true, List, [], ◌∷◌, ◌++◌, Option, not, nat_le, option_to_list, IsNone}
use Rattle.std.specs.List.{All, filter}
use Rattle.omega_model.specs.Work.{Standing}
use Rattle.omega_model.specs.declared.claims.Outcome.{Outcome}
use Rattle.omega_model.specs.declared.settings.Settings.{Settings}
use Rattle.omega_model.specs.declared.wishes.Request.{Request}
use Rattle.omega_desk.specs.Counts.{count_of, IsCounted, AreWithin}
use Rattle.omega_desk.specs.Walks.{are_wished, HasDistinctWishes}

-- a desk as callers see it: whose it is, under which settings, how many attempts were taken at it in
-- all, the requests that are left, the first of them once more if wishes of it are counted there and not
-- listed, how many attempts it has had, and the counts of commits in a row that placed nothing
pub record DeskState : Type 0 where
  pub settings : Settings
  pub scheduler : ℕ
  pub attempts : ℕ
  pub requests : List Request
  pub counted : Option Request
  pub taken : ℕ
  pub counts : List (ℕ × ℕ)

-- what is left at a desk
abbrev pub left_at : DeskState → Standing
left_at desk = record {
  requests = desk.requests;
  taken = desk.taken;
  failing = count_of desk.counts;
}

-- the second desk is that of the first's scheduler under the same settings
pub record IsSameDesk (old new : DeskState) : Type 0 where
  pub settings : new.settings ≡ old.settings
  pub scheduler : new.scheduler ≡ old.scheduler

-- the requests of jobs that aren't given up, where each job has so many commits in a row that placed
-- nothing
abbrev pub still_tried : Settings → (ℕ → ℕ) → List Request → List Request
still_tried settings failing requests = filter (λ request. not (nat_le settings.give_up (failing request.job))) requests

-- there is a request left, and the tasks of the outcomes are some of its, in their order
abbrev pub AnswersFirst : List Request → List Outcome → Type 0
AnswersFirst [] outcomes = ⊥
AnswersFirst (request ∷ rest) outcomes = are_wished outcomes request.wishes ≡ true

-- what every desk keeps: no request wishes for a task twice; there is room for the count of each
-- request's job; neither a count nor the number of attempts on the present request is above the number
-- of all attempts; and where no request is present none waits, and no attempt on it is counted
pub record IsDesk (present : Option Request) (waiting : List Request) (attempts taken : ℕ) (counts : List (ℕ × ℕ)) : Type 0 where
  pub distinct : All HasDistinctWishes (option_to_list present ++ waiting)
  pub counted : All (λ (request : Request). IsCounted counts request.job) (option_to_list present ++ waiting)
  pub within : AreWithin counts attempts
  pub few : taken ≤ attempts
  pub idle : IsNone present → (waiting ≡ []) × (taken ≡ 0)
