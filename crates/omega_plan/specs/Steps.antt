-- What comes of a wish in a plan.
use Rattle.std.specs.Prelude.{◌≡◌, Bool}
use Rattle.omega_model.specs.Cell.{Cell}
use Rattle.omega_model.specs.Plan.{after_planned}
use Rattle.omega_model.specs.Planning.{claim_for_wish}
use Rattle.omega_model.specs.declared.wishes.Wish.{Wish}
use Rattle.omega_plan.specs.Kinds.{Serves}
use Rattle.omega_plan.specs.declared.progress.Progress.{Progress}
use Rattle.omega_plan.specs.declared.progress.Step.{Step}

-- a step has the claim for a wish, and its progress serves wishes of this kind once the claim is placed
pub record IsStep (cell : Cell) (wish : Wish) (preempts : Bool) (progress : Progress) (step : Step) : Type 0 where
  pub claim : step.claim ≡ claim_for_wish cell progress.start preempts wish
  pub start : step.progress.start ≡ progress.start
  pub serves : Serves (after_planned cell step.claim) wish step.progress
