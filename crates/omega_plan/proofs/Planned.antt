-- Claims of a plan that are placed beside a board.
use Rattle.std.proofs.Common.{◌≡◌, ◌<◌, ◌+◌, ◌≤◌, ℕ, Bool, true, false, List, [], ◌∷◌, ◌++◌, drop, length, get_or, Option, Some, None, sym, ap, subst, ◌∙◌, if◌then◌else◌}
use Rattle.std.specs.List.{cons_option, filter_map, find}
use Rattle.std.specs.Prelude.{option_map}
use Rattle.std.proofs.lemmas.List.{drop_all, drop_more, append_assoc, append-nil}
use Rattle.omega_model.specs.Cell.{Cell}
use Rattle.omega_model.specs.Judge.{would_be_placed}
use Rattle.omega_model.specs.Keys.{beginnings}
use Rattle.omega_model.specs.Plan.{after_planned, and_claims, candidates, claim_of, first_item, or_else, victims}
use Rattle.omega_model.specs.Planning.{claim_as_is, claim_for_wish, claim_with_victims, claims_for_wishes, suiting_from}
use Rattle.omega_model.specs.declared.cells.Machine.{Machine}
use Rattle.omega_model.specs.declared.claims.Claim.{Claim}
use Rattle.omega_model.specs.declared.wishes.Wish.{Wish}
use Rattle.omega_model.proofs.Lists.{by_answer}
use Rattle.omega_plan.specs.Kinds.{Serves}
use Rattle.omega_plan.specs.Steps.{IsStep}
use Rattle.omega_plan.specs.declared.progress.Progress.{Progress}
use Rattle.omega_plan.specs.declared.progress.Step.{Step}
use Rattle.omega_plan.specs.Overlays.{OverlayState, cell_after}

-- a claim, if there is one, would be placed
abbrev GoesIn : Cell → Option Claim → Type 0
GoesIn cell None = Unit {0}
GoesIn cell (Some claim) = would_be_placed cell claim ≡ true

found_goes : {X : Type 0} (cell : Cell) (claim : X → Claim) (xs : List X) → GoesIn cell (option_map claim (find (λ x. would_be_placed cell (claim x)) xs))
found_goes cell claim [] = tt
found_goes cell claim (x ∷ xs) = by_answer (would_be_placed cell (claim x)) (λ t. rw t t) (λ f. rw f (found_goes cell claim xs))

first_goes : {X : Type 0} (cell : Cell) (claim : X → Option Claim) → ((x : X) → GoesIn cell (claim x)) → (xs : List X) → GoesIn cell (first_item (filter_map claim xs))
first_goes cell claim goes [] = tt
first_goes cell claim goes (x ∷ xs) = by (claim x) (goes x) (first_goes cell claim goes xs)
  where
    by : (o : Option Claim) → GoesIn cell o → GoesIn cell (first_item (filter_map claim xs)) → GoesIn cell (first_item (cons_option o (filter_map claim xs)))
    by None own later = later
    by (Some c) own later = own

either_goes : (cell : Cell) (one other : Option Claim) → GoesIn cell one → GoesIn cell other → GoesIn cell (or_else one other)
either_goes cell None other one_goes other_goes = other_goes
either_goes cell (Some c) other one_goes other_goes = one_goes

-- the claim for a wish would be placed
claim_goes : (cell : Cell) (start : ℕ) (preempts : Bool) (wish : Wish) → GoesIn cell (claim_for_wish cell start preempts wish)
claim_goes cell start preempts wish =
    either_goes cell (claim_as_is cell start wish) (if preempts then claim_with_victims cell start wish else None)
    (found_goes cell (λ (machine : Machine). claim_of wish [] machine.id) (suiting_from cell.machines wish start))
    (by preempts)
  where
    by : (b : Bool) → GoesIn cell (if b then claim_with_victims cell start wish else None)
    by false = tt
    by true =
        first_goes cell (λ (machine : Machine). option_map (λ keys. claim_of wish keys machine.id) (victims cell machine.id wish))
        (λ machine. found_goes cell (λ keys. claim_of wish keys machine.id) (beginnings (candidates cell machine.id wish)))
        (suiting_from cell.machines wish start)

pub planned_goes : (cell : Cell) (start : ℕ) (preempts : Bool) (wish : Wish) (claim : Claim) → Some claim ≡ claim_for_wish cell start preempts wish
    → would_be_placed cell claim ≡ true
planned_goes cell start preempts wish claim is = subst (GoesIn cell) (sym is) (claim_goes cell start preempts wish)

-- the claims so far and those of the wishes that remain, a last one behind them, are those of all, and the progress serves
-- wishes of the kind of the last one
pub record Planned (overlay first : OverlayState) (start : ℕ) (preempts : Bool) (wishes : List Wish) (last : Wish) (place : ℕ) (kind : Wish) (progress : Progress) : Type 0 where
  pub planned : overlay.claims ++ claims_for_wishes (cell_after overlay) start preempts (drop place wishes ++ last ∷ []) ≡ claims_for_wishes (cell_after first) start preempts (wishes ++ last ∷ [])
  pub board : overlay.board ≡ first.board
  pub began : progress.start ≡ start
  pub serves : Serves (cell_after overlay) kind progress

next_wish : {X : Type 0} (xs : List X) (place : ℕ) (x : X) → place < length xs → x ≡ get_or xs place x → drop place xs ≡ x ∷ drop (place + 1) xs
next_wish xs place x below is = drop_more xs place x below ∙ ap (λ y. y ∷ drop (place + 1) xs) (sym is)

joined : (xs ys : List Claim) (o : Option Claim) → (xs ++ and_claims o []) ++ ys ≡ xs ++ and_claims o ys
joined xs ys None = ap (λ zs. zs ++ ys) (append-nil xs)
joined xs ys (Some claim) = append_assoc xs (claim ∷ []) ys

-- one more wish is planned
pub planned_more : (overlay first after : OverlayState) (start : ℕ) (preempts : Bool) (wishes : List Wish) (last : Wish) (place : ℕ) (kind wish : Wish)
    (progress turned : Progress) (step : Step) → Planned overlay first start preempts wishes last place kind progress
    → place < length wishes → wish ≡ get_or wishes place wish → turned.start ≡ progress.start → IsStep (cell_after overlay) wish preempts turned step
    → cell_after after ≡ after_planned (cell_after overlay) step.claim → after.claims ≡ overlay.claims ++ and_claims step.claim []
    → after.board ≡ overlay.board
    → Planned after first start preempts wishes last (place + 1) wish step.progress
planned_more overlay first after start preempts wishes last place kind wish progress turned step so below is advance now cell grown same =
    let one = cell_after overlay in
    let rest = drop (place + 1) wishes ++ last ∷ [] in
    let began : turned.start ≡ start = advance ∙ so.began in
    let claim : step.claim ≡ claim_for_wish one start preempts wish = now.claim ∙ ap (λ n. claim_for_wish one n preempts wish) began in
    record {
      planned =
          ap (λ c. after.claims ++ claims_for_wishes c start preempts rest) cell
          ∙ ap (λ cs. cs ++ claims_for_wishes (after_planned one step.claim) start preempts rest) grown
          ∙ joined overlay.claims (claims_for_wishes (after_planned one step.claim) start preempts rest) step.claim
          ∙ ap (λ o. overlay.claims ++ and_claims o (claims_for_wishes (after_planned one o) start preempts rest)) claim
          ∙ ap (λ ws. overlay.claims ++ claims_for_wishes one start preempts (ws ++ last ∷ [])) (sym (next_wish wishes place wish below is))
          ∙ so.planned;
      board = same ∙ so.board;
      began = now.start ∙ began;
      serves = subst (λ c. Serves c wish step.progress) (sym cell) now.serves;
    }

-- the claim for the last wish ends a plan
pub planned_last : (overlay first : OverlayState) (start : ℕ) (preempts : Bool) (wishes : List Wish) (last : Wish) (place : ℕ) (kind : Wish) (progress turned : Progress)
    (step : Step) → Planned overlay first start preempts wishes last place kind progress → length wishes ≤ place → turned.start ≡ progress.start
    → IsStep (cell_after overlay) last preempts turned step → overlay.claims ++ and_claims step.claim [] ≡ claims_for_wishes (cell_after first) start preempts (wishes ++ last ∷ [])
planned_last overlay first start preempts wishes last place kind progress turned step so done turn now =
    let one = cell_after overlay in
    let claim : step.claim ≡ claim_for_wish one start preempts last = now.claim ∙ ap (λ n. claim_for_wish one n preempts last) (turn ∙ so.began) in
    ap (λ o. overlay.claims ++ and_claims o []) claim
    ∙ ap (λ ws. overlay.claims ++ claims_for_wishes one start preempts (ws ++ last ∷ [])) (sym (drop_all place wishes done))
    ∙ so.planned
