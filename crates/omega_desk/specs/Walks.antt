-- Wishes and outcomes side by side.
use Rattle.std.specs.Prelude.{Bool, true, false, List, [], ◌∷◌, not, map, if◌then◌else◌}
use Rattle.std.specs.List.{IsDistinct}
use Rattle.omega_model.specs.Keys.{same_key}
use Rattle.omega_model.specs.Touches.{is_placed}
use Rattle.omega_model.specs.declared.claims.Outcome.{Outcome}
use Rattle.omega_model.specs.declared.wishes.Request.{Request}
use Rattle.omega_model.specs.declared.wishes.Wish.{Wish}

-- the tasks of the outcomes are those of some of the wishes, in the order of the wishes
unfoldable pub are_wished : List Outcome → List Wish → Bool
are_wished [] wishes = true
are_wished (outcome ∷ outcomes) [] = false
are_wished (outcome ∷ outcomes) (wish ∷ wishes) =
    if same_key outcome.key wish.key then are_wished outcomes wishes else are_wished (outcome ∷ outcomes) wishes

-- no task is wished for twice
abbrev pub HasDistinctWishes : Request → Type 0
HasDistinctWishes request = IsDistinct same_key (map (λ (wish : Wish). wish.key) request.wishes)

-- whether a wish stays, where the first of these outcomes is the first that wasn't met yet
abbrev pub stays : List Outcome → Wish → Bool
stays [] wish = true
stays (outcome ∷ outcomes) wish = if same_key outcome.key wish.key then not (is_placed outcome.verdict) else true

-- the outcomes that are met after a wish
abbrev pub met_after : List Outcome → Wish → List Outcome
met_after [] wish = []
met_after (outcome ∷ outcomes) wish = if same_key outcome.key wish.key then outcomes else outcome ∷ outcomes

-- the wishes that stay when they are walked along the outcomes
unfoldable pub walked : List Outcome → List Wish → List Wish
walked outcomes [] = []
walked outcomes (wish ∷ wishes) =
    if stays outcomes wish then wish ∷ walked (met_after outcomes wish) wishes else walked (met_after outcomes wish) wishes
