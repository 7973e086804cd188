-- Where a scheduler would put the tasks of a request.
use Rattle.std.specs.Prelude.{ℕ, Bool, List, [], ◌∷◌, Option, None, option_map, length, if◌then◌else◌}
use Rattle.std.specs.List.{find, filter, filter_map}
use Rattle.omega_model.specs.Cell.{Cell}
use Rattle.omega_model.specs.Eligible.{eligible}
use Rattle.omega_model.specs.Plan.{claim_of, goes_in, victims, wrapped_from, first_item, or_else, and_claims, after_planned, whole_or_none}
use Rattle.omega_model.specs.declared.cells.Attr.{Attr}
use Rattle.omega_model.specs.declared.cells.Machine.{Machine}
use Rattle.omega_model.specs.declared.claims.Claim.{Claim}
use Rattle.omega_model.specs.declared.claims.Policy.{Policy}
use Rattle.omega_model.specs.declared.wishes.Wish.{Wish}

-- whether the attributes of a machine meet all constraints of a wish
abbrev pub suits : Wish → List Attr → Bool
suits wish attrs = eligible wish.constraints attrs

-- the machines that suit a wish, in the order in which they are tried
abbrev pub suiting_from : List Machine → Wish → ℕ → List Machine
suiting_from machines wish start = filter (λ machine. suits wish machine.attrs) (wrapped_from start machines)

-- the claim on the first suiting machine that takes the wish as it is
abbrev pub claim_as_is : Cell → ℕ → Wish → Option Claim
claim_as_is cell start wish = option_map (λ machine. claim_of wish [] machine.id)
    (find (λ machine. goes_in cell wish [] machine.id) (suiting_from cell.machines wish start))

-- the claim on the first suiting machine on which evictions make room for the wish
abbrev pub claim_with_victims : Cell → ℕ → Wish → Option Claim
claim_with_victims cell start wish = first_item
    (filter_map (λ machine. option_map (λ keys. claim_of wish keys machine.id) (victims cell machine.id wish))
    (suiting_from cell.machines wish start))

-- the claim for one wish: without victims where that goes, else with them where the policy preempts
abbrev pub claim_for_wish : Cell → ℕ → Bool → Wish → Option Claim
claim_for_wish cell start preempts wish =
    or_else (claim_as_is cell start wish) (if preempts then claim_with_victims cell start wish else None)

-- the claims for the wishes in order, each on the cell after the claims before it
abbrev pub claims_for_wishes : Cell → ℕ → Bool → List Wish → List Claim
claims_for_wishes cell start preempts [] = []
claims_for_wishes cell start preempts (wish ∷ wishes) =
    and_claims (claim_for_wish cell start preempts wish)
    (claims_for_wishes (after_planned cell (claim_for_wish cell start preempts wish)) start preempts wishes)

-- the plan of a request's wishes on a cell, from this place in the list of machines on
abbrev pub plan_for : Cell → List Wish → ℕ → Policy → List Claim
plan_for cell wishes start policy =
    whole_or_none policy.mode (length wishes) (claims_for_wishes cell start policy.preempt wishes)
