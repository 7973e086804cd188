-- What a plan is made of: claims, and the tasks that give way to them.
use Rattle.std.specs.Prelude.{ℕ, Bool, List, [], ◌∷◌, ◌++◌, Option, Some, None, ◌==◌, ◌&&◌, not, nat_lt, length, take, drop, if◌then◌else◌}
use Rattle.std.specs.List.{find, filter}
use Rattle.omega_model.specs.Cell.{Cell, is_on, by_rank, keys_of}
use Rattle.omega_model.specs.Judge.{judge_fine, would_be_placed}
use Rattle.omega_model.specs.Keys.{beginnings}
use Rattle.omega_model.specs.Reply.{after_claim}
use Rattle.omega_model.specs.declared.cells.Task.{Task}
use Rattle.omega_model.specs.declared.cells.TaskKey.{TaskKey}
use Rattle.omega_model.specs.declared.claims.Claim.{Claim}
use Rattle.omega_model.specs.declared.claims.Mode.{Mode}
use Rattle.omega_model.specs.declared.claims.Mode.TheVariants.{Incremental, Gang}
use Rattle.omega_model.specs.declared.wishes.Wish.{Wish}

-- the claim of a wish on a machine
abbrev pub claim_of : Wish → List TaskKey → ℕ → Claim
claim_of wish victims id = record { key = wish.key; machine = id; spec = wish.spec; victims = victims }

-- whether the wish is placed on this machine when these victims go, whatever the history
abbrev pub goes_in : Cell → Wish → List TaskKey → ℕ → Bool
goes_in cell wish victims id = would_be_placed cell (claim_of wish victims id)

-- whether a task may be evicted for a wish: it is of another job, and its precedence is lower
abbrev pub gives_way : Wish → Task → Bool
gives_way wish task = not (task.key.job == wish.key.job) && nat_lt task.spec.prec wish.spec.prec

-- the tasks on a machine that may be evicted for a wish, in order of eviction
abbrev pub candidates : Cell → ℕ → Wish → List TaskKey
candidates cell id wish = keys_of (by_rank (filter (λ task. is_on id task && gives_way wish task) cell.tasks))

-- the fewest candidates that must go for the wish to be placed on this machine
abbrev pub victims : Cell → ℕ → Wish → Option (List TaskKey)
victims cell id wish = find (λ keys. goes_in cell wish keys id) (beginnings (candidates cell id wish))

-- a list from place start on, and then what stands before it
abbrev pub wrapped_from : {X : Type 0} → ℕ → List X → List X
wrapped_from start items = drop start items ++ take start items

-- the first item, if there is one
abbrev pub first_item : {X : Type 0} → List X → Option X
first_item [] = None
first_item (item ∷ items) = Some item

-- the first claim, or else the other
abbrev pub or_else : Option Claim → Option Claim → Option Claim
or_else None other = other
or_else (Some claim) other = Some claim

-- a claim, if there is one, before those of the remaining wishes
abbrev pub and_claims : Option Claim → List Claim → List Claim
and_claims None claims = claims
and_claims (Some claim) claims = claim ∷ claims

-- the cell once a planned claim, if there is one, is placed
abbrev pub after_planned : Cell → Option Claim → Cell
after_planned cell None = cell
after_planned cell (Some claim) = after_claim cell (claim, judge_fine cell claim)

-- a gang with a wish that found no machine makes no claim
abbrev pub whole_or_none : Mode → ℕ → List Claim → List Claim
whole_or_none Incremental wanted claims = claims
whole_or_none Gang wanted claims = if length claims == wanted then claims else []
