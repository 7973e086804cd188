-- What of a request is still wanted, once more has happened since it was made.
use Rattle.std.specs.Prelude.{Bool, List, [], ◌∷◌, ◌==◌, ◌&&◌, ◌||◌, nat_le, if◌then◌else◌}
use Rattle.std.specs.List.{filter, list_any}
use Rattle.omega_model.specs.ExtraTasks.{first_extra}
use Rattle.omega_model.specs.Wanted.{WantedTask, is_named}
use Rattle.omega_model.specs.Work.{Standing, fresh}
use Rattle.omega_model.specs.declared.cells.TaskKey.{TaskKey}
use Rattle.omega_model.specs.declared.claims.Claim.{Claim}
use Rattle.omega_model.specs.declared.wishes.Request.{Request}
use Rattle.omega_model.specs.declared.wishes.Wish.{Wish}

-- whether a task is wanted, where these are the wanted ones of the trace: it is one of them, or an extra of a job that
-- has one of them
abbrev pub is_still_wanted : List WantedTask → TaskKey → Bool
is_still_wanted asked key =
    list_any (is_named key) asked || (nat_le first_extra key.index && list_any (λ task. task.key.job == key.job) asked)

-- the wishes of a request whose tasks are still wanted
abbrev pub wanted_wishes : List WantedTask → Request → List Wish
wanted_wishes asked request = filter (λ wish. is_still_wanted asked wish.key) request.wishes

-- the claims whose tasks are still wanted
abbrev pub wanted_claims : List WantedTask → List Claim → List Claim
wanted_claims asked claims = filter (λ claim. is_still_wanted asked claim.key) claims

-- whether some wish of a request is still wanted
abbrev pub has_wanted_wish : List WantedTask → Request → Bool
has_wanted_wish asked request = list_any (λ wish. is_still_wanted asked wish.key) request.wishes

-- what a scheduler has left, whose first requests these are, without those at the front that have no wanted wish. Each
-- time one leaves, the attempts on the next are counted from 0
abbrev pub without_unwanted : List WantedTask → Standing → List Request → Standing
without_unwanted asked standing [] = standing
without_unwanted asked standing (request ∷ rest) =
    if has_wanted_wish asked request then standing else without_unwanted asked (fresh standing.failing rest) rest
