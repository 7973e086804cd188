-- What is left once requests of which nothing is wanted have left.
use Rattle.std.proofs.Common.{◌≡◌, ◌<◌, true, false, List, [], ◌∷◌, drop, length, refl, sym, ap, ◌∙◌, arith}
use Rattle.std.specs.Prelude.{Result, Ok, Err, OnErr}
use Rattle.omega_model.proofs.Lists.{by_answer}
use Rattle.omega_model.specs.Wanted.{WantedTask}
use Rattle.omega_model.specs.Work.{Standing, fresh}
use Rattle.omega_model.specs.declared.wishes.Request.{Request}
use Rattle.omega_desk.specs.Desks.{DeskState, left_at}
use Rattle.omega_free_laws.specs.StillWanted.{has_wanted_wish, without_unwanted}
use Rattle.omega_free.specs.PassDesks.{is_first_unwanted}

-- where there is no first request, and where something of it is still wanted, nothing leaves
pub nothing_leaves : (asked : List WantedTask) (standing : Standing) (requests : List Request)
    → is_first_unwanted asked requests ≡ false → without_unwanted asked standing requests ≡ standing
nothing_leaves asked standing [] stays = refl
nothing_leaves asked standing (request ∷ rest) stays =
    by_answer (has_wanted_wish asked request) (λ t. rw t refl) (λ f. absurd (let clash = rw f at stays in cc))

-- else it is as if the first had left
pub first_leaves : (asked : List WantedTask) (standing : Standing) (requests : List Request)
    → is_first_unwanted asked requests ≡ true
    → without_unwanted asked standing requests ≡ without_unwanted asked (fresh standing.failing (drop 1 requests)) (drop 1 requests)
first_leaves asked standing [] leaves = absurd (cc)
first_leaves asked standing (request ∷ rest) leaves =
    by_answer (has_wanted_wish asked request) (λ t. absurd (let clash = rw t at leaves in cc)) (λ f. rw f refl)

-- where nothing remained and nothing is there, as much remains
pub none_remains : (asked : List WantedTask) (old mid new : DeskState) → left_at mid ≡ without_unwanted asked (left_at old) old.requests
    → mid.requests ≡ [] → new.requests ≡ []
    → (without_unwanted asked (left_at new) new.requests).requests ≡ (without_unwanted asked (left_at old) old.requests).requests
none_remains asked old mid new left none still_none =
    ap (λ (standing : Standing). standing.requests) (nothing_leaves asked (left_at new) new.requests (ap (is_first_unwanted asked) still_none))
    ∙ still_none ∙ sym none ∙ ap (λ (standing : Standing). standing.requests) left

-- what holds anyway holds where a call fails
pub on_err : {T E P : Type 0} (result : Result T E) → P → OnErr result P
on_err (Ok value) holds = tt
on_err (Err error) holds = holds

-- where the first leaves there are fewer then
pub fewer_left : (asked : List WantedTask) (requests : List Request) → is_first_unwanted asked requests ≡ true → length (drop 1 requests) < length requests
fewer_left asked [] leaves = absurd (cc)
fewer_left asked (request ∷ rest) leaves = omega arith
