-- What a scheduler has left in a round: its requests stay such as they were, and each attempt leaves one fewer.
use Rattle.std.proofs.Common.{◌≡◌, ℕ, suc, ◌+◌, ◌*◌, ◌-◌, ◌<◌, ◌≤◌, Bool, true, false, List, ◌∷◌, length, refl, sym, ap, subst, ◌∙◌, arith}
use Rattle.std.specs.Prelude.{not}
use Rattle.omega_model.specs.Work.{Standing, ends_request, failing_after, failing_with, fresh, moved_on, places_wish, rest_of}
use Rattle.omega_model.specs.declared.claims.Outcome.{Outcome}
use Rattle.omega_model.specs.declared.settings.Settings.{Settings}
use Rattle.omega_model.specs.declared.wishes.Request.{Request}
use Rattle.omega_sim.proofs.Asked.{IsAsked}
use Rattle.omega_model.proofs.Fewer.{filter_fewer}

-- what is left of a request that is asked for is asked for, too
pub rest_asked : (jobs : List ℕ) (most taken failing : ℕ) (settings : Settings) (request : Request) (outcomes : List Outcome) → IsAsked jobs most request
    → ends_request settings taken failing request outcomes ≡ false → IsAsked jobs most (rest_of request outcomes)
rest_asked jobs most taken failing settings request outcomes asked goes_on = record {
  job = asked.job;
  wishes = let long = asked.wishes in let fewer = filter_fewer (λ wish. not (places_wish outcomes wish)) request.wishes in omega arith;
}

module _ (settings : Settings) where
  -- no more than so many attempts remain, and the first request has one
  pub record IsFair (budget : ℕ) (standing : Standing) : Type 0 where
    pub tries : standing.taken < settings.tries
    pub within : length standing.requests * settings.tries ≤ budget + standing.taken

  -- an attempt leaves one fewer
  pub fair_moved : (standing : Standing) (request : Request) (rest : List Request) (outcomes : List Outcome) (budget : ℕ)
      → 1 ≤ settings.tries → standing.requests ≡ request ∷ rest → IsFair budget standing
      → (1 ≤ budget) × IsFair (budget - 1) (moved_on settings standing request rest outcomes)
  fair_moved standing request rest outcomes budget some is fair =
      let count : length standing.requests ≡ suc (length rest) = ap length is in
      let product : length standing.requests * settings.tries ≡ length rest * settings.tries + settings.tries =
      ap (λ (n : ℕ). n * settings.tries) count ∙ more (length rest) settings.tries in
      let within = fair.within in
      let tries = fair.tries in
      let left : 1 ≤ budget = omega arith in
      by_test (ends_request settings (standing.taken + 1) (failing_after (standing.failing request.job) outcomes) request outcomes) refl left product where
        more : (a t : ℕ) → (suc a) * t ≡ a * t + t
        more a t = grind (arith)

        by_test : (test : Bool) → ends_request settings (standing.taken + 1) (failing_after (standing.failing request.job) outcomes) request outcomes ≡ test
            → 1 ≤ budget → length standing.requests * settings.tries ≡ length rest * settings.tries + settings.tries
            → (1 ≤ budget) × IsFair (budget - 1) (moved_on settings standing request rest outcomes)
        by_test true ends left product =
            let within = fair.within in
            let tries = fair.tries in
            let moved : moved_on settings standing request rest outcomes ≡ fresh (failing_with standing.failing request.job outcomes) rest = rw ends refl in (
              left,
              subst (IsFair (budget - 1)) (sym moved) (record {
                tries = omega arith;
                within = omega arith;
              }),
            )
        by_test false ends left product =
            let within = fair.within in
            let last : standing.taken + 1 < settings.tries = grind (arith, ends) in
            let product_rest : (suc (length rest)) * settings.tries ≡ length rest * settings.tries + settings.tries = more (length rest) settings.tries in
            let after : Standing = record {
              requests = rest_of request outcomes ∷ rest;
              taken = standing.taken + 1;
              failing = failing_with standing.failing request.job outcomes;
            } in
            let moved : moved_on settings standing request rest outcomes ≡ after = rw ends refl in (
              left,
              subst (IsFair (budget - 1)) (sym moved) (record {
                tries = last;
                within = omega (arith, product_rest, product, within, left);
              }),
            )
