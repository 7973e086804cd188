-- What is left once a request has ended.
use Rattle.std.proofs.Common.{◌≡◌, ℕ, ◌+◌, true, List, ◌∷◌, Some, sym, ◌∙◌}
use Rattle.omega_model.specs.Work.{Standing, after_outcomes, ends_request, failing_after, failing_with, fresh}
use Rattle.omega_model.specs.declared.claims.Outcome.{Outcome}
use Rattle.omega_model.specs.declared.settings.Settings.{Settings}
use Rattle.omega_model.specs.declared.wishes.Request.{Request}

pub ended : (settings : Settings) (standing : Standing) (requests : List Request) (request : Request) (waiting left : List Request)
    (outcomes : List Outcome) (failing : ℕ → ℕ)
    → requests ≡ request ∷ waiting
    → ends_request settings (standing.taken + 1) (failing_after (standing.failing request.job) outcomes) request outcomes ≡ true
    → waiting ≡ left
    → ((other : ℕ) → failing other ≡ failing_with standing.failing request.job outcomes other)
    → after_outcomes settings standing requests outcomes ≡ Some (fresh failing left)
ended settings standing requests request waiting left outcomes failing first ends same counts =
    (λ i. after_outcomes settings standing (first i) outcomes) ∙ over
  where
    over : after_outcomes settings standing (request ∷ waiting) outcomes ≡ Some (fresh failing left)
    over = rw ends (λ i. Some (fresh (λ other. sym (counts other) i) (same i)))
