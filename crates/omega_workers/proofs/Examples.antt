-- A worked answer: how many attempts are left.
use Rattle.std.proofs.Common.{◌≡◌, ℕ, ◌∷◌, [], refl}
use Rattle.omega_model.specs.declared.settings.Settings.{Settings}
use Rattle.omega_model.specs.declared.wishes.Request.{Request}
use Rattle.omega_workers.specs.AttemptsLeft.{attempts_left}

-- two requests with three tries each, of which the first has had one
five_left : (settings : Settings) (request : Request) (failing : ℕ → ℕ) → settings.tries ≡ 3
    → attempts_left settings (record { requests = request ∷ request ∷ []; taken = 1; failing = failing }) ≡ 5
five_left settings request failing three = rw three refl
