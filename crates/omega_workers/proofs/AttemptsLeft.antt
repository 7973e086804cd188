-- Attempts come to an end.
use Rattle.std.proofs.Common.{◌≡◌, ◌≤◌, ◌<◌, ◌+◌, ◌*◌, ◌-◌, ℕ, suc, Bool, true, false, List, ◌∷◌, length, refl, ap, arith}
use Rattle.std.specs.Prelude.{if◌then◌else◌}
use Rattle.omega_model.specs.Work.{Standing, ends_request, failing_after, failing_with, fresh, moved_on, rest_of}
use Rattle.omega_model.specs.declared.claims.Outcome.{Outcome}
use Rattle.omega_model.specs.declared.settings.Settings.{Settings}
use Rattle.omega_model.specs.declared.wishes.Request.{Request}
use Rattle.omega_workers.specs.AttemptsLeft.{attempts_left}

-- an attempt leaves fewer of them, and the next request has a try left
pub attempt_less : (settings : Settings) (standing : Standing) (request : Request) (rest : List Request) (outcomes : List Outcome)
    → 1 ≤ settings.tries → standing.requests ≡ request ∷ rest → standing.taken < settings.tries
    → (attempts_left settings (moved_on settings standing request rest outcomes) < attempts_left settings standing)
    × ((moved_on settings standing request rest outcomes).taken < settings.tries)
attempt_less settings standing request rest outcomes tries is taken =
    let count : length standing.requests ≡ suc (length rest) = ap length is in
    by_test (ends_request settings (standing.taken + 1) (failing_after (standing.failing request.job) outcomes) request outcomes) refl count where
      more : (a t : ℕ) → (suc a) * t ≡ a * t + t
      more a t = grind (arith)

      by_test : (test : Bool) → ends_request settings (standing.taken + 1) (failing_after (standing.failing request.job) outcomes) request outcomes ≡ test
          → length standing.requests ≡ suc (length rest)
          → (let after : Standing = (if test then fresh (failing_with standing.failing request.job outcomes) rest
          else record { requests = rest_of request outcomes ∷ rest; taken = standing.taken + 1; failing = failing_with standing.failing request.job outcomes }) in
          (length after.requests * settings.tries - after.taken < length standing.requests * settings.tries - standing.taken) × (after.taken < settings.tries))
      by_test true ends count =
          let all = more (length rest) settings.tries in
          (rw count (rw all (omega arith)), omega arith)
      by_test false ends count =
          let all = more (length rest) settings.tries in
          let last : standing.taken + 1 < settings.tries = try_left ends in
          (rw (count, all) (omega (arith, last)), last) where
            try_left : ends_request settings (standing.taken + 1) (failing_after (standing.failing request.job) outcomes) request outcomes ≡ false
                → standing.taken + 1 < settings.tries
            try_left ends = grind (arith, ends)
