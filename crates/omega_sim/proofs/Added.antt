-- Sums over commits, one after the other.
use Rattle.std.proofs.Common.{◌≡◌, ℕ, ◌+◌, ◌-◌, ◌<◌, true, false, List, [], ◌∷◌, ◌++◌, length, get_or, drop, refl, sym, ap, ◌∙◌, append_assoc}
use Rattle.std.specs.Prelude.{Option, Some, None, ◌==◌}
use Rattle.std.specs.List.{cons_option, filter_map, fold}
use Rattle.std.proofs.lemmas.List.{append-nil, drop_more}
use Rattle.omega_laws.specs.TimeReport.{timed_of}
use Rattle.omega_laws.specs.VirtualTime.{Timed}

-- what is added of the commits of a scheduler
abbrev pub busy_from : ℕ → ℕ → List Timed → ℕ
busy_from scheduler total times = fold (λ sum timed. sum + (timed.time - timed.sync)) total (timed_of scheduler times)

-- an item that may be there, behind some
one_more : (item : Option ℕ) (items rest : List ℕ) → (items ++ cons_option item []) ++ rest ≡ items ++ cons_option item rest
one_more None items rest = ap (λ (all : List ℕ). all ++ rest) (append-nil items)
one_more (Some item) items rest = append_assoc items (item ∷ []) rest

module _ (scheduler : ℕ) (times : List Timed) (place : ℕ) (timed : Timed) (below : place < length times) (is : timed ≡ get_or times place timed) where
  next : drop place times ≡ timed ∷ drop (place + 1) times
  next = drop_more times place timed below ∙ ap (λ (t : Timed). t ∷ drop (place + 1) times) (sym is)

  pub busy_own : (total : ℕ) → (timed.scheduler == scheduler) ≡ true
      → busy_from scheduler (total + (timed.time - timed.sync)) (drop (place + 1) times) ≡ busy_from scheduler total (drop place times)
  busy_own total own = rw next (rw own refl)

  pub busy_other : (total : ℕ) → (timed.scheduler == scheduler) ≡ false
      → busy_from scheduler total (drop (place + 1) times) ≡ busy_from scheduler total (drop place times)
  busy_other total other = rw next (rw other refl)

  module _ (job : Timed → Option ℕ) where
    pub jobs_own : (jobs after : List ℕ) → (timed.scheduler == scheduler) ≡ true → after ≡ jobs ++ cons_option (job timed) []
        → after ++ filter_map job (timed_of scheduler (drop (place + 1) times)) ≡ jobs ++ filter_map job (timed_of scheduler (drop place times))
    jobs_own jobs after own grown =
        rw next (rw own (ap (λ (js : List ℕ). js ++ filter_map job (timed_of scheduler (drop (place + 1) times))) grown
        ∙ one_more (job timed) jobs (filter_map job (timed_of scheduler (drop (place + 1) times)))))

    pub jobs_other : (jobs : List ℕ) → (timed.scheduler == scheduler) ≡ false
        → jobs ++ filter_map job (timed_of scheduler (drop (place + 1) times)) ≡ jobs ++ filter_map job (timed_of scheduler (drop place times))
    jobs_other jobs other = rw next (rw other refl)
