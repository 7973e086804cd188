-- Workers that were let sync at the same time.
use Rattle.std.proofs.Common.{◌≡◌, ◌<◌, ◌+◌, ℕ, zero, suc, List, [], ◌∷◌, ◌++◌, get_or, length, Some, refl, set, ap, subst, arith, inl, inr}
use Rattle.std.specs.Prelude.{slice_get}
use Rattle.std.specs.List.{sum_by, AllByRecursion as Each}
use Rattle.std.proofs.lemmas.List.Sums.{sum_by-cons}
use Rattle.omega_model.specs.declared.entries.Entry.{Entry}
use Rattle.omega_desk.specs.Desks.{DeskState, left_at}
use Rattle.omega_workers.specs.AttemptsLeft.{attempts_left}
use Rattle.omega_workers.specs.Forked.{AllHaveSyncedOrStay, AreReady, HasSyncedOrStays}
use Rattle.omega_workers.specs.Plans.{IsReady}
use Rattle.omega_workers.specs.Workers.{to_do_of}
use Rattle.omega_workers.specs.declared.worker.Worker.{Worker}

-- what holds of each of a list does so once another, of which it holds, is the first
pub each_first : {X : Type 0} (P : X → Type 0) (xs : List X) (x : X) → Each P xs → P x → Each P (set xs 0 x)
each_first P [] x each holds = tt
each_first P (first ∷ xs) x each holds = (holds, each.1)

-- and of the first
pub of_first : {X : Type 0} (P : X → Type 0) (xs : List X) (x : X) → 0 < length xs → Each P xs → P (get_or xs 0 x)
of_first P [] x some each = absurd (omega (arith, some))
of_first P (first ∷ xs) x some each = each.0

-- two pieces of which each has been let sync
pub may_both : (history : List Entry) (olds news others nows : List Worker) → AllHaveSyncedOrStay history olds news → AllHaveSyncedOrStay history others nows
    → AllHaveSyncedOrStay history (olds ++ others) (news ++ nows)
may_both history [] [] others nows first second = second
may_both history [] (new ∷ news) others nows first second = absurd first
may_both history (old ∷ olds) [] others nows first second = absurd first
may_both history (old ∷ olds) (new ∷ news) others nows first second = (first.0, may_both history olds news others nows first.1 second)

-- a worker that may be let sync, and isn't
pub stays : (history : List Entry) (worker : Worker) → IsReady worker.desk history worker → HasSyncedOrStays history worker worker
stays history worker ready = record { ready = ready; does = inl (record { desk = refl; synced = refl }) }

pub all_stay : (history : List Entry) (workers : List Worker) → AreReady history workers → AllHaveSyncedOrStay history workers workers
all_stay history [] ready = tt
all_stay history (worker ∷ workers) ready = (stays history worker ready.0, all_stay history workers ready.1)

module _ (history : List Entry) where
  -- the desk of a worker that has been let sync is as it was
  pub same_desk : (old new : Worker) → HasSyncedOrStays history old new → new.desk ≡ old.desk
  same_desk old new may = elim may.does [
    | inl before ↦ before.desk
    | inr syncs ↦ syncs.desk
  ]

  pub may_count : (olds news : List Worker) → AllHaveSyncedOrStay history olds news → length news ≡ length olds
  may_count [] [] may = refl
  may_count [] (new ∷ news) may = absurd may
  may_count (old ∷ olds) [] may = absurd may
  may_count (old ∷ olds) (new ∷ news) may = ap (λ (n : ℕ). suc n) (may_count olds news may.1)

  -- at the place of each worker stood one that was let sync
  pub stood : (olds news : List Worker) → AllHaveSyncedOrStay history olds news → (place : ℕ) (new : Worker) → slice_get news place ≡ Some new
      → (old : Worker) × ((slice_get olds place ≡ Some old) × HasSyncedOrStays history old new)
  stood [] [] may place new is = absurd (cc)
  stood [] (first ∷ news) may place new is = absurd may
  stood (old ∷ olds) [] may place new is = absurd may
  stood (old ∷ olds) (first ∷ news) may zero new is = let same : first ≡ new = cc in (old, (refl, subst (HasSyncedOrStays history old) same may.0))
  stood (old ∷ olds) (first ∷ news) may (suc place) new is = stood olds news may.1 place new is

  -- as many commits can follow as before
  pub same_to_do : (olds news : List Worker) → AllHaveSyncedOrStay history olds news → sum_by to_do_of news ≡ sum_by to_do_of olds
  same_to_do [] [] may = refl
  same_to_do [] (new ∷ news) may = absurd may
  same_to_do (old ∷ olds) [] may = absurd may
  same_to_do (old ∷ olds) (new ∷ news) may =
      let one : to_do_of new ≡ to_do_of old = ap (λ (d : DeskState). attempts_left d.settings (left_at d)) (same_desk old new may.0) in
      let others : sum_by to_do_of news ≡ sum_by to_do_of olds = same_to_do olds news may.1 in
      let left : sum_by to_do_of (new ∷ news) ≡ to_do_of new + sum_by to_do_of news = sum_by-cons to_do_of new news in
      let right : sum_by to_do_of (old ∷ olds) ≡ to_do_of old + sum_by to_do_of olds = sum_by-cons to_do_of old olds in
      omega (arith, one, others, left, right)
