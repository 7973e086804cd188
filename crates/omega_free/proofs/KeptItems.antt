-- What is kept of a list by a test, where it is walked by places, and where all items pass.
use Rattle.std.proofs.Common.{◌≡◌, ◌<◌, ◌+◌, ℕ, Bool, true, false, suc, List, [], ◌∷◌, ◌++◌, drop, filter, get_or, length, refl, sym, ap, ap₂, ◌∙◌, append_assoc, drop-cons, arith}
use Rattle.std.specs.List.{list_all}
use Rattle.std.proofs.lemmas.Bool.{and_parts}
use Rattle.omega_model.specs.Wanted.{WantedTask}
use Rattle.omega_model.specs.declared.wishes.Request.{Request}
use Rattle.omega_model.specs.declared.wishes.Wish.{Wish}
use Rattle.omega_free_laws.specs.StillWanted.{is_still_wanted}
use Rattle.omega_free.specs.KeptAttempts.{wanted_part, wants_all}

-- one more item of a list is looked at, and kept where it passes
module _ {X : Type 0} (p : X → Bool) (items : List X) (i : ℕ) (x : X) (kept all : List X) (within : i < length items) (is : x ≡ get_or items i x)
    (so_far : kept ++ filter p (drop i items) ≡ all) where
  cut_there : drop i items ≡ x ∷ drop (i + 1) items
  cut_there =
      let next : suc i ≡ i + 1 = omega arith in
      drop-cons items i x within ∙ ap₂ (λ (y : X) (n : ℕ). y ∷ drop n items) (sym is) next

  pub kept_on : p x ≡ true → (kept ++ x ∷ []) ++ filter p (drop (i + 1) items) ≡ all
  kept_on passes =
      append_assoc kept (x ∷ []) (filter p (drop (i + 1) items))
      ∙ ap (λ (later : List X). kept ++ later) (let step : filter p (x ∷ drop (i + 1) items) ≡ x ∷ filter p (drop (i + 1) items) = rw passes refl in sym step)
      ∙ ap (λ (later : List X). kept ++ filter p later) (sym cut_there) ∙ so_far

  pub left_out : p x ≡ false → kept ++ filter p (drop (i + 1) items) ≡ all
  left_out fails =
      ap (λ (later : List X). kept ++ later) (let step : filter p (x ∷ drop (i + 1) items) ≡ filter p (drop (i + 1) items) = rw fails refl in sym step)
      ∙ ap (λ (later : List X). kept ++ filter p later) (sym cut_there) ∙ so_far

-- where all items pass a test, all are kept
all_kept : {X : Type 0} (p : X → Bool) (items : List X) → list_all p items ≡ true → filter p items ≡ items
all_kept p [] all = refl
all_kept p (item ∷ items) all =
    let parts = and_parts (p item) (list_all p items) all in
    rw parts.0 (ap (λ (rest : List _). item ∷ rest) (all_kept p items parts.1))

-- so of a request of which all is still wanted, which is all of it
pub part_is_whole : (asked : List WantedTask) (request : Request) → wants_all asked request ≡ true → wanted_part asked request ≡ request
part_is_whole asked request all =
    ap (λ (wishes : List Wish). record { job = request.job; wishes = wishes }) (all_kept (λ wish. is_still_wanted asked wish.key) request.wishes all)
