-- A new lock keeps its rule: the value is in the slot, no number was given and no ticket drawn.
-- k: the terms of the lock; y: the value.
use Rattle.std.proofs.Common.{◌≡◌, ℕ, zero, suc, ◌+◌, ◌≤◌, List, [], ◌∷◌, length, refl, sym, subst, arith, Some, Option}
use Rattle.std.proofs.lemmas.List.{drop_all, append-nil}
use mathlib.Core.Option.{some, some-injective, some-ne-none}
use lib.ListN.{get_elem?}
use Rattle.atomic_table.specs.Table.{opening}
use Rattle.omega_lock.specs.declared.seat_view.SeatView.{SeatView}
use Rattle.omega_lock.specs.declared.rule.Terms.{Terms}
use Rattle.omega_lock.specs.Lists.{EachBelow}
use Rattle.omega_lock.specs.Views.{first_view}
use Rattle.omega_lock.specs.Rule.{Fits, LockRule}

-- what stands in a list of one
only : {A : Type 0} (a b : A) (j : ℕ) → get_elem? (a ∷ []) j ≡ some b → a ≡ b
only a b zero e = some-injective a b e
only a b (suc j) e = absurd (some-ne-none b (sym e))

module _ {T E : Type 0} (entries : T → List E) (number : E → Option ℕ) where
  -- n: how long the list is; xs: the slots
  pub opening_keeps : (k : Terms T) (y : T) (n : ℕ) (xs : List (Option T))
      → n ≡ length (entries y) → xs ≡ Some y ∷ [] → k.first.value ≡ y
      → LockRule entries number k (opening (0 ∷ 0 ∷ 0 ∷ n ∷ []) xs (first_view k.turns (entries k.first.value)))
  opening_keeps k y n xs long slots same =
      let es : List E = entries y in
      let v : SeatView E = first_view k.turns es in
      let anew : Fits number (length es) 0 es v = record {
        seen = ([], sym (append-nil es));
        idle = λ _. (refl, refl);
        based = λ e. absurd (cc e);
        mine = λ e. absurd (cc e);
        listed = tt;
        also_seen = tt;
        also_first = tt;
        turn = λ e. absurd (cc e);
        read = λ e. absurd (cc e);
        tells = λ e. absurd (cc e);
      } in
      rw (same, slots, long) record {
        log = es;
        from_first = ([], sym (append-nil es));
        four_words = refl;
        one_slot = refl;
        few = omega arith;
        numbers = λ m. refl;
        turns = omega arith;
        tickets = λ m. refl;
        queue = refl;
        single = omega arith;
        home = λ _. (y, refl, refl);
        long = refl;
        slow = let most : length es ≤ length es + 0 + 0 = omega arith in most;
        given = subst (EachBelow number 0) (sym (drop_all (length es) es (omega arith))) tt;
        fits = λ j u e. subst (Fits number (length es) 0 es) (only v u j e) anew;
      }
