-- A seat that is split off another keeps the rule: it has seen what the other has.
-- k: the terms of the lock; s: the table before, and r: that it meets the rule; v: the seat before; w: the new seat.
use Rattle.std.proofs.Common.{◌≡◌, ℕ, List, [], ◌∷◌, ◌++◌, length, get_or, sym, refl, ◌∙◌, subst, arith, Option, ⊎_elim}
use Rattle.std.specs.Prelude.{sum_by}
use Rattle.std.proofs.lemmas.List.Sums.{sum_by-cons, sum_by-append}
use mathlib.Core.Option.{some}
use lib.ListN.{get_elem?}
use Rattle.atomic_table.specs.Table.{Splits}
use Rattle.atomic_table.proofs.Lists.{set_again, at_snoc}
use Rattle.omega_lock.specs.declared.seat_view.SeatView.{SeatView}
use Rattle.omega_lock.specs.declared.rule.Terms.{Terms}
use Rattle.omega_lock.specs.Views.{answers, holding, split_off, telling, ticket_is, ticketed}
use Rattle.omega_lock.specs.Rule.{Fits, LockRule, first_list}

module _ {T E : Type 0} (entries : T → List E) (number : E → Option ℕ) where
  pub split_keeps : (k : Terms T) (id : ℕ) (v : SeatView E)
      → Splits (LockRule entries number k) id v v (split_off v)
  split_keeps k id v s r at =
      let w : SeatView E = split_off v in
      let b : ℕ = length (first_list entries k) in
      let f = r.fits id v at in
      let more : (g : SeatView E → ℕ) → g w ≡ 0 → sum_by g (s.views ++ w ∷ []) ≡ sum_by g s.views = λ g z. let p = sum_by-append g s.views (w ∷ []) in let q = sum_by-cons g w [] in omega (arith, p, q, z) in
      let anew : Fits number b (get_or s.words 2 0) r.log w = record {
        seen = f.seen;
        idle = λ _. (refl, refl);
        based = λ e. absurd (cc e);
        mine = λ e. absurd (cc e);
        listed = tt;
        also_seen = tt;
        also_first = tt;
        turn = λ e. absurd (cc e);
        read = λ e. absurd (cc e);
        tells = λ e. absurd (cc e);
      } in
      rw (set_again s.views id v at) record {
        log = r.log;
        four_words = r.four_words;
        one_slot = r.one_slot;
        from_first = r.from_first;
        few = r.few;
        turns = rw (more (λ (u : SeatView E). u.turns) refl) r.turns;
        tickets = λ m. rw (more (ticket_is m) refl) (r.tickets m);
        queue = rw (more ticketed refl) r.queue;
        numbers = λ m. rw (more (answers m) refl) (r.numbers m);
        long = r.long;
        slow = rw (more telling refl) r.slow;
        single = rw (more holding refl) r.single;
        given = r.given;
        fits = λ j u e. ⊎_elim (λ (h : get_elem? s.views j ≡ some u). r.fits j u h) (λ (h : w ≡ u). subst (Fits number b (get_or s.words 2 0) r.log) h anew) (at_snoc s.views w u j e);
        home = λ none_holds. r.home (sym (more holding refl) ∙ none_holds);
      }
