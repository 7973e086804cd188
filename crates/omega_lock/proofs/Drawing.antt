-- A seat that draws a ticket keeps the rule: it has one turn less.
-- k: the terms of the lock; s: the table before, and r: that it meets the rule; v and w: the seat before and after.
use Rattle.std.proofs.Common.{◌≡◌, ℕ, ◌+◌, ◌-◌, ◌*◌, ◌%◌, ◌^◌, ◌<◌, ◌≤◌, List, length, set, get_or, sym, refl, ◌∙◌, arith, length-set, get_or-set_other, get_or-set_same, true, false, Option, mul-le-mul_right}
use Rattle.std.specs.Prelude.{sum_by}
use mathlib.Core.Option.{none}
use Rattle.atomic_table.specs.Table.{Me, step, keeps, Allows}
use Rattle.omega_lock.specs.declared.seat_view.SeatView.{SeatView}
use Rattle.omega_lock.specs.declared.rule.Terms.{Terms}
use Rattle.omega_lock.specs.Views.{answers, holding, telling, ticket_is, ticketed}
use Rattle.omega_lock.specs.Rule.{Fits, LockRule, first_list}
use Rattle.omega_lock.specs.Steps.{Draws}
use Rattle.omega_lock.proofs.Sums.{below_more, total_set, term_le, each_set}

module _ {T E : Type 0} (entries : T → List E) (number : E → Option ℕ) where
  pub draw_keeps : (k : Terms T) (n id : ℕ) (me : Me (Option T) (SeatView E))
      → k.callers * k.turns < 2 ^ 62 → me.0.has_number ≡ true → me.0.has_ticket ≡ false
      → me.0.holds ≡ false → 0 < me.0.turns
      → Allows (LockRule entries number k) n id me 1 (λ m. (m + 1) % 2 ^ 64) (Draws (step n 1 1 0 none) me)
  draw_keeps k n id me small is idle free left s r one at fits =
      let x : ℕ = get_or s.words 1 0 in
      let v : SeatView E = me.0 in
      let w : SeatView E = record v { turns = v.turns - 1; has_ticket = true; ticket = x } in
      -- the word stays below its end
      let most : get_or s.words 0 0 * k.turns ≤ k.callers * k.turns = mul-le-mul_right k.turns r.few in
      let mine : v.turns ≤ sum_by (λ (u : SeatView E). u.turns) s.views = term_le (λ (u : SeatView E). u.turns) s.views id v at in
      let room : x + 1 < 2 ^ 64 = omega (arith, r.turns, most, mine, small, left) in
      let next : (x + 1) % 2 ^ 64 ≡ x + 1 = omega (arith, room) in
      -- the words after
      let size : 4 ≡ length s.words = sym r.four_words in
      let here : get_or (set s.words 1 (x + 1)) 1 0 ≡ x + 1 = get_or-set_same s.words 1 (x + 1) 0 (omega (arith, size)) in
      let w0 : get_or (set s.words 1 (x + 1)) 0 0 ≡ get_or s.words 0 0 = get_or-set_other s.words 1 0 (x + 1) 0 (λ e. omega arith) in
      let w2 : get_or (set s.words 1 (x + 1)) 2 0 ≡ get_or s.words 2 0 = get_or-set_other s.words 1 2 (x + 1) 0 (λ e. omega arith) in
      let w3 : get_or (set s.words 1 (x + 1)) 3 0 ≡ get_or s.words 3 0 = get_or-set_other s.words 1 3 (x + 1) 0 (λ e. omega arith) in
      -- the sums after
      let turns = total_set (λ (u : SeatView E). u.turns) s.views id v w at in
      let holders = total_set holding s.views id v w at in
      let told_sum = total_set telling s.views id v w at in
      let f = r.fits id v at in
      rw next (
        w,
        keeps,
        tt,
        record {
          log = r.log;
          four_words = length-set s.words 1 (x + 1) ∙ r.four_words;
          one_slot = r.one_slot;
          from_first = r.from_first;
          few = rw w0 r.few;
          turns = rw (here, w0) (omega (arith, turns, r.turns, left));
          tickets = λ m. let t = total_set (ticket_is m) s.views id v w at in let was : ticket_is m v ≡ 0 = rw idle refl in rw (here, w2) (omega (arith, t, was, r.tickets m, below_more m x));
          queue = let t = total_set ticketed s.views id v w at in let was : ticketed v ≡ 0 = rw idle refl in rw (here, w2) (omega (arith, t, was, r.queue));
          numbers = λ m. let t = total_set (answers m) s.views id v w at in rw w0 (omega (arith, t, r.numbers m));
          long = rw w3 r.long;
          slow = rw (w2, w3) (omega (arith, told_sum, r.slow));
          single = omega (arith, holders, r.single);
          given = rw w0 r.given;
          fits = rw w2 (each_set (Fits number (length (first_list entries k)) (get_or s.words 2 0) r.log) s.views id w (λ j u ne e. r.fits j u e) record {
            seen = f.seen;
            idle = λ e. absurd (cc (sym is ∙ e));
            based = f.based;
            mine = f.mine;
            listed = f.listed;
            also_seen = f.also_seen;
            also_first = f.also_first;
            turn = λ h. absurd (cc (sym free ∙ h));
            read = λ h. f.read h;
            tells = f.tells;
          });
          home = λ none_holds. r.home (omega (arith, holders, none_holds));
        },
        (refl, omega (arith, left), refl),
      )
