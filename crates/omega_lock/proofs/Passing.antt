-- A seat that passes the turn on keeps the rule: the value is back, and the next ticket is served.
-- k: the terms of the lock; s: the table before, and r: that it meets the rule; v and w: the seat before and after.
use Rattle.std.proofs.Common.{◌≡◌, ℕ, ◌+◌, ◌*◌, ◌%◌, ◌^◌, ◌<◌, ◌≤◌, List, [], ◌∷◌, length, set, get_or, sym, refl, ◌∙◌, arith, length-set, get_or-set_other, get_or-set_same, true, false, Some, Option, mul-le-mul_right}
use mathlib.Core.Option.{some, none}
use Rattle.atomic_table.specs.Table.{Me, step, gives, Allows}
use Rattle.atomic_table.proofs.Lists.{set_here}
use Rattle.omega_lock.specs.declared.seat_view.SeatView.{SeatView}
use Rattle.omega_lock.specs.declared.rule.Terms.{Terms}
use Rattle.omega_lock.specs.Lists.{same}
use Rattle.omega_lock.specs.Views.{answers, holding, telling, ticket_is, ticketed}
use Rattle.omega_lock.specs.Rule.{Fits, LockRule, first_list}
use Rattle.omega_lock.specs.Steps.{Passes}
use Rattle.omega_lock.proofs.Holders.{one_holder, telling_le}
use Rattle.omega_lock.proofs.Sums.{same-same, below_more, below_is, total_set, term_le, each_set}

module _ {T E : Type 0} (entries : T → List E) (number : E → Option ℕ) where
  pub pass_keeps : (k : Terms T) (n id : ℕ) (me : Me (Option T) (SeatView E)) (y : T)
      → k.callers * k.turns < 2 ^ 62
      → me.1 ≡ (0, Some y) ∷ [] → me.0.has_number ≡ true → me.0.holds ≡ true → entries y ≡ me.0.held
      → Allows (LockRule entries number k) n id me 2 (λ m. (m + 1) % 2 ^ 64) (Passes (step n 2 1 0 none) me)
  pass_keeps k n id me y small slot is holds same_list s r one at fits =
      let x : ℕ = get_or s.words 2 0 in
      let b : ℕ = length (first_list entries k) in
      let v : SeatView E = me.0 in
      let f = r.fits id v at in
      let turn = f.turn holds in
      let w : SeatView E = record v { has_ticket = false; holds = false; read = false; told = false; held = [] } in
      -- the word stays below its end
      let most : get_or s.words 0 0 * k.turns ≤ k.callers * k.turns = mul-le-mul_right k.turns r.few in
      let here_ticket : ticket_is x v ≡ 1 = rw (turn.0, turn.1) (same-same x) in
      let least = term_le (ticket_is x) s.views id v at in
      let order : x < get_or s.words 1 0 = below_is x (get_or s.words 1 0) (omega (arith, r.tickets x, here_ticket, least)) in
      let room : x + 1 < 2 ^ 64 = omega (arith, order, r.turns, most, small) in
      let next : (x + 1) % 2 ^ 64 ≡ x + 1 = omega (arith, room) in
      -- the words after
      let size : 4 ≡ length s.words = sym r.four_words in
      let here : get_or (set s.words 2 (x + 1)) 2 0 ≡ x + 1 = get_or-set_same s.words 2 (x + 1) 0 (omega (arith, size)) in
      let w0 : get_or (set s.words 2 (x + 1)) 0 0 ≡ get_or s.words 0 0 = get_or-set_other s.words 2 0 (x + 1) 0 (λ e. omega arith) in
      let w1 : get_or (set s.words 2 (x + 1)) 1 0 ≡ get_or s.words 1 0 = get_or-set_other s.words 2 1 (x + 1) 0 (λ e. omega arith) in
      let w3 : get_or (set s.words 2 (x + 1)) 3 0 ≡ get_or s.words 3 0 = get_or-set_other s.words 2 3 (x + 1) 0 (λ e. omega arith) in
      -- the sums after
      let turns = total_set (λ (u : SeatView E). u.turns) s.views id v w at in
      let holders = total_set holding s.views id v w at in
      let told_sum = total_set telling s.views id v w at in
      let one_here : holding v ≡ 1 = rw holds refl in
      let at_most : telling v ≤ 1 = telling_le v v.told refl in
      let slots : 1 ≡ length s.homes = sym r.one_slot in
      rw (next, slot) (
        w,
        gives,
        tt,
        record {
          log = r.log;
          four_words = length-set s.words 2 (x + 1) ∙ r.four_words;
          one_slot = length-set s.homes 0 (some (Some y)) ∙ r.one_slot;
          from_first = r.from_first;
          few = rw w0 r.few;
          turns = rw (w0, w1) (omega (arith, turns, r.turns));
          tickets = λ m. let t = total_set (ticket_is m) s.views id v w at in let was : ticket_is m v ≡ same m x = rw (turn.0, turn.1) refl in rw (here, w1) (omega (arith, t, was, r.tickets m, below_more m x));
          queue = let t = total_set ticketed s.views id v w at in let was : ticketed v ≡ 1 = rw turn.0 refl in rw (here, w1) (omega (arith, t, was, r.queue));
          numbers = λ m. let t = total_set (answers m) s.views id v w at in rw w0 (omega (arith, t, r.numbers m));
          long = rw w3 r.long;
          slow = rw (here, w3) (omega (arith, told_sum, at_most, r.slow));
          single = omega (arith, holders, r.single);
          given = rw w0 r.given;
          fits = rw here (each_set (Fits number b (x + 1) r.log) s.views id w
              (λ j u ne g. let o = r.fits j u g in record {
                seen = o.seen;
                idle = o.idle;
                based = o.based;
                mine = o.mine;
                listed = o.listed;
                also_seen = o.also_seen;
                also_first = o.also_first;
                turn = λ h. absurd (ne (one_holder s.views j id u v r.single g at h holds));
                read = λ h. absurd (ne (one_holder s.views j id u v r.single g at (o.read h).0 holds));
                tells = o.tells;
              })
              record {
                seen = f.seen;
                idle = λ e. absurd (cc (sym is ∙ e));
                based = f.based;
                mine = f.mine;
                listed = f.listed;
                also_seen = f.also_seen;
                also_first = f.also_first;
                turn = λ h. absurd (cc h);
                read = λ h. absurd (cc h);
                tells = λ h. absurd (cc h);
              });
          home = λ none_holds. (y, set_here s.homes 0 (some (Some y)) (omega (arith, slots)), same_list ∙ turn.2);
        },
        refl,
      )
