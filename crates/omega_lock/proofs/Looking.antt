-- A seat that looks whether its ticket is served keeps the rule: where it is, the turn is the seat's, with the slot.
-- k: the terms of the lock; s: the table before, and r: that it meets the rule; v and w: the seat before and after.
use Rattle.std.proofs.Common.{◌≡◌, ℕ, ◌≤◌, List, length, set, get_or, sym, refl, ◌∙◌, arith, length-set, true, false, Some, Option, Bool}
use Rattle.std.specs.Prelude.{sum_by}
use mathlib.Core.Option.{some, none}
use mathlib.Core.Logic.{dite}
use native.Mathlib.Decide.{ℕ_discrete}
use lib.ListN.{get_elem?}
use Rattle.atomic_table.specs.Table.{Me, State, step, keeps, takes, Allows}
use Rattle.atomic_table.proofs.Lists.{set_again}
use Rattle.omega_lock.specs.declared.seat_view.SeatView.{SeatView}
use Rattle.omega_lock.specs.declared.rule.Terms.{Terms}
use Rattle.omega_lock.specs.Views.{answers, holding, telling, ticket_is, ticketed}
use Rattle.omega_lock.specs.Rule.{Fits, LockRule, first_list}
use Rattle.omega_lock.specs.Steps.{Looks}
use Rattle.omega_lock.proofs.Sums.{same-same, below_le, total_set, sum_gap, set_word, each_set}

module _ {T E : Type 0} (entries : T → List E) (number : E → Option ℕ) where
  -- the seat whose ticket is served takes the slot
  served_now : (k : Terms T) (s : State (Option T) (SeatView E)) (r : LockRule entries number k s) (id : ℕ) (v : SeatView E)
      → get_elem? s.views id ≡ some v → v.has_ticket ≡ true → v.holds ≡ false → v.read ≡ false
      → get_or s.words 2 0 ≡ v.ticket
      → (y : T) × (get_elem? s.homes 0 ≡ some (some (Some y))) × LockRule entries number k (record { words = s.words; homes = set s.homes 0 none; views = set s.views id (record v { holds = true; held = entries y }) })
  served_now k s r id v at has_ticket free unread hit =
      let b : ℕ = length (first_list entries k) in
      let x : ℕ = get_or s.words 2 0 in
      let f = r.fits id v at in
      let holder_has : (j : ℕ) (u : SeatView E) → get_elem? s.views j ≡ some u → holding u ≤ ticket_is x u = λ j u e. bounded u (r.fits j u e) u.holds refl in
      let gap = sum_gap holding (ticket_is x) s.views id v at holder_has in
      let mine : ticket_is x v ≡ 1 = rw (has_ticket, hit) (same-same v.ticket) in
      let zero_here : holding v ≡ 0 = rw free refl in
      let t = r.tickets x in
      let bound = below_le x (get_or s.words 1 0) in
      let nobody : sum_by holding s.views ≡ 0 = omega (arith, gap, mine, zero_here, t, bound) in
      let home = r.home nobody in
      let w : SeatView E = record v { holds = true; held = entries home.0 } in
      -- the sums after
      let turns = total_set (λ (u : SeatView E). u.turns) s.views id v w at in
      let holders = total_set holding s.views id v w at in
      let told_sum = total_set telling s.views id v w at in (
        home.0,
        home.1,
        record {
          log = r.log;
          four_words = r.four_words;
          one_slot = length-set s.homes 0 none ∙ r.one_slot;
          from_first = r.from_first;
          few = r.few;
          turns = omega (arith, turns, r.turns);
          tickets = λ m. let t = total_set (ticket_is m) s.views id v w at in omega (arith, t, r.tickets m);
          queue = let t = total_set ticketed s.views id v w at in omega (arith, t, r.queue);
          numbers = λ m. let t = total_set (answers m) s.views id v w at in omega (arith, t, r.numbers m);
          long = r.long;
          slow = omega (arith, told_sum, r.slow);
          single = omega (arith, holders, nobody, zero_here);
          given = r.given;
          fits = each_set (Fits number b x r.log) s.views id w (λ j u ne e. r.fits j u e) record {
            seen = f.seen;
            idle = f.idle;
            based = f.based;
            mine = f.mine;
            listed = f.listed;
            also_seen = f.also_seen;
            also_first = f.also_first;
            turn = λ _. (has_ticket, sym hit, home.2);
            read = λ h. absurd (cc (sym unread ∙ h));
            tells = f.tells;
          };
          home = λ none_holds. absurd (omega (arith, holders, zero_here, none_holds));
        },
      )
    where
      bounded : (u : SeatView E)
          → Fits number (length (first_list entries k)) (get_or s.words 2 0) r.log u → (h : Bool)
          → u.holds ≡ h → holding u ≤ ticket_is (get_or s.words 2 0) u
      bounded u g false is = rw is (omega arith)
      bounded u g true is = let t = g.turn is in let c = same-same (get_or s.words 2 0) in rw (is, t.0, t.1) (omega (arith, c))

  pub look_keeps : (k : Terms T) (n id : ℕ) (me : Me (Option T) (SeatView E)) → me.0.has_ticket ≡ true
      → me.0.holds ≡ false → me.0.read ≡ false
      → Allows (LockRule entries number k) n id me 2 (λ m. m) (Looks entries (step n 2 0 0 none) me)
  look_keeps k n id me has_ticket free unread s r one at fits =
      rw (set_word s.words 2) (
      dite (ℕ_discrete (get_or s.words 2 0) me.0.ticket)
      (λ hit. let t = served_now k s r id me.0 at has_ticket free unread hit in (record me.0 { holds = true; held = entries t.0 }, takes 0 (Some t.0), t.1, t.2, ((λ _. (t.0, refl)), λ miss. absurd (miss hit))))
      (λ miss. (me.0, keeps, tt, rw (set_again s.views id me.0 at) r, ((λ hit. absurd (miss hit)), λ _. refl)))
      )
