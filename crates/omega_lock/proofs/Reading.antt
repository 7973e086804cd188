-- A seat that holds the turn and reads the length of the list keeps the rule: it has then seen the whole list.
-- k: the terms of the lock; s: the table before, and r: that it meets the rule; v and w: the seat before and after.
use Rattle.std.proofs.Common.{◌≡◌, ℕ, List, length, get_or, sym, refl, ap, ◌∙◌, arith, true, Option}
use mathlib.Core.Option.{none}
use Rattle.atomic_table.specs.Table.{Me, step, keeps, Allows}
use Rattle.omega_lock.specs.declared.seat_view.SeatView.{SeatView}
use Rattle.omega_lock.specs.declared.rule.Terms.{Terms}
use Rattle.omega_lock.specs.Lists.{entries_since}
use Rattle.omega_lock.specs.Views.{answers, holding, telling, ticket_is, ticketed}
use Rattle.omega_lock.specs.Rule.{Fits, LockRule, first_list}
use Rattle.omega_lock.specs.Steps.{Reads}
use Rattle.omega_lock.proofs.Sums.{total_set, set_word, each_set}
use Rattle.omega_lock.proofs.Entries.{starts_self}
use Rattle.omega_lock.proofs.SeatLists.{own_is_all}

module _ {T E : Type 0} (entries : T → List E) (number : E → Option ℕ) where
  pub read_keeps : (k : Terms T) (n id : ℕ) (me : Me (Option T) (SeatView E)) → me.0.has_number ≡ true
      → me.0.holds ≡ true
      → Allows (LockRule entries number k) n id me 3 (λ m. m) (Reads number (step n 3 0 0 none) me)
  read_keeps k n id me is holds s r one at fits =
      let b : ℕ = length (first_list entries k) in
      let v : SeatView E = me.0 in
      let f = r.fits id v at in
      let held : v.held ≡ r.log = (f.turn holds).2 in
      let w : SeatView E = record v { read = true; seen = v.held } in
      -- the sums after
      let turns = total_set (λ (u : SeatView E). u.turns) s.views id v w at in
      let holders = total_set holding s.views id v w at in
      let told_sum = total_set telling s.views id v w at in
      let own : v.own ≡ entries_since number b v.number r.log = own_is_all number v b r.log is f.listed in
      rw (set_word s.words 3) (
        w,
        keeps,
        tt,
        record {
          log = r.log;
          four_words = r.four_words;
          one_slot = r.one_slot;
          from_first = r.from_first;
          few = r.few;
          turns = omega (arith, turns, r.turns);
          tickets = λ m. let t = total_set (ticket_is m) s.views id v w at in omega (arith, t, r.tickets m);
          queue = let t = total_set ticketed s.views id v w at in omega (arith, t, r.queue);
          numbers = λ m. let t = total_set (answers m) s.views id v w at in omega (arith, t, r.numbers m);
          long = r.long;
          slow = omega (arith, told_sum, r.slow);
          single = omega (arith, holders, r.single);
          given = r.given;
          fits = each_set (Fits number b (get_or s.words 2 0) r.log) s.views id w (λ j u ne e. r.fits j u e) record {
            seen = rw held (starts_self r.log);
            idle = f.idle;
            based = f.based;
            mine = λ e. rw held own;
            listed = f.listed;
            also_seen = f.also_seen;
            also_first = f.also_first;
            turn = f.turn;
            read = λ h. (holds, held);
            tells = λ h. refl;
          };
          home = λ none_holds. r.home (omega (arith, holders, none_holds));
        },
        (refl, r.long ∙ ap length (sym held), rw held f.seen, rw (held, f.based is) own),
      )
