-- A seat that tells of one more entry keeps the rule: the list, what it has seen and its own list get that entry.
-- k: the terms of the lock; s: the table before, and r: that it meets the rule; v and w: the seat before and after.
use Rattle.std.proofs.Common.{◌≡◌, ◌≢◌, ℕ, ◌+◌, ◌*◌, ◌%◌, ◌^◌, ◌<◌, ◌≤◌, List, [], ◌∷◌, ◌++◌, length, drop, set, get_or, sym, refl, ap, ◌∙◌, arith, length-set, length-append, get_or-set_other, get_or-set_same, true, false, Some, None, Option, Bool, mul-le-mul_right}
use Rattle.std.specs.Prelude.{sum_by}
use Rattle.std.proofs.lemmas.List.Sums.{sum_by-cons}
use mathlib.Core.Option.{some, none}
use lib.ListN.{get_elem?}
use Rattle.atomic_table.specs.Table.{Me, step, keeps, Allows}
use Rattle.omega_lock.specs.declared.seat_view.SeatView.{SeatView}
use Rattle.omega_lock.specs.declared.rule.Terms.{Terms}
use Rattle.omega_lock.specs.Lists.{EachHasItsEntries, StartsWith, entries_since, same}
use Rattle.omega_lock.specs.Views.{answers, holding, lists, telling, ticket_is, ticketed}
use Rattle.omega_lock.specs.Rule.{Fits, LockRule, first_list}
use Rattle.omega_lock.specs.Steps.{Publishes}
use Rattle.omega_lock.proofs.Sums.{same-same, below_le, below_is, total_set, term_le, terms_le, sum_le, each_set}
use Rattle.omega_lock.proofs.Holders.{one_holder}
use Rattle.omega_lock.proofs.SeatLists.{own_first, own_and_kept}
use Rattle.omega_lock.proofs.Entries.{starts_self, starts_trans, drop_more, starts_length, since_mine, listed_other, given_both, starts_each_more}

-- the value in the slot that a seat has
abbrev in_hand : {T : Type 0} → List (ℕ × Option T) → T → T
in_hand [] d = d
in_hand ((n, None) ∷ xs) d = d
in_hand ((n, Some y) ∷ xs) d = y

-- the last entry
abbrev last_of : {E : Type 0} → List E → E → E
last_of [] d = d
last_of (x ∷ xs) d = last_of xs x

last_append : {E : Type 0} (l : List E) (e d : E) → last_of (l ++ e ∷ []) d ≡ e
last_append [] e d = refl
last_append (x ∷ xs) e d = last_append xs e x

module _ {T E : Type 0} (entries : T → List E) (number : E → Option ℕ) where
  pub publish_keeps : (k : Terms T) (n id : ℕ) (me : Me (Option T) (SeatView E)) (y : T) (e : E)
      → k.callers * k.turns < 2 ^ 62 → length (first_list entries k) < 2 ^ 63
      → me.1 ≡ (0, Some y) ∷ [] → me.0.has_number ≡ true → me.0.holds ≡ true → me.0.read ≡ true
      → me.0.told ≡ false → entries y ≡ me.0.held ++ e ∷ [] → number e ≡ Some me.0.number
      → Allows (LockRule entries number k) n id me 3 (λ m. (m + 1) % 2 ^ 64) (Publishes entries number (step n 3 1 0 none) me)
  publish_keeps k n id me y e small short slot is holds read untold more by s r one at fits =
      let x : ℕ = get_or s.words 3 0 in
      let b : ℕ = length (first_list entries k) in
      let v : SeatView E = me.0 in
      let f = r.fits id v at in
      let log : List E = r.log in
      let held : v.held ≡ log = (f.turn holds).2 in
      let new : entries y ≡ log ++ e ∷ [] = more ∙ ap (λ l. l ++ e ∷ []) held in
      let w : SeatView E = record v { told = true; held = log ++ e ∷ []; seen = log ++ e ∷ []; own = v.own ++ e ∷ [] } in
      -- the word stays below its end
      let most : get_or s.words 0 0 * k.turns ≤ k.callers * k.turns = mul-le-mul_right k.turns r.few in
      let few_told : sum_by telling s.views ≤ sum_by holding s.views = sum_le telling holding s.views (λ j u h. tellers u (r.fits j u h) u.told refl) in
      let room : x + 1 < 2 ^ 64 = omega (arith, r.slow, r.turns, r.single, few_told, r.queue, most, small, short) in
      let next : (x + 1) % 2 ^ 64 ≡ x + 1 = omega (arith, room) in
      -- the words after
      let size : 4 ≡ length s.words = sym r.four_words in
      let here : get_or (set s.words 3 (x + 1)) 3 0 ≡ x + 1 = get_or-set_same s.words 3 (x + 1) 0 (omega (arith, size)) in
      let w0 : get_or (set s.words 3 (x + 1)) 0 0 ≡ get_or s.words 0 0 = get_or-set_other s.words 3 0 (x + 1) 0 (λ e. omega arith) in
      let w1 : get_or (set s.words 3 (x + 1)) 1 0 ≡ get_or s.words 1 0 = get_or-set_other s.words 3 1 (x + 1) 0 (λ e. omega arith) in
      let w2 : get_or (set s.words 3 (x + 1)) 2 0 ≡ get_or s.words 2 0 = get_or-set_other s.words 3 2 (x + 1) 0 (λ e. omega arith) in
      -- the sums after
      let turns = total_set (λ (u : SeatView E). u.turns) s.views id v w at in
      let holders = total_set holding s.views id v w at in
      let told_sum = total_set telling s.views id v w at in
      let told_before : telling v ≡ 0 = rw untold refl in
      let longer : length (log ++ e ∷ []) ≡ length log + 1 = length-append log (e ∷ []) in
      let base : b ≤ length log = starts_length log (first_list entries k) r.from_first in
      let grown : StartsWith (log ++ e ∷ []) log = (e ∷ [], refl) in
      let ls : EachHasItsEntries number b log ((v.number, v.own) ∷ v.kept) = own_and_kept number v b log is f.listed in
      let own_more : v.own ++ e ∷ [] ≡ entries_since number b v.number (log ++ e ∷ []) = ap (λ l. l ++ e ∷ []) ls.0 ∙ sym (since_mine number b v.number log e base by) in
      -- only this view answers for its number, and only once
      let mine : answers v.number v ≡ 1 + sum_by (λ (p : ℕ × List E). same v.number p.0) v.kept =
      ap (sum_by (λ (p : ℕ × List E). same v.number p.0)) (own_first v is) ∙ sum_by-cons (λ (p : ℕ × List E). same v.number p.0) (v.number, v.own) v.kept ∙ ap (λ (z : ℕ). z + sum_by (λ (p : ℕ × List E). same v.number p.0) v.kept) (same-same v.number) in
      let total = r.numbers v.number in
      let bound = below_le v.number (get_or s.words 0 0) in
      let least = term_le (answers v.number) s.views id v at in
      let given_it : v.number < get_or s.words 0 0 = below_is v.number (get_or s.words 0 0) (omega (arith, mine, total, least)) in
      let kept_none : sum_by (λ (p : ℕ × List E). same v.number p.0) v.kept ≡ 0 = omega (arith, mine, total, bound, least) in
      let others_none : (j : ℕ) (u : SeatView E) → j ≢ id → get_elem? s.views j ≡ some u → answers v.number u ≡ 0 = λ j u ne g. let both = terms_le (answers v.number) s.views id j v u ne at g in omega (arith, both, mine, total, bound) in
      rw next (
        w,
        keeps,
        tt,
        record {
          log = log ++ e ∷ [];
          four_words = length-set s.words 3 (x + 1) ∙ r.four_words;
          one_slot = r.one_slot;
          from_first = starts_trans (log ++ e ∷ []) log (first_list entries k) grown r.from_first;
          few = rw w0 r.few;
          turns = rw (w0, w1) (omega (arith, turns, r.turns));
          tickets = λ m. let t = total_set (ticket_is m) s.views id v w at in rw (w1, w2) (omega (arith, t, r.tickets m));
          queue = let t = total_set ticketed s.views id v w at in rw (w1, w2) (omega (arith, t, r.queue));
          numbers = λ m. let t = total_set (answers m) s.views id v w at in let c = same_answers m v e is in rw w0 (omega (arith, t, c, r.numbers m));
          long = rw here (omega (arith, longer, r.long));
          slow = rw (here, w2) (omega (arith, told_sum, told_before, r.slow));
          single = omega (arith, holders, r.single);
          given = rw (w0, drop_more b log (e ∷ []) base) (given_both number (get_or s.words 0 0) (drop b log) (e ∷ []) r.given ((v.number, by, given_it), tt));
          fits = rw w2 (each_set (Fits number b (get_or s.words 2 0) (log ++ e ∷ [])) s.views id w
              (λ j u ne g. let o = r.fits j u g in
              let alone : u.holds ≡ true → v.holds ≡ true → j ≡ id = λ h1 h2. one_holder s.views j id u v r.single g at h1 h2 in
              record {
                seen = starts_trans (log ++ e ∷ []) log u.seen grown o.seen;
                idle = o.idle;
                based = o.based;
                mine = o.mine;
                listed = listed_other number b v.number log e (lists u) base by (others_none j u ne g) o.listed;
                also_seen = starts_each_more log e u.also_seen o.also_seen;
                also_first = o.also_first;
                turn = λ h. absurd (ne (alone h holds));
                read = λ h. absurd (ne (alone (o.read h).0 holds));
                tells = o.tells;
              })
              record {
                seen = starts_self (log ++ e ∷ []);
                idle = λ h. absurd (cc (sym is ∙ h));
                based = f.based;
                mine = λ h. own_more;
                listed = rw is (own_more, listed_other number b v.number log e v.kept base by kept_none ls.1);
                also_seen = starts_each_more log e v.also_seen f.also_seen;
                also_first = f.also_first;
                turn = λ h. ((f.turn holds).0, (f.turn holds).1, refl);
                read = λ h. (holds, refl);
                tells = λ h. read;
              });
          home = λ none_holds. let one_here : holding v ≡ 1 = rw holds refl in let some_here = term_le holding s.views id v at in absurd (omega (arith, holders, none_holds, one_here, some_here));
        },
        λ z d q m. let same_value : y ≡ z = ap (λ l. in_hand l y) (sym slot ∙ q) in
            let same_list : log ++ e ∷ [] ≡ entries z = sym new ∙ ap entries same_value in
            let same_entry : e ≡ d = sym (last_append log e e) ∙ ap (λ l. last_of l e) (same_list ∙ m) ∙ last_append v.held d e in
            rw (← same_list, ← same_entry) (refl, rw (f.based is) own_more),
      )
    where
      -- only who holds the turn has told
      tellers : {b x : ℕ} {log : List E} (u : SeatView E) → Fits number b x log u → (h : Bool)
          → u.told ≡ h → telling u ≤ holding u
      tellers u g false t = rw t (omega arith)
      tellers u g true t = let h = (g.read (g.tells t)).0 in rw (t, h) (omega arith)

      -- it answers for the same numbers
      same_answers : (m : ℕ) (v : SeatView E) (e : E) → v.has_number ≡ true → answers m (record v { own = v.own ++ e ∷ [] }) ≡ answers m v
      same_answers m v e is = rw is refl
