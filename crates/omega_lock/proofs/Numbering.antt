-- A seat that asks for a number keeps the rule: it gets the number, with its turns, where that is the next.
-- k: the terms of the lock; s: the table before, and r: that it meets the rule; v and w: the seat before and after.
use Rattle.std.proofs.Common.{◌≡◌, ℕ, ◌+◌, ◌*◌, ◌<◌, List, [], ◌∷◌, length, drop, set, get_or, sym, refl, ap, ◌∙◌, arith, length-set, length-append, get_or-set_other, get_or-set_same, true, false, Option}
use Rattle.std.specs.Prelude.{sum_by, ◌==◌}
use mathlib.Core.Option.{some, none}
use lib.ListN.{get_elem?}
use prog.Atomic.{either}
use Rattle.atomic_table.specs.Table.{State, Me, step, keeps, Allows, stepped, Act, Valid, carried_after}
use Rattle.atomic_table.proofs.Lists.{set_again, exchanged}
use Rattle.omega_lock.specs.declared.seat_view.SeatView.{SeatView}
use Rattle.omega_lock.specs.declared.rule.Terms.{Terms}
use Rattle.omega_lock.specs.Lists.{EachBelow, StartsWith, below, entries_since, same}
use Rattle.omega_lock.specs.Views.{answers, holding, telling, ticket_is, ticketed}
use Rattle.omega_lock.specs.Rule.{Fits, LockRule, first_list}
use Rattle.omega_lock.specs.Steps.{Numbers}
use Rattle.omega_lock.proofs.Sums.{below_more, total_set, set_word, each_set}
use Rattle.omega_lock.proofs.Entries.{since_starts, given_more, given_none}

nothing_before : {E : Type 0} (a b : List E) → StartsWith a b → a ≡ [] → b ≡ []
nothing_before a [] s e = refl
nothing_before a (x ∷ xs) s e = let h = ap length (sym e ∙ s.1) in let g = length-append (x ∷ xs) s.0 in absurd (omega (arith, h, g))

module _ {T E : Type 0} (entries : T → List E) (number : E → Option ℕ) where
  -- the word is i, and the seat gets the number i
  given_now : (k : Terms T) (s : State (Option T) (SeatView E)) (r : LockRule entries number k s) (id i : ℕ) (v : SeatView E)
      → get_elem? s.views id ≡ some v → v.has_number ≡ false → v.holds ≡ false → v.kept ≡ []
      → v.allotted ≡ k.turns → v.first_length ≡ length (first_list entries k) → i < k.callers
      → get_or s.words 0 0 ≡ i
      → LockRule entries number k (record { words = set s.words 0 (i + 1); homes = s.homes; views = set s.views id (record v { has_number = true; number = i; turns = v.allotted; own = [] }) })
  given_now k s r id i v at anon free nothing pays base few hit =
      let w : SeatView E = record v { has_number = true; number = i; turns = v.allotted; own = [] } in
      let b : ℕ = length (first_list entries k) in
      -- the words after
      let size : 4 ≡ length s.words = sym r.four_words in
      let here : get_or (set s.words 0 (i + 1)) 0 0 ≡ i + 1 = get_or-set_same s.words 0 (i + 1) 0 (omega (arith, size)) in
      let w1 : get_or (set s.words 0 (i + 1)) 1 0 ≡ get_or s.words 1 0 = get_or-set_other s.words 0 1 (i + 1) 0 (λ e. omega arith) in
      let w2 : get_or (set s.words 0 (i + 1)) 2 0 ≡ get_or s.words 2 0 = get_or-set_other s.words 0 2 (i + 1) 0 (λ e. omega arith) in
      let w3 : get_or (set s.words 0 (i + 1)) 3 0 ≡ get_or s.words 3 0 = get_or-set_other s.words 0 3 (i + 1) 0 (λ e. omega arith) in
      -- the sums after
      let turns = total_set (λ (u : SeatView E). u.turns) s.views id v w at in
      let holders = total_set holding s.views id v w at in
      let told_sum = total_set telling s.views id v w at in
      let f = r.fits id v at in
      let no = f.idle anon in
      let no_turns = no.0 in
      let before : get_or s.words 1 0 + sum_by (λ (u : SeatView E). u.turns) s.views ≡ i * k.turns = r.turns ∙ ap (λ (z : ℕ). z * k.turns) hit in
      let product : (i + 1) * k.turns ≡ i * k.turns + k.turns = omega arith in
      let given : EachBelow number i (drop b r.log) = rw (← hit) r.given in
      let none_yet : entries_since number b i r.log ≡ [] = given_none number i i (drop b r.log) (omega arith) given in
      let unseen : entries_since number b i v.seen ≡ [] = nothing_before (entries_since number b i r.log) (entries_since number b i v.seen) (since_starts number b i r.log v.seen f.seen) none_yet in
      record {
        log = r.log;
        four_words = length-set s.words 0 (i + 1) ∙ r.four_words;
        one_slot = r.one_slot;
        from_first = r.from_first;
        few = rw here (omega (arith, few));
        turns = rw (here, w1) (omega (arith, turns, before, product, no_turns, pays));
        tickets = λ m. let t = total_set (ticket_is m) s.views id v w at in rw (w1, w2) (omega (arith, t, r.tickets m));
        queue = let t = total_set ticketed s.views id v w at in rw (w1, w2) (omega (arith, t, r.queue));
        numbers = λ m. let t = total_set (answers m) s.views id v w at in
            let old : answers m v ≡ 0 = rw (anon, nothing) refl in
            let new : answers m w ≡ 0 + same m i = rw nothing refl in
            let all : sum_by (answers m) s.views ≡ below m i = r.numbers m ∙ ap (below m) hit in
            rw here (omega (arith, t, old, new, all, below_more m i));
        long = rw w3 r.long;
        slow = rw (w2, w3) (omega (arith, told_sum, r.slow));
        single = omega (arith, holders, r.single);
        given = rw here (given_more number i (i + 1) (drop b r.log) (omega arith) given);
        fits = rw w2 (each_set (Fits number b (get_or s.words 2 0) r.log) s.views id w (λ j u ne e. r.fits j u e) record {
          seen = f.seen;
          idle = λ e. absurd (cc e);
          based = λ e. base;
          mine = λ e. sym unseen;
          listed = (sym none_yet, rw nothing tt);
          also_seen = f.also_seen;
          also_first = f.also_first;
          turn = λ h. absurd (cc (sym free ∙ h));
          read = λ h. f.read h;
          tells = f.tells;
        });
        home = λ none_holds. r.home (omega (arith, holders, none_holds));
      }

  pub number_keeps : (k : Terms T) (n id i : ℕ) (me : Me (Option T) (SeatView E))
      → me.0.has_number ≡ false → me.0.holds ≡ false → me.0.kept ≡ []
      → me.0.allotted ≡ k.turns → me.0.first_length ≡ length (first_list entries k) → i < k.callers
      → Allows (LockRule entries number k) n id me 0 (λ m. either (m == i) (i + 1) m) (Numbers (step n 0 i (i + 1) none) me)
  number_keeps k n id i me anon free nothing pays base few s r one at fits =
      let v : SeatView E = me.0 in
      let x : ℕ = get_or s.words 0 0 in
      let w : SeatView E = record v { has_number = true; number = i; turns = v.allotted; own = [] } in
      exchanged x i (i + 1)
      (λ y. (w : SeatView E) × (a : Act (Option T)) × Valid s.homes me.1 a × LockRule entries number k (stepped s 0 y id me.1 w a) × Numbers (step n 0 i (i + 1) none) me x (w, carried_after me.1 a))
      (λ hit. (w, keeps, tt, given_now k s r id i v at anon free nothing pays base few hit, ((λ _. refl), λ miss. absurd (miss hit))))
      (λ miss. (v, keeps, tt, rw (set_word s.words 0, set_again s.views id v at) r, ((λ hit. absurd (miss hit)), λ _. refl)))
