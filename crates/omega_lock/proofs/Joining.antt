-- A seat that another is joined to keeps the rule: it answers for the numbers of both.
-- k: the terms of the lock; s: the table before, and r: that it meets the rule; v and w: the two seats before.
use Rattle.std.proofs.Common.{◌≡◌, ◌⊎◌, ℕ, ◌+◌, ◌≤◌, List, [], ◌∷◌, ◌++◌, length, set, get_or, sym, refl, ap, ◌∙◌, subst, arith, length-append, append_assoc, inl, inr, true, Option, ⊎_elim, le-leb}
use Rattle.std.specs.Prelude.{sum_by}
use Rattle.std.proofs.lemmas.List.Sums.{sum_by-append}
use Rattle.std.proofs.lemmas.Bool.{lt-leb}
use mathlib.Core.Option.{some}
use mathlib.Core.Logic.{dite}
use native.Mathlib.Decide.{dec_le}
use lib.ListN.{get_elem?}
use Rattle.atomic_table.specs.Table.{Joins}
use Rattle.atomic_table.proofs.Lists.{set_else}
use Rattle.omega_lock.specs.declared.seat_view.SeatView.{SeatView}
use Rattle.omega_lock.specs.declared.rule.Terms.{Terms}
use Rattle.omega_lock.specs.Lists.{StartsWith, entries_since, same}
use Rattle.omega_lock.specs.Views.{Rests, answers, holding, joined, lists, longer, own_list, spent, telling, ticket_is, ticketed}
use Rattle.omega_lock.specs.Rule.{Fits, LockRule, first_list}
use Rattle.omega_lock.proofs.Sums.{total_set, each_set}
use Rattle.omega_lock.proofs.SeatLists.{own_is_all}
use Rattle.omega_lock.proofs.Entries.{starts_between, since_starts, listed_both, starts_each_both, each_is_both}

module _ {E : Type 0} where
  pub longer_is : (xs ys : List E)
      → ((longer xs ys ≡ xs) × (length ys ≤ length xs)) ⊎ ((longer xs ys ≡ ys) × (length xs ≤ length ys))
  longer_is xs ys = dite (dec_le (length ys) (length xs))
      (λ h. inl (rw (le-leb (length ys) (length xs) h) refl, h))
      (λ h. inr (rw (lt-leb (length ys) (length xs) (omega (arith, h))) refl, omega (arith, h)))

  -- of two beginnings of one list the longer begins with the shorter
  pub begins_longer : (l a b : List E) → StartsWith l a → StartsWith l b → length b ≤ length a
      → StartsWith a b
  begins_longer l a [] s t h = (a, refl)
  begins_longer l [] (y ∷ ys) s t h = absurd (omega arith)
  begins_longer [] (x ∷ xs) (y ∷ ys) s t h = absurd (omega (arith, ap length s.1 ∙ length-append (x ∷ xs) s.0))
  begins_longer (z ∷ zs) (x ∷ xs) (y ∷ ys) s t h =
      let s' : zs ≡ xs ++ s.0 = ap tail s.1 in
      let t' : zs ≡ ys ++ t.0 = ap tail t.1 in
      let e : x ≡ y = ap (λ l. head l x) (sym s.1 ∙ t.1) in
      let more = begins_longer zs xs ys (s.0, s') (t.0, t') (omega arith) in
      (more.0, ap (λ l. x ∷ l) more.1 ∙ ap (λ u. u ∷ (ys ++ more.0)) e)
    where
      tail : List E → List E
      tail [] = []
      tail (x ∷ xs) = xs

      head : List E → E → E
      head [] d = d
      head (x ∷ xs) d = x

module _ {T E : Type 0} (entries : T → List E) (number : E → Option ℕ) where
  pub join_keeps : (k : Terms T) (id other : ℕ) (v w : SeatView E) → v.has_number ≡ true → w.has_number ≡ true → Rests v → Rests w
      → Joins (LockRule entries number k) id v other w (joined v w) spent
  join_keeps k id other v w is has quiet still s r at ne at' =
      let b : ℕ = length (first_list entries k) in
      let x : ℕ = get_or s.words 2 0 in
      let both : SeatView E = joined v w in
      let there : get_elem? s.views other ≡ some w = sym (set_else s.views id other both ne) ∙ at' in
      let f = r.fits id v at in
      let g = r.fits other w there in
      -- the sums after
      let turns = total_set (λ (u : SeatView E). u.turns) s.views id v both at in
      let turns' = total_set (λ (u : SeatView E). u.turns) (set s.views id both) other w spent at' in
      let holders = total_set holding s.views id v both at in
      let holders' = total_set holding (set s.views id both) other w spent at' in
      let w_holds : holding w ≡ 0 = rw still.1 refl in
      let told_sum = total_set telling s.views id v both at in
      let told_sum' = total_set telling (set s.views id both) other w spent at' in
      let w_told : telling w ≡ 0 = rw still.3 refl in
      let all : lists both ≡ lists v ++ lists w = sym (append_assoc (own_list v) v.kept (lists w)) in
      let own : v.own ≡ entries_since number b v.number r.log = own_is_all number v b r.log is f.listed in
      let seen : StartsWith r.log both.seen = ⊎_elim
      (λ (h : (longer v.seen w.seen ≡ v.seen) × (length w.seen ≤ length v.seen)). subst (StartsWith r.log) (sym h.0) f.seen)
      (λ (h : (longer v.seen w.seen ≡ w.seen) × (length v.seen ≤ length w.seen)). subst (StartsWith r.log) (sym h.0) g.seen)
      (longer_is v.seen w.seen) in
      let mine : v.own ≡ entries_since number b v.number both.seen = ⊎_elim
      (λ (h : (longer v.seen w.seen ≡ v.seen) × (length w.seen ≤ length v.seen)). f.mine is ∙ ap (entries_since number b v.number) (sym h.0))
      (λ (h : (longer v.seen w.seen ≡ w.seen) × (length v.seen ≤ length w.seen)).
      let p = since_starts number b v.number r.log w.seen g.seen in
      let q = since_starts number b v.number w.seen v.seen (begins_longer r.log w.seen v.seen g.seen f.seen h.1) in
      f.mine is ∙ sym (starts_between (entries_since number b v.number r.log) (entries_since number b v.number w.seen) (entries_since number b v.number v.seen) p q (sym own ∙ f.mine is)) ∙ ap (entries_since number b v.number) (sym h.0))
      (longer_is v.seen w.seen) in
      record {
        log = r.log;
        four_words = r.four_words;
        one_slot = r.one_slot;
        from_first = r.from_first;
        few = r.few;
        turns = omega (arith, turns, turns', r.turns);
        tickets = λ m.
            let t = total_set (ticket_is m) s.views id v both at in
            let t' = total_set (ticket_is m) (set s.views id both) other w spent at' in
            let none_there : ticket_is m w ≡ 0 = rw still.0 refl in
            omega (arith, t, t', none_there, r.tickets m);
        queue = let t = total_set ticketed s.views id v both at in let t' = total_set ticketed (set s.views id both) other w spent at' in let none_there : ticketed w ≡ 0 = rw still.0 refl in omega (arith, t, t', none_there, r.queue);
        numbers = λ m.
            let t = total_set (answers m) s.views id v both at in
            let t' = total_set (answers m) (set s.views id both) other w spent at' in
            let sum : answers m both ≡ answers m v + answers m w = ap (sum_by (λ (p : ℕ × List E). same m p.0)) all ∙ sum_by-append (λ (p : ℕ × List E). same m p.0) (lists v) (lists w) in
            omega (arith, t, t', sum, r.numbers m);
        long = r.long;
        slow = omega (arith, told_sum, told_sum', w_told, r.slow);
        single = omega (arith, holders, holders', r.single);
        given = r.given;
        fits = each_set (Fits number b x r.log) (set s.views id both) other spent
            (λ j u n e. each_set (Fits number b x r.log) s.views id both (λ j u n e. r.fits j u e) record {
              seen = seen;
              idle = λ h. absurd (cc (sym is ∙ h));
              based = f.based;
              mine = λ h. mine;
              listed = rw all (listed_both number b r.log (lists v) (lists w) f.listed g.listed);
              also_seen = starts_each_both r.log (v.seen ∷ w.seen ∷ v.also_seen) w.also_seen (f.seen, (g.seen, f.also_seen)) g.also_seen;
              also_first = each_is_both b (w.first_length ∷ v.also_first) w.also_first (g.based has, f.also_first) g.also_first;
              turn = f.turn;
              read = λ h. absurd (cc (sym quiet.2 ∙ h));
              tells = f.tells;
            } j u e)
            record {
              seen = (r.log, refl);
              idle = λ h. (refl, refl);
              based = λ h. absurd (cc h);
              mine = λ h. absurd (cc h);
              listed = tt;
              also_seen = tt;
              also_first = tt;
              turn = λ h. absurd (cc h);
              read = λ h. absurd (cc h);
              tells = λ h. absurd (cc h);
            };
        home = λ none_holds. r.home (omega (arith, holders, holders', w_holds, none_holds));
      }
