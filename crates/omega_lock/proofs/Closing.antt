-- What is known when the table is closed with the seat that all others were joined to.
use Rattle.std.proofs.Common.{◌≡◌, ℕ, suc, ◌<◌, ◌≤◌, List, [], ◌∷◌, ◌++◌, length, drop, get_or, sym, refl, ap, ◌∙◌, subst, arith, append_assoc, true, false, Some, None, Option, ⊎_elim, Bool, inl, inr}
use Rattle.std.specs.Prelude.{sum_by, if◌then◌else◌, All, Any, map}
use Rattle.std.proofs.lemmas.List.{get_or_append_left, length-append}
use Rattle.std.proofs.lemmas.List.Sums.{sum_by-cons, sum_by-append}
use Rattle.std.proofs.lemmas.List.Elements.{All-nil, All-cons, All-push, All-same}
use mathlib.Core.Option.{some, some-injective}
use mathlib.Core.Logic.{dite}
use native.Mathlib.Decide.{ℕ_discrete}
use lib.ListN.{get_elem?}
use Rattle.atomic_table.specs.Table.{State, Final, Seen}
use Rattle.atomic_table.specs.Seated.{TableId}
use Rattle.omega_lock.specs.declared.seat_view.SeatView.{SeatView}
use Rattle.omega_lock.specs.declared.rule.Terms.{Terms}
use Rattle.omega_lock.specs.Lists.{EachBelow, EachHasItsEntries, StartsWith, StartsWithEach, EachIs, entries_since, same}
use Rattle.omega_lock.specs.Views.{Rests, answers, holding, joined, lists, own_list}
use Rattle.omega_lock.specs.Rule.{LockRule, first_list}
use Rattle.omega_lock.specs.Seats.{LockState, SeatState, seat_state}
use Rattle.omega_lock.specs.Gathering.{EachIsKnown, Has, HasAll, In, pair_of}
use Rattle.omega_lock.proofs.Sums.{same-same, same-other, below_le, below_is, term_le, terms_le, sum_le}
use Rattle.omega_lock.proofs.Pigeons.{pigeons}

-- what holds of all elements holds of those before the last
pub all_before : {A : Type 0} (Q : A → Type 0) (all rest : List A) (last : A) → all ≡ rest ++ last ∷ [] → All Q all → All Q rest
all_before Q all rest last is h = λ k d lt.
    let more = length-append rest (last ∷ []) in
    subst Q (get_or_append_left rest (last ∷ []) d k lt) (All-same Q (rest ++ last ∷ []) all (sym is) h k d (omega (arith, lt, more)))

-- a sum of zeros
sum-none : {V : Type 0} (l : List V) → sum_by (λ (_ : V). 0) l ≡ 0
sum-none [] = refl
sum-none (x ∷ xs) = let h = sum-none xs in let c = sum_by-cons (λ _. 0) x xs in omega (arith, h, c)

module _ {A : Type 0} where
  -- what is in the first of two lists
  pub in_left : (x : A) (xs ys : List A) → In x xs → In x (xs ++ ys)
  in_left x [] ys h = absurd h
  in_left x (z ∷ zs) ys h = ⊎_elim (λ (e : x ≡ z). inl e) (λ (r : In x zs). inr (in_left x zs ys r)) h

  -- what is in the second
  pub in_right : (x : A) (xs ys : List A) → In x ys → In x (xs ++ ys)
  in_right x [] ys h = h
  in_right x (z ∷ zs) ys h = inr (in_right x zs ys h)

module _ {E : Type 0} where
  -- what a view keeps of a seat it keeps after one more join
  pub has_joined : (v w : SeatView E) (s : SeatState E) → Has v s → Has (joined v w) s
  has_joined v w s h = (
    subst (In (s.number, s.own)) (append_assoc (own_list v) v.kept (lists w)) (in_left (s.number, s.own) (lists v) (lists w) h.0),
    inr (⊎_elim (λ (e : s.seen ≡ v.seen). inl e) (λ (r : In s.seen v.also_seen). inr (inr (in_left s.seen v.also_seen w.also_seen r))) h.1),
    ⊎_elim (λ (e : s.first_length ≡ v.first_length). inl e) (λ (r : In s.first_length v.also_first). inr (inr (in_left s.first_length v.also_first w.also_first r))) h.2,
  )

  -- so it does of all seats that it keeps
  pub gathered_joined : (v w : SeatView E) (ss : List (SeatState E)) → HasAll v ss → HasAll (joined v w) ss
  gathered_joined v w [] g = tt
  gathered_joined v w (s ∷ ss) g = (has_joined v w s g.0, gathered_joined v w ss g.1)

module _ {E : Type 0} (number : E → Option ℕ) where
  -- the own list of a seat that is kept is all that the list has of its number
  pub listed_in : (base n : ℕ) (log own : List E) (ps : List (ℕ × List E))
      → EachHasItsEntries number base log ps → In (n, own) ps
      → own ≡ entries_since number base n log
  listed_in base n log own [] l h = absurd h
  listed_in base n log own (p ∷ ps) l h = ⊎_elim
      (λ (e : (n, own) ≡ p). ap (λ q. q.1) e ∙ l.0 ∙ ap (λ (q : ℕ × List E). entries_since number base q.0 log) (sym e))
      (λ (r : In (n, own) ps). listed_in base n log own ps l.1 r) h

module _ {E : Type 0} where
  -- the list goes on from what a kept seat had seen
  pub starts_each_in : (log x : List E) (xs : List (List E)) → StartsWithEach log xs → In x xs
      → StartsWith log x
  starts_each_in log x [] a h = absurd h
  starts_each_in log x (y ∷ ys) a h = ⊎_elim (λ (e : x ≡ y). subst (StartsWith log) (sym e) a.0) (λ (r : In x ys). starts_each_in log x ys a.1 r) h

-- one of numbers that are all this one
is_each : (n x : ℕ) (xs : List ℕ) → EachIs n xs → In x xs → x ≡ n
is_each n x [] a h = absurd h
is_each n x (y ∷ ys) a h = ⊎_elim (λ (e : x ≡ y). e ∙ a.0) (λ (r : In x ys). is_each n x ys a.1 r) h

module _ {T E : Type 0} (entries : T → List E) (number : E → Option ℕ) where
  -- the seat has all number_keeps and rests: nobody holds the turn
  pub closes : (k : Terms T) (s : State (Option T) (SeatView E)) (r : LockRule entries number k s) (id : ℕ) (v : SeatView E)
      → get_elem? s.views id ≡ some v → Rests v → k.callers ≤ length (lists v)
      → ((y : T) × (get_elem? s.homes 0 ≡ some (some (Some y))) × (entries y ≡ r.log)) × ((n : ℕ) → n < get_or s.words 0 0 → 1 ≤ answers n v)
  closes k s r id v at quiet all = (r.home nobody, all_there)
    where
      x : ℕ
      x = get_or s.words 0 0

      all_there : (n : ℕ) → n < x → 1 ≤ answers n v
      all_there n lt = pigeons (λ (p : ℕ × List E). p.0) x n (lists v)
          (λ m. let a = term_le (answers m) s.views id v at in let b = r.numbers m in omega (arith, a, b))
          (λ m. let a = term_le (answers m) s.views id v at in let b = r.numbers m in let c = below_le m x in omega (arith, a, b, c))
          (let f = r.few in omega (arith, f, all)) lt

      answers_own : (u : SeatView E) → u.has_number ≡ true → 1 ≤ answers u.number u
      answers_own u is = let c = sum_by-cons (λ (p : ℕ × List E). same u.number p.0) (u.number, u.own) u.kept in let one = same-same u.number in
          let l : answers u.number u ≡ sum_by (λ (p : ℕ × List E). same u.number p.0) ((u.number, u.own) ∷ u.kept) = ap (λ (z : Bool). sum_by (λ (p : ℕ × List E). same u.number p.0) ((if z then (u.number, u.own) ∷ [] else []) ++ u.kept)) is in
          omega (arith, c, one, l)

      no_holder : (j : ℕ) (u : SeatView E) → get_elem? s.views j ≡ some u → (has_number holds : Bool)
          → u.has_number ≡ has_number → u.holds ≡ holds → holding u ≤ 0
      no_holder j u e has_number false is h = rw h (omega arith)
      no_holder j u e false true is h = let f = r.fits j u e in let a = (f.turn h).0 in let b = (f.idle is).1 in absurd (cc (sym a ∙ b))
      no_holder j u e true true is h = dite (ℕ_discrete j id)
          (λ q. let z : u ≡ v = some-injective u v (sym e ∙ ap (λ i. get_elem? s.views i) q ∙ at) in let b : v.holds ≡ true = ap (λ (y : SeatView E). y.holds) (sym z) ∙ h in absurd (cc (sym b ∙ quiet.1)))
          (λ ne.
          let a = answers_own u is in
          let both = terms_le (answers u.number) s.views id j v u ne at e in
          let total = r.numbers u.number in
          let bound = below_le u.number x in
          let lt = below_is u.number x (omega (arith, a, both, total)) in
          let mine = all_there u.number lt in
          absurd (omega (arith, a, both, total, bound, mine)))

      nobody : sum_by holding s.views ≡ 0
      nobody = let z = sum-none s.views in let le = sum_le holding (λ _. 0) s.views (λ j u e. no_holder j u e u.has_number u.holds refl refl) in omega (arith, z, le)

module _ {E : Type 0} where
  -- a seat that was just joined is kept
  pub has_new : (of : TableId) (v w : SeatView E) (s : SeatState E)
      → w.has_number ≡ true → seat_state of w ≡ s → Has (joined v w) s
  has_new of v w s is same_seat = subst (Has (joined v w)) same_seat (
    subst (In (w.number, w.own)) (append_assoc (own_list v) v.kept (lists w)) (in_right (w.number, w.own) (lists v) (lists w) (subst (λ (z : Bool). In (w.number, w.own) ((if z then (w.number, w.own) ∷ [] else []) ++ w.kept)) (sym is) (inl refl))),
    inr (inr (inl refl)),
    inr (inl refl),
  )

  -- two lists of kept seats together
  pub gathered_more : (v : SeatView E) (ss ts : List (SeatState E)) → HasAll v ss → HasAll v ts
      → HasAll v (ss ++ ts)
  gathered_more v [] ts a b = b
  gathered_more v (s ∷ ss) ts a b = (a.0, gathered_more v ss ts a.1 b)

module _ {E : Type 0} (number : E → Option ℕ) where
  -- entries with numbers below a bound, where each such number is there
  known_all : (n : ℕ) (ps : List (ℕ × List E)) (es : List E)
      → ((m : ℕ) → m < n → 1 ≤ sum_by (λ (p : ℕ × List E). same m p.0) ps) → EachBelow number n es
      → EachIsKnown number ps es
  known_all n ps [] h g = tt
  known_all n ps (e ∷ es) h g = ((g.0.0, g.0.1, h g.0.0 g.0.2), known_all n ps es h g.1)

  -- a number that counts is the number of one of the seats
  any_number : (n : ℕ) (ss : List (SeatState E))
      → 1 ≤ sum_by (λ (s : SeatState E). same n s.number) ss → Any (λ (s : SeatState E). n ≡ s.number) ss
  any_number n [] h = absurd (omega (arith, h))
  any_number n (s ∷ ss) h = dite (ℕ_discrete n s.number)
      (λ e. (0, s, omega arith, refl, e))
      (λ ne. let c = sum_by-cons (λ (s : SeatState E). same n s.number) s ss in let z = same-other n s.number ne in
      let (k, x, lt, at, is) = any_number n ss (omega (arith, h, c, z)) in (suc k, x, omega (arith, lt), at, is))

  -- entries of known pairs are entries of the seats
  pub known_seats : (ps : List (ℕ × List E)) (ss : List (SeatState E)) (es : List E)
      → ((m : ℕ) → sum_by (λ (p : ℕ × List E). same m p.0) ps ≡ sum_by (λ (s : SeatState E). same m s.number) ss)
      → EachIsKnown number ps es → All (λ e. Any (λ (s : SeatState E). number e ≡ Some s.number) ss) es
  known_seats ps ss [] h g = All-nil (λ e. Any (λ (s : SeatState E). number e ≡ Some s.number) ss)
  known_seats ps ss (e ∷ es) h g =
      let (m, by, some_there) = g.0 in
      let all = h m in
      let (k, x, lt, at, is) = any_number m ss (omega (arith, some_there, all)) in
      All-cons (λ e. Any (λ (s : SeatState E). number e ≡ Some s.number) ss) e es (k, x, lt, at, by ∙ ap Some is) (known_seats ps ss es h g.1)

module _ {E : Type 0} where
  -- a number counts among the pairs as among the seats
  times_map : (m : ℕ) (ss : List (SeatState E))
      → sum_by (λ (p : ℕ × List E). same m p.0) (map pair_of ss) ≡ sum_by (λ (s : SeatState E). same m s.number) ss
  times_map m [] = refl
  times_map m (s ∷ ss) = let a = sum_by-cons (λ (p : ℕ × List E). same m p.0) (pair_of s) (map pair_of ss) in let b = sum_by-cons (λ (s : SeatState E). same m s.number) s ss in let c = times_map m ss in omega (arith, a, b, c)

  -- the pairs are those of all seats, also of the one that was taken out first
  pub all_pairs : (ps : List (ℕ × List E)) (all rest : List (SeatState E)) (first : SeatState E)
      → ps ≡ map pair_of (first ∷ rest) → all ≡ rest ++ first ∷ [] → (m : ℕ)
      → sum_by (λ (p : ℕ × List E). same m p.0) ps ≡ sum_by (λ (s : SeatState E). same m s.number) all
  all_pairs ps all rest first e is m =
      let f : SeatState E → ℕ = λ s. same m s.number in
      let a = ap (sum_by (λ (p : ℕ × List E). same m p.0)) e ∙ times_map m (first ∷ rest) in
      let b = sum_by-cons f first rest in
      let c = sum_by-append f rest (first ∷ []) in
      let d = sum_by-cons f first [] in
      let g = ap (sum_by f) is in
      omega (arith, a, b, c, d, g)

  -- one more pair after a join
  pub joined_pairs : (of : TableId) (v w : SeatView E) (s : SeatState E)
      → w.has_number ≡ true → w.kept ≡ [] → seat_state of w ≡ s
      → lists (joined v w) ≡ lists v ++ pair_of s ∷ []
  joined_pairs of v w s is nothing same_seat = sym (append_assoc (own_list v) v.kept (lists w)) ∙ ap (λ l. lists v ++ l) (only w is nothing ∙ ap (λ (t : SeatState E). pair_of t ∷ []) same_seat)
    where
      only : (w : SeatView E) → w.has_number ≡ true → w.kept ≡ [] → lists w ≡ (w.number, w.own) ∷ []
      only w is nothing = rw (is, nothing) refl

-- what is known of the value at the end, where the seat's view is v
module _ {T E : Type 0} (entries : T → List E) (number : E → Option ℕ) where
  abbrev pub Ended : LockState E → SeatView E → T → Type 0
  Ended l v y = EachIsKnown number (lists v) (drop (length l.first) (entries y)) × StartsWith (entries y) l.first
      × ((s : SeatState E) → Has v s → StartsWith (entries y) s.seen × (s.first_length ≡ length l.first) × (s.own ≡ entries_since number (length l.first) s.number (entries y)))

  -- the value in a slot
  abbrev value_in : Option T → T → T
  value_in None d = d
  value_in (Some y) d = y

  pub ended : (of : TableId) (k : Terms T) (id : ℕ) (v : SeatView E) (ws : List ℕ) (xs : List (Option T))
      → Final (Seen (LockRule entries number k) id v) ws xs → v.has_number ≡ true → Rests v → k.callers ≤ length (lists v)
      → (y : T) × (get_elem? xs 0 ≡ some (Some y)) × Ended (record { of = of; callers = k.callers; turns = k.turns; first = first_list entries k }) v y
  ended of k id v ws xs (s, (r, at), words, slots, homes) is quiet all =
      let (c, there) = closes entries number k s r id v at quiet all in
      let b : ℕ = length (first_list entries k) in
      let f = r.fits id v at in
      let log : entries c.0 ≡ r.log = c.2 in (
        c.0,
        homes 0 (Some c.0) c.1,
        rw log (
          known_all number (get_or s.words 0 0) (lists v) (drop b r.log) there r.given,
          r.from_first,
          λ t h. (starts_each_in r.log t.seen (v.seen ∷ v.also_seen) (f.seen, f.also_seen) h.1, is_each b t.first_length (v.first_length ∷ v.also_first) (f.based is, f.also_first) h.2, listed_in number b t.number r.log t.own (lists v) f.listed h.0),
        ),
      )

  -- the value that was taken out is the one that was at home
  pub same_value : (xs : List (Option T)) (r : Option T) (y z : T) → get_elem? xs 0 ≡ some r
      → get_elem? xs 0 ≡ some (Some y) → r ≡ Some z → y ≡ z
  same_value xs r y z a b c = ap (λ o. value_in o y) (some-injective (Some y) (Some z) (sym b ∙ a ∙ ap some c))

  -- and there was one
  pub no_none : (xs : List (Option T)) (r : Option T) (y : T) → get_elem? xs 0 ≡ some r
      → get_elem? xs 0 ≡ some (Some y) → r ≡ None → ⊥
  no_none xs r y a b c = let bad : Some y ≡ None = some-injective (Some y) None (sym b ∙ a ∙ ap some c) in absurd (cc bad)

module _ {E : Type 0} where
  -- what holds of each kept seat holds of all
  pub gathered_all : (v : SeatView E) (Q : SeatState E → Type 0) → ((s : SeatState E) → Has v s → Q s)
      → (ss : List (SeatState E)) → HasAll v ss → All Q ss
  gathered_all v Q h [] g = All-nil Q
  gathered_all v Q h (s ∷ ss) g = All-cons Q s ss (h s g.0) (gathered_all v Q h ss g.1)

  -- the seats as they were before the last was taken
  pub all_seats : (v : SeatView E) (Q : SeatState E → Type 0) (all rest : List (SeatState E)) (first : SeatState E)
      → ((s : SeatState E) → Has v s → Q s) → all ≡ rest ++ first ∷ [] → HasAll v (first ∷ rest)
      → All Q all
  all_seats v Q all rest first h is g = All-same Q all (rest ++ first ∷ []) is (All-push Q rest first (gathered_all v Q h rest g.1) (h first g.0))
