-- To cut rows in order where the round changes is to gather the rows of each round.
use Rattle.std.proofs.Common.{◌≡◌, ℕ, ◌+◌, ◌/◌, ◌<◌, ◌≤◌, ◌==◌, Bool, true, false, cond, not, if◌then◌else◌, List, [], ◌∷◌, ◌++◌, map, refl, ap, ap₂, sym, ◌∙◌, inl, inr, arith, append-nil, append_assoc}
use Rattle.std.specs.List.{filter, AllByRecursion as Each}
use Rattle.std.proofs.Math.Nat.{mul-le-mul_left}
use Rattle.std.proofs.lemmas.Grind.{flat_map-append}
use Rattle.std.proofs.lemmas.Bool.{eq-eqb, ne_eqb, eqb-true, eqb-false, cases_lt}
use Rattle.omega_model.proofs.Lists.{each_filter, each_map, each_append, filter_every}
use Rattle.omega_running.proofs.Lists.{filter_left, filter_right}
use Rattle.omega_model.specs.Feed.{time_of, event_rows, feed, round_number, is_of_round, each_once, round_at, rounds}
use Rattle.omega_model.specs.Lawful.{rows_of}
use Rattle.omega_model.specs.declared.rows.Row.{Row}
use Rattle.omega_model.specs.declared.rows.Round.{Round}
use Rattle.omega_model.specs.declared.rows.TraceTables.{TraceTables}
use Rattle.omega_feed.specs.Events.{Rise}
use Rattle.omega_feed.specs.Rounds.{gathered}
use Rattle.omega_feed.proofs.Rising.{rise_by_time}

-- the round of these rows, unless there are none
abbrev pub closed : ℕ → List Row → List Round
closed number [] = []
closed number (row ∷ rows) = record { number = number; rows = row ∷ rows } ∷ []

-- the rounds that come of the rows of a round so far and those that follow
abbrev cut : ℕ → ℕ → List Row → List Row → List Round
cut window number rows [] = closed number rows
cut window number rows (row ∷ rest) =
    if round_number window row == number then cut window number (rows ++ row ∷ []) rest
    else closed number rows ++ cut window (round_number window row) (row ∷ []) rest

pub each_of_once : (P : ℕ → Type 0) (ns : List ℕ) → Each P ns → Each P (each_once ns)
each_of_once P [] e = tt
each_of_once P (n ∷ ns) e = (e.0, each_filter P (λ m. not (m == n)) (each_once ns) (each_of_once P ns e.1))

map_where : {X Y : Type 0} (f g : X → Y) (xs : List X) → Each (λ x. f x ≡ g x) xs → map f xs ≡ map g xs
map_where f g [] e = refl
map_where f g (x ∷ xs) e = rw (e.0, map_where f g xs e.1) refl

pub each_of_map : {X Y : Type 0} (P : Y → Type 0) (f : X → Y) (xs : List X) → Each (λ x. P (f x)) xs → Each P (map f xs)
each_of_map P f [] e = tt
each_of_map P f (x ∷ xs) e = (e.0, each_of_map P f xs e.1)

without_lower : (n : ℕ) (ms : List ℕ) → Each (λ m. n < m) ms → filter (λ m. not (m == n)) (each_once ms) ≡ each_once ms
without_lower n ms e =
    filter_every _ (each_once ms)
    (each_map (λ m. n < m) (λ m. not (m == n) ≡ true) (λ m p. rw (ne_eqb m n (λ e. omega arith)) refl) (each_once ms) (each_of_once _ ms e))

-- the first number once, and then the greater ones
once_front : (n : ℕ) (ns ms : List ℕ) → Each (λ k. k ≡ n) ns → Each (λ m. n < m) ms
    → n ∷ filter (λ m. not (m == n)) (each_once (ns ++ ms)) ≡ n ∷ each_once ms
once_front n [] ms e f = ap (λ z. n ∷ z) (without_lower n ms f)
once_front n (k ∷ ns) ms e f =
    let one : List ℕ → List ℕ = λ zs. n ∷ filter (λ m. not (m == n)) zs in
    ap (λ z. one (each_once (z ∷ (ns ++ ms)))) e.0
    ∙ ap one (once_front n ns ms e.1 f)
    ∙ rw (eq-eqb n n refl) (ap (λ z. n ∷ z) (without_lower n ms f))

map_parts : {X Y : Type 0} (f : X → Y) (xs ys : List X) → map f (xs ++ ys) ≡ map f xs ++ map f ys
map_parts f [] ys = refl
map_parts f (x ∷ xs) ys = ap (λ z. f x ∷ z) (map_parts f xs ys)

once_of : (w n : ℕ) (x : Row) (rows rest : List Row) → Each (λ r. round_number w r ≡ n) (x ∷ rows) → Each (λ r. n < round_number w r) rest
    → each_once (map (round_number w) ((x ∷ rows) ++ rest)) ≡ n ∷ each_once (map (round_number w) rest)
once_of w n x rows rest e f =
    ap (λ z. z ∷ filter (λ m. not (m == z)) (each_once (map (round_number w) (rows ++ rest)))) e.0
    ∙ ap (λ z. n ∷ filter (λ m. not (m == n)) (each_once z)) (map_parts (round_number w) rows rest)
    ∙ once_front n (map (round_number w) rows) (map (round_number w) rest) (each_of_map _ (round_number w) rows e.1) (each_of_map _ (round_number w) rest f)

-- the rows of a round that has closed
closed_rows : (w n : ℕ) (rows rest : List Row) → Each (λ r. round_number w r ≡ n) rows → Each (λ r. n < round_number w r) rest
    → filter (is_of_round w n) (rows ++ rest) ≡ rows
closed_rows w n rows rest e f =
    filter_left (is_of_round w n) rows rest (each_map (λ r. n < round_number w r) (λ r. is_of_round w n r ≡ false) (λ r p. ne_eqb _ _ (λ e. omega arith)) rest f)
    ∙ filter_every (is_of_round w n) rows (each_map (λ r. round_number w r ≡ n) (λ r. is_of_round w n r ≡ true) (λ r p. eq-eqb _ _ p) rows e)

later_round : (w n m : ℕ) (rows rest : List Row) → n < m → Each (λ r. round_number w r ≡ n) rows
    → round_at w (rows ++ rest) m ≡ round_at w rest m
later_round w n m rows rest h e =
    ap (λ z. let round : Round = record { number = m; rows = z } in round)
    (filter_right (is_of_round w m) rows rest (each_map (λ r. round_number w r ≡ n) (λ r. is_of_round w m r ≡ false) (λ r p. ne_eqb _ _ (λ e. omega arith)) rows e))

-- a round that has closed, and those that are gathered of later rows
pub closed_front : (w n : ℕ) (x : Row) (rows rest : List Row) → Each (λ r. round_number w r ≡ n) (x ∷ rows) → Each (λ r. n < round_number w r) rest
    → closed n (x ∷ rows) ++ gathered w rest ≡ gathered w ((x ∷ rows) ++ rest)
closed_front w n x rows rest e f =
    let later = map_where (round_at w rest) (round_at w ((x ∷ rows) ++ rest)) (each_once (map (round_number w) rest))
    (each_map (λ m. n < m) (λ m. round_at w rest m ≡ round_at w ((x ∷ rows) ++ rest) m) (λ m p. sym (later_round w n m (x ∷ rows) rest p e)) _
    (each_of_once (λ m. n < m) (map (round_number w) rest) (each_of_map (λ m. n < m) (round_number w) rest f))) in
    let here : closed n (x ∷ rows) ≡ round_at w ((x ∷ rows) ++ rest) n ∷ [] =
    ap (λ z. let round : Round = record { number = n; rows = z } in round ∷ []) (sym (closed_rows w n (x ∷ rows) rest e f)) in
    ap (λ z. z ++ gathered w rest) here
    ∙ ap (λ z. round_at w ((x ∷ rows) ++ rest) n ∷ z) later
    ∙ sym (ap (λ z. map (round_at w ((x ∷ rows) ++ rest)) z) (once_of w n x rows rest e f))

cut_from : (w n : ℕ) (x : Row) (rows rest : List Row)
    → Each (λ r. round_number w r ≡ n) (x ∷ rows) → Each (λ r. n ≤ round_number w r) rest → Rise (round_number w) rest
    → cut w n (x ∷ rows) rest ≡ gathered w ((x ∷ rows) ++ rest)
cut_from w n x rows [] e f r = closed_front w n x rows [] e tt
cut_from w n x rows (y ∷ rest) e f r =
    by_cases (round_number w y == n) refl
    (λ is. cut_from w n x (rows ++ y ∷ []) rest (e.0, each_append (λ r. round_number w r ≡ n) rows (y ∷ []) e.1 (is, tt)) f.1 r.1)
    (cut_from w (round_number w y) y [] rest (refl, tt) r.0 r.1) where
      by_cases : (b : Bool) → round_number w y == n ≡ b
          → (round_number w y ≡ n → cut w n (x ∷ (rows ++ y ∷ [])) rest ≡ gathered w ((x ∷ (rows ++ y ∷ [])) ++ rest))
          → cut w (round_number w y) (y ∷ []) rest ≡ gathered w (y ∷ rest)
          → cond b (cut w n (x ∷ (rows ++ y ∷ [])) rest) (closed n (x ∷ rows) ++ cut w (round_number w y) (y ∷ []) rest)
          ≡ gathered w ((x ∷ rows) ++ y ∷ rest)
      by_cases true is same new = same (eqb-true _ _ is) ∙ ap (λ z. gathered w (x ∷ z)) (append_assoc rows (y ∷ []) rest)
      by_cases false is same new =
          let above : n < round_number w y = let ne = eqb-false _ _ is in let low = f.0 in omega arith in
          ap (λ z. closed n (x ∷ rows) ++ z) new
          ∙ closed_front w n x rows (y ∷ rest) e (above, each_map (λ s. round_number w y ≤ round_number w s) (λ s. n < round_number w s) (λ s p. omega arith) rest r.0)

pub quotients_rise : (w a b : ℕ) → 0 < w → a ≤ b → a / w ≤ b / w
quotients_rise w a b h p =
    elim (cases_lt (b / w) (a / w)) [
      | inl less ↦ let more : b / w + 1 ≤ a / w = omega arith in absurd (omega (arith, mul-le-mul_left w more))
      | inr le ↦ le
    ]

rise_quotients : (w : ℕ) → 0 < w → (rows : List Row) → Rise time_of rows → Rise (round_number w) rows
rise_quotients w h [] r = tt
rise_quotients w h (row ∷ rows) r = (
  each_map (λ y. time_of row ≤ time_of y) (λ y. round_number w row ≤ round_number w y) (λ y p. quotients_rise w _ _ h p) rows r.0,
  rise_quotients w h rows r.1,
)

cut_all : (w : ℕ) (rows : List Row) → Rise (round_number w) rows → cut w 0 [] rows ≡ gathered w rows
cut_all w [] r = refl
cut_all w (row ∷ rows) r = by_cases (round_number w row == 0) refl (cut_from w (round_number w row) row [] rows (refl, tt) r.0 r.1) where
  by_cases : (b : Bool) → round_number w row == 0 ≡ b → cut w (round_number w row) (row ∷ []) rows ≡ gathered w (row ∷ rows)
      → cond b (cut w 0 (row ∷ []) rows) (cut w (round_number w row) (row ∷ []) rows) ≡ gathered w (row ∷ rows)
  by_cases true is e = ap (λ z. cut w z (row ∷ []) rows) (sym (eqb-true _ _ is)) ∙ e
  by_cases false is e = e

-- rows in order of time, cut where the round changes, are the rounds of the trace
cut_feed : (trace : TraceTables) (w : ℕ) → 0 < w → cut w 0 [] (feed trace) ≡ rounds trace w
cut_feed trace w h = cut_all w (feed trace) (rise_quotients w h (feed trace) (rise_by_time (event_rows trace)))

-- a round that has closed has its rows
closed_has : (n : ℕ) (rows : List Row) → rows_of (closed n rows) ≡ rows
closed_has n [] = refl
closed_has n (row ∷ rows) = append-nil (row ∷ rows)

-- rows that are cut stand in the rounds as they stood
cut_has : (w n : ℕ) (rows rest : List Row) → rows_of (cut w n rows rest) ≡ rows ++ rest
cut_has w n rows [] = closed_has n rows ∙ sym (append-nil rows)
cut_has w n rows (row ∷ rest) =
    by_cases (round_number w row == n) (cut_has w n (rows ++ row ∷ []) rest) (cut_has w (round_number w row) (row ∷ []) rest) where
      by_cases : (b : Bool) → rows_of (cut w n (rows ++ row ∷ []) rest) ≡ (rows ++ row ∷ []) ++ rest
          → rows_of (cut w (round_number w row) (row ∷ []) rest) ≡ row ∷ rest
          → rows_of (cond b (cut w n (rows ++ row ∷ []) rest) (closed n rows ++ cut w (round_number w row) (row ∷ []) rest)) ≡ rows ++ row ∷ rest
      by_cases true same new = same ∙ append_assoc rows (row ∷ []) rest
      by_cases false same new =
          flat_map-append (λ (r : Round). r.rows) (closed n rows) (cut w (round_number w row) (row ∷ []) rest)
          ∙ ap₂ (λ (some others : List Row). some ++ others) (closed_has n rows) new

-- the rounds of a trace have all its rows in order
pub rounds_have : (trace : TraceTables) (w : ℕ) → 0 < w → rows_of (rounds trace w) ≡ feed trace
rounds_have trace w h = ap rows_of (sym (cut_feed trace w h)) ∙ cut_has w 0 [] (feed trace)
