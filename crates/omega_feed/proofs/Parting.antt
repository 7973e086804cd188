-- To cut three tables where the round changes is to gather the rows of each round.
use Rattle.std.proofs.Common.{◌≡◌, ℕ, ◌+◌, ◌-◌, ◌/◌, ◌<◌, ◌≤◌, ◌==◌, ◌⊎◌, Bool, true, false, List, [], ◌∷◌, ◌++◌, Option, Some, None, zero, suc, drop, get_or, length, map, take, refl, sym, ap, subst, ◌∙◌, inl, inr, arith, append-nil, append_assoc}
use Rattle.std.specs.Prelude.{IfSome, min, option_map}
use Rattle.std.specs.List.{filter, AllByRecursion as Each}
use Rattle.std.proofs.Math.Nat.{min-eq_left, min-eq_right}
use Rattle.std.proofs.Math.Seq.{drop-append_seam, take-append_seam}
use Rattle.std.proofs.lemmas.List.{drop-drop, length-append, length-drop, map-append}
use Rattle.std.proofs.lemmas.Bool.{cases_lt, eqb-true, eqb-false, ne_eqb}
use Rattle.std.proofs.lemmas.List.Elements.{filter-append}
use Rattle.omega_model.proofs.Lists.{each_append, each_map, filter_none}
use Rattle.omega_model.specs.Feed.{round_number, time_of}
use Rattle.omega_model.specs.Fields.{MachineFields, AttrFields, TaskFields}
use Rattle.omega_model.specs.declared.rows.Row.{Row}
use Rattle.omega_model.specs.declared.rows.Round.{Round}
use Rattle.omega_feed.specs.Events.{AreInOrder, Rise, has_time, merged}
use Rattle.omega_feed.specs.Rounds.{HasPiece, first_time, gathered, least, next_number, piece}
use Rattle.omega_feed.specs.declared.rounds.RoundPart.{RoundPart}
use Rattle.omega_feed.proofs.Cutting.{closed_front, quotients_rise}
use Rattle.omega_feed.proofs.Merging.{attr_time, each_merged, filter_merged, laid, machine_time, none_merged, task_time}
use Rattle.omega_feed.proofs.Rising.{one_order, rise_by_time}

-- whether the time of an item is of a round of this number, or of a later one
abbrev pub IsOf : {X : Type 0} → (X → ℕ) → ℕ → ℕ → X → Type 0
IsOf time w n x = time x / w ≡ n

abbrev pub IsLater : {X : Type 0} → (X → ℕ) → ℕ → ℕ → X → Type 0
IsLater time w n x = n < time x / w

rise_append : {X : Type 0} (key : X → ℕ) (P Q : X → Type 0) → ((x y : X) → P x → Q y → key x ≤ key y)
    → (xs ys : List X) → Each P xs → Each Q ys → Rise key xs → Rise key ys → Rise key (xs ++ ys)
rise_append key P Q both [] ys p q r s = s
rise_append key P Q both (x ∷ xs) ys p q r s = (
  each_append (λ y. key x ≤ key y) xs ys r.0 (each_map Q (λ y. key x ≤ key y) (λ y z. both x y p.0 z) ys q),
  rise_append key P Q both xs ys p.1 q r.1 s,
)

in_turn : (w n a b : ℕ) → 0 < w → a / w ≡ n → n < b / w → a ≤ b
in_turn w n a b h of later =
    elim (cases_lt b a) [
      | inl less ↦ let low : b / w ≤ a / w = quotients_rise w b a h (omega arith) in absurd (omega arith)
      | inr le ↦ le
    ]

module _ {X : Type 0} (time : X → ℕ) (w n k : ℕ) where
  none_later : k / w ≡ n → (xs : List X) → Each (IsLater time w n) xs → filter (has_time time k) xs ≡ []
  none_later is xs e =
      filter_none (has_time time k) xs
      (each_map (IsLater time w n) (λ x. has_time time k x ≡ false)
      (λ x p. ne_eqb (time x) k (λ same. let of : time x / w ≡ n = ap (λ z. z / w) same ∙ is in omega arith)) xs e)

  none_of : ((k / w ≡ n) → ⊥) → (xs : List X) → Each (IsOf time w n) xs → filter (has_time time k) xs ≡ []
  none_of not_of xs e =
      filter_none (has_time time k) xs
      (each_map (IsOf time w n) (λ x. has_time time k x ≡ false)
      (λ x p. ne_eqb (time x) k (λ same. not_of (sym (ap (λ z. z / w) same) ∙ p))) xs e)

  kept_of : k / w ≡ n → (xs ys : List X) → Each (IsLater time w n) ys → filter (has_time time k) (xs ++ ys) ≡ filter (has_time time k) xs
  kept_of is xs ys e = filter-append (has_time time k) xs ys ∙ ap (λ z. filter (has_time time k) xs ++ z) (none_later is ys e) ∙ append-nil (filter (has_time time k) xs)

  kept_later : ((k / w ≡ n) → ⊥) → (xs ys : List X) → Each (IsOf time w n) xs → filter (has_time time k) (xs ++ ys) ≡ filter (has_time time k) ys
  kept_later not_of xs ys e = filter-append (has_time time k) xs ys ∙ ap (λ z. z ++ filter (has_time time k) ys) (none_of not_of xs e)

laid_same : {ms ns : List MachineFields} {bs cs : List AttrFields} {ts us : List TaskFields} → ms ≡ ns → bs ≡ cs → ts ≡ us → laid ms bs ts ≡ laid ns cs us
laid_same e f g = rw (e, f, g) refl

-- three tables cut at a round's end
pub record AreCut (w n : ℕ) (pm rm : List MachineFields) (pb rb : List AttrFields) (pt rt : List TaskFields) : Type 0 where
  pub own_machines : Each (IsOf machine_time w n) pm
  pub own_attrs : Each (IsOf attr_time w n) pb
  pub own_tasks : Each (IsOf task_time w n) pt
  pub later_machines : Each (IsLater machine_time w n) rm
  pub later_attrs : Each (IsLater attr_time w n) rb
  pub later_tasks : Each (IsLater task_time w n) rt

module _ (w n : ℕ) (pm rm : List MachineFields) (pb rb : List AttrFields) (pt rt : List TaskFields) (h : 0 < w) (are : AreCut w n pm rm pb rb pt rt) where
  own : Each (λ row. round_number w row ≡ n) (merged pm pb pt)
  own = each_merged (λ row. round_number w row ≡ n) pm pb pt are.own_machines are.own_attrs are.own_tasks

  later : Each (λ row. n < round_number w row) (merged rm rb rt)
  later = each_merged (λ row. n < round_number w row) rm rb rt are.later_machines are.later_attrs are.later_tasks

  at_time : (k : ℕ) (b : Bool) → k / w == n ≡ b
      → filter (has_time time_of k) (merged (pm ++ rm) (pb ++ rb) (pt ++ rt)) ≡ filter (has_time time_of k) (merged pm pb pt ++ merged rm rb rt)
  at_time k true is =
      let of : k / w ≡ n = eqb-true _ _ is in
      filter_merged k (pm ++ rm) (pb ++ rb) (pt ++ rt)
      ∙ laid_same (kept_of machine_time w n k of pm rm are.later_machines) (kept_of attr_time w n k of pb rb are.later_attrs) (kept_of task_time w n k of pt rt are.later_tasks)
      ∙ sym (filter_merged k pm pb pt)
      ∙ sym (kept_of time_of w n k of (merged pm pb pt) (merged rm rb rt) later)
  at_time k false is =
      let not_of : (k / w ≡ n) → ⊥ = eqb-false _ _ is in
      filter_merged k (pm ++ rm) (pb ++ rb) (pt ++ rt)
      ∙ laid_same (kept_later machine_time w n k not_of pm rm are.own_machines) (kept_later attr_time w n k not_of pb rb are.own_attrs) (kept_later task_time w n k not_of pt rt are.own_tasks)
      ∙ sym (filter_merged k rm rb rt)
      ∙ sym (kept_later time_of w n k not_of (merged pm pb pt) (merged rm rb rt) own)

  two_parts : merged (pm ++ rm) (pb ++ rb) (pt ++ rt) ≡ merged pm pb pt ++ merged rm rb rt
  two_parts =
      one_order time_of (merged (pm ++ rm) (pb ++ rb) (pt ++ rt)) (merged pm pb pt ++ merged rm rb rt)
      (rise_by_time (laid (pm ++ rm) (pb ++ rb) (pt ++ rt)))
      (rise_append time_of (λ row. round_number w row ≡ n) (λ row. n < round_number w row) (λ x y. in_turn w n (time_of x) (time_of y) h)
      (merged pm pb pt) (merged rm rb rt) own later (rise_by_time (laid pm pb pt)) (rise_by_time (laid rm rb rt)))
      (λ row. at_time (time_of row) (time_of row / w == n) refl)

  -- the round at which they are cut comes before those of what is left
  pub next_round : (merged pm pb pt ≡ [] → ⊥)
      → (let round : Round = record { number = n; rows = merged pm pb pt } in round) ∷ gathered w (merged rm rb rt) ≡ gathered w (merged (pm ++ rm) (pb ++ rb) (pt ++ rt))
  next_round some = with_rows (merged pm pb pt) own some ∙ ap (gathered w) (sym two_parts) where
    with_rows : (rows : List Row) → Each (λ row. round_number w row ≡ n) rows → (rows ≡ [] → ⊥)
        → (let round : Round = record { number = n; rows = rows } in round) ∷ gathered w (merged rm rb rt) ≡ gathered w (rows ++ merged rm rb rt)
    with_rows [] e some = absurd (some refl)
    with_rows (row ∷ rows) e some = closed_front w n row rows (merged rm rb rt) e later

-- a number is the lesser of two
abbrev IsLeast : ℕ → Option ℕ → Option ℕ → Type 0
IsLeast n one other = IfSome one (λ a. n ≤ a) × IfSome other (λ a. n ≤ a) × ((one ≡ Some n) ⊎ (other ≡ Some n))

is_least : (n : ℕ) (one other : Option ℕ) → least one other ≡ Some n → IsLeast n one other
is_least n None None e = absurd (cc)
is_least n None (Some b) e = let same : b ≡ n = cc in (tt, omega arith, inr e)
is_least n (Some a) None e = let same : a ≡ n = cc in (omega arith, tt, inl e)
is_least n (Some a) (Some b) e =
    let same : min a b ≡ n = cc in
    elim (cases_lt b a) [
      | inl less ↦ let is : min a b ≡ b = min-eq_right (omega arith) in (omega arith, omega arith, inr (ap (λ z. Some z) (sym is ∙ same)))
      | inr le ↦ let is : min a b ≡ a = min-eq_left le in (omega arith, omega arith, inl (ap (λ z. Some z) (sym is ∙ same)))
    ]

no_least : (one other : Option ℕ) → least one other ≡ None → (one ≡ None) × (other ≡ None)
no_least None None e = (refl, refl)
no_least None (Some b) e = absurd (cc)
no_least (Some a) None e = absurd (cc)
no_least (Some a) (Some b) e = absurd (cc)

module _ {X : Type 0} (time : X → ℕ) where
  no_first : (xs : List X) → first_time time xs ≡ None → xs ≡ []
  no_first [] e = refl
  no_first (x ∷ xs) e = absurd (cc)

  from_first : (n : ℕ) (xs : List X) → Rise time xs → IfSome (first_time time xs) (λ a. n ≤ a) → Each (λ x. n ≤ time x) xs
  from_first n [] r low = tt
  from_first n (x ∷ xs) r low = (low, each_map (λ y. time x ≤ time y) (λ y. n ≤ time y) (λ y p. omega arith) xs r.0)

  reached : (w n : ℕ) → 0 < w → (xs : List X) → Rise time xs → IfSome (first_time time xs) (λ a. n ≤ a) → Each (λ x. n / w ≤ time x / w) xs
  reached w n h xs r low =
      each_map (λ x. n ≤ time x) (λ x. n / w ≤ time x / w) (λ x p. quotients_rise w n (time x) h p) xs (from_first n xs r low)

  is_first : (w n : ℕ) (xs : List X) → first_time time xs ≡ Some n → Each (IsLater time w (n / w)) xs → ⊥
  is_first w n [] e later = absurd (cc)
  is_first w n (x ∷ xs) e later =
      let same : time x ≡ n = cc in
      let other : time x / w ≡ n / w = ap (λ z. z / w) same in
      let low = later.0 in absurd (omega arith)

-- no row of three tables is of an earlier round, and not all are of later ones
pub record IsNext (w : ℕ) (ms : List MachineFields) (bs : List AttrFields) (ts : List TaskFields) (n : ℕ) : Type 0 where
  pub machines : Each (λ row. n ≤ machine_time row / w) ms
  pub attrs : Each (λ row. n ≤ attr_time row / w) bs
  pub tasks : Each (λ row. n ≤ task_time row / w) ts
  pub found : Each (IsLater machine_time w n) ms → Each (IsLater attr_time w n) bs → Each (IsLater task_time w n) ts → ⊥

next_is_of : (w : ℕ) (ms : List MachineFields) (bs : List AttrFields) (ts : List TaskFields) → 0 < w → AreInOrder ms bs ts
    → (t : ℕ) → least (least (first_time machine_time ms) (first_time attr_time bs)) (first_time task_time ts) ≡ Some t → IsNext w ms bs ts (t / w)
next_is_of w ms bs ts h order t e =
    let outer = is_least t (least (first_time machine_time ms) (first_time attr_time bs)) (first_time task_time ts) e in
    let inner = lower (first_time machine_time ms) (first_time attr_time bs) outer.0 in
    record {
      machines = reached machine_time w t h ms order.machines_rise inner.0;
      attrs = reached attr_time w t h bs order.attrs_rise inner.1;
      tasks = reached task_time w t h ts order.tasks_rise outer.1;
      found = λ late_machines late_attrs late_tasks.
          elim outer.2 [
            | inl is ↦ elim (is_least t (first_time machine_time ms) (first_time attr_time bs) is).2 [
              | inl one ↦ is_first machine_time w t ms one late_machines
              | inr other ↦ is_first attr_time w t bs other late_attrs
            ]
            | inr is ↦ is_first task_time w t ts is late_tasks
          ];
    } where
      lower : (one other : Option ℕ) → IfSome (least one other) (λ a. t ≤ a) → IfSome one (λ a. t ≤ a) × IfSome other (λ a. t ≤ a)
      lower None None low = (tt, tt)
      lower None (Some b) low = (tt, low)
      lower (Some a) None low = (low, tt)
      lower (Some a) (Some b) low =
          elim (cases_lt b a) [
            | inl less ↦ let is : min a b ≡ b = min-eq_right (omega arith) in (omega arith, omega arith)
            | inr le ↦ let is : min a b ≡ a = min-eq_left le in (omega arith, omega arith)
          ]

-- the next number is that of the first round that is left
pub next_is : (w : ℕ) (ms : List MachineFields) (bs : List AttrFields) (ts : List TaskFields) (n : ℕ) → 0 < w → AreInOrder ms bs ts
    → next_number w ms bs ts ≡ Some n → IsNext w ms bs ts n
next_is w ms bs ts n h order e = by_cases (least (least (first_time machine_time ms) (first_time attr_time bs)) (first_time task_time ts)) refl e where
  by_cases : (o : Option ℕ) → least (least (first_time machine_time ms) (first_time attr_time bs)) (first_time task_time ts) ≡ o
      → option_map (λ time. time / w) o ≡ Some n → IsNext w ms bs ts n
  by_cases None is e = absurd (cc)
  by_cases (Some t) is e =
      let same : t / w ≡ n = cc in
      subst (IsNext w ms bs ts) same (next_is_of w ms bs ts h order t is)

-- where there is no next number no row is left
pub none_left : (w : ℕ) (ms : List MachineFields) (bs : List AttrFields) (ts : List TaskFields) → next_number w ms bs ts ≡ None → merged ms bs ts ≡ []
none_left w ms bs ts e = by_cases (least (least (first_time machine_time ms) (first_time attr_time bs)) (first_time task_time ts)) refl e where
  by_cases : (o : Option ℕ) → least (least (first_time machine_time ms) (first_time attr_time bs)) (first_time task_time ts) ≡ o
      → option_map (λ time. time / w) o ≡ None → merged ms bs ts ≡ []
  by_cases None is e =
      let outer = no_least (least (first_time machine_time ms) (first_time attr_time bs)) (first_time task_time ts) is in
      let inner = no_least (first_time machine_time ms) (first_time attr_time bs) outer.0 in
      rw (no_first machine_time ms inner.0, no_first attr_time bs inner.1, no_first task_time ts outer.1) refl
  by_cases (Some t) is e = absurd (cc)

-- once tables are cut at the next number, some row is of the round
some_own : (w n : ℕ) (om lm ms : List MachineFields) (ob lb bs : List AttrFields) (ot lt ts : List TaskFields) → AreCut w n om lm ob lb ot lt
    → om ++ lm ≡ ms → ob ++ lb ≡ bs → ot ++ lt ≡ ts → IsNext w ms bs ts n → merged om ob ot ≡ [] → ⊥
some_own w n om lm ms ob lb bs ot lt ts are all_machines all_attrs all_tasks next nothing =
    let none = none_merged om ob ot nothing in
    next.found
    (subst (Each (IsLater machine_time w n)) (ap (λ z. z ++ lm) (sym none.0) ∙ all_machines) are.later_machines)
    (subst (Each (IsLater attr_time w n)) (ap (λ z. z ++ lb) (sym none.1) ∙ all_attrs) are.later_attrs)
    (subst (Each (IsLater task_time w n)) (ap (λ z. z ++ lt) (sym none.2) ∙ all_tasks) are.later_tasks)

-- once tables are cut at the next number, fewer rows are left
pub next_fewer : (w n : ℕ) (om lm ms : List MachineFields) (ob lb bs : List AttrFields) (ot lt ts : List TaskFields) → AreCut w n om lm ob lb ot lt
    → om ++ lm ≡ ms → ob ++ lb ≡ bs → ot ++ lt ≡ ts → IsNext w ms bs ts n → length lm + length lb + length lt < length ms + length bs + length ts
next_fewer w n om lm ms ob lb bs ot lt ts are all_machines all_attrs all_tasks next =
    let machines : length om + length lm ≡ length ms = sym (length-append om lm) ∙ ap length all_machines in
    let attrs : length ob + length lb ≡ length bs = sym (length-append ob lb) ∙ ap length all_attrs in
    let tasks : length ot + length lt ≡ length ts = sym (length-append ot lt) ∙ ap length all_tasks in
    let some = by_cases om ob ot (some_own w n om lm ms ob lb bs ot lt ts are all_machines all_attrs all_tasks next) in
    omega (arith, machines, attrs, tasks, some) where
      by_cases : (xs : List MachineFields) (ys : List AttrFields) (zs : List TaskFields) → (merged xs ys zs ≡ [] → ⊥) → 0 < length xs + length ys + length zs
      by_cases [] [] [] any = absurd (any refl)
      by_cases [] [] (z ∷ zs) any = omega arith
      by_cases [] (y ∷ ys) zs any = omega arith
      by_cases (x ∷ xs) ys zs any = omega arith

-- the parts with one more, and the rounds of what is left
pub parts_push : (w n : ℕ) (round_of : RoundPart → Round) (parts : List RoundPart) (part : RoundPart) (om lm ms : List MachineFields) (ob lb bs : List AttrFields) (ot lt ts : List TaskFields)
    (total : List Round) → 0 < w → AreCut w n om lm ob lb ot lt → om ++ lm ≡ ms → ob ++ lb ≡ bs → ot ++ lt ≡ ts → IsNext w ms bs ts n
    → round_of part ≡ (let round : Round = record { number = n; rows = merged om ob ot } in round)
    → map round_of parts ++ gathered w (merged ms bs ts) ≡ total
    → map round_of (parts ++ part ∷ []) ++ gathered w (merged lm lb lt) ≡ total
parts_push w n round_of parts part om lm ms ob lb bs ot lt ts total h are all_machines all_attrs all_tasks next is before =
    let left : List Round = gathered w (merged lm lb lt) in
    let rest : merged (om ++ lm) (ob ++ lb) (ot ++ lt) ≡ merged ms bs ts = rw (all_machines, all_attrs, all_tasks) refl in
    ap (λ (rounds : List Round). rounds ++ left) (map-append round_of parts (part ∷ []))
    ∙ append_assoc (map round_of parts) (round_of part ∷ []) left
    ∙ ap (λ (rounds : List Round). map round_of parts ++ rounds)
    (ap (λ (round : Round). round ∷ left) is
    ∙ next_round w n om lm ob lb ot lt h are (some_own w n om lm ms ob lb bs ot lt ts are all_machines all_attrs all_tasks next)
    ∙ ap (gathered w) rest)
    ∙ before

-- the piece of a list at whose end the next one begins
pub record IsPiece {X : Type 0} (items own later : List X) (from to : ℕ) : Type 0 where
  pub piece_is : piece items from to ≡ own
  pub rest_is : drop to items ≡ later
  pub has : HasPiece items from to

pub next_piece : {X : Type 0} (items own later rest : List X) (from to : ℕ) → from ≤ length items → drop from items ≡ rest → own ++ later ≡ rest → to ≡ from + length own
    → IsPiece items own later from to
next_piece items own later rest from to within behind all is =
    let same : drop from items ≡ own ++ later = behind ∙ sym all in
    let count : to - from ≡ length own = omega (arith, is) in
    record {
      piece_is = ap (λ n. take n (drop from items)) count ∙ ap (take (length own)) same ∙ take-append_seam own later;
      rest_is = ap (λ n. drop n items) is ∙ sym (drop-drop (length own) from items) ∙ ap (drop (length own)) same ∙ drop-append_seam own later;
      has = (omega (arith, is), omega (arith, is, within, sym (length-drop from items) ∙ ap length same ∙ length-append own later));
    }

pub rise_back : {X : Type 0} (key : X → ℕ) (xs ys : List X) → Rise key (xs ++ ys) → Rise key ys
rise_back key [] ys r = r
rise_back key (x ∷ xs) ys r = rise_back key xs ys r.1

-- from a row that is of a later round on all are
pub later_from : {X : Type 0} (time : X → ℕ) (w n : ℕ) → 0 < w → (xs : List X) (i : ℕ) (x : X) → i < length xs → Rise time xs → n < time (get_or xs i x) / w → Each (IsLater time w n) (drop i xs)
later_from time w n h [] i x below r low = absurd (omega (arith, below))
later_from time w n h (y ∷ xs) zero x below r low =
    (low, each_map (λ z. time y ≤ time z) (IsLater time w n) (λ z p. let up : time y / w ≤ time z / w = quotients_rise w (time y) (time z) h p in omega arith) xs r.0)
later_from time w n h (y ∷ xs) (suc i) x below r low = later_from time w n h xs i x (omega (arith, below)) r.1 low
