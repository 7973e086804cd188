-- Of some tasks the first few in order of eviction go. Where those make room that don't come behind one of them, the
-- others stay.
use Rattle.std.proofs.Common.{◌≡◌, ◌+◌, ◌<◌, ◌≤◌, ℕ, zero, suc, Bool, true, false, not, List, [], ◌∷◌, ◌++◌, length, length-append, get_or, take, drop, Option, Some, None, arith, refl, sym, ap, subst, ◌∙◌, if◌then◌else◌}
use Rattle.std.specs.List.{filter, find, range_with_len, AllByRecursion as Each}
use Rattle.std.specs.List.Sorted.{IsPermutation}
use Rattle.std.proofs.lemmas.Bool.{both_ways, false_from_ne_true, not-true}
use Rattle.std.proofs.lemmas.List.{drop_more}
use Rattle.std.proofs.lemmas.List.Elements.{filter-append}
use Rattle.std.proofs.lemmas.Option.{none-some}
use Rattle.omega_model.specs.Cell.{Cell, by_rank, goes_before, is_on, keys_of, machine_at, put_by_rank, task_at, total}
use Rattle.omega_model.specs.Judge.{has_rival}
use Rattle.omega_model.specs.Need.{fits, minus, plus}
use Rattle.omega_model.specs.Plan.{claim_of, gives_way, victims}
use Rattle.omega_model.specs.declared.cells.Machine.{Machine}
use Rattle.omega_model.specs.declared.cells.Need.{Need}
use Rattle.omega_model.specs.declared.cells.Task.{Task}
use Rattle.omega_model.specs.declared.cells.TaskKey.{TaskKey}
use Rattle.omega_model.specs.declared.wishes.Wish.{Wish}
use Rattle.omega_model.proofs.Amounts.{need_is, rank_total, total-append}
use Rattle.omega_model.proofs.Lists.{by_answer, each_map, each_passes, filter_and, filter_every, filter_turned}
use Rattle.omega_running.specs.Order.{IsInOrder}
use Rattle.omega_running.specs.Staying.{stays_against}
use Rattle.omega_running.specs.declared.orders.Order.TheVariants.{ByKey}
use Rattle.omega_running.proofs.InOrder.{rank_strict}
use Rattle.omega_running.proofs.Ranked.{each_ranked}
use Rattle.omega_running.proofs.Strict.{ahead, trans}
use Rattle.omega_plan.specs.Leaving.{AreFewest, GoFirst, evictable, leaves_enough, stays}
use Rattle.omega_plan.specs.Telling.{freed_beside, freed_on}
use Rattle.omega_plan.proofs.Leaving.{minus_plus, victims_fewest, victims_full}
use Rattle.omega_plan.proofs.Moved.{filter_moved, total_moved}

-- one more of those that pass a test takes what it needs
pub passing_more : (p : Task → Bool) (left next whole : Need) (tasks : List Task) (i : ℕ) (d : Task) → i < length tasks → next ≡ minus left (total (filter p (get_or tasks i d ∷ [])))
    → minus left (total (filter p (drop i tasks))) ≡ whole → minus next (total (filter p (drop (i + 1) tasks))) ≡ whole
passing_more p left next whole tasks i d below is so =
    let t = get_or tasks i d in
    let rest = drop (i + 1) tasks in
    ap (λ (n : Need). minus n (total (filter p rest))) is
    ∙ minus_plus left (total (filter p (t ∷ []))) (total (filter p rest))
    ∙ ap (minus left) (sym (total-append (filter p (t ∷ [])) (filter p rest)))
    ∙ ap (λ (ts : List Task). minus left (total ts)) (sym (filter-append p (t ∷ []) rest))
    ∙ ap (λ (ts : List Task). minus left (total (filter p ts))) (sym (drop_more tasks i d below))
    ∙ so

-- what evictions could free on a machine, by its tasks in any order
pub freed_there : (prec : ℕ) (tasks own : List Task) (machine : Machine) → IsPermutation (filter (is_on machine.id) tasks) own → freed_beside prec own machine ≡ freed_on prec tasks machine
freed_there prec tasks own machine places =
    ap (λ (n : Need). if machine.up then Some (minus machine.cap n) else None) (sym (total_moved _ _ (filter_moved (stays_against prec) (filter (is_on machine.id) tasks) own places)))

-- a task that doesn't come behind another stands before those that do
put_early : (pivot t : Task) (front back : List Task) → goes_before pivot t ≡ false → Each (λ y. goes_before pivot y ≡ true) back → put_by_rank t (front ++ back) ≡ put_by_rank t front ++ back
put_early pivot t [] [] early behind = refl
put_early pivot t [] (y ∷ back) early behind =
    let no : goes_before y t ≡ false = false_from_ne_true _ (λ e. both_ways _ early (trans goes_before rank_strict pivot y t behind.0 e)) in rw no refl
put_early pivot t (x ∷ front) back early behind =
    by_answer (goes_before x t) (λ h. rw h (ap (λ (ts : List Task). x ∷ ts) (put_early pivot t front back early behind))) (λ h. rw h refl)

-- and one that does behind those that don't
put_late : (pivot t : Task) (front back : List Task) → goes_before pivot t ≡ true → Each (λ y. goes_before pivot y ≡ false) front → put_by_rank t (front ++ back) ≡ front ++ put_by_rank t back
put_late pivot t [] back late before = refl
put_late pivot t (x ∷ front) back late before =
    let yes : goes_before x t ≡ true = ahead goes_before rank_strict pivot t x late before.0 in
    rw yes (ap (λ (ts : List Task). x ∷ ts) (put_late pivot t front back late before.1))

-- the tasks that don't come behind one, in order of eviction, and those that do
abbrev early : Task → List Task → List Task
early pivot tasks = by_rank (filter (λ t. not (goes_before pivot t)) tasks)

abbrev late : Task → List Task → List Task
late pivot tasks = by_rank (filter (goes_before pivot) tasks)

each_early : (pivot : Task) (tasks : List Task) → Each (λ y. goes_before pivot y ≡ false) (early pivot tasks)
each_early pivot tasks =
    each_ranked (λ y. goes_before pivot y ≡ false) (filter (λ t. not (goes_before pivot t)) tasks)
    (each_map (λ y. not (goes_before pivot y) ≡ true) (λ y. goes_before pivot y ≡ false) (λ y h. not-true _ h) (filter (λ t. not (goes_before pivot t)) tasks)
    (each_passes (λ t. not (goes_before pivot t)) tasks))

each_late : (pivot : Task) (tasks : List Task) → Each (λ y. goes_before pivot y ≡ true) (late pivot tasks)
each_late pivot tasks = each_ranked (λ y. goes_before pivot y ≡ true) (filter (goes_before pivot) tasks) (each_passes (goes_before pivot) tasks)

-- all of them in this order are the former and then the latter
ranked_split : (pivot : Task) (tasks : List Task) → by_rank tasks ≡ early pivot tasks ++ late pivot tasks
ranked_split pivot [] = refl
ranked_split pivot (t ∷ tasks) =
    by_answer (goes_before pivot t)
    (λ h. rw h (ap (put_by_rank t) (ranked_split pivot tasks) ∙ put_late pivot t (early pivot tasks) (late pivot tasks) h (each_early pivot tasks)))
    (λ h. rw h (ap (put_by_rank t) (ranked_split pivot tasks) ∙ put_early pivot t (early pivot tasks) (late pivot tasks) h (each_late pivot tasks)))

total_late : (pivot : Task) (tasks : List Task) → total (late pivot tasks) ≡ total (filter (goes_before pivot) tasks)
total_late pivot tasks =
    ap total (sym (filter_every (goes_before pivot) (late pivot tasks) (each_late pivot tasks)))
    ∙ rank_total (goes_before pivot) (filter (goes_before pivot) tasks)
    ∙ ap total (filter_every (goes_before pivot) (filter (goes_before pivot) tasks) (each_passes (goes_before pivot) tasks))

-- the first of two lists in a row
drop_front : {X : Type 0} (n : ℕ) (xs ys : List X) → n ≤ length xs → drop n (xs ++ ys) ≡ drop n xs ++ ys
drop_front zero xs ys le = refl
drop_front (suc n) [] ys le = absurd (omega (arith, le))
drop_front (suc n) (x ∷ xs) ys le = drop_front n xs ys (omega (arith, le))

take_front : {X : Type 0} (n : ℕ) (xs ys : List X) → n ≤ length xs → take n xs ≡ take n (xs ++ ys)
take_front zero xs ys le = refl
take_front (suc n) [] ys le = absurd (omega (arith, le))
take_front (suc n) (x ∷ xs) ys le = ap (λ zs. x ∷ zs) (take_front n xs ys (omega (arith, le)))

-- what is found among some numbers is one of them, and is found among more by a test that answers the same of these
found_below : (test : ℕ → Bool) (from k n : ℕ) → find test (range_with_len from k) ≡ Some n → n < from + k
found_below test from zero n found = absurd (none-some n found)
found_below test from (suc k) n found =
    by_answer (test from)
    (λ t. let here : Some from ≡ Some n = rw t at found in subst (λ (o : Option ℕ). get_from o < from + suc k) here (omega arith))
    (λ f. let later : find test (range_with_len (from + 1) k) ≡ Some n = rw f at found in let below = found_below test (from + 1) k n later in omega (arith, below))
  where
    get_from : Option ℕ → ℕ
    get_from None = 0
    get_from (Some m) = m

found_among : (test other : ℕ → Bool) (from k more n : ℕ) → ((m : ℕ) → from ≤ m → m < from + k → test m ≡ other m) → find test (range_with_len from k) ≡ Some n
    → find other (range_with_len from (k + more)) ≡ Some n
found_among test other from zero more n same found = absurd (none-some n found)
found_among test other from (suc k) more n same found =
    let longer : suc k + more ≡ suc (k + more) = omega arith in
    by_answer (test from)
    (λ t. let here : Some from ≡ Some n = rw t at found in
    let own : other from ≡ true = sym (same from (omega arith) (omega arith)) ∙ t in
    rw (longer, own) here)
    (λ f. let later : find test (range_with_len (from + 1) k) ≡ Some n = rw f at found in
    let own : other from ≡ false = sym (same from (omega arith) (omega arith)) ∙ f in
    rw (longer, own) (found_among test other (from + 1) k more n (λ m le below. same m (omega (arith, le)) (omega (arith, below))) later))

-- so the first of those that don't come behind one are the first of all, where the others stay
pub go_first_of_all : (need left : Need) (pivot : Task) (tasks gone : List Task)
    → GoFirst need (minus left (total (filter (goes_before pivot) tasks))) (by_rank (filter (λ t. not (goes_before pivot t)) tasks)) gone → GoFirst need left (by_rank tasks) gone
go_first_of_all need left pivot tasks gone go =
    let front = early pivot tasks in
    let back = late pivot tasks in
    let rest = total (filter (goes_before pivot) tasks) in
    let less = minus left rest in
    let whole : by_rank tasks ≡ front ++ back = ranked_split pivot tasks in
    let below : go.count < 0 + (length front + 1) = found_below (leaves_enough need less front) 0 (length front + 1) go.count go.least in
    let same : (m : ℕ) → 0 ≤ m → m < 0 + (length front + 1) → leaves_enough need less front m ≡ leaves_enough need left (front ++ back) m =
    λ m le under.
    ap (fits need)
    (ap (λ (n : Need). minus (minus left n) (total (drop m front))) (sym (total_late pivot tasks))
    ∙ minus_plus left (total back) (total (drop m front))
    ∙ ap (minus left) (turned (total back) (total (drop m front)) ∙ sym (total-append (drop m front) back) ∙ ap total (sym (drop_front m front back (omega (arith, under)))))) in
    let found : find (leaves_enough need left (front ++ back)) (range_with_len 0 (length front + 1 + length back)) ≡ Some go.count =
    found_among (leaves_enough need less front) (leaves_enough need left (front ++ back)) 0 (length front + 1) (length back) go.count same go.least in
    let long : length front + 1 + length back ≡ length (front ++ back) + 1 = let sum = length-append front back in omega (arith, sum) in
    subst (λ (all : List Task). GoFirst need left all gone) (sym whole)
    (record {
      count = go.count;
      least = subst (λ (n : ℕ). find (leaves_enough need left (front ++ back)) (range_with_len 0 n) ≡ Some go.count) long found;
      first = go.first ∙ take_front go.count front back (omega (arith, below));
    })
  where
    turned : (a b : Need) → plus a b ≡ plus b a
    turned a b = need_is _ _ (omega arith) (omega arith) (omega arith)

-- the names of the fewest that must go are the victims
pub victims_are : (cell : Cell) (wish : Wish) (machine : Machine) → IsInOrder ByKey cell.tasks → task_at cell.tasks wish.key ≡ None → machine_at cell.machines machine.id ≡ Some machine
    → machine.up ≡ true → has_rival cell (claim_of wish [] machine.id) [] ≡ false → (keys : Option (List TaskKey))
    → AreFewest wish machine.cap (filter (is_on machine.id) cell.tasks) keys → keys ≡ victims cell machine.id wish
victims_are cell wish machine order absent listed up alone None little = victims_full cell wish machine order absent listed up little
victims_are cell wish machine order absent listed up alone (Some keys) fewest =
    let id = machine.id in
    let left = minus machine.cap (total (filter (stays wish) (filter (is_on id) cell.tasks))) in
    let same : by_rank (filter (gives_way wish) (filter (is_on id) cell.tasks)) ≡ evictable cell id wish =
    ap by_rank (filter_turned (gives_way wish) (is_on id) cell.tasks ∙ filter_and (is_on id) (gives_way wish) cell.tasks) in
    let go : GoFirst wish.spec.need left (evictable cell id wish) fewest.gone = subst (λ (all : List Task). GoFirst wish.spec.need left all fewest.gone) same fewest.first in
    victims_fewest cell wish machine order absent listed up alone go.count keys go.least (fewest.named ∙ ap keys_of go.first)
