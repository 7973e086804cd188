-- A search that goes on where an earlier one ended.
use Rattle.std.proofs.Common.{◌≡◌, ◌∙◌, ◌+◌, ◌-◌, ◌≤◌, ◌<◌, ◌++◌, ◌∷◌, ℕ, zero, suc, Bool, false, List, [], Option, Some, None, length, ap, sym, subst, refl, arith}
use Rattle.std.specs.List.{All, range_with_len}
use Rattle.std.proofs.lemmas.List.{append_assoc}
use Rattle.std.proofs.lemmas.List.Elements.{All-append, All-head, All-tail, All-cons, All-nil, All-weaker, All-get_or}
use Rattle.std.proofs.lemmas.List.FromFn.{length-range_with_len, get_or-range_with_len}
use Rattle.omega_model.specs.declared.cells.Need.{Need}
use Rattle.omega_fit.specs.Needs.{IsFirstWithRoom, WithRoom}
use Rattle.omega_fit.specs.Wrapped.{positions_from, IsFirst}
use Rattle.omega_fit.proofs.Middles.{below_or_not}
use Rattle.omega_fit.proofs.Firsts.{two_parts, none_from_start}

head_same : {X : Type 0} (x y : X) (xs ys : List X) → x ∷ xs ≡ y ∷ ys → x ≡ y
head_same x y xs ys is = cc

tail_same : {X : Type 0} (x y : X) (xs ys : List X) → x ∷ xs ≡ y ∷ ys → xs ≡ ys
tail_same x y xs ys is = cc

cons_same : {X : Type 0} (x y : X) (xs ys : List X) → x ≡ y → xs ≡ ys → x ∷ xs ≡ y ∷ ys
cons_same x y xs ys head tail = cc

nil_apart : {X : Type 0} (x : X) (xs : List X) → [] ≡ x ∷ xs → ⊥
nil_apart x xs is = cc

same_range : (a b n m : ℕ) → a ≡ b → n ≡ m → range_with_len a n ≡ range_with_len b m
same_range a b n m from count = rw (from, count) refl

-- an item of two lists is of the first or of the second
split_append : {X R : Type 0} (before after xs ys : List X) (x : X) → xs ++ ys ≡ before ++ x ∷ after
    → ((middle : List X) → xs ≡ before ++ x ∷ middle → after ≡ middle ++ ys → R)
    → ((middle : List X) → before ≡ xs ++ middle → ys ≡ middle ++ x ∷ after → R) → R
split_append before after [] ys x is left right = right before refl is
split_append [] after (y ∷ xs) ys x is left right =
    left xs (ap (λ z. z ∷ xs) (head_same y x (xs ++ ys) after is)) (sym (tail_same y x (xs ++ ys) after is))
split_append (b ∷ before) after (y ∷ xs) ys x is left right =
    let head : y ≡ b = head_same y b (xs ++ ys) (before ++ x ∷ after) is in
    split_append before after xs ys x (tail_same y b (xs ++ ys) (before ++ x ∷ after) is)
    (λ middle one other. left middle (cons_same y b xs (before ++ x ∷ middle) head one) other)
    (λ middle one other. right middle (cons_same b y before (xs ++ middle) (sym head) one) other)

-- where a number stands in a range
split_range : {R : Type 0} (n a x : ℕ) (before after : List ℕ) → range_with_len a n ≡ before ++ x ∷ after
    → (a ≤ x → x < a + n → before ≡ range_with_len a (x - a) → after ≡ range_with_len (x + 1) (a + n - (x + 1)) → R) → R
split_range zero a x [] after is then = absurd (nil_apart x after is)
split_range zero a x (b ∷ before) after is then = absurd (nil_apart b (before ++ x ∷ after) is)
split_range (suc n) a x [] after is then =
    let here : a ≡ x = head_same a x (range_with_len (a + 1) n) after is in
    let none : x - a ≡ 0 = omega (arith, here) in
    let count : n ≡ a + suc n - (x + 1) = omega (arith, here) in
    then (omega (arith, here)) (omega (arith, here)) (subst (λ z. [] ≡ range_with_len a z) (sym none) refl)
    (sym (tail_same a x (range_with_len (a + 1) n) after is) ∙ same_range (a + 1) (x + 1) n (a + suc n - (x + 1)) (omega (arith, here)) count)
split_range (suc n) a x (b ∷ before) after is then =
    let here : a ≡ b = head_same a b (range_with_len (a + 1) n) (before ++ x ∷ after) is in
    split_range n (a + 1) x before after (tail_same a b (range_with_len (a + 1) n) (before ++ x ∷ after) is)
    (λ low high one other.
    let count : x - a ≡ suc (x - (a + 1)) = omega (arith, low) in
    then (omega (arith, low)) (omega (arith, high))
    (subst (λ z. b ∷ before ≡ range_with_len a z) (sym count) (cons_same b a before (range_with_len (a + 1) (x - (a + 1))) (sym here) one))
    (other ∙ same_range (x + 1) (x + 1) (a + 1 + n - (x + 1)) (a + suc n - (x + 1)) refl (omega arith)))

-- two ranges that meet are one
joined : (n m a b c : ℕ) → b ≡ a + n → c ≡ n + m → range_with_len a n ++ range_with_len b m ≡ range_with_len a c
joined zero m a b c meets all = same_range b a m c (omega (arith, meets)) (omega (arith, all))
joined (suc n) m a b zero meets all = absurd (omega (arith, all))
joined (suc n) m a b (suc c) meets all = ap (λ z. a ∷ z) (joined n m (a + 1) b c (omega (arith, meets)) (omega (arith, all)))

all_left : {X : Type 0} (P : X → Type 0) (xs ys : List X) → All P (xs ++ ys) → All P xs
all_left P [] ys all = All-nil P
all_left P (x ∷ xs) ys all = All-cons P x xs (All-head P x (xs ++ ys) all) (all_left P xs ys (All-tail P x (xs ++ ys) all))

all_right : {X : Type 0} (P : X → Type 0) (xs ys : List X) → All P (xs ++ ys) → All P ys
all_right P [] ys all = all
all_right P (x ∷ xs) ys all = all_right P xs ys (All-tail P x (xs ++ ys) all)

-- the first of two lists, where the second has none, is the first of both in the other order
turned : {X : Type 0} (answers : X → Bool → Type 0) (xs ys : List X) (found : Option X)
    → All (λ y. answers y false) ys → IsFirst answers (xs ++ ys) found → IsFirst answers (ys ++ xs) found
unfolding IsFirst
turned answers xs ys None none f = All-append (λ y. answers y false) ys xs none (all_left (λ y. answers y false) xs ys f)
turned answers xs ys (Some x) none f = split_append f.before f.after xs ys x f.split
    (λ middle one other. record {
      before = ys ++ f.before;
      after = middle;
      split = ap (λ z. ys ++ z) one ∙ sym (append_assoc ys f.before (x ∷ middle));
      passed_over = All-append (λ y. answers y false) ys f.before none f.passed_over;
      taken = f.taken;
    })
    (λ middle one other. record {
      before = middle;
      after = f.after ++ xs;
      split = ap (λ z. z ++ xs) other ∙ append_assoc middle (x ∷ f.after) xs;
      passed_over = all_left (λ y. answers y false) middle (x ∷ f.after) (subst (All (λ y. answers y false)) other none);
      taken = f.taken;
    })

-- the position is of the part from the start on
from_second : (start place len : ℕ) (before middle after : List ℕ) → start ≤ len → start ≤ place → place < start + (len - start)
    → before ≡ range_with_len start (place - start) → middle ≡ range_with_len (place + 1) (start + (len - start) - (place + 1))
    → after ≡ middle ++ range_with_len 0 start → positions_from place len ≡ (place ∷ after) ++ before
from_second start place len before middle after le low high b a other =
    let count : len - place ≡ suc (start + (len - start) - (place + 1)) = omega arith in
    let first : range_with_len place (len - place) ≡ place ∷ middle =
    same_range place place (len - place) (suc (start + (len - start) - (place + 1))) refl count ∙ ap (λ z. place ∷ z) (sym a) in
    let second : range_with_len 0 place ≡ range_with_len 0 start ++ before =
    sym (joined start (place - start) 0 start place (omega arith) (omega arith)) ∙ ap (λ z. range_with_len 0 start ++ z) (sym b) in
    two_parts place len (omega arith)
    ∙ ap (λ z. z ++ range_with_len 0 place) first
    ∙ ap (λ z. (place ∷ middle) ++ z) second
    ∙ sym (append_assoc (place ∷ middle) (range_with_len 0 start) before)
    ∙ ap (λ z. (place ∷ z) ++ before) (sym other)

-- the position is of the part before the start
from_first : (start place len : ℕ) (before middle after : List ℕ) → start ≤ len → place < 0 + start
    → middle ≡ range_with_len 0 (place - 0) → after ≡ range_with_len (place + 1) (0 + start - (place + 1))
    → before ≡ range_with_len start (len - start) ++ middle → positions_from place len ≡ (place ∷ after) ++ before
from_first start place len before middle after le high b a one =
    let count : start - place ≡ suc (0 + start - (place + 1)) = omega arith in
    let part : range_with_len place (start - place) ≡ place ∷ after =
    same_range place place (start - place) (suc (0 + start - (place + 1))) refl count ∙ ap (λ z. place ∷ z) (sym a) in
    let first : range_with_len place (len - place) ≡ (place ∷ after) ++ range_with_len start (len - start) =
    sym (joined (start - place) (len - start) place start (len - place) (omega arith) (omega arith))
    ∙ ap (λ z. z ++ range_with_len start (len - start)) part in
    let second : range_with_len 0 place ≡ middle = same_range 0 0 place (place - 0) refl (omega arith) ∙ sym b in
    two_parts place len (omega arith)
    ∙ ap (λ z. z ++ range_with_len 0 place) first
    ∙ ap (λ z. ((place ∷ after) ++ range_with_len start (len - start)) ++ z) second
    ∙ append_assoc (place ∷ after) (range_with_len start (len - start)) middle
    ∙ ap (λ z. (place ∷ after) ++ z) (sym one)

-- the round from one of its positions begins with what stands from that position on
turn_place : (start place len : ℕ) (before after : List ℕ) → start ≤ len
    → positions_from start len ≡ before ++ place ∷ after → positions_from place len ≡ (place ∷ after) ++ before
turn_place start place len before after le is =
    split_append before after (range_with_len start (len - start)) (range_with_len 0 start) place (sym (two_parts start len le) ∙ is)
    (λ middle one other. split_range (len - start) start place before middle one
    (λ low high b a. from_second start place len before middle after le low high b a other))
    (λ middle one other. split_range start 0 place middle after other
    (λ low high b a. from_first start place len before middle after le high b a one))

-- Where the answers of an earlier search were false they are false now: then a search from the place that
-- was found finds what one from the start would.
pub later : (earlier now : ℕ → Bool → Type 0) (start place len : ℕ) (found : Option ℕ) → start ≤ len
    → ((i : ℕ) → earlier i false → now i false) → IsFirst earlier (positions_from start len) (Some place)
    → IsFirst now (positions_from place len) found → IsFirst now (positions_from start len) found
unfolding IsFirst
later earlier now start place len found le still one two =
    subst (λ z. IsFirst now z found) (sym one.split)
    (turned now (place ∷ one.after) one.before found
    (All-weaker (λ i. earlier i false) (λ i. now i false) still one.before one.passed_over)
    (subst (λ z. IsFirst now z found) (turn_place start place len one.before one.after le one.split) two))

all_of_range : (P : ℕ → Type 0) (a n i : ℕ) → All P (range_with_len a n) → i < n → P (a + i)
all_of_range P a n i all lt =
    subst P (get_or-range_with_len a n i 0 lt)
    (All-get_or P (range_with_len a n) i 0 (subst (λ z. i < z) (sym (length-range_with_len a n)) lt) all)

-- And where nothing was found, nothing is found now from any start.
pub none_later : (earlier now : ℕ → Bool → Type 0) (start other len : ℕ) → start ≤ len → other ≤ len
    → ((i : ℕ) → earlier i false → now i false) → IsFirst earlier (positions_from start len) None
    → IsFirst now (positions_from other len) None
unfolding IsFirst
none_later earlier now start other len le within still none =
    let parts = subst (λ z. All (λ i. earlier i false) z) (two_parts start len le) none in
    let high = all_left (λ i. earlier i false) (range_with_len start (len - start)) (range_with_len 0 start) parts in
    let low = all_right (λ i. earlier i false) (range_with_len start (len - start)) (range_with_len 0 start) parts in
    let all : (i : ℕ) → i < len → now i false = (λ i lt. still i (below_or_not i start
    (λ p. subst (λ z. earlier z false) (omega arith) (all_of_range (λ j. earlier j false) 0 start i low p))
    (λ p. subst (λ z. earlier z false) (omega arith) (all_of_range (λ j. earlier j false) start (len - start) (i - start) high (omega arith))))) in
    none_from_start now other len None within (λ i a b. all i b) (λ i a b. all i (omega arith))

-- The same with room: for an equal need, where what had no room or failed before still does.
pub later_with_room : (need : Need) (before after : List (Option Need)) (earlier now : ℕ → Bool → Type 0) (start place : ℕ) (found : Option ℕ)
    → start ≤ length before → length before ≡ length after
    → ((i : ℕ) → WithRoom before need earlier i false → WithRoom after need now i false)
    → IsFirstWithRoom before need earlier start (Some place) → IsFirstWithRoom after need now place found
    → IsFirstWithRoom after need now start found
unfolding IsFirstWithRoom
later_with_room need before after earlier now start place found le same still one two =
    subst (λ n. IsFirst (WithRoom after need now) (positions_from start n) found) same
    (later (WithRoom before need earlier) (WithRoom after need now) start place (length before) found le still one
    (subst (λ n. IsFirst (WithRoom after need now) (positions_from place n) found) (sym same) two))

pub none_later_with_room : (need : Need) (before after : List (Option Need)) (earlier now : ℕ → Bool → Type 0) (start other : ℕ)
    → start ≤ length before → other ≤ length before → length before ≡ length after
    → ((i : ℕ) → WithRoom before need earlier i false → WithRoom after need now i false)
    → IsFirstWithRoom before need earlier start None → IsFirstWithRoom after need now other None
unfolding IsFirstWithRoom
none_later_with_room need before after earlier now start other le within same still none =
    subst (λ n. IsFirst (WithRoom after need now) (positions_from other n) None) same
    (none_later (WithRoom before need earlier) (WithRoom after need now) start other (length before) le within still none)
