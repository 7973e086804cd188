-- The blocks of slots, and the counts of the wanted tasks in each.
use Rattle.std.proofs.Common.{◌≡◌, ◌<◌, ◌≤◌, ◌+◌, ◌*◌, ◌-◌, ℕ, Bool, true, false, not, List, [], ◌∷◌, ◌++◌, Option, Some, None, cond, drop, get_or, length, min, set, take, zero, suc, refl, ap, sym, subst, ◌∙◌, arith}
use Rattle.std.specs.Prelude.{is_some, replicate}
use Rattle.std.specs.Int.{from_bool}
use Rattle.std.specs.List.{count_by}
use Rattle.std.proofs.lemmas.List.{append_assoc, drop-set-add, drop-set-lt, drop_at, drop_min, get_or-drop, get_or-take, length-append, length-drop, length-take, nil_from_length, take-append-drop, take-set-le, take_at, take_min}
use Rattle.std.proofs.lemmas.List.Recursion.{is_count_by}
use Rattle.std.proofs.Math.Seq.{take-set-lt}
use Rattle.std.proofs.lemmas.List.Elements.{filter_map-append}
use Rattle.omega_model.specs.Wanted.{WantedTask}
use Rattle.omega_model.specs.declared.cells.Spec.{Spec}
use Rattle.omega_feed.specs.Slots.{AreCounted, block, task_in, tasks_in}
use Rattle.omega_feed.specs.declared.task_list.Slot.{Slot}
use Rattle.omega_feed.proofs.Slots.{from_slot, no_more, slot_of}

-- one task or none, as it is added to a count
abbrev pub one_if : Bool → ℕ
one_if b = cond b 1 0

pub bit_is : (b : Bool) → from_bool b ≡ one_if b
bit_is true = refl
bit_is false = refl

-- a slot was filled, or a task is added there
pub one_of : (was added : Bool) → was ≡ not added → one_if was + one_if added ≡ 1
one_of true true is = absurd (cc)
one_of true false is = refl
one_of false true is = refl
one_of false false is = absurd (cc)

-- the number of wanted tasks from a slot on
length_from : (s : Slot) (ss : List Slot) → length (tasks_in (s ∷ ss)) ≡ length (tasks_in ss) + one_if (is_some s.spec)
length_from s ss = by_spec s.spec where
  by_spec : (spec : Option Spec) → length (from_slot s.key spec (tasks_in ss)) ≡ length (tasks_in ss) + one_if (is_some spec)
  by_spec None = omega arith
  by_spec (Some spec) = omega arith

-- one slot in the place of another changes it by these two
pub set_counted : (slots : List Slot) (place : ℕ) (new d : Slot) → place < length slots
    → length (tasks_in (set slots place new)) + one_if (is_some (get_or slots place d).spec) ≡ length (tasks_in slots) + one_if (is_some new.spec)
set_counted [] place new d within = absurd (omega (arith, within))
set_counted (s ∷ ss) zero new d within =
    let before = length_from s ss in
    let after = length_from new ss in
    omega (arith, before, after)
set_counted (s ∷ ss) (suc i) new d within =
    let before = length_from s ss in
    let after = length_from s (set ss i new) in
    let rest = set_counted ss i new d (omega (arith, within)) in
    omega (arith, before, after, rest)

-- the wanted tasks of a block, counted by a test of each slot
pub counted_by : (slots : List Slot) → count_by (λ slot. is_some slot.spec) slots ≡ length (tasks_in slots)
counted_by slots = sym (is_count_by (λ ss. length (tasks_in ss)) (λ slot. is_some slot.spec) refl (λ s ss. by_spec s s.spec (length (tasks_in ss)) (length_from s ss)) slots) where
  by_spec : (s : Slot) (spec : Option Spec) (before : ℕ) {after : ℕ} → after ≡ before + one_if (is_some spec) → after ≡ cond (is_some spec) (1 + before) before
  by_spec s None before is = omega (arith, is)
  by_spec s (Some spec) before is = omega (arith, is)

-- the slots of all blocks as those of the first and those of the later ones
module _ (slots first later : List Slot) (parts : slots ≡ first ++ later) (long : length first ≡ min block (length slots)) where
  first_is : take block slots ≡ first
  first_is = sym (take_min block slots) ∙ ap (take (min block (length slots))) parts ∙ take_at first later (min block (length slots)) long

  later_are : drop block slots ≡ later
  later_are = sym (drop_min block slots) ∙ ap (drop (min block (length slots))) parts ∙ drop_at first later (min block (length slots)) long

  -- the first count is of the first block, and the others are of the later ones
  pub counted_first : (count : ℕ) (counts : List ℕ) → AreCounted (count ∷ counts) slots → (count ≡ length (tasks_in first)) × AreCounted counts later
  counted_first count counts are = (are.0 ∙ ap (λ (ss : List Slot). length (tasks_in ss)) first_is, subst (AreCounted counts) later_are are.1)

  pub counted_with : (count : ℕ) (counts : List ℕ) → count ≡ length (tasks_in first) → AreCounted counts later → AreCounted (count ∷ counts) slots
  counted_with count counts first_counted later_counted = (first_counted ∙ ap (λ (ss : List Slot). length (tasks_in ss)) (sym first_is), subst (AreCounted counts) (sym later_are) later_counted)

-- a block of which no task is counted has none
pub none_in : (slots : List Slot) → length (tasks_in slots) ≤ 0 → tasks_in slots ≡ []
none_in slots none = nil_from_length (tasks_in slots) (omega (arith, none))

-- no block has more tasks than fit in a count, and no slot is without one
pub few_in_block : (slots : List Slot) → length (tasks_in (take block slots)) ≤ block
few_in_block slots =
    let tasks = no_more (take block slots) in
    let long = length-take block slots in
    omega (arith, tasks, long)

pub counts_reach : (counts : List ℕ) (slots : List Slot) → AreCounted counts slots → length slots ≤ length counts * block
counts_reach [] slots none = let long = ap length none in omega (arith, long)
counts_reach (count ∷ counts) slots are =
    let rest = counts_reach counts (drop block slots) are.1 in
    let long = length-drop block slots in
    omega (arith, rest, long)

-- one more count, of no tasks, behind those of all slots
pub more_room : (counts : List ℕ) (slots : List Slot) → AreCounted counts slots → AreCounted (counts ++ 0 ∷ []) slots
more_room [] slots none = subst (λ (ss : List Slot). AreCounted (0 ∷ []) ss) (sym none) (refl, refl)
more_room (count ∷ counts) slots are = (are.0, more_room counts (drop block slots) are.1)

-- slots of which none is filled, and so many counts of no tasks
pub none_counted : (n : ℕ) (slots : List Slot) → tasks_in slots ≡ [] → length slots ≤ n * block → AreCounted (replicate n 0) slots
none_counted zero slots none long = nil_from_length slots (omega (arith, long))
none_counted (suc n) slots none long =
    let tasks = ap length (sym (filter_map-append task_in (take block slots) (drop block slots)) ∙ ap tasks_in (take-append-drop block slots) ∙ none) in
    let both = length-append (tasks_in (take block slots)) (tasks_in (drop block slots)) in
    let left = length-drop block slots in
    (omega (arith, tasks, both), none_counted n (drop block slots) (none_in (drop block slots) (omega (arith, tasks, both))) (omega (arith, long, left)))

-- where the slot at a place changes, the count of its block does
pub counted_again : (counts : List ℕ) (slots : List Slot) (b place count new : ℕ) (was s : Slot) → b * block ≤ place → place < b * block + block → place < length slots
    → count ≡ get_or counts b count → was ≡ get_or slots place was → new + one_if (is_some was.spec) ≡ count + one_if (is_some s.spec)
    → AreCounted counts slots → AreCounted (set counts b new) (set slots place s)
counted_again [] slots b place count new was s from to within at found changes none = let long = ap length none in absurd (omega (arith, long, within))
counted_again (n ∷ ns) slots zero place count new was s from to within at found changes are =
    let first : List Slot = take block slots in
    let less : place < block = omega (arith, to) in
    let long = length-take block slots in
    let here = set_counted first place s was (omega (arith, less, long, within)) in
    let own = ap (λ (x : Slot). one_if (is_some x.spec)) (found ∙ sym (get_or-take block slots place was less)) in
    let before = are.0 in
    let after : new ≡ length (tasks_in (set first place s)) = omega (arith, here, own, at, changes, before) in
    (after ∙ ap (λ (ss : List Slot). length (tasks_in ss)) (sym (take-set-lt block slots place s less)), subst (AreCounted ns) (sym (drop-set-lt block slots place s less)) are.1)
counted_again (n ∷ ns) slots (suc b) place count new was s from to within at found changes are =
    let is : place ≡ block + (place - block) = omega (arith, from) in
    let long = length-drop block slots in
    let rest = counted_again ns (drop block slots) b (place - block) count new was s (omega (arith, from)) (omega (arith, from, to)) (omega (arith, within, from, long)) at
    (found ∙ ap (λ (n : ℕ). get_or slots n was) is ∙ sym (get_or-drop block slots (place - block) was)) changes are.1 in (
      are.0 ∙ ap (λ (ss : List Slot). length (tasks_in ss)) (sym (take-set-le block slots place s (omega (arith, from)))),
      subst (AreCounted (set ns b new)) (sym (ap (λ (n : ℕ). drop block (set slots n s)) is ∙ drop-set-add block slots (place - block) s)) rest,
    )

-- a block's count is that of the slot at a place at least, and fits in a byte
pub count_within : (counts : List ℕ) (slots : List Slot) (b place count : ℕ) (was : Slot) → b * block ≤ place → place < b * block + block → place < length slots
    → count ≡ get_or counts b count → was ≡ get_or slots place was → AreCounted counts slots → (one_if (is_some was.spec) ≤ count) × (count ≤ block)
count_within [] slots b place count was from to within at found none = let long = ap length none in absurd (omega (arith, long, within))
count_within (n ∷ ns) slots zero place count was from to within at found are =
    let first : List Slot = take block slots in
    let less : place < block = omega (arith, to) in
    let long = length-take block slots in
    let here = set_counted first place (slot_of was.key None) was (omega (arith, less, long, within)) in
    let own = ap (λ (x : Slot). one_if (is_some x.spec)) (found ∙ sym (get_or-take block slots place was less)) in
    let before = are.0 in
    let few = few_in_block slots in
    (omega (arith, here, own, at, before), omega (arith, at, before, few))
count_within (n ∷ ns) slots (suc b) place count was from to within at found are =
    let is : place ≡ block + (place - block) = omega (arith, from) in
    let long = length-drop block slots in
    count_within ns (drop block slots) b (place - block) count was (omega (arith, from)) (omega (arith, from, to)) (omega (arith, within, from, long)) at
    (found ∙ ap (λ (n : ℕ). get_or slots n was) is ∙ sym (get_or-drop block slots (place - block) was)) are.1

-- a turn of a loop over the counts and the blocks: what is left of both, and what was left before
pub record Turn (counts_left : List ℕ) (count : ℕ) (slots first slots_left : List Slot) : Type 0 where
  pub left : AreCounted counts_left slots_left
  pub counted : count ≡ length (tasks_in first)
  pub tasks : tasks_in slots ≡ tasks_in first ++ tasks_in slots_left

pub turn : (counts counts_left : List ℕ) (slots first slots_left : List Slot) (count size : ℕ) → AreCounted counts slots → size ≡ block
    → counts ≡ count ∷ counts_left → slots ≡ first ++ slots_left → length first ≡ min size (length slots) → Turn counts_left count slots first slots_left
turn counts counts_left slots first slots_left count size are is_block next parts long =
    let in_block = long ∙ ap (λ (n : ℕ). min n (length slots)) is_block in
    let both = counted_first slots first slots_left parts in_block count counts_left (subst (λ (all : List ℕ). AreCounted all slots) next are) in
    record { left = both.1; counted = both.0; tasks = ap tasks_in parts ∙ filter_map-append task_in first slots_left }

-- a block without a wanted task is passed
pub nothing_in : {counts_left : List ℕ} {count : ℕ} {slots first slots_left : List Slot} → Turn counts_left count slots first slots_left → count ≤ 0 → tasks_in first ≡ []
nothing_in {first = first} t none = none_in first (subst (λ (n : ℕ). n ≤ 0) t.counted none)

pub passed : {counts_left : List ℕ} {count : ℕ} {slots first slots_left : List Slot} → Turn counts_left count slots first slots_left → count ≤ 0 → tasks_in slots ≡ tasks_in slots_left
passed {slots_left = slots_left} t none = t.tasks ∙ ap (λ (tasks : List WantedTask). tasks ++ tasks_in slots_left) (nothing_in t none)

-- what is done and what remains, once the first part of it is done
pub done_on : {X : Type 0} (before after part left : List X) {remains all : List X} → after ≡ before ++ part → remains ≡ part ++ left → before ++ remains ≡ all → after ++ left ≡ all
done_on before after part left grown parts whole = ap (λ (xs : List _). xs ++ left) grown ∙ append_assoc before part left ∙ ap (λ (xs : List _). before ++ xs) (sym parts) ∙ whole
