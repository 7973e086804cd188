-- The slots of one job's tasks: what is found there, and what changes at the place of one.
use Rattle.std.proofs.Common.{◌≡◌, ◌<◌, ◌≤◌, ℕ, Bool, true, false, cond, not, ◌&&◌, ◌||◌, ◌==◌, List, [], ◌∷◌, ◌++◌, Option, Some, None, map, length, get_or, set, take, drop, zero, suc, refl, ap, sym, subst, ◌∙◌, arith, append-nil}
use Rattle.std.specs.Prelude.{Result, Ok, Err, MatchResult, is_some}
use Rattle.std.specs.List.{All, cons_option, filter, filter_map, insert, list_any, AllByRecursion as Each}
use Rattle.std.specs.List.Sorted.{IsBinarySearchResult, IsNonDecreasingBy, IsSearchInRange}
use Rattle.std.specs.Ordering.{ordering_index}
use Rattle.std.specs.declared.cmp.Ordering.{Ordering}
use Rattle.std.specs.declared.cmp.Ordering.TheVariants.{Less, Equal, Greater}
use Rattle.std.proofs.lemmas.Bool.{lt-ltb, ne_eqb}
use Rattle.std.proofs.lemmas.List.{take-append-drop}
use Rattle.std.proofs.lemmas.List.Elements.{All-cons, All-head, All-nil, All-tail, filter-append, filter_map-append}
use Rattle.std.proofs.lemmas.List.Folds.{list_any-append}
use Rattle.omega_model.proofs.InOrder.{key_asym, key_differs, key_itself, key_trans, same_key-sym}
use Rattle.omega_model.proofs.Lists.{by_answer, each_filter, any_none, each_append, each_back, each_front, each_map, filter_every, filter_none, each_at}
use Rattle.omega_model.specs.Cell.{task_at}
use Rattle.omega_model.specs.ExtraTasks.{HasLowIndex, first_extra, is_wanted, wanted_of}
use Rattle.omega_model.specs.Keys.{key_lt}
use Rattle.omega_model.specs.Wanted.{WantedTask, with_wanted, is_named}
use Rattle.omega_model.specs.declared.cells.Spec.{Spec}
use Rattle.omega_model.specs.declared.cells.Task.{Task}
use Rattle.omega_model.specs.declared.cells.TaskKey.{TaskKey}
use Rattle.omega_running.proofs.Lists.{filter_right}
use Rattle.omega_feed.specs.Asked.{is_task_of}
use Rattle.omega_feed.specs.Index.{key_cmp, wanted_task}
use Rattle.omega_feed.specs.Open.{RunsIfOf}
use Rattle.omega_feed.specs.Parts.{waiting_jobs}
use Rattle.omega_feed.specs.Slots.{GetsSlotAt, HasSlotAt, SlotsRise, entry_of, is_idle, is_idle_of, task_in, tasks_in}
use Rattle.omega_feed.specs.declared.task_list.Slot.{Slot}
use Rattle.omega_feed.proofs.KeyOrder.{Facts, as_facts, facts, greater, key_irrefl}

-- a task's slot
abbrev pub slot_of : TaskKey → Option Spec → Slot
slot_of key spec = record { key = key; spec = spec }

-- the search by halves: of two keys in order the greater isn't found lower
ranks : (key a b : TaskKey) → key_lt a b ≡ true → ordering_index (key_cmp a key) ≤ ordering_index (key_cmp b key)
ranks key a b less = go (key_cmp a key) (facts a key) where
  go : (o : Ordering) → Facts o a key → ordering_index o ≤ ordering_index (key_cmp b key)
  go Less f = omega arith
  go Equal f = rw (greater key b (subst (λ (k : TaskKey). key_lt k b ≡ true) f less)) (omega arith)
  go Greater f = rw (greater key b (key_trans key a b f.1 less)) (omega arith)

climbs : (key : TaskKey) (slots : List Slot) → SlotsRise slots → IsNonDecreasingBy (λ slot. ordering_index (key_cmp slot.key key)) slots
climbs key [] rise i j d le less = absurd (omega (arith, less))
climbs key (s ∷ ss) rise zero zero d le less = omega arith
climbs key (s ∷ ss) rise zero (suc j) d le less = ranks key s.key (get_or ss j d).key (each_at (λ o. key_lt s.key o.key ≡ true) ss j d rise.0 (omega (arith, less)))
climbs key (s ∷ ss) rise (suc i) zero d le less = absurd (omega (arith, le))
climbs key (s ∷ ss) rise (suc i) (suc j) d le less = climbs key ss rise.1 i j d (omega (arith, le)) (omega (arith, less))

each_taken : {X : Type 0} (P : X → Type 0) (xs : List X) (n : ℕ) → ((k : ℕ) (d : X) → k < n → P (get_or xs k d)) → Each P (take n xs)
each_taken P [] zero h = tt
each_taken P [] (suc n) h = tt
each_taken P (x ∷ xs) zero h = tt
each_taken P (x ∷ xs) (suc n) h = (h 0 x (omega arith), each_taken P xs n (λ k d less. h (suc k) d (omega (arith, less))))

each_dropped : {X : Type 0} (P : X → Type 0) (xs : List X) (n : ℕ) → ((k : ℕ) (d : X) → n ≤ k → k < length xs → P (get_or xs k d)) → Each P (drop n xs)
each_dropped P [] zero h = tt
each_dropped P [] (suc n) h = tt
each_dropped P (x ∷ xs) zero h = (h 0 x (omega arith) (omega arith), each_dropped P xs zero (λ k d le less. h (suc k) d (omega arith) (omega (arith, less))))
each_dropped P (x ∷ xs) (suc n) h = each_dropped P xs n (λ k d le less. h (suc k) d (omega (arith, le)) (omega (arith, less)))

stands : (slots : List Slot) (key : TaskKey) (place : ℕ) → place < length slots → ((d : Slot) → (get_or slots place d).key ≡ key) → HasSlotAt slots key place
stands [] key place less is = absurd (omega (arith, less))
stands (s ∷ ss) key zero less is = ap Some (is s)
stands (s ∷ ss) key (suc i) less is = stands ss key i (omega (arith, less)) is

-- what a search by halves answers is where a task's slot stands or belongs
pub searched : (slots : List Slot) (key : TaskKey) (r : Result ℕ ℕ) → SlotsRise slots → IsSearchInRange r (length slots) → IsBinarySearchResult (λ slot. key_cmp slot.key key) slots r
    → MatchResult r (HasSlotAt slots key) (GetsSlotAt slots key)
searched slots key (Ok place) rise within is = stands slots key place within (λ d. as_facts (get_or slots place d).key key Equal (is d))
searched slots key (Err place) rise within is =
    let parted = is (climbs key slots rise) in
    record {
      within = within;
      lower = each_taken (λ slot. key_lt slot.key key ≡ true) slots place (λ k d less. (as_facts (get_or slots k d).key key Less (parted.0 k d (omega arith) less)).0);
      greater = each_dropped (λ slot. key_lt key slot.key ≡ true) slots place (λ k d le less. (as_facts (get_or slots k d).key key Greater (parted.1 k d le less)).1);
    }

-- a slot that is put between lower and greater ones, and one that is taken out
rise_put : (xs ys : List Slot) (s : Slot) → SlotsRise (xs ++ ys) → Each (λ x. key_lt x.key s.key ≡ true) xs → Each (λ y. key_lt s.key y.key ≡ true) ys → SlotsRise (xs ++ s ∷ ys)
rise_put [] ys s rise lower greater = (greater, rise)
rise_put (x ∷ xs) ys s rise lower greater =
    let P : Slot → Type 0 = λ y. key_lt x.key y.key ≡ true in
    (each_append P xs (s ∷ ys) (each_front P xs ys rise.0) (lower.0, each_back P xs ys rise.0), rise_put xs ys s rise.1 lower.1 greater)

rise_without : (xs ys : List Slot) (s : Slot) → SlotsRise (xs ++ s ∷ ys) → SlotsRise (xs ++ ys)
rise_without [] ys s rise = rise.1
rise_without (x ∷ xs) ys s rise =
    let P : Slot → Type 0 = λ y. key_lt x.key y.key ≡ true in
    (each_append P xs ys (each_front P xs (s ∷ ys) rise.0) (each_back P xs (s ∷ ys) rise.0).1, rise_without xs ys s rise.1)

lower_ones : (xs ys : List Slot) (s : Slot) → SlotsRise (xs ++ s ∷ ys) → Each (λ x. key_lt x.key s.key ≡ true) xs
lower_ones [] ys s rise = tt
lower_ones (x ∷ xs) ys s rise = ((each_back (λ y. key_lt x.key y.key ≡ true) xs (s ∷ ys) rise.0).0, lower_ones xs ys s rise.1)

greater_ones : (xs ys : List Slot) (s : Slot) → SlotsRise (xs ++ s ∷ ys) → Each (λ y. key_lt s.key y.key ≡ true) ys
greater_ones [] ys s rise = rise.0
greater_ones (x ∷ xs) ys s rise = greater_ones xs ys s rise.1

-- what holds of the keys of slots holds of those of their tasks
each_task : (P : TaskKey → Type 0) (slots : List Slot) → Each (λ slot. P slot.key) slots → Each (λ task. P task.key) (tasks_in slots)
each_task P [] e = tt
each_task P (s ∷ ss) e = by_spec s.spec (each_task P ss e.1) where
  by_spec : (spec : Option Spec) → Each (λ (task : WantedTask). P task.key) (tasks_in ss) → Each (λ (task : WantedTask). P task.key) (cons_option (task_in (slot_of s.key spec)) (tasks_in ss))
  by_spec None rest = rest
  by_spec (Some spec) rest = (e.0, rest)

pub no_more : (slots : List Slot) → length (tasks_in slots) ≤ length slots
no_more [] = omega arith
no_more (s ∷ ss) = by_spec s.spec (no_more ss) where
  by_spec : (spec : Option Spec) → length (tasks_in ss) ≤ length ss → length (cons_option (task_in (slot_of s.key spec)) (tasks_in ss)) ≤ length (s ∷ ss)
  by_spec None rest = omega (arith, rest)
  by_spec (Some spec) rest = omega (arith, rest)

-- a new slot is empty
pub put_rise : (slots : List Slot) (key : TaskKey) (place : ℕ) → SlotsRise slots → GetsSlotAt slots key place → SlotsRise (insert slots place (slot_of key None))
put_rise slots key place rise gets =
    rise_put (take place slots) (drop place slots) (slot_of key None) (subst SlotsRise (sym (take-append-drop place slots)) rise) gets.lower gets.greater

pub put_same : (slots : List Slot) (key : TaskKey) (place : ℕ) → tasks_in (insert slots place (slot_of key None)) ≡ tasks_in slots
put_same slots key place =
    filter_map-append task_in (take place slots) (slot_of key None ∷ drop place slots)
    ∙ sym (filter_map-append task_in (take place slots) (drop place slots))
    ∙ ap tasks_in (take-append-drop place slots)

pub put_there : (slots : List Slot) (key : TaskKey) (place : ℕ) → place ≤ length slots → HasSlotAt (insert slots place (slot_of key None)) key place
put_there [] key zero within = refl
put_there [] key (suc i) within = absurd (omega (arith, within))
put_there (s ∷ ss) key zero within = refl
put_there (s ∷ ss) key (suc i) within = put_there ss key i (omega (arith, within))

-- the tasks from a slot on
abbrev pub from_slot : TaskKey → Option Spec → List WantedTask → List WantedTask
from_slot key spec tasks = cons_option (task_in (slot_of key spec)) tasks

-- tasks before and behind the slot of one
module _ (key : TaskKey) (lower greater : List WantedTask) (before : Each (λ task. key_lt task.key key ≡ true) lower) (behind : Each (λ task. key_lt key task.key ≡ true) greater) where
  -- it is wanted, or wanted otherwise
  filled : (old : Option Spec) (new : Spec) → lower ++ record { key = key; spec = new } ∷ greater ≡ with_wanted key new (lower ++ from_slot key old greater)
  filled old new = sym (λ i. fronts i ++ record { key = key; spec = new } ∷ backs i) where
    front : WantedTask → Bool
    front other = key_lt other.key key

    back : WantedTask → Bool
    back other = key_lt key other.key

    no_greater : filter front greater ≡ []
    no_greater = filter_none front greater (each_map (λ task. key_lt key task.key ≡ true) (λ task. front task ≡ false) (λ task h. key_asym key task.key h) greater behind)

    none : (spec : Option Spec) → filter front (from_slot key spec greater) ≡ []
    none None = no_greater
    none (Some spec) = rw (key_irrefl key) no_greater

    every : (spec : Option Spec) → filter back (from_slot key spec greater) ≡ greater
    every None = filter_every back greater behind
    every (Some spec) = rw (key_irrefl key) (filter_every back greater behind)

    fronts : filter front (lower ++ from_slot key old greater) ≡ lower
    fronts = filter-append front lower (from_slot key old greater) ∙ (λ i. filter_every front lower before i ++ none old i) ∙ append-nil lower

    backs : filter back (lower ++ from_slot key old greater) ≡ greater
    backs =
        filter_right back lower (from_slot key old greater) (each_map (λ task. key_lt task.key key ≡ true) (λ task. back task ≡ false) (λ task h. key_asym task.key key h) lower before)
        ∙ every old

  -- it isn't wanted any more
  cleared : (old : Option Spec) → lower ++ greater ≡ filter (λ task. not (is_named key task)) (lower ++ from_slot key old greater)
  cleared old = sym (filter-append stays lower (from_slot key old greater) ∙ (λ i. all_lower i ++ others old i)) where
    stays : WantedTask → Bool
    stays task = not (is_named key task)

    all_lower : filter stays lower ≡ lower
    all_lower = filter_every stays lower (each_map (λ task. key_lt task.key key ≡ true) (λ task. stays task ≡ true) (λ task h. ap not (key_differs task.key key h)) lower before)

    all_greater : filter stays greater ≡ greater
    all_greater = filter_every stays greater (each_map (λ task. key_lt key task.key ≡ true) (λ task. stays task ≡ true) (λ task h. ap not (same_key-sym key task.key (key_differs key task.key h))) greater behind)

    others : (spec : Option Spec) → filter stays (from_slot key spec greater) ≡ greater
    others None = all_greater
    others (Some spec) = rw (key_itself key) all_greater

  -- it is found
  named : (spec : Option Spec) → list_any (is_named key) (lower ++ from_slot key spec greater) ≡ is_some spec
  named spec =
      list_any-append (is_named key) lower (from_slot key spec greater)
      ∙ ap (λ b. b || list_any (is_named key) (from_slot key spec greater)) (any_none (is_named key) lower (each_map (λ task. key_lt task.key key ≡ true) (λ task. is_named key task ≡ false) (λ task h. key_differs task.key key h) lower before))
      ∙ here spec
    where
      here : (spec : Option Spec) → list_any (is_named key) (from_slot key spec greater) ≡ is_some spec
      here None = any_none (is_named key) greater (each_map (λ task. key_lt key task.key ≡ true) (λ task. is_named key task ≡ false) (λ task h. same_key-sym key task.key (key_differs key task.key h)) greater behind)
      here (Some spec) = rw (key_itself key) refl

-- the slots before and behind the slot at a place, and what becomes of all where another comes in its place
record Around (slots : List Slot) (key : TaskKey) (place : ℕ) : Type 0 where
  before : List Slot
  slot : Slot
  behind : List Slot
  own : slot.key ≡ key
  is : slots ≡ before ++ slot ∷ behind
  found : (d : Slot) → get_or slots place d ≡ slot
  set_is : (other : Slot) → set slots place other ≡ before ++ other ∷ behind
  within : place < length slots

own_key : (slot : Slot) (key : TaskKey) → Some slot.key ≡ Some key → slot.key ≡ key
own_key slot key at = cc

around : (slots : List Slot) (key : TaskKey) (place : ℕ) → HasSlotAt slots key place → Around slots key place
around [] key place at = absurd (cc)
around (s ∷ ss) key zero at =
    record { before = []; slot = s; behind = ss; own = own_key s key at; is = refl; found = λ d. refl; set_is = λ other. refl; within = omega arith }
around (s ∷ ss) key (suc i) at =
    let r = around ss key i at in
    record {
      before = s ∷ r.before;
      slot = r.slot;
      behind = r.behind;
      own = r.own;
      is = ap (λ (rest : List Slot). s ∷ rest) r.is;
      found = r.found;
      set_is = λ other. ap (λ (rest : List Slot). s ∷ rest) (r.set_is other);
      within = let less = r.within in omega (arith, less);
    }

-- what is found in a task's slot, and what becomes of all where it is filled or cleared
module _ (slots : List Slot) (key : TaskKey) (place : ℕ) (rise : SlotsRise slots) (at : HasSlotAt slots key place) where
  a : Around slots key place
  a = around slots key place at

  risen : SlotsRise (a.before ++ a.slot ∷ a.behind)
  risen = subst SlotsRise a.is rise

  lower : Each (λ slot. key_lt slot.key key ≡ true) a.before
  lower = subst (λ (k : TaskKey). Each (λ slot. key_lt slot.key k ≡ true) a.before) a.own (lower_ones a.before a.behind a.slot risen)

  greater_slots : Each (λ slot. key_lt key slot.key ≡ true) a.behind
  greater_slots = subst (λ (k : TaskKey). Each (λ slot. key_lt k slot.key ≡ true) a.behind) a.own (greater_ones a.before a.behind a.slot risen)

  lower_tasks : Each (λ task. key_lt task.key key ≡ true) (tasks_in a.before)
  lower_tasks = each_task (λ k. key_lt k key ≡ true) a.before lower

  greater_tasks : Each (λ task. key_lt key task.key ≡ true) (tasks_in a.behind)
  greater_tasks = each_task (λ k. key_lt key k ≡ true) a.behind greater_slots

  were : tasks_in slots ≡ tasks_in a.before ++ from_slot key a.slot.spec (tasks_in a.behind)
  were =
      ap tasks_in a.is
      ∙ filter_map-append task_in a.before (a.slot ∷ a.behind)
      ∙ ap (λ (k : TaskKey). tasks_in a.before ++ from_slot k a.slot.spec (tasks_in a.behind)) a.own

  are : (spec : Option Spec) → tasks_in (set slots place (slot_of key spec)) ≡ tasks_in a.before ++ from_slot key spec (tasks_in a.behind)
  are spec = ap tasks_in (a.set_is (slot_of key spec)) ∙ filter_map-append task_in a.before (slot_of key spec ∷ a.behind)

  pub set_within : place < length slots
  set_within = a.within

  -- the slot that was looked up is the task's
  module _ (slot : Slot) (found : slot ≡ get_or slots place slot) where
    same : slot ≡ a.slot
    same = found ∙ a.found slot

    same_spec : a.slot.spec ≡ slot.spec
    same_spec = sym (ap (λ (s : Slot). s.spec) same)

    as_own : (P : Slot → Type 0) (spec : Option Spec) → P (slot_of key spec) → P (slot_of slot.key spec)
    as_own P spec p = subst (λ (k : TaskKey). P (slot_of k spec)) (sym (ap (λ (s : Slot). s.key) same ∙ a.own)) p

    pub found_named : is_some slot.spec ≡ list_any (is_named key) (tasks_in slots)
    found_named = sym (ap (list_any (is_named key)) were ∙ named key (tasks_in a.before) (tasks_in a.behind) lower_tasks greater_tasks a.slot.spec ∙ ap is_some same_spec)

    pub set_rise : (spec : Option Spec) → SlotsRise (set slots place (slot_of slot.key spec))
    set_rise spec =
        as_own (λ s. SlotsRise (set slots place s)) spec
        (subst SlotsRise (sym (a.set_is (slot_of key spec))) (rise_put a.before a.behind (slot_of key spec) (rise_without a.before a.behind a.slot risen) lower greater_slots))

    pub set_filled : (spec : Spec) → tasks_in (set slots place (slot_of slot.key (Some spec))) ≡ with_wanted key spec (tasks_in slots)
    set_filled spec =
        as_own (λ s. tasks_in (set slots place s) ≡ with_wanted key spec (tasks_in slots)) (Some spec)
        (are (Some spec) ∙ filled key (tasks_in a.before) (tasks_in a.behind) lower_tasks greater_tasks a.slot.spec spec ∙ ap (with_wanted key spec) (sym were))

    pub set_cleared : tasks_in (set slots place (slot_of slot.key None)) ≡ filter (λ task. not (is_named key task)) (tasks_in slots)
    set_cleared =
        as_own (λ s. tasks_in (set slots place s) ≡ filter (λ task. not (is_named key task)) (tasks_in slots)) None
        (are None ∙ cleared key (tasks_in a.before) (tasks_in a.behind) lower_tasks greater_tasks a.slot.spec ∙ ap (filter (λ task. not (is_named key task))) (sym were))

-- where a task has no slot
module _ (slots : List Slot) (key : TaskKey) (place : ℕ) (gets : GetsSlotAt slots key place) where
  parts : tasks_in slots ≡ tasks_in (take place slots) ++ tasks_in (drop place slots)
  parts = ap tasks_in (sym (take-append-drop place slots)) ∙ filter_map-append task_in (take place slots) (drop place slots)

  lower_all : Each (λ task. key_lt task.key key ≡ true) (tasks_in (take place slots))
  lower_all = each_task (λ k. key_lt k key ≡ true) (take place slots) gets.lower

  greater_all : Each (λ task. key_lt key task.key ≡ true) (tasks_in (drop place slots))
  greater_all = each_task (λ k. key_lt key k ≡ true) (drop place slots) gets.greater

  pub none_named : list_any (is_named key) (tasks_in slots) ≡ false
  none_named = ap (list_any (is_named key)) parts ∙ named key (tasks_in (take place slots)) (tasks_in (drop place slots)) lower_all greater_all None

  pub none_cleared : tasks_in slots ≡ filter (λ task. not (is_named key task)) (tasks_in slots)
  none_cleared = parts ∙ cleared key (tasks_in (take place slots)) (tasks_in (drop place slots)) lower_all greater_all None ∙ ap (filter (λ task. not (is_named key task))) (sym parts)

-- no task of a trace is an extra
pub low_with : (key : TaskKey) (spec : Spec) (tasks : List WantedTask) → key.index < first_extra → Each HasLowIndex tasks → Each HasLowIndex (with_wanted key spec tasks)
low_with key spec tasks low each =
    each_append HasLowIndex (filter (λ other. key_lt other.key key) tasks) (record { key = key; spec = spec } ∷ filter (λ other. key_lt key other.key) tasks)
    (each_filter HasLowIndex (λ other. key_lt other.key key) tasks each) (low, each_filter HasLowIndex (λ other. key_lt key other.key) tasks each)

-- where all tasks are of one job, one of it is wanted unless there is none
pub any_there : (job : ℕ) (tasks : List WantedTask) → Each (λ task. is_task_of job task ≡ true) tasks → not (length tasks == 0) ≡ list_any (is_task_of job) tasks
any_there job [] own = refl
any_there job (t ∷ ts) own = rw (ne_eqb (length (t ∷ ts)) 0 (λ e. omega (arith, e)), own.0) refl

-- and any wanted task of a job is one of the trace
pub low_wanted : (job : ℕ) (tasks : List WantedTask) → Each HasLowIndex tasks → list_any (is_task_of job) tasks ≡ is_wanted tasks job
low_wanted job [] low = refl
low_wanted job (t ∷ ts) low =
    let below : t.key.index < first_extra = low.0 in
    let rest = low_wanted job ts low.1 in
    rw (lt-ltb t.key.index first_extra below) (λ i. and_true (t.key.job == job) i || rest i)
  where
    and_true : (b : Bool) → b ≡ (b && true)
    and_true true = refl
    and_true false = refl

-- the tasks of a job, as entries and as wanted tasks
pub entries_are : (job : ℕ) (slots : List Slot) → map wanted_task (filter_map (entry_of job) slots) ≡ wanted_of job (tasks_in slots)
entries_are job [] = refl
entries_are job (s ∷ ss) = by_spec s.spec (entries_are job ss) where
  by_spec : (spec : Option Spec) → map wanted_task (filter_map (entry_of job) ss) ≡ wanted_of job (tasks_in ss)
      → map wanted_task (cons_option (entry_of job (slot_of s.key spec)) (filter_map (entry_of job) ss)) ≡ wanted_of job (from_slot s.key spec (tasks_in ss))
  by_spec None rest = by_answer (s.key.job == job) (λ yes. rw yes rest) (λ no. rw no rest)
  by_spec (Some spec) rest =
      by_answer (s.key.job == job)
      (λ yes. rw yes (ap (λ (tasks : List WantedTask). record { key = s.key; spec = spec } ∷ tasks) rest))
      (λ no. rw no rest)

-- the jobs of the tasks that don't run
pub idle_are : (running : List Task) (slots : List Slot) → map (λ slot. slot.key.job) (filter (is_idle running) slots) ≡ waiting_jobs running (tasks_in slots)
idle_are running [] = refl
idle_are running (s ∷ ss) = by_spec s.spec (idle_are running ss) where
  by_spec : (spec : Option Spec) → map (λ (slot : Slot). slot.key.job) (filter (is_idle running) ss) ≡ waiting_jobs running (tasks_in ss)
      → map (λ (slot : Slot). slot.key.job) (cond (is_some spec && not (is_some (task_at running s.key))) (s ∷ filter (is_idle running) ss) (filter (is_idle running) ss))
      ≡ waiting_jobs running (from_slot s.key spec (tasks_in ss))
  by_spec None rest = rest
  by_spec (Some spec) rest =
      by_answer (is_some (task_at running s.key))
      (λ yes. rw yes rest)
      (λ no. rw no (ap (λ (jobs : List ℕ). s.key.job ∷ jobs) rest))

-- where no task of a job is idle, each of them runs
pub all_run_from : (job : ℕ) (running : List Task) (slots : List Slot) → list_any (is_idle_of job running) slots ≡ false → All (RunsIfOf job running) (tasks_in slots)
all_run_from job running [] none = All-nil _
all_run_from job running (s ∷ ss) none = by_test (is_idle_of job running s) refl none (all_run_from job running ss) where
  runs : (own runs : Bool) → (own && not runs) ≡ false → own ≡ true → runs ≡ true
  runs true true e is = refl
  runs true false e is = sym e
  runs false r e is = absurd (cc)

  by_spec : (spec : Option Spec) → is_idle_of job running (slot_of s.key spec) ≡ false → All (RunsIfOf job running) (tasks_in ss) → All (RunsIfOf job running) (from_slot s.key spec (tasks_in ss))
  by_spec None e rest = rest
  by_spec (Some spec) e rest = All-cons (RunsIfOf job running) (record { key = s.key; spec = spec }) (tasks_in ss) (λ own. runs (s.key.job == job) (is_some (task_at running s.key)) e own) rest

  by_test : (b : Bool) → is_idle_of job running s ≡ b → (b || list_any (is_idle_of job running) ss) ≡ false
      → (list_any (is_idle_of job running) ss ≡ false → All (RunsIfOf job running) (tasks_in ss)) → All (RunsIfOf job running) (tasks_in (s ∷ ss))
  by_test true e n rest = absurd (cc)
  by_test false e n rest = by_spec s.spec e (rest n)

-- where each task of a job runs, none is idle
pub none_idle : (job : ℕ) (running : List Task) (slots : List Slot) → All (RunsIfOf job running) (tasks_in slots) → list_any (is_idle_of job running) slots ≡ false
none_idle job running [] all = refl
none_idle job running (s ∷ ss) all = by_spec s.spec all (none_idle job running ss) where
  by_spec : (spec : Option Spec) → All (RunsIfOf job running) (from_slot s.key spec (tasks_in ss)) → (All (RunsIfOf job running) (tasks_in ss) → list_any (is_idle_of job running) ss ≡ false)
      → (is_idle_of job running (slot_of s.key spec) || list_any (is_idle_of job running) ss) ≡ false
  by_spec None own later = by_answer (s.key.job == job) (λ yes. rw yes (later own)) (λ no. rw no (later own))
  by_spec (Some spec) own later =
      let task : WantedTask = record { key = s.key; spec = spec } in
      let first = All-head (RunsIfOf job running) task (tasks_in ss) own in
      let rest = later (All-tail (RunsIfOf job running) task (tasks_in ss) own) in
      by_answer (s.key.job == job) (λ yes. rw (yes, first yes) rest) (λ no. rw no rest)
