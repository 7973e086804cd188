-- Tasks that are spread over several trees: what is put into one tree, taken out of it or looked up in it is so for all of them.
use Rattle.std.proofs.Common.{◌≡◌, ℕ, ◌<◌, ◌≤◌, ◌+◌, ◌%◌, Bool, true, false, ◌||◌, not, eqb, cond, List, [], ◌∷◌, ◌++◌, length, length-append, length-set, map, get_or, set, zero, suc, nat_le, nat_lt, Some, refl, ap, ap₂, sym, subst, ◌∙◌, arith}
use Rattle.std.specs.List.{All, filter, AllByRecursion as Each}
use Rattle.std.proofs.lemmas.Bool.{both_ways, eqb-true, false_from_ne_true, leb-true, ltb-true, eq-eqb, ne_eqb, and_parts, or_left, or_from, not_from_true, not-false, not-true}
use Rattle.std.proofs.lemmas.List.{length-map, get_or-map, get_or-set_same, get_or-set_other, map-set}
use Rattle.std.proofs.lemmas.List.Elements.{All-get_or, All-set, filter-append}
use Rattle.std.proofs.lemmas.List.Filters.{length-filter_both}
use Rattle.omega_model.specs.ExtraTasks.{first_extra, is_extra_of}
use Rattle.omega_model.specs.Keys.{same_key}
use Rattle.omega_model.specs.Cell.{task_at}
use Rattle.omega_model.specs.declared.cells.TaskKey.{TaskKey}
use Rattle.omega_model.specs.declared.cells.Task.{Task}
use Rattle.omega_running.specs.declared.orders.Order.{Order}
use Rattle.omega_running.specs.declared.orders.Order.TheVariants.{ByKey, ByMachine}
use Rattle.omega_running.specs.declared.nodes.Tree.{Tree}
use Rattle.omega_running.specs.declared.nodes.Tree.TheVariants.{Leaf}
use Rattle.omega_running.specs.Order.{IsInOrder, precedes, is_apart, is_extra, lead, share, share_of, in_share, spread, spread_key, spread_machine, put_in, taken_out, at_place, led_by}
use Rattle.omega_running.specs.Tree.{IsTallied, tasks_of}
use Rattle.omega_running.specs.Forest.{AreTrees, is_at, with_tree, gathered, IsSpread}
use Rattle.omega_model.proofs.Lists.{by_answer, all_of_each, each_map, each_both, each_append, filter_none, filter_every, each_passes, each_filter, filter_turned, find_filtered}
use Rattle.omega_running.proofs.Strict.{trans, ahead}
use Rattle.omega_running.proofs.InOrder.{strict, apart_by_key, apart_by_machine}
use Rattle.omega_running.proofs.Kept.{irreflexive, rises_filter, rises_put, skip_put}

-- a key's tree is named by what stands in the key
key_spread : (a b : TaskKey) → a.job ≡ b.job → a.index ≡ b.index → spread_key a ≡ spread_key b
key_spread a b job index = rw (job, index) refl

-- a machine's tree is named by the machine and by the share
machine_spread : (a : Task) (machine number : ℕ) → a.machine ≡ machine → share a ≡ number → spread ByMachine a ≡ spread_machine machine number
machine_spread a machine number on own = ap₂ spread_machine on own

-- and the share by the key
key_share : (a b : TaskKey) → a.job ≡ b.job → a.index ≡ b.index → share_of a ≡ share_of b
key_share a b job index = rw (job, index) refl

-- tasks at the same place of an order have the same tree
spread_same : (order : Order) (a b : Task) → is_apart order a b ≡ false → spread order a ≡ spread order b
spread_same ByKey a b e =
    let parts = and_parts (eqb a.key.job b.key.job) (eqb a.key.index b.key.index) (not-false _ (sym (apart_by_key a b) ∙ e)) in
    key_spread a.key b.key (eqb-true _ _ parts.0) (eqb-true _ _ parts.1)
spread_same ByMachine a b e =
    let parts = and_parts (eqb a.machine b.machine) (same_key a.key b.key) (not-false _ (sym (apart_by_machine a b) ∙ e)) in
    let keys = and_parts (eqb a.key.job b.key.job) (eqb a.key.index b.key.index) parts.1 in
    machine_spread a b.machine (share b) (eqb-true _ _ parts.0) (key_share a.key b.key (eqb-true _ _ keys.0) (eqb-true _ _ keys.1))

pub other_tree : (order : Order) (trees place : ℕ) (a b : Task) → is_at order trees place a ≡ true → is_at order trees place b ≡ false → is_apart order a b ≡ true
other_tree order trees place a b h k = go (is_apart order a b) refl where
  go : (x : Bool) → is_apart order a b ≡ x → is_apart order a b ≡ true
  go true e = e
  go false e = absurd (both_ways _ k (rw (spread_same order a b e) at h))

-- what holds of all tasks after one or several are put in
each_put : (P : Task → Type 0) (order : Order) (t : Task) (xs : List Task) → P t → Each P xs → Each P (put_in order t xs)
each_put P order t xs h e =
    each_append P (filter (λ y. not (precedes order t y)) xs) (t ∷ filter (λ y. precedes order t y) xs)
    (each_filter P (λ y. not (precedes order t y)) xs e) (h, each_filter P (λ y. precedes order t y) xs e)

each_with_tree : (P : Task → Type 0) (order : Order) (l xs : List Task) → Each P l → Each P xs → Each P (with_tree order l xs)
each_with_tree P order [] xs e f = f
each_with_tree P order (t ∷ l) xs e f = each_put P order t (with_tree order l xs) e.0 (each_with_tree P order l xs e.1 f)

-- a filter that passes the task that is put in, and a task that goes before all
filter_put : (order : Order) (s : Task → Bool) (t : Task) (xs : List Task) → s t ≡ true → filter s (put_in order t xs) ≡ put_in order t (filter s xs)
filter_put order s t xs h =
    filter-append s (filter (λ y. not (precedes order t y)) xs) (t ∷ filter (λ y. precedes order t y) xs)
    ∙ rw (h, filter_turned s (λ y. not (precedes order t y)) xs, filter_turned s (λ y. precedes order t y) xs) refl

first_put : (order : Order) (t : Task) (xs : List Task) → Each (λ y. precedes order t y ≡ true) xs → put_in order t xs ≡ t ∷ xs
first_put order t xs e =
    rw (filter_none (λ y. not (precedes order t y)) xs (each_map (λ y. precedes order t y ≡ true) (λ y. not (precedes order t y) ≡ false) (λ y q. not_from_true _ q) xs e), filter_every (λ y. precedes order t y) xs e) refl

pub length-put : (order : Order) (t : Task) (xs : List Task) → length (put_in order t xs) ≡ length xs + 1
length-put order t xs =
    let parts = length-filter_both (λ y. precedes order t y) (λ y. not (precedes order t y)) (λ y. refl) xs in
    go (filter (λ y. not (precedes order t y)) xs) (filter (λ y. precedes order t y) xs) parts where
      go : (l r : List Task) → length r + length l ≡ length xs → length (l ++ t ∷ r) ≡ length xs + 1
      go l r e =
          let sum : length (l ++ t ∷ r) ≡ length l + length (t ∷ r) = length-append l (t ∷ r) in
          omega (arith, e, sum)

-- one tree's tasks with those of the others
record IsTree (order : Order) (trees place : ℕ) (l xs : List Task) : Type 0 where
  pub rises : IsInOrder order l
  pub here : Each (λ y. is_at order trees place y ≡ true) l
  pub others_rise : IsInOrder order xs
  pub elsewhere : Each (λ y. is_at order trees place y ≡ false) xs

rest_is : {order : Order} {trees place : ℕ} {t : Task} {l xs : List Task} → IsTree order trees place (t ∷ l) xs → IsTree order trees place l xs
rest_is i = record { rises = i.rises.1; here = i.here.1; others_rise = i.others_rise; elsewhere = i.elsewhere }

with_tree_rises : (order : Order) (trees place : ℕ) (l xs : List Task) → IsTree order trees place l xs → IsInOrder order (with_tree order l xs)
with_tree_rises order trees place [] xs i = i.others_rise
with_tree_rises order trees place (t ∷ l) xs i =
    let own = each_map (λ y. precedes order t y ≡ true) (λ y. is_apart order t y ≡ true) (λ y q. or_left _ _ q) l i.rises.0 in
    let others = each_map (λ y. is_at order trees place y ≡ false) (λ y. is_apart order t y ≡ true) (λ y q. other_tree order trees place t y i.here.0 q) xs i.elsewhere in
    rises_put (precedes order) (strict order) t (with_tree order l xs) (with_tree_rises order trees place l xs (rest_is i)) (each_with_tree (λ y. is_apart order t y ≡ true) order l xs own others)

with_tree_here : (order : Order) (trees place : ℕ) (l xs : List Task) → IsTree order trees place l xs → filter (is_at order trees place) (with_tree order l xs) ≡ l
with_tree_here order trees place [] xs i = filter_none (is_at order trees place) xs i.elsewhere
with_tree_here order trees place (t ∷ l) xs i =
    filter_put order (is_at order trees place) t (with_tree order l xs) i.here.0
    ∙ ap (put_in order t) (with_tree_here order trees place l xs (rest_is i))
    ∙ first_put order t l i.rises.0

with_tree_elsewhere : (order : Order) (trees place : ℕ) (s : Task → Bool) (l xs : List Task) → IsTree order trees place l xs → Each (λ y. s y ≡ false) l → filter s (with_tree order l xs) ≡ filter s xs
with_tree_elsewhere order trees place s [] xs i e = refl
with_tree_elsewhere order trees place s (t ∷ l) xs i e =
    skip_put (precedes order) (strict order) s t (with_tree order l xs) (with_tree_rises order trees place l xs (rest_is i)) e.0
    ∙ with_tree_elsewhere order trees place s l xs (rest_is i) e.1

-- all tasks: they are in order, and those of a place are those of its tree
pub record Gathers (order : Order) (trees place : ℕ) (ls : List (List Task)) (xs : List Task) : Type 0 where
  pub rises : IsInOrder order xs
  pub from : Each (λ y. place ≤ spread order y % trees) xs
  pub at : (i : ℕ) → filter (is_at order trees (place + i)) xs ≡ get_or ls i []

pub gathers : (order : Order) (trees place : ℕ) (ls : List (List Task)) → IsSpread order trees place ls → Gathers order trees place ls (gathered order ls)
gathers order trees place [] s = record { rises = tt; from = tt; at = λ i. refl }
gathers order trees place (l ∷ ls) s =
    let xs = gathered order ls in
    let rest = gathers order trees (place + 1) ls s.2 in
    let off = each_map (λ y. place + 1 ≤ spread order y % trees) (λ y. is_at order trees place y ≡ false) (λ y q. ne_eqb _ _ (omega arith)) xs rest.from in
    let tree : IsTree order trees place l xs = record { rises = s.0; here = s.1; others_rise = rest.rises; elsewhere = off } in
    record {
      rises = with_tree_rises order trees place l xs tree;
      from = each_with_tree (λ y. place ≤ spread order y % trees) order l xs
          (each_map (λ y. is_at order trees place y ≡ true) (λ y. place ≤ spread order y % trees) (λ y q. let e : spread order y % trees ≡ place = eqb-true _ _ q in omega (arith, e)) l s.1)
          (each_map (λ y. place + 1 ≤ spread order y % trees) (λ y. place ≤ spread order y % trees) (λ y q. omega (arith, q)) xs rest.from);
      at = at_of l ls xs tree rest.at;
    } where
      at_of : (l : List Task) (ls : List (List Task)) (xs : List Task) → IsTree order trees place l xs → ((i : ℕ) → filter (is_at order trees (place + 1 + i)) xs ≡ get_or ls i []) → (i : ℕ) → filter (is_at order trees (place + i)) (with_tree order l xs) ≡ get_or (l ∷ ls) i []
      at_of l ls xs tree later zero = let same : place + 0 ≡ place = omega arith in rw same (with_tree_here order trees place l xs tree)
      at_of l ls xs tree later (suc i) =
          let same : place + suc i ≡ place + 1 + i = omega arith in
          let off = each_map (λ y. is_at order trees place y ≡ true) (λ y. is_at order trees (place + 1 + i) y ≡ false) (λ y q. let e : spread order y % trees ≡ place = eqb-true _ _ q in ne_eqb _ _ (omega (arith, e))) l tree.here in
          rw same (with_tree_elsewhere order trees place (is_at order trees (place + 1 + i)) l xs tree off ∙ later i)

-- two lists in order with the same tasks in each tree are the same
not_before : (order : Order) (s : Task → Bool) (x : Task) (xs : List Task) (y : Task) (ys : List Task) → Each (λ z. precedes order y z ≡ true) ys → precedes order x y ≡ true → s x ≡ true → filter s (x ∷ xs) ≡ filter s (y ∷ ys) → ⊥
not_before order s x xs y ys after p h e =
    let behind : Each (λ z. precedes order x z ≡ true) (y ∷ ys) = (p, each_map (λ z. precedes order y z ≡ true) (λ z. precedes order x z ≡ true) (λ z q. trans (precedes order) (strict order) x y z p q) ys after) in
    let left : Each (λ z. precedes order x z ≡ true) (x ∷ filter s xs) = subst (λ zs. Each (λ z. precedes order x z ≡ true) zs) {y = x ∷ filter s xs} (sym e ∙ rw h refl) (each_filter (λ z. precedes order x z ≡ true) s (y ∷ ys) behind) in
    both_ways _ (irreflexive (precedes order) (strict order) x) left.0

same_tail : (s : Task → Bool) (x : Task) (xs ys : List Task) → filter s (x ∷ xs) ≡ filter s (x ∷ ys) → filter s xs ≡ filter s ys
same_tail s x xs ys e = go (s x) e where
  go : (b : Bool) → cond b (x ∷ filter s xs) (filter s xs) ≡ cond b (x ∷ filter s ys) (filter s ys) → filter s xs ≡ filter s ys
  go true e = cc
  go false e = e

same_head : (s : Task → Bool) (x : Task) (xs : List Task) (y : Task) (ys : List Task) → s x ≡ true → s y ≡ true → filter s (x ∷ xs) ≡ filter s (y ∷ ys) → x ≡ y
same_head s x xs y ys h k e =
    let heads : x ∷ filter s xs ≡ y ∷ filter s ys = sym (rw h refl) ∙ e ∙ rw k refl in
    cc

here : (order : Order) (trees : ℕ) (x : Task) → is_at order trees (spread order x % trees) x ≡ true
here order trees x = eq-eqb _ _ refl

some_pass : {C : Type 0} (s : Task → Bool) (x : Task) (xs : List Task) → s x ≡ true → [] ≡ filter s (x ∷ xs) → C
some_pass s x xs h e = let f : [] ≡ x ∷ filter s xs = e ∙ rw h refl in absurd (cc)

pub same_lists : (order : Order) (trees : ℕ) (xs ys : List Task) → IsInOrder order xs → IsInOrder order ys → ((i : ℕ) → filter (is_at order trees i) xs ≡ filter (is_at order trees i) ys) → xs ≡ ys
same_lists order trees [] [] u v f = refl
same_lists order trees [] (y ∷ ys) u v f = let e : [] ≡ filter (is_at order trees (spread order y % trees)) (y ∷ ys) = f (spread order y % trees) in some_pass (is_at order trees (spread order y % trees)) y ys (here order trees y) e
same_lists order trees (x ∷ xs) [] u v f = let e : filter (is_at order trees (spread order x % trees)) (x ∷ xs) ≡ [] = f (spread order x % trees) in some_pass (is_at order trees (spread order x % trees)) x xs (here order trees x) (sym e)
same_lists order trees (x ∷ xs) (y ∷ ys) u v f = go (precedes order x y) (precedes order y x) refl refl (same_lists order trees xs ys u.1 v.1) where
  go : (a b : Bool) → precedes order x y ≡ a → precedes order y x ≡ b → (((i : ℕ) → filter (is_at order trees i) xs ≡ filter (is_at order trees i) ys) → xs ≡ ys) → x ∷ xs ≡ y ∷ ys
  go true b h k rest = absurd (not_before order (is_at order trees (spread order x % trees)) x xs y ys v.0 h (here order trees x) (f (spread order x % trees)))
  go false true h k rest = absurd (not_before order (is_at order trees (spread order y % trees)) y ys x xs u.0 k (here order trees y) (sym (f (spread order y % trees))))
  go false false h k rest =
      let there : is_at order trees (spread order x % trees) y ≡ true = eq-eqb _ _ (ap (λ n. n % trees) (sym (spread_same order x y (or_from _ _ h k)))) in
      let same : x ≡ y = same_head (is_at order trees (spread order x % trees)) x xs y ys (here order trees x) there (f (spread order x % trees)) in
      let tails = rest (λ i. same_tail (is_at order trees i) x xs ys (subst (λ z. filter (is_at order trees i) (x ∷ xs) ≡ filter (is_at order trees i) (z ∷ ys)) (sym same) (f i))) in
      rw (same, tails) refl

-- one tree is changed
set_spread : (order : Order) (trees place : ℕ) (ls : List (List Task)) (i : ℕ) (tasks : List Task) → IsSpread order trees place ls → IsInOrder order tasks → Each (λ y. is_at order trees (place + i) y ≡ true) tasks → IsSpread order trees place (set ls i tasks)
set_spread order trees place [] i tasks s u e = tt
set_spread order trees place (l ∷ ls) zero tasks s u e =
    let same : place + 0 ≡ place = omega arith in
    (u, subst (λ n. Each (λ y. is_at order trees n y ≡ true) tasks) same e, s.2)
set_spread order trees place (l ∷ ls) (suc i) tasks s u e =
    let same : place + suc i ≡ place + 1 + i = omega arith in
    (s.0, s.1, set_spread order trees (place + 1) ls i tasks s.2 u (subst (λ n. Each (λ y. is_at order trees n y ≡ true) tasks) same e))

-- what holds of the tasks of one tree
pub record IsPart (order : Order) (trees place : ℕ) (tasks : List Task) : Type 0 where
  pub rises : IsInOrder order tasks
  pub here : Each (λ y. is_at order trees place y ≡ true) tasks

part_of : (order : Order) (trees place : ℕ) (ls : List (List Task)) (i : ℕ) → IsSpread order trees place ls → IsPart order trees (place + i) (get_or ls i [])
part_of order trees place [] i s = record { rises = tt; here = tt }
part_of order trees place (l ∷ ls) zero s =
    let same : place ≡ place + 0 = omega arith in
    record { rises = s.0; here = subst (λ n. Each (λ y. is_at order trees n y ≡ true) l) same s.1 }
part_of order trees place (l ∷ ls) (suc i) s =
    let same : place + 1 + i ≡ place + suc i = omega arith in
    subst (λ n. IsPart order trees n (get_or ls i [])) same (part_of order trees (place + 1) ls i s.2)

-- from the first place on
pub all_trees : (order : Order) (trees : ℕ) (ls : List (List Task)) → IsSpread order trees 0 ls → (i : ℕ) → filter (is_at order trees i) (gathered order ls) ≡ get_or ls i []
all_trees order trees ls s i =
    let same : 0 + i ≡ i = omega arith in
    subst (λ n. filter (is_at order trees n) (gathered order ls) ≡ get_or ls i []) same ((gathers order trees 0 ls s).at i)

pub part : (order : Order) (trees : ℕ) (ls : List (List Task)) (i : ℕ) → IsSpread order trees 0 ls → IsPart order trees i (get_or ls i [])
part order trees ls i s =
    let same : 0 + i ≡ i = omega arith in
    subst (λ n. IsPart order trees n (get_or ls i [])) same (part_of order trees 0 ls i s)

-- the tasks of a tree are those of its place
pub part_is : (order : Order) (trees : ℕ) (ls : List (List Task)) (i : ℕ) → IsSpread order trees 0 ls → get_or ls i [] ≡ filter (is_at order trees i) (gathered order ls)
part_is order trees ls i s = sym (all_trees order trees ls s i)

pub record IsChanged (order : Order) (trees : ℕ) (ls : List (List Task)) (i : ℕ) (tasks xs : List Task) : Type 0 where
  pub spread : IsSpread order trees 0 (set ls i tasks)
  pub is : gathered order (set ls i tasks) ≡ xs

changed : (order : Order) (trees : ℕ) (ls : List (List Task)) (i : ℕ) (tasks xs : List Task) → IsSpread order trees 0 ls → i < length ls → IsPart order trees i tasks → IsInOrder order xs → filter (is_at order trees i) xs ≡ tasks → ((j : ℕ) → (j ≡ i → ⊥) → filter (is_at order trees j) xs ≡ filter (is_at order trees j) (gathered order ls)) → IsChanged order trees ls i tasks xs
changed order trees ls i tasks xs s less p u own others =
    let spread = set_spread order trees 0 ls i tasks s p.rises (subst (λ n. Each (λ y. is_at order trees n y ≡ true) tasks) (omega arith) p.here) in
    let new = gathers order trees 0 (set ls i tasks) spread in
    record { spread = spread; is = same_lists order trees (gathered order (set ls i tasks)) xs new.rises u (λ j. all_trees order trees (set ls i tasks) spread j ∙ each_tree j (eqb j i) refl) } where
      each_tree : (j : ℕ) (b : Bool) → eqb j i ≡ b → get_or (set ls i tasks) j [] ≡ filter (is_at order trees j) xs
      each_tree j true e = let same : j ≡ i = eqb-true _ _ e in rw same (get_or-set_same ls i tasks [] less ∙ sym own)
      each_tree j false e =
          let differs : j ≡ i → ⊥ = λ q. both_ways _ e (eq-eqb _ _ q) in
          get_or-set_other ls i j tasks [] differs ∙ sym (all_trees order trees ls s j) ∙ sym (others j differs)

pub put_in_tree : (order : Order) (trees : ℕ) (ls : List (List Task)) (t : Task) → IsSpread order trees 0 ls → spread order t % trees < length ls → Each (λ y. is_apart order t y ≡ true) (gathered order ls) → IsChanged order trees ls (spread order t % trees) (put_in order t (get_or ls (spread order t % trees) [])) (put_in order t (gathered order ls))
put_in_tree order trees ls t s less apart =
    let i : ℕ = spread order t % trees in
    let all = gathered order ls in
    let old = gathers order trees 0 ls s in
    let tree = part order trees ls i s in
    let own_apart : Each (λ y. is_apart order t y ≡ true) (get_or ls i []) = subst (λ zs. Each (λ y. is_apart order t y ≡ true) zs) (all_trees order trees ls s i) (each_filter (λ y. is_apart order t y ≡ true) (is_at order trees i) all apart) in
    let now : IsPart order trees i (put_in order t (get_or ls i [])) = record {
      rises = rises_put (precedes order) (strict order) t (get_or ls i []) tree.rises own_apart;
      here = each_put (λ y. is_at order trees i y ≡ true) order t (get_or ls i []) (here order trees t) tree.here;
    } in
    changed order trees ls i (put_in order t (get_or ls i [])) (put_in order t all) s less now
    (rises_put (precedes order) (strict order) t all old.rises apart)
    (filter_put order (is_at order trees i) t all (here order trees t) ∙ ap (put_in order t) (all_trees order trees ls s i))
    (λ j differs. skip_put (precedes order) (strict order) (is_at order trees j) t all old.rises (ne_eqb _ _ (λ e. differs (sym e))))

pub taken_from_tree : (order : Order) (trees : ℕ) (ls : List (List Task)) (t : Task) → IsSpread order trees 0 ls → spread order t % trees < length ls → IsChanged order trees ls (spread order t % trees) (taken_out order t (get_or ls (spread order t % trees) [])) (taken_out order t (gathered order ls))
taken_from_tree order trees ls t s less =
    let i : ℕ = spread order t % trees in
    let all = gathered order ls in
    let old = gathers order trees 0 ls s in
    let tree = part order trees ls i s in
    let now : IsPart order trees i (taken_out order t (get_or ls i [])) = record {
      rises = rises_filter (precedes order) (is_apart order t) (get_or ls i []) tree.rises;
      here = each_filter (λ y. is_at order trees i y ≡ true) (is_apart order t) (get_or ls i []) tree.here;
    } in
    changed order trees ls i (taken_out order t (get_or ls i [])) (taken_out order t all) s less now
    (rises_filter (precedes order) (is_apart order t) all old.rises)
    (filter_turned (is_at order trees i) (is_apart order t) all ∙ ap (filter (is_apart order t)) (all_trees order trees ls s i))
    (λ j differs. filter_turned (is_at order trees j) (is_apart order t) all
    ∙ filter_every (is_apart order t) (filter (is_at order trees j) all)
    (each_map (λ y. is_at order trees j y ≡ true) (λ y. is_apart order t y ≡ true)
    (λ y q. let e : spread order y % trees ≡ j = eqb-true _ _ q in other_tree order trees i t y (here order trees t) (ne_eqb _ _ (λ d. differs (sym e ∙ d))))
    (filter (is_at order trees j) all) (each_passes (is_at order trees j) all)))

-- who stands at a place stands there in the tree of the place
place_in_tree : (order : Order) (trees : ℕ) (ls : List (List Task)) (t : Task) → IsSpread order trees 0 ls → at_place order t (get_or ls (spread order t % trees) []) ≡ at_place order t (gathered order ls)
place_in_tree order trees ls t s =
    let i : ℕ = spread order t % trees in
    ap (at_place order t) (sym (all_trees order trees ls s i))
    ∙ find_filtered (λ y. not (is_apart order t y)) (is_at order trees i)
    (λ y q. eq-eqb _ _ (ap (λ n. n % trees) (sym (spread_same order t y (not-true _ q))))) (gathered order ls)

-- one task less
pub length-taken : (order : Order) (t : Task) (xs : List Task) (y : Task) → IsInOrder order xs → at_place order t xs ≡ Some y → length (taken_out order t xs) + 1 ≡ length xs
length-taken order t [] y u e = absurd (cc)
length-taken order t (x ∷ xs) y u e = go (is_apart order t x) refl (length-taken order t xs y u.1) e where
  or_none : (a b : Bool) → (a || b) ≡ false → b ≡ false
  or_none true b e = absurd (cc)
  or_none false b e = e

  go : (b : Bool) → is_apart order t x ≡ b → (at_place order t xs ≡ Some y → length (taken_out order t xs) + 1 ≡ length xs) → cond (not b) (Some x) (at_place order t xs) ≡ Some y → length (cond b (x ∷ taken_out order t xs) (taken_out order t xs)) + 1 ≡ length (x ∷ xs)
  go true h rest e = let less = rest e in omega (arith, less)
  go false h rest e =
      let no = or_none (precedes order t x) (precedes order x t) h in
      let all = filter_every (is_apart order t) xs (each_map (λ y. precedes order x y ≡ true) (λ y. is_apart order t y ≡ true) (λ y q. or_left _ _ (ahead (precedes order) (strict order) x y t q no)) xs u.0) in
      rw all (omega arith)

-- trees of no task
none_in_leaves : (order : Order) (trees place : ℕ) (ts : List Tree) → Each (λ tree. tree ≡ Leaf) ts → IsSpread order trees place (map tasks_of ts) × (gathered order (map tasks_of ts) ≡ [])
none_in_leaves order trees place [] e = (tt, refl)
none_in_leaves order trees place (t ∷ ts) e =
    let rest = none_in_leaves order trees (place + 1) ts e.1 in
    rw e.0 ((tt, tt, rest.0), rest.1)

-- the tree at a place
pub tree_at : (ts : List Tree) (i : ℕ) (tree : Tree) → i < length ts → tree ≡ get_or ts i tree → get_or (map tasks_of ts) i [] ≡ tasks_of tree
tree_at ts i tree less e = get_or-map tasks_of ts i tree [] less ∙ ap tasks_of (sym e)

pub one_tree : (order : Order) (ts : List Tree) (i : ℕ) (tree : Tree) → AreTrees order ts → i < length ts → tree ≡ get_or ts i tree → IsInOrder order (tasks_of tree) × IsTallied tree
one_tree order ts i tree s less old = (
  subst (IsInOrder order) (tree_at ts i tree less old) (part order (length ts) (map tasks_of ts) i s.spread).rises,
  subst IsTallied (sym old) (All-get_or IsTallied ts i tree less s.tallied),
)

-- a tree is replaced by one with other tasks: what all trees stand for then
pub record AreNow (order : Order) (ts : List Tree) (xs : List Task) : Type 0 where
  pub trees : AreTrees order ts
  pub is : gathered order (map tasks_of ts) ≡ xs

pub leaves_are : (order : Order) (ts : List Tree) → Each (λ tree. tree ≡ Leaf) ts → AreNow order ts []
leaves_are order ts e =
    let none = none_in_leaves order (length ts) 0 ts e in
    let tallied = each_map (λ tree. tree ≡ Leaf) IsTallied (λ tree leaf. rw leaf tt) ts e in
    record { trees = record { spread = none.0; tallied = all_of_each IsTallied ts tallied }; is = none.1 }

replaced : (order : Order) (ts : List Tree) (i : ℕ) (tree : Tree) (tasks xs : List Task) → All IsTallied ts → IsChanged order (length ts) (map tasks_of ts) i tasks xs → tasks_of tree ≡ tasks → IsTallied tree → AreNow order (set ts i tree) xs
replaced order ts i tree tasks xs others c e tallied =
    let same : map tasks_of (set ts i tree) ≡ set (map tasks_of ts) i tasks = map-set tasks_of ts i tree ∙ ap (set (map tasks_of ts) i) e in
    let many : length (set ts i tree) ≡ length ts = length-set ts i tree in
    record {
      trees = record { spread = rw (same, many) c.spread; tallied = All-set IsTallied ts i tree tallied others };
      is = rw same c.is;
    }

pub put_at : (order : Order) (ts : List Tree) (i : ℕ) (t : Task) (tree new : Tree) → i ≡ spread order t % length ts → i < length ts → AreTrees order ts → Each (λ y. is_apart order t y ≡ true) (gathered order (map tasks_of ts)) → tree ≡ get_or ts i tree → tasks_of new ≡ put_in order t (tasks_of tree) → IsTallied new → AreNow order (set ts i new) (put_in order t (gathered order (map tasks_of ts)))
put_at order ts i t tree new named less s apart old e tallied =
    let ls : List (List Task) = map tasks_of ts in
    let within : spread order t % length ts < length ls = rw (← named, length-map ts tasks_of) less in
    let changes = put_in_tree order (length ts) ls t s.spread within apart in
    let here : IsChanged order (length ts) ls i (put_in order t (get_or ls i [])) (put_in order t (gathered order ls)) = rw named changes in
    replaced order ts i new (put_in order t (get_or ls i [])) (put_in order t (gathered order ls)) s.tallied here
    (e ∙ ap (put_in order t) (sym (tree_at ts i tree less old))) tallied

pub taken_at : (order : Order) (ts : List Tree) (i : ℕ) (t : Task) (tree new : Tree) → i ≡ spread order t % length ts → i < length ts → AreTrees order ts → tree ≡ get_or ts i tree → tasks_of new ≡ taken_out order t (tasks_of tree) → IsTallied new → AreNow order (set ts i new) (taken_out order t (gathered order (map tasks_of ts)))
taken_at order ts i t tree new named less s old e tallied =
    let ls : List (List Task) = map tasks_of ts in
    let within : spread order t % length ts < length ls = rw (← named, length-map ts tasks_of) less in
    let changes = taken_from_tree order (length ts) ls t s.spread within in
    let here : IsChanged order (length ts) ls i (taken_out order t (get_or ls i [])) (taken_out order t (gathered order ls)) = rw named changes in
    replaced order ts i new (taken_out order t (get_or ls i [])) (taken_out order t (gathered order ls)) s.tallied here
    (e ∙ ap (taken_out order t) (sym (tree_at ts i tree less old))) tallied

-- what is looked for in one tree is so looked for in all
same_place : (order : Order) (trees number : ℕ) (x : Task) → spread order x ≡ number → is_at order trees (number % trees) x ≡ true
same_place order trees number x e = eq-eqb _ _ (ap (λ n. n % trees) e)

pub found_in_tree : (trees : ℕ) (key : TaskKey) (xs : List Task) → task_at (filter (is_at ByKey trees (spread_key key % trees)) xs) key ≡ task_at xs key
found_in_tree trees key xs =
    find_filtered (λ y. same_key y.key key) (is_at ByKey trees (spread_key key % trees))
    (λ y q. let parts = and_parts (eqb y.key.job key.job) (eqb y.key.index key.index) q in
    same_place ByKey trees (spread_key key) y (key_spread y.key key (eqb-true _ _ parts.0) (eqb-true _ _ parts.1))) xs

pub led_in_tree : (trees machine number : ℕ) (xs : List Task)
    → filter (in_share number) (led_by ByMachine machine (filter (is_at ByMachine trees (spread_machine machine number % trees)) xs))
    ≡ filter (in_share number) (led_by ByMachine machine xs)
led_in_tree trees machine number xs =
    let led : Task → Bool = λ y. eqb (lead ByMachine y) machine in
    let there : Task → Bool = is_at ByMachine trees (spread_machine machine number % trees) in
    let all = filter led xs in
    let own = filter (in_share number) all in
    ap (filter (in_share number)) (filter_turned led there xs)
    ∙ filter_turned (in_share number) there all
    ∙ filter_every there own
    (each_both (λ y. in_share number y ≡ true) (λ y. led y ≡ true) (λ y. there y ≡ true)
    (λ y p q. same_place ByMachine trees (spread_machine machine number) y (machine_spread y machine number (eqb-true _ _ q) (eqb-true _ _ p)))
    own (each_passes (in_share number) all) (each_filter (λ y. led y ≡ true) (in_share number) all (each_passes led xs)))

-- the extra tasks of a job stand in the tree that the job names
extra_spread : (job : ℕ) (x : Task) → is_extra_of job x ≡ true → spread ByKey x ≡ job
extra_spread job x e =
    let parts = and_parts (eqb x.key.job job) (nat_le first_extra x.key.index) e in
    let high : nat_lt x.key.index first_extra ≡ false =
    false_from_ne_true _ (λ low. let less = ltb-true _ _ low in let above = leb-true _ _ parts.1 in omega (arith, less, above)) in
    rw high (eqb-true _ _ parts.0)

pub extras_here : (trees job : ℕ) (xs : List Task) → filter (is_extra_of job) (filter (is_at ByKey trees (job % trees)) xs) ≡ filter (is_extra_of job) xs
extras_here trees job xs =
    filter_turned (is_extra_of job) (is_at ByKey trees (job % trees)) xs
    ∙ filter_every (is_at ByKey trees (job % trees)) (filter (is_extra_of job) xs)
    (each_map (λ y. is_extra_of job y ≡ true) (λ y. is_at ByKey trees (job % trees) y ≡ true) (λ y q. same_place ByKey trees job y (extra_spread job y q)) (filter (is_extra_of job) xs) (each_passes (is_extra_of job) xs))

-- and are those of the job's that are extra ones
pub extras_led : (job : ℕ) (xs : List Task) → filter is_extra (led_by ByKey job xs) ≡ filter (is_extra_of job) xs
extras_led job [] = refl
extras_led job (x ∷ xs) =
    let rest = extras_led job xs in
    by_answer (eqb x.key.job job)
    (λ own. by_answer (is_extra x) (λ high. rw (own, high) (ap (λ z. x ∷ z) rest)) (λ low. rw (own, low) rest))
    (λ other. rw other rest)

pub place_at : (order : Order) (ts : List Tree) (i : ℕ) (t : Task) (tree : Tree) → i ≡ spread order t % length ts → i < length ts → AreTrees order ts → tree ≡ get_or ts i tree → at_place order t (tasks_of tree) ≡ at_place order t (gathered order (map tasks_of ts))
place_at order ts i t tree named less s old =
    ap (at_place order t) (sym (tree_at ts i tree less old) ∙ ap (λ n. get_or (map tasks_of ts) n []) named)
    ∙ place_in_tree order (length ts) (map tasks_of ts) t s.spread
