-- What is known of a tree in order, once it is a fork: d are its tasks, l and r those at the sides of x.
use Rattle.std.proofs.Common.{◌≡◌, ℕ, ◌<◌, ◌≤◌, Bool, true, false, ◌&&◌, not, eqb, ltb, List, [], ◌∷◌, ◌++◌, Option, Some, None, Box, refl, ap, sym, ◌∙◌, subst, append_assoc, arith, inl, inr}
use Rattle.std.specs.List.{filter, find, AllByRecursion as Each}
use Rattle.std.specs.Option.{option_map, option_or, is_some}
use Rattle.std.specs.declared.alloc.Global.{Global}
use Rattle.std.proofs.lemmas.Bool.{ne_eqb, eq-eqb, ltb-true, and_parts, or_cases, or_from, and_left, and_right, not-false}
use Rattle.std.proofs.lemmas.List.Elements.{filter-append}
use Rattle.std.proofs.lemmas.List.Folds.{find-append}
use Rattle.omega_model.specs.Keys.{key_lt, is_among}
use Rattle.omega_model.specs.Cell.{task_at, stays_on}
use Rattle.omega_model.specs.Jobs.{is_of_job, stays_of_job}
use Rattle.omega_model.specs.declared.cells.TaskKey.{TaskKey}
use Rattle.omega_model.specs.declared.cells.Task.{Task}
use Rattle.omega_running.specs.declared.orders.Order.{Order}
use Rattle.omega_running.specs.declared.orders.Order.TheVariants.{ByKey, ByMachine}
use Rattle.omega_running.specs.declared.nodes.Tree.{Tree}
use Rattle.omega_running.specs.declared.nodes.Node.{Node}
use Rattle.omega_running.specs.declared.nodes.Tree.TheVariants.{Fork}
use Rattle.omega_running.specs.Order.{IsInOrder, precedes, lead, put_in, taken_out, at_place, in_share, led_by, is_before, is_behind}
use Rattle.omega_running.specs.Others.{stays_in_share, other_in_share}
use Rattle.omega_running.specs.Tree.{IsTallied, tasks_of}
use Rattle.omega_running.proofs.Lists.{find_left, find_right, filter_left, filter_right}
use Rattle.omega_model.proofs.Lists.{each_map}
use Rattle.omega_model.proofs.Lists.{each_append}
use Rattle.omega_running.proofs.Strict.{sides, put_left, put_right, keep_left, keep_right, keep_here, look_left, look_right, look_here}
use Rattle.omega_running.proofs.InOrder.{strict, lead_rises, place_of_key}
use Rattle.omega_running.proofs.Lex.{lex_trans, lex_apart, lt_trans, trans_lt, lt_apart}

pub record AtFork (order : Order) (d l : List Task) (x : Task) (r : List Task) : Type 0 where
  pub is : d ≡ l ++ x ∷ r
  pub rises : IsInOrder order (l ++ x ∷ r)
  pub before : Each (λ y. precedes order y x ≡ true) l
  pub after : Each (λ y. precedes order x y ≡ true) r
  pub left : IsInOrder order l
  pub right : IsInOrder order r

-- so it is of any list in order that is put together so
pub at_middle : {order : Order} {d l : List Task} {x : Task} {r : List Task} → IsInOrder order d → d ≡ l ++ x ∷ r → AtFork order d l x r
at_middle {order} {d} {l} {x} {r} rises is =
    let u : IsInOrder order (l ++ x ∷ r) = subst (IsInOrder order) is rises in
    let s = sides (precedes order) l x r u in
    record { is = is; rises = u; before = s.before; after = s.after; left = s.left; right = s.right }

pub at_fork : {order : Order} {tree : Tree} {height extras : ℕ} {node : Box Node Global} → IsInOrder order (tasks_of tree) → tree ≡ Fork height extras node → AtFork order (tasks_of tree) (tasks_of node.value.left) node.value.task (tasks_of node.value.right)
at_fork {order} {tree} {height} {extras} {node} rises is =
    let u : IsInOrder order (tasks_of node.value.left ++ node.value.task ∷ tasks_of node.value.right) = subst (λ z. IsInOrder order (tasks_of z)) is rises in
    let s = sides (precedes order) (tasks_of node.value.left) node.value.task (tasks_of node.value.right) u in
    record { is = ap tasks_of is; rises = u; before = s.before; after = s.after; left = s.left; right = s.right }

-- the numbers that a fork and its sides keep
pub tallied_at : {tree : Tree} {height extras : ℕ} {node : Box Node Global} → IsTallied tree → tree ≡ Fork height extras node → IsTallied (Fork height extras node)
tallied_at tallied is = subst IsTallied is tallied

pub put_at_left : {order : Order} {d l : List Task} {x : Task} {r : List Task} (t : Task) → AtFork order d l x r → precedes order t x ≡ true → put_in order t d ≡ put_in order t l ++ x ∷ r
put_at_left {order} {d} {l} {x} {r} t f p = rw f.is (put_left (precedes order) (strict order) t l x r f.rises p)

pub put_at_right : {order : Order} {d l : List Task} {x : Task} {r : List Task} (t : Task) → AtFork order d l x r → precedes order t x ≡ false → put_in order t d ≡ l ++ x ∷ put_in order t r
put_at_right {order} {d} {l} {x} {r} t f p = rw f.is (put_right (precedes order) (strict order) t l x r f.rises p)

pub taken_at_left : {order : Order} {d l : List Task} {x : Task} {r : List Task} (t : Task) → AtFork order d l x r → precedes order t x ≡ true → taken_out order t d ≡ taken_out order t l ++ x ∷ r
taken_at_left {order} {d} {l} {x} {r} t f p = rw f.is (keep_left (precedes order) (strict order) t l x r f.rises p)

pub taken_at_right : {order : Order} {d l : List Task} {x : Task} {r : List Task} (t : Task) → AtFork order d l x r → precedes order x t ≡ true → taken_out order t d ≡ l ++ x ∷ taken_out order t r
taken_at_right {order} {d} {l} {x} {r} t f p = rw f.is (keep_right (precedes order) (strict order) t l x r f.rises p)

pub taken_here : {order : Order} {d l : List Task} {x : Task} {r : List Task} (t : Task) → AtFork order d l x r → precedes order t x ≡ false → precedes order x t ≡ false → taken_out order t d ≡ l ++ r
taken_here {order} {d} {l} {x} {r} t f p q = rw f.is (keep_here (precedes order) (strict order) t l x r f.rises p q)

pub place_at_left : {order : Order} {d l : List Task} {x : Task} {r : List Task} (t : Task) → AtFork order d l x r → precedes order t x ≡ true → at_place order t d ≡ at_place order t l
place_at_left {order} {d} {l} {x} {r} t f p = rw f.is (look_left (precedes order) (strict order) t l x r f.rises p)

pub place_at_right : {order : Order} {d l : List Task} {x : Task} {r : List Task} (t : Task) → AtFork order d l x r → precedes order x t ≡ true → at_place order t d ≡ at_place order t r
place_at_right {order} {d} {l} {x} {r} t f p = rw f.is (look_right (precedes order) (strict order) t l x r f.rises p)

pub place_here : {order : Order} {d l : List Task} {x : Task} {r : List Task} (t : Task) → AtFork order d l x r → precedes order t x ≡ false → precedes order x t ≡ false → at_place order t d ≡ Some x
place_here {order} {d} {l} {x} {r} t f p q = rw f.is (look_here (precedes order) (strict order) t l x r f.rises p q)

-- a search for a key is one for the place of any task of that key
pub found_at_left : {d l : List Task} {x : Task} {r : List Task} (key : TaskKey) → AtFork ByKey d l x r → key_lt key x.key ≡ true → task_at d key ≡ task_at l key
found_at_left {d} {l} {x} {r} key f p =
    let t : Task = record x { key = key } in
    sym (place_of_key t d) ∙ place_at_left t f p ∙ place_of_key t l

pub found_at_right : {d l : List Task} {x : Task} {r : List Task} (key : TaskKey) → AtFork ByKey d l x r → key_lt x.key key ≡ true → task_at d key ≡ task_at r key
found_at_right {d} {l} {x} {r} key f p =
    let t : Task = record x { key = key } in
    sym (place_of_key t d) ∙ place_at_right t f p ∙ place_of_key t r

pub found_here : {d l : List Task} {x : Task} {r : List Task} (key : TaskKey) → AtFork ByKey d l x r → key_lt key x.key ≡ false → key_lt x.key key ≡ false → task_at d key ≡ Some x
found_here {d} {l} {x} {r} key f p q =
    let t : Task = record x { key = key } in
    sym (place_of_key t d) ∙ place_here t f p q

pub led_at_left : {order : Order} {d l : List Task} {x : Task} {r : List Task} (n : ℕ) → AtFork order d l x r → n < lead order x → led_by order n d ≡ led_by order n l
led_at_left {order} {d} {l} {x} {r} n f p =
    let later : Each (λ y. eqb (lead order y) n ≡ false) (x ∷ r) = (ne_eqb _ _ (omega arith), each_map (λ y. precedes order x y ≡ true) (λ y. eqb (lead order y) n ≡ false) (λ y q. let h : lead order x ≤ lead order y = lead_rises order x y q in ne_eqb _ _ (omega arith)) r f.after) in
    rw f.is (filter_left (λ y. eqb (lead order y) n) l (x ∷ r) later)

pub led_at_right : {order : Order} {d l : List Task} {x : Task} {r : List Task} (n : ℕ) → AtFork order d l x r → lead order x < n → led_by order n d ≡ led_by order n r
led_at_right {order} {d} {l} {x} {r} n f p =
    let earlier : Each (λ y. eqb (lead order y) n ≡ false) l = each_map (λ y. precedes order y x ≡ true) (λ y. eqb (lead order y) n ≡ false) (λ y q. let h : lead order y ≤ lead order x = lead_rises order y x q in ne_eqb _ _ (omega arith)) l f.before in
    rw f.is (filter_right (λ y. eqb (lead order y) n) l (x ∷ r) earlier ∙ rw (ne_eqb (lead order x) n (omega arith)) refl)

led_here : {order : Order} {d l : List Task} {x : Task} {r : List Task} (n : ℕ) → AtFork order d l x r → lead order x ≡ n → led_by order n d ≡ led_by order n l ++ x ∷ led_by order n r
led_here {order} {d} {l} {x} {r} n f p =
    rw f.is (filter-append (λ y. eqb (lead order y) n) l (x ∷ r) ∙ rw (eq-eqb (lead order x) n p) refl)

pub picked_here : {order : Order} {d l : List Task} {x : Task} {r : List Task} (p : Task → Bool) (n : ℕ) → AtFork order d l x r → lead order x ≡ n → filter p (led_by order n d) ≡ filter p (led_by order n l) ++ filter p (x ∷ led_by order n r)
picked_here {order} {d} {l} {x} {r} p n f here =
    ap (filter p) (led_here n f here) ∙ filter-append p (led_by order n l) (x ∷ led_by order n r)

other_not_behind : (number job machine : ℕ) (gone : List TaskKey) (y : Task) → is_behind y machine job ≡ true → stays_in_share number job machine gone y ≡ false
other_not_behind number job machine gone y p =
    and_right (in_share number y) (stays_of_job job machine gone y) (elim (or_cases (ltb machine y.machine) (eqb machine y.machine && ltb job y.key.job) p) [
      | inl e ↦ let h : machine < y.machine = ltb-true machine y.machine e in and_right (is_of_job job y) _ (and_left _ _ (ne_eqb y.machine machine (omega arith)))
      | inr e ↦ let h : job < y.key.job = ltb-true job y.key.job (and_parts (eqb machine y.machine) (ltb job y.key.job) e).1 in and_left _ (stays_on machine gone y) (ne_eqb y.key.job job (omega arith))
    ])

other_not_before : (number job machine : ℕ) (gone : List TaskKey) (y : Task) → is_before y machine job ≡ true → stays_in_share number job machine gone y ≡ false
other_not_before number job machine gone y p =
    and_right (in_share number y) (stays_of_job job machine gone y) (elim (or_cases (ltb y.machine machine) (eqb y.machine machine && ltb y.key.job job) p) [
      | inl e ↦ let h : y.machine < machine = ltb-true y.machine machine e in and_right (is_of_job job y) _ (and_left _ _ (ne_eqb y.machine machine (omega arith)))
      | inr e ↦ let h : y.key.job < job = ltb-true y.key.job job (and_parts (eqb y.machine machine) (ltb y.key.job job) e).1 in and_left _ (stays_on machine gone y) (ne_eqb y.key.job job (omega arith))
    ])

behind_more : (job machine : ℕ) (x y : Task) → is_behind x machine job ≡ true → precedes ByMachine x y ≡ true → is_behind y machine job ≡ true
behind_more job machine x y p q =
    lex_trans machine x.machine y.machine (ltb job x.key.job) (key_lt x.key y.key) (ltb job y.key.job) (lt_trans job x.key.job y.key.job (ltb x.key.index y.key.index)) p q

before_more : (job machine : ℕ) (x y : Task) → is_before x machine job ≡ true → precedes ByMachine y x ≡ true → is_before y machine job ≡ true
before_more job machine x y p q =
    lex_trans y.machine x.machine machine (key_lt y.key x.key) (ltb x.key.job job) (ltb y.key.job job) (trans_lt y.key.job x.key.job job (ltb y.key.index x.key.index)) q p

pub other_at_left : {d l : List Task} {x : Task} {r : List Task} (number job machine : ℕ) (gone : List TaskKey) → AtFork ByMachine d l x r → is_behind x machine job ≡ true → other_in_share number d job machine gone ≡ other_in_share number l job machine gone
other_at_left {d} {l} {x} {r} number job machine gone f p =
    let later : Each (λ y. stays_in_share number job machine gone y ≡ false) (x ∷ r) = (other_not_behind number job machine gone x p, each_map (λ y. precedes ByMachine x y ≡ true) (λ y. stays_in_share number job machine gone y ≡ false) (λ y q. other_not_behind number job machine gone y (behind_more job machine x y p q)) r f.after) in
    rw f.is (ap (option_map (λ (y : Task). y.key)) (find_left (stays_in_share number job machine gone) l (x ∷ r) later))

pub other_at_right : {d l : List Task} {x : Task} {r : List Task} (number job machine : ℕ) (gone : List TaskKey) → AtFork ByMachine d l x r → is_before x machine job ≡ true → other_in_share number d job machine gone ≡ other_in_share number r job machine gone
other_at_right {d} {l} {x} {r} number job machine gone f p =
    let earlier : Each (λ y. stays_in_share number job machine gone y ≡ false) (l ++ x ∷ []) = each_append (λ y. stays_in_share number job machine gone y ≡ false) l (x ∷ []) (each_map (λ y. precedes ByMachine y x ≡ true) (λ y. stays_in_share number job machine gone y ≡ false) (λ y q. other_not_before number job machine gone y (before_more job machine x y p q)) l f.before) (other_not_before number job machine gone x p, tt) in
    rw (f.is, ← append_assoc l (x ∷ []) r) (ap (option_map (λ (y : Task). y.key)) (find_right (stays_in_share number job machine gone) (l ++ x ∷ []) r earlier))

-- the first of two that there is
or_first : (a b : Option Task) → is_some (option_map (λ (y : Task). y.key) a) ≡ true → option_map (λ (y : Task). y.key) (option_or a b) ≡ option_map (λ (y : Task). y.key) a
or_first None b e = absurd (cc)
or_first (Some y) b e = refl

or_second : (a b : Option Task) → is_some (option_map (λ (y : Task). y.key) a) ≡ false → option_map (λ (y : Task). y.key) (option_or a b) ≡ option_map (λ (y : Task). y.key) b
or_second None b e = refl
or_second (Some y) b e = absurd (cc)

pub other_earlier : {d l : List Task} {x : Task} {r : List Task} (number job machine : ℕ) (gone : List TaskKey) → AtFork ByMachine d l x r → is_some (other_in_share number l job machine gone) ≡ true → other_in_share number d job machine gone ≡ other_in_share number l job machine gone
other_earlier {d} {l} {x} {r} number job machine gone f e =
    rw (f.is, find-append (stays_in_share number job machine gone) l (x ∷ r)) (or_first (find (stays_in_share number job machine gone) l) (find (stays_in_share number job machine gone) (x ∷ r)) e)

same_group : (job machine : ℕ) (x : Task) → is_before x machine job ≡ false → is_behind x machine job ≡ false → (eqb x.machine machine && eqb x.key.job job) ≡ true
same_group job machine x p q =
    let e = lex_apart x.machine machine (ltb x.key.job job) (ltb job x.key.job) (eqb x.key.job job) (lt_apart x.key.job job) in
    not-false _ (sym e ∙ or_from _ _ p q)

pub other_here : {d l : List Task} {x : Task} {r : List Task} (number job machine : ℕ) (gone : List TaskKey) → AtFork ByMachine d l x r → is_before x machine job ≡ false → is_behind x machine job ≡ false → is_some (other_in_share number l job machine gone) ≡ false → in_share number x ≡ true → is_among x.key gone ≡ false → other_in_share number d job machine gone ≡ Some x.key
other_here {d} {l} {x} {r} number job machine gone f p q none inside among =
    let parts = and_parts (eqb x.machine machine) (eqb x.key.job job) (same_group job machine x p q) in
    let is : stays_in_share number job machine gone x ≡ true = rw (inside, parts.0, parts.1, among) refl in
    rw (f.is, find-append (stays_in_share number job machine gone) l (x ∷ r)) (or_second (find (stays_in_share number job machine gone) l) (find (stays_in_share number job machine gone) (x ∷ r)) none ∙ rw is refl)

-- a task of another tree, or one that goes, is passed over
pub passed_over : (number job machine : ℕ) (gone : List TaskKey) (x : Task) → (in_share number x && not (is_among x.key gone)) ≡ false → stays_in_share number job machine gone x ≡ false
passed_over number job machine gone x e = go (in_share number x) refl e where
  go : (b : Bool) → in_share number x ≡ b → (b && not (is_among x.key gone)) ≡ false → stays_in_share number job machine gone x ≡ false
  go true h e = and_right (in_share number x) (stays_of_job job machine gone x) (and_right (is_of_job job x) (stays_on machine gone x) (and_right (eqb x.machine machine) (not (is_among x.key gone)) e))
  go false h e = and_left (in_share number x) (stays_of_job job machine gone x) h

pub other_later : {d l : List Task} {x : Task} {r : List Task} (number job machine : ℕ) (gone : List TaskKey) → AtFork ByMachine d l x r → is_some (other_in_share number l job machine gone) ≡ false → (in_share number x && not (is_among x.key gone)) ≡ false → other_in_share number d job machine gone ≡ other_in_share number r job machine gone
other_later {d} {l} {x} {r} number job machine gone f none passed =
    let is = passed_over number job machine gone x passed in
    rw (f.is, find-append (stays_in_share number job machine gone) l (x ∷ r)) (or_second (find (stays_in_share number job machine gone) l) (find (stays_in_share number job machine gone) (x ∷ r)) none ∙ rw is refl)
