-- Other tasks of a job on a machine: the first in one of the machine's trees, and the first in several of them.
use Rattle.std.proofs.Common.{◌≡◌, ℕ, ◌+◌, ◌%◌, Bool, true, false, ◌&&◌, cond, ltb, List, [], ◌∷◌, Option, Some, None, refl, ap, sym, ◌∙◌, arith, inl, inr}
use Rattle.std.specs.List.{filter, find, AllByRecursion as Each}
use Rattle.std.specs.Option.{option_map}
use Rattle.std.proofs.lemmas.Bool.{eqb-true, eq-eqb, ne_eqb, lt-ltb, le-ltb, and_parts, and_right, cases_order}
use Rattle.omega_model.specs.Cell.{is_on}
use Rattle.omega_model.specs.Keys.{key_lt}
use Rattle.omega_model.specs.Jobs.{other_of_job, stays_of_job}
use Rattle.omega_model.specs.declared.cells.TaskKey.{TaskKey}
use Rattle.omega_model.specs.declared.cells.Task.{Task}
use Rattle.omega_model.proofs.InOrder.{key_asym}
use Rattle.omega_running.specs.declared.orders.Order.TheVariants.{ByMachine}
use Rattle.omega_running.specs.Order.{IsInOrder, precedes, in_share, share, spread_machine}
use Rattle.omega_running.specs.Forest.{is_at}
use Rattle.omega_running.specs.Others.{first_of, other_in_share, stays_in_share}
use Rattle.omega_model.proofs.Lists.{each_map, each_of, find_none, find_filtered}
use Rattle.omega_running.proofs.Kept.{same_machine}

-- a task that stays is on the machine
stays_here : (job machine : ℕ) (gone : List TaskKey) (y : Task) → stays_of_job job machine gone y ≡ true → is_on machine y ≡ true
stays_here job machine gone y e = (and_parts _ _ (and_parts _ _ e).1).0

-- those of a share stand in the tree that the machine and the share name
pub other_in_tree : (trees number job machine : ℕ) (gone : List TaskKey) (xs : List Task) → other_in_share number (filter (is_at ByMachine trees (spread_machine machine number % trees)) xs) job machine gone ≡ other_in_share number xs job machine gone
other_in_tree trees number job machine gone xs =
    ap (option_map (λ (y : Task). y.key))
    (find_filtered (stays_in_share number job machine gone) (is_at ByMachine trees (spread_machine machine number % trees)) (λ y q. placed y (and_parts (in_share number y) (stays_of_job job machine gone y) q)) xs) where
      placed : (y : Task) → (in_share number y ≡ true) × (stays_of_job job machine gone y ≡ true) → is_at ByMachine trees (spread_machine machine number % trees) y ≡ true
      placed y parts =
          let here : y.machine ≡ machine = eqb-true y.machine machine (stays_here job machine gone y parts.1) in
          let inside : share y ≡ number = eqb-true (share y) number parts.0 in
          eq-eqb _ _ (ap (λ n. spread_machine n (share y) % trees) here ∙ ap (λ n. spread_machine machine n % trees) inside)

-- whether a task is one of the job's on the machine that isn't among those that go, and its share is one of the first
abbrev pub stays_below : ℕ → ℕ → ℕ → List TaskKey → Task → Bool
stays_below number job machine gone task = ltb (share task) number && stays_of_job job machine gone task

-- the key of the first such task
abbrev pub other_below : ℕ → List Task → ℕ → ℕ → List TaskKey → Option TaskKey
other_below number tasks job machine gone = option_map (λ task. task.key) (find (stays_below number job machine gone) tasks)

-- a task with the first of those behind it, which passes
first_kept : (x : Task) (q : Task → Bool) (xs : List Task) → Each (λ y. q y ≡ true → key_lt x.key y.key ≡ true) xs → first_of (Some x.key) (option_map (λ (y : Task). y.key) (find q xs)) ≡ Some x.key
first_kept x q [] e = refl
first_kept x q (y ∷ ys) e = go (q y) refl (first_kept x q ys e.1) where
  go : (b : Bool) → q y ≡ b → first_of (Some x.key) (option_map (λ (z : Task). z.key) (find q ys)) ≡ Some x.key → first_of (Some x.key) (option_map (λ (z : Task). z.key) (cond b (Some y) (find q ys))) ≡ Some x.key
  go true h rest = rw (key_asym x.key y.key (e.0 h)) refl
  go false h rest = rest

first_before : (x : Task) (q : Task → Bool) (xs : List Task) → Each (λ y. q y ≡ true → key_lt x.key y.key ≡ true) xs → first_of (option_map (λ (y : Task). y.key) (find q xs)) (Some x.key) ≡ Some x.key
first_before x q [] e = refl
first_before x q (y ∷ ys) e = go (q y) refl (first_before x q ys e.1) where
  go : (b : Bool) → q y ≡ b → first_of (option_map (λ (z : Task). z.key) (find q ys)) (Some x.key) ≡ Some x.key → first_of (option_map (λ (z : Task). z.key) (cond b (Some y) (find q ys))) (Some x.key) ≡ Some x.key
  go true h rest = rw (e.0 h) refl
  go false h rest = rest

-- of a task that stays, the later ones that stay have greater keys
stays_later : (job machine : ℕ) (gone : List TaskKey) (x : Task) (xs : List Task) → stays_of_job job machine gone x ≡ true → Each (λ y. precedes ByMachine x y ≡ true) xs → Each (λ y. stays_of_job job machine gone y ≡ true → key_lt x.key y.key ≡ true) xs
stays_later job machine gone x xs stays after =
    each_map (λ y. precedes ByMachine x y ≡ true) (λ y. stays_of_job job machine gone y ≡ true → key_lt x.key y.key ≡ true)
    (λ y p q. sym (same_machine machine x y (stays_here job machine gone x stays) (stays_here job machine gone y q)) ∙ p) xs after

-- no share is below 0, and all are below 8
pub no_other_below : (job machine : ℕ) (gone : List TaskKey) (xs : List Task) → other_below 0 xs job machine gone ≡ None
no_other_below job machine gone xs =
    ap (option_map (λ (y : Task). y.key)) (find_none (stays_below 0 job machine gone) xs (each_of (λ y. stays_below 0 job machine gone y ≡ false) (λ y. rw (le-ltb (share y) 0 (omega arith)) refl) xs))

pub other_of_all : (job machine : ℕ) (gone : List TaskKey) (xs : List Task) → other_below 8 xs job machine gone ≡ other_of_job xs job machine gone
other_of_all job machine gone xs = ap (option_map (λ (y : Task). y.key)) (go xs) where
  go : (xs : List Task) → find (stays_below 8 job machine gone) xs ≡ find (stays_of_job job machine gone) xs
  go [] = refl
  go (x ∷ xs) = let below : ltb (share x) 8 ≡ true = lt-ltb (share x) 8 (omega arith) in rw (below, go xs) refl

-- the first of the first shares, and of one more
pub one_more_share : (number job machine : ℕ) (gone : List TaskKey) (xs : List Task) → IsInOrder ByMachine xs → first_of (other_below number xs job machine gone) (other_in_share number xs job machine gone) ≡ other_below (number + 1) xs job machine gone
one_more_share number job machine gone [] u = refl
one_more_share number job machine gone (x ∷ xs) u = go (stays_of_job job machine gone x) refl (one_more_share number job machine gone xs u.1) where
  stays : Task → Bool
  stays = stays_of_job job machine gone

  both : (a b : Bool) → (a && b) ≡ true → b ≡ true
  both a b e = (and_parts a b e).1

  behind : (p : Task → Bool) → stays x ≡ true → Each (λ y. (p y && stays y) ≡ true → key_lt x.key y.key ≡ true) xs
  behind p h = each_map (λ y. stays y ≡ true → key_lt x.key y.key ≡ true) (λ y. (p y && stays y) ≡ true → key_lt x.key y.key ≡ true) (λ y f e. f (both (p y) (stays y) e)) xs (stays_later job machine gone x xs h u.0)

  go : (b : Bool) → stays_of_job job machine gone x ≡ b
      → first_of (other_below number xs job machine gone) (other_in_share number xs job machine gone) ≡ other_below (number + 1) xs job machine gone
      → first_of (other_below number (x ∷ xs) job machine gone) (other_in_share number (x ∷ xs) job machine gone) ≡ other_below (number + 1) (x ∷ xs) job machine gone
  go false h rest =
      let below : stays_below number job machine gone x ≡ false = and_right _ _ h in
      let here : stays_in_share number job machine gone x ≡ false = and_right _ _ h in
      let next : stays_below (number + 1) job machine gone x ≡ false = and_right _ _ h in
      rw (below, here, next) rest
  go true h rest = elim (cases_order (share x) number) [
    | inl e ↦
        let below : stays_below number job machine gone x ≡ false = rw (le-ltb (share x) number (omega arith)) refl in
        let here : stays_in_share number job machine gone x ≡ true = rw (eq-eqb (share x) number e, h) refl in
        let next : stays_below (number + 1) job machine gone x ≡ true = rw (lt-ltb (share x) (number + 1) (omega arith), h) refl in
        rw (below, here, next) (first_before x (stays_below number job machine gone) xs (behind (λ y. ltb (share y) number) h))
    | inr (inl less) ↦
        let below : stays_below number job machine gone x ≡ true = rw (lt-ltb (share x) number less, h) refl in
        let here : stays_in_share number job machine gone x ≡ false = rw (ne_eqb (share x) number (omega arith)) refl in
        let next : stays_below (number + 1) job machine gone x ≡ true = rw (lt-ltb (share x) (number + 1) (omega arith), h) refl in
        rw (below, here, next) (first_kept x (stays_in_share number job machine gone) xs (behind (in_share number) h))
    | inr (inr more) ↦
        let below : stays_below number job machine gone x ≡ false = rw (le-ltb (share x) number (omega arith)) refl in
        let here : stays_in_share number job machine gone x ≡ false = rw (ne_eqb (share x) number (omega arith)) refl in
        let next : stays_below (number + 1) job machine gone x ≡ false = rw (le-ltb (share x) (number + 1) (omega arith)) refl in
        rw (below, here, next) rest
  ]
