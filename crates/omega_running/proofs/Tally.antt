-- How many extra tasks there are: those that a tree has, as a remainder by 2 ^ 32, and those of one job.
use Rattle.std.proofs.Common.{◌≡◌, ℕ, ◌+◌, ◌-◌, ◌%◌, ◌^◌, ◌<◌, ◌≤◌, Bool, true, false, List, [], ◌∷◌, ◌++◌, length, refl, ap, ap₂, sym, ◌∙◌, arith, inl, inr}
use Rattle.std.specs.List.{filter, AllByRecursion as Each}
use mir.Val.{bool_byte}
use Rattle.std.proofs.Math.Nat.{mod-add-mod}
use Rattle.std.proofs.lemmas.Bool.{both_ways, eq-eqb, false_from_ne_true, le-leb, le-ltb, leb-true, lt-leb, lt-ltb, ltb-true, ne_eqb, cases_order}
use Rattle.std.proofs.lemmas.List.{length-append}
use Rattle.std.proofs.lemmas.List.Elements.{filter-append}
use Rattle.omega_model.specs.ExtraTasks.{is_extra_of}
use Rattle.omega_model.specs.declared.cells.Task.{Task}
use Rattle.omega_model.proofs.Lists.{by_answer, each_map, filter_every}
use Rattle.omega_running.specs.declared.orders.Order.TheVariants.{ByKey}
use Rattle.omega_running.specs.Order.{is_extra, is_until, precedes}
use Rattle.omega_running.specs.Tree.{extras_in}
use Rattle.omega_running.proofs.Lists.{filter_left}
use Rattle.omega_running.proofs.InOrder.{lead_rises}
use Rattle.omega_running.proofs.AtFork.{AtFork}

-- one task, if it is an extra one
abbrev pub one_if : Task → ℕ
one_if task = bool_byte (is_extra task)

extras_first : (x : Task) (xs : List Task) → extras_in (x ∷ xs) ≡ one_if x + extras_in xs
extras_first x xs = by_answer (is_extra x) (λ t. rw t (omega arith)) (λ f. rw f (omega arith))

-- those on both sides of a task, by their remainders
pub extras_around : (l : List Task) (x : Task) (r : List Task) → ((extras_in l % 2 ^ 32 + extras_in r % 2 ^ 32) % 2 ^ 32 + one_if x) % 2 ^ 32 ≡ extras_in (l ++ x ∷ r) % 2 ^ 32
extras_around l x r = remainders (extras_in l) (extras_in r) (one_if x) (2 ^ 32) ∙ ap (λ n. n % 2 ^ 32) (sym all) where
  remainders : (a b c n : ℕ) → ((a % n + b % n) % n + c) % n ≡ (a + (c + b)) % n
  remainders a b c n =
      mod-add-mod (a % n + b % n) n c
      ∙ ap (λ m. m % n) (omega arith)
      ∙ mod-add-mod a n (b % n + c)
      ∙ ap (λ m. m % n) (omega arith)
      ∙ mod-add-mod b n (c + a)
      ∙ ap (λ m. m % n) (omega arith)

  all : extras_in (l ++ x ∷ r) ≡ extras_in l + (one_if x + extras_in r)
  all = ap length (filter-append is_extra l (x ∷ r)) ∙ length-append (filter is_extra l) (filter is_extra (x ∷ r)) ∙ ap (λ n. extras_in l + n) (extras_first x r)

-- a task of no greater job
until_before : (job : ℕ) (own : Bool) (y x : Task) → y.key.job ≤ x.key.job → is_until job own x ≡ true → is_until job own y ≡ true
until_before job true y x le h = let until = leb-true x.key.job job h in le-leb y.key.job job (omega (arith, le, until))
until_before job false y x le h = let until = ltb-true x.key.job job h in lt-ltb y.key.job job (omega (arith, le, until))

-- a fork whose task is of a job until this one, and one whose task is of a later job
pub until_right : {d l : List Task} {x : Task} {r : List Task} (job : ℕ) (own : Bool) → AtFork ByKey d l x r → is_until job own x ≡ true → filter (is_until job own) d ≡ l ++ x ∷ filter (is_until job own) r
until_right {d} {l} {x} {r} job own f h =
    let earlier = each_map (λ y. precedes ByKey y x ≡ true) (λ y. is_until job own y ≡ true) (λ y q. until_before job own y x (lead_rises ByKey y x q) h) l f.before in
    rw f.is (filter-append (is_until job own) l (x ∷ r) ∙ ap₂ (λ (a b : List Task). a ++ b) (filter_every (is_until job own) l earlier) (rw h refl))

pub until_left : {d l : List Task} {x : Task} {r : List Task} (job : ℕ) (own : Bool) → AtFork ByKey d l x r → is_until job own x ≡ false → filter (is_until job own) d ≡ filter (is_until job own) l
until_left {d} {l} {x} {r} job own f h =
    let later : Each (λ y. is_until job own y ≡ false) r = each_map (λ y. precedes ByKey x y ≡ true) (λ y. is_until job own y ≡ false) (λ y q. false_from_ne_true _ (λ e. both_ways _ h (until_before job own x y (lead_rises ByKey x y q) e))) r f.after in
    rw f.is (filter_left (is_until job own) l (x ∷ r) (h, later))

-- those until a job are those of the jobs before it and its own
own_extras : (job : ℕ) (xs : List Task) → extras_in (filter (is_until job true) xs) ≡ extras_in (filter (is_until job false) xs) + length (filter (is_extra_of job) xs)
own_extras job [] = refl
own_extras job (x ∷ xs) =
    let rest = own_extras job xs in
    let first = extras_first x (filter (is_until job true) xs) in
    let second = extras_first x (filter (is_until job false) xs) in
    elim (cases_order x.key.job job) [
      | inl same ↦ rw (le-leb x.key.job job (omega (arith, same)), le-ltb x.key.job job (omega (arith, same)), eq-eqb x.key.job job same)
          (by_answer (is_extra x) (λ t. rw t (omega (arith, rest))) (λ f. rw f rest))
      | inr (inl less) ↦ rw (le-leb x.key.job job (omega (arith, less)), lt-ltb x.key.job job less, ne_eqb x.key.job job (omega (arith, less))) (omega (arith, rest, first, second))
      | inr (inr more) ↦ rw (lt-leb x.key.job job more, le-ltb x.key.job job (omega (arith, more)), ne_eqb x.key.job job (omega (arith, more))) rest
    ]

-- so they are told by the two remainders, where they are few
pub told : (job : ℕ) (xs : List Task) → length (filter (is_extra_of job) xs) < 2 ^ 32
    → (extras_in (filter (is_until job true) xs) % 2 ^ 32 + (2 ^ 32 - extras_in (filter (is_until job false) xs) % 2 ^ 32)) % 2 ^ 32 ≡ length (filter (is_extra_of job) xs)
told job xs few = difference (extras_in (filter (is_until job true) xs)) (extras_in (filter (is_until job false) xs)) (length (filter (is_extra_of job) xs)) few (own_extras job xs) where
  difference : (a b c : ℕ) → c < 2 ^ 32 → a ≡ b + c → (a % 2 ^ 32 + (2 ^ 32 - b % 2 ^ 32)) % 2 ^ 32 ≡ c
  difference a b c few e = omega (arith, few, e)
