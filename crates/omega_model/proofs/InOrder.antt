-- Running tasks in order of name, with some less and with one more.
use Rattle.std.proofs.Common.{◌≡◌, ◌<◌, ◌⊎◌, inl, inr, Bool, true, false, List, [], ◌∷◌, ◌++◌, refl, subst, ◌∙◌, arith}
use Rattle.std.specs.List.{filter, IsDistinct, AllByRecursion as Each}
use Rattle.std.proofs.lemmas.Bool.{and_parts, and_from, both_ways, or_cases, or_left, or_right, ltb-true, lt-ltb, eqb-true, eq-eqb, false_from_ne_true}
use Rattle.std.proofs.lemmas.Map.Keys.{IsDistinct-cons}
use Rattle.omega_model.specs.Cell.{with_task, keys_of}
use Rattle.omega_model.specs.Keys.{same_key, key_lt}
use Rattle.omega_model.specs.declared.cells.Task.{Task}
use Rattle.omega_model.specs.declared.cells.TaskKey.{TaskKey}
use Rattle.omega_model.proofs.Lists.{by_answer, each_map, each_append, each_filter, each_passes}

-- a name stands before another: its job does, or its index where the jobs are one
abbrev pub Before : TaskKey → TaskKey → Type 0
Before a b = (a.job < b.job) ⊎ ((a.job ≡ b.job) × (a.index < b.index))

pub before_tested : (a b : TaskKey) → key_lt a b ≡ true → Before a b
before_tested a b e = elim (or_cases _ _ e) [
  | inl less ↦ inl (ltb-true _ _ less)
  | inr both ↦ let parts = and_parts _ _ both in inr (eqb-true _ _ parts.0, ltb-true _ _ parts.1)
]

pub tested_before : (a b : TaskKey) → Before a b → key_lt a b ≡ true
tested_before a b (inl less) = or_left _ _ (lt-ltb _ _ less)
tested_before a b (inr (same, less)) = or_right _ _ (and_from _ _ (eq-eqb _ _ same) (lt-ltb _ _ less))

before_trans : (a b c : TaskKey) → Before a b → Before b c → Before a c
before_trans a b c (inl p) (inl q) = inl (omega (arith, p, q))
before_trans a b c (inl p) (inr (same, q)) = inl (omega (arith, p, same))
before_trans a b c (inr (same, p)) (inl q) = inl (omega (arith, q, same))
before_trans a b c (inr (one, p)) (inr (other, q)) = inr (one ∙ other, omega (arith, p, q))

before_not_back : (a b : TaskKey) → Before a b → Before b a → ⊥
before_not_back a b (inl p) (inl q) = omega (arith, p, q)
before_not_back a b (inl p) (inr (same, q)) = omega (arith, p, same)
before_not_back a b (inr (same, p)) (inl q) = omega (arith, q, same)
before_not_back a b (inr (one, p)) (inr (other, q)) = omega (arith, p, q)

before_differs : (a b : TaskKey) → Before a b → a.job ≡ b.job → a.index ≡ b.index → ⊥
before_differs a b (inl p) job index = omega (arith, p, job)
before_differs a b (inr (same, p)) job index = omega (arith, p, index)

pub key_trans : (a b c : TaskKey) → key_lt a b ≡ true → key_lt b c ≡ true → key_lt a c ≡ true
key_trans a b c p q = tested_before a c (before_trans a b c (before_tested a b p) (before_tested b c q))

pub key_asym : (a b : TaskKey) → key_lt a b ≡ true → key_lt b a ≡ false
key_asym a b p = false_from_ne_true _ (λ q. before_not_back a b (before_tested a b p) (before_tested b a q))

-- names in order are of two tasks
pub key_differs : (a b : TaskKey) → key_lt a b ≡ true → same_key a b ≡ false
key_differs a b p = false_from_ne_true _ (λ same.
    let parts = and_parts _ _ same in before_differs a b (before_tested a b p) (eqb-true _ _ parts.0) (eqb-true _ _ parts.1))

-- a name is its own
pub key_itself : (key : TaskKey) → same_key key key ≡ true
key_itself key = and_from _ _ (eq-eqb key.job key.job refl) (eq-eqb key.index key.index refl)

-- names of one task are equal
pub key_same : (a b : TaskKey) → same_key a b ≡ true → a ≡ b
key_same a b e =
    let parts = and_parts _ _ e in
    let job = eqb-true _ _ parts.0 in
    let index = eqb-true _ _ parts.1 in
    λ i. record { job = job i; index = index i }

-- names of two tasks in the other order
pub same_key-sym : (a b : TaskKey) → same_key a b ≡ false → same_key b a ≡ false
same_key-sym a b differ =
    by_answer (same_key b a) (λ t. absurd (both_ways _ differ (subst (λ k. same_key k b ≡ true) (key_same b a t) (key_itself b)))) (λ f. f)

-- tasks stand in order of name
abbrev pub Rise : List Task → Type 0
Rise [] = Unit {0}
Rise (task ∷ tasks) = Each (λ other. key_lt task.key other.key ≡ true) tasks × Rise tasks

pub rise_filter : (p : Task → Bool) (tasks : List Task) → Rise tasks → Rise (filter p tasks)
rise_filter p [] rise = tt
rise_filter p (t ∷ tasks) rise =
    by_answer (p t)
    (λ h. rw h (each_filter _ p tasks rise.0, rise_filter p tasks rise.1))
    (λ h. rw h (rise_filter p tasks rise.1))

rise_append : (xs ys : List Task) → Rise xs → Rise ys → Each (λ x. Each (λ y. key_lt x.key y.key ≡ true) ys) xs → Rise (xs ++ ys)
rise_append [] ys first second between = second
rise_append (x ∷ xs) ys first second between =
    (each_append _ xs ys first.0 between.0, rise_append xs ys first.1 second between.1)

-- with one more, at its place
pub rise_with : (t : Task) (tasks : List Task) → Rise tasks → Rise (with_task t tasks)
rise_with t tasks rise =
    let front = filter (λ o. key_lt o.key t.key) tasks in
    let back = filter (λ o. key_lt t.key o.key) tasks in
    let after : Each (λ o. key_lt t.key o.key ≡ true) back = each_passes (λ (o : Task). key_lt t.key o.key) tasks in
    rise_append front (t ∷ back) (rise_filter _ tasks rise) (after, rise_filter _ tasks rise)
    (each_map (λ o. key_lt o.key t.key ≡ true) (λ x. Each (λ y. key_lt x.key y.key ≡ true) (t ∷ back))
    (λ x less. (less, each_map (λ o. key_lt t.key o.key ≡ true) (λ y. key_lt x.key y.key ≡ true) (λ y more. key_trans x.key t.key y.key less more) back after))
    front (each_passes (λ (o : Task). key_lt o.key t.key) tasks))

-- what holds of each task holds with one more
pub each_with : (P : Task → Type 0) (t : Task) (tasks : List Task) → P t → Each P tasks → Each P (with_task t tasks)
each_with P t tasks new old =
    each_append P (filter (λ o. key_lt o.key t.key) tasks) (t ∷ filter (λ o. key_lt t.key o.key) tasks)
    (each_filter P _ tasks old) (new, each_filter P _ tasks old)

-- tasks in order have distinct names
others_differ : (t : Task) (tasks : List Task) → Each (λ y. key_lt t.key y.key ≡ true) tasks → Each (λ y. same_key t.key y ≡ false) (keys_of tasks)
others_differ t [] each = tt
others_differ t (y ∷ tasks) each = (key_differs t.key y.key each.0, others_differ t tasks each.1)

pub names_distinct : (tasks : List Task) → Rise tasks → IsDistinct same_key (keys_of tasks)
unfolding IsDistinct
names_distinct [] rise = tt
names_distinct (t ∷ tasks) rise =
    IsDistinct-cons same_key t.key (keys_of tasks) (others_differ t tasks rise.0) (names_distinct tasks rise.1)
