-- What amounts fit, and what tasks need together.
use Rattle.std.proofs.Common.{◌≡◌, ℕ, Bool, true, false, cond, not, List, [], ◌∷◌, ◌++◌, refl, sym, ap, subst, ◌∙◌, arith}
use Rattle.std.specs.List.{filter}
use Rattle.std.proofs.lemmas.Bool.{and_parts, leb-true}
use Rattle.std.proofs.lemmas.List.Elements.{filter-append}
use Rattle.omega_model.specs.Cell.{with_task, without, total, put_by_rank, by_rank, goes_before, is_on, use_on, rest_on}
use Rattle.omega_model.specs.Keys.{key_lt, is_among}
use Rattle.omega_model.specs.Need.{Fits, fits, nothing, plus, minus}
use Rattle.omega_model.specs.declared.cells.Need.{Need}
use Rattle.omega_model.specs.declared.cells.Task.{Task}
use Rattle.omega_model.specs.declared.cells.TaskKey.{TaskKey}
use Rattle.omega_model.proofs.Lists.{by_answer, filter_and}

-- amounts with equal components are equal
pub need_is : (a b : Need) → a.cpu ≡ b.cpu → a.mem ≡ b.mem → a.disk ≡ b.disk → a ≡ b
need_is a b amount memory space = λ i. record { cpu = amount i; mem = memory i; disk = space i }

pub plus-swap : (a b c : Need) → plus a (plus b c) ≡ plus b (plus a c)
plus-swap a b c = need_is _ _ (omega arith) (omega arith) (omega arith)

pub plus-assoc : (a b c : Need) → plus (plus a b) c ≡ plus a (plus b c)
plus-assoc a b c = need_is _ _ (omega arith) (omega arith) (omega arith)

pub plus-nothing : (a : Need) → plus nothing a ≡ a
plus-nothing a = need_is _ _ (omega arith) (omega arith) (omega arith)

pub fits_same : (a : Need) → Fits a a
fits_same a = (omega arith, (omega arith, omega arith))

pub fits_nothing : (a : Need) → Fits nothing a
fits_nothing a = (omega arith, (omega arith, omega arith))

pub fits_trans : (a b c : Need) → Fits a b → Fits b c → Fits a c
fits_trans a b c p q = (omega (arith, p.0, q.0), (omega (arith, p.1.0, q.1.0), omega (arith, p.1.1, q.1.1)))

pub fits_plus : (a b c d : Need) → Fits a b → Fits c d → Fits (plus a c) (plus b d)
fits_plus a b c d p q = (omega (arith, p.0, q.0), (omega (arith, p.1.0, q.1.0), omega (arith, p.1.1, q.1.1)))

pub fits_part : (a b : Need) → Fits b (plus a b)
fits_part a b = (omega arith, (omega arith, omega arith))

-- what fits beside something fits with it
pub fits_beside : (a rest cap : Need) → Fits a (minus cap rest) → Fits rest cap → Fits (plus a rest) cap
fits_beside a rest cap p q = (omega (arith, p.0, q.0), (omega (arith, p.1.0, q.1.0), omega (arith, p.1.1, q.1.1)))

pub fits_tested : (a b : Need) → fits a b ≡ true → Fits a b
fits_tested a b e =
    let first = and_parts _ _ e in
    let later = and_parts _ _ first.1 in
    (leb-true _ _ first.0, (leb-true _ _ later.0, leb-true _ _ later.1))

pub total-append : (xs ys : List Task) → total (xs ++ ys) ≡ plus (total xs) (total ys)
total-append [] ys = sym (plus-nothing (total ys))
total-append (x ∷ xs) ys = ap (plus x.spec.need) (total-append xs ys) ∙ sym (plus-assoc x.spec.need (total xs) (total ys))

-- what one task adds to a sum over those that pass a test
abbrev pub share : (Task → Bool) → Task → Need
share p t = cond (p t) t.spec.need nothing

pub total-cons : (p : Task → Bool) (t : Task) (tasks : List Task) → total (filter p (t ∷ tasks)) ≡ plus (share p t) (total (filter p tasks))
total-cons p t tasks = by_answer (p t) (λ h. rw h refl) (λ h. rw h (sym (plus-nothing (total (filter p tasks)))))

-- fewer tasks need less
pub total_fewer : (p q : Task → Bool) → ((t : Task) → p t ≡ true → q t ≡ true) → (tasks : List Task) → Fits (total (filter p tasks)) (total (filter q tasks))
total_fewer p q more [] = fits_same nothing
total_fewer p q more (t ∷ tasks) =
    let rest = total_fewer p q more tasks in
    by_answer (p t)
    (λ h. rw (h, more t h) (fits_plus t.spec.need t.spec.need _ _ (fits_same t.spec.need) rest))
    (λ h. by_answer (q t)
    (λ k. rw (h, k) (fits_trans _ _ _ rest (fits_part t.spec.need (total (filter q tasks)))))
    (λ k. rw (h, k) rest))

pub total_some : (p : Task → Bool) (tasks : List Task) → Fits (total (filter p tasks)) (total tasks)
total_some p [] = fits_same nothing
total_some p (t ∷ tasks) =
    let rest = total_some p tasks in
    by_answer (p t)
    (λ h. rw h (fits_plus t.spec.need t.spec.need _ _ (fits_same t.spec.need) rest))
    (λ h. rw h (fits_trans _ _ _ rest (fits_part t.spec.need (total tasks))))

-- tasks that pass one of two tests, and none passes both
pub total_parted : (p a b : Task → Bool) → ((t : Task) → a t ≡ true → b t ≡ false) → (tasks : List Task)
    → Fits (plus (total (filter p (filter a tasks))) (total (filter p (filter b tasks)))) (total (filter p tasks))
total_parted p a b apart [] = fits_same nothing
total_parted p a b apart (t ∷ tasks) =
    let rest = total_parted p a b apart tasks in
    let first = total (filter p (filter a tasks)) in
    let second = total (filter p (filter b tasks)) in
    let whole = total (filter p tasks) in
    subst (λ (n : Need). Fits (plus (total (filter p (filter a (t ∷ tasks)))) (total (filter p (filter b (t ∷ tasks))))) n) (sym (total-cons p t tasks))
    (by_answer (a t)
    (λ h. rw (h, apart t h)
    (subst (λ (n : Need). Fits (plus n second) (plus (share p t) whole)) (sym (total-cons p t (filter a tasks)))
    (subst (λ (n : Need). Fits n (plus (share p t) whole)) (sym (plus-assoc (share p t) first second))
    (fits_plus (share p t) (share p t) (plus first second) whole (fits_same (share p t)) rest))))
    (λ h. by_answer (b t)
    (λ k. rw (h, k)
    (subst (λ (n : Need). Fits (plus first n) (plus (share p t) whole)) (sym (total-cons p t (filter b tasks)))
    (subst (λ (n : Need). Fits n (plus (share p t) whole)) (plus-swap (share p t) first second)
    (fits_plus (share p t) (share p t) (plus first second) whole (fits_same (share p t)) rest))))
    (λ k. rw (h, k) (fits_trans (plus first second) whole (plus (share p t) whole) rest (fits_part (share p t) whole)))))

-- with one more task
pub total_with : (p : Task → Bool) (t : Task) (tasks : List Task) → ((o : Task) → key_lt o.key t.key ≡ true → key_lt t.key o.key ≡ false)
    → Fits (total (filter p (with_task t tasks))) (plus (share p t) (total (filter p tasks)))
total_with p t tasks apart =
    let front = filter (λ o. key_lt o.key t.key) tasks in
    let back = filter (λ o. key_lt t.key o.key) tasks in
    let sum : total (filter p (with_task t tasks)) ≡ plus (share p t) (plus (total (filter p front)) (total (filter p back))) =
    ap total (filter-append p front (t ∷ back))
    ∙ total-append (filter p front) (filter p (t ∷ back))
    ∙ ap (plus (total (filter p front))) (total-cons p t back)
    ∙ plus-swap (total (filter p front)) (share p t) (total (filter p back)) in
    subst (λ (n : Need). Fits n (plus (share p t) (total (filter p tasks)))) (sym sum)
    (fits_plus (share p t) (share p t) _ _ (fits_same (share p t))
    (total_parted p (λ o. key_lt o.key t.key) (λ o. key_lt t.key o.key) apart tasks))

-- the rest of a machine is its use by the tasks that stay
pub rest_is : (tasks : List Task) (id : ℕ) (gone : List TaskKey) → rest_on tasks id gone ≡ use_on (without gone tasks) id
rest_is tasks id gone = ap total (sym (filter_and (is_on id) (λ t. not (is_among t.key gone)) tasks))

-- in order of eviction tasks need as much as in any other
put_total : (p : Task → Bool) (t : Task) (tasks : List Task) → total (filter p (put_by_rank t tasks)) ≡ total (filter p (t ∷ tasks))
put_total p t [] = refl
put_total p t (o ∷ tasks) = by_answer (goes_before o t)
    (λ before. rw before
    (total-cons p o (put_by_rank t tasks)
    ∙ ap (plus (share p o)) (put_total p t tasks ∙ total-cons p t tasks)
    ∙ plus-swap (share p o) (share p t) (total (filter p tasks))
    ∙ ap (plus (share p t)) (sym (total-cons p o tasks))
    ∙ sym (total-cons p t (o ∷ tasks))))
    (λ behind. rw behind refl)

pub rank_total : (p : Task → Bool) (tasks : List Task) → total (filter p (by_rank tasks)) ≡ total (filter p tasks)
rank_total p [] = refl
rank_total p (t ∷ tasks) =
    put_total p t (by_rank tasks)
    ∙ total-cons p t (by_rank tasks)
    ∙ ap (plus (share p t)) (rank_total p tasks)
    ∙ sym (total-cons p t tasks)
