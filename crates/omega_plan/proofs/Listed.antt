-- Tasks in a list in order of key: where one is put in, and what those on a machine leave.
use Rattle.std.proofs.Common.{◌≡◌, ◌<◌, ◌≤◌, ◌+◌, ℕ, zero, suc, true, false, List, [], ◌∷◌, ◌++◌, None, length, get_or, drop, append_assoc, append-nil, arith, refl, sym, ap, ap₂, ◌∙◌, subst}
use Rattle.std.specs.List.{filter, insert, AllByRecursion as Each}
use Rattle.std.proofs.lemmas.List.{drop_more}
use Rattle.std.proofs.lemmas.List.Elements.{filter-append}
use Rattle.omega_model.specs.Cell.{is_on, task_at, total, with_task}
use Rattle.omega_model.specs.Keys.{key_lt}
use Rattle.omega_model.specs.Need.{minus, nothing, plus}
use Rattle.omega_model.specs.declared.cells.Need.{Need}
use Rattle.omega_model.specs.declared.cells.Task.{Task}
use Rattle.omega_model.proofs.Amounts.{need_is, total-append}
use Rattle.omega_model.proofs.InOrder.{key_asym}
use Rattle.omega_running.specs.declared.orders.Order.TheVariants.{ByKey}
use Rattle.omega_running.specs.Order.{IsInOrder, precedes}
use Rattle.omega_running.specs.Staying.{staying_on, stays_against}
use Rattle.omega_model.proofs.Lists.{each_map, each_of, filter_every, filter_none}
use Rattle.omega_running.proofs.Staying.{left_by_both}
use Rattle.omega_running.proofs.Strict.{sides}
use Rattle.omega_plan.specs.Tenants.{MayPutAll, put_all}
use Rattle.omega_plan.proofs.Placing.{may_put}

-- a place before the middle one, and one behind it
pub put_before : (l : List Task) (x : Task) (r : List Task) (n : ℕ) (t : Task) → n ≤ length l → insert l n t ++ x ∷ r ≡ insert (l ++ x ∷ r) n t
put_before [] x r zero t in_front = refl
put_before [] x r (suc n) t in_front = absurd (omega (arith, in_front))
put_before (y ∷ l) x r zero t in_front = refl
put_before (y ∷ l) x r (suc n) t in_front = ap (λ ys. y ∷ ys) (put_before l x r n t (omega (arith, in_front)))

pub put_behind : (l : List Task) (x : Task) (r : List Task) (n m : ℕ) (t : Task) → m ≡ length l + 1 + n → l ++ x ∷ insert r n t ≡ insert (l ++ x ∷ r) m t
put_behind l x r n zero t is = absurd (omega (arith, is))
put_behind [] x r n (suc m) t is = let same : n ≡ m = omega (arith, is) in ap (λ k. x ∷ insert r k t) same
put_behind (y ∷ l) x r n (suc m) t is = ap (λ ys. y ∷ ys) (put_behind l x r n m t (omega (arith, is)))

-- a task whose key is greater than all others stands at the end
with_last : (t : Task) (own : List Task) → Each (λ y. key_lt y.key t.key ≡ true) own → with_task t own ≡ own ++ t ∷ []
with_last t own before =
    ap₂ (λ (xs ys : List Task). xs ++ t ∷ ys) (filter_every (λ y. key_lt y.key t.key) own before)
    (filter_none (λ y. key_lt t.key y.key) own (each_map (λ y. key_lt y.key t.key ≡ true) (λ y. key_lt t.key y.key ≡ false) (λ y less. key_asym y.key t.key less) own before))

put_on : (own tasks : List Task) → IsInOrder ByKey (own ++ tasks) → put_all own tasks ≡ own ++ tasks
put_on own [] order = sym (append-nil own)
put_on own (t ∷ tasks) order =
    let at = sides (precedes ByKey) own t tasks order in
    ap (λ xs. put_all xs tasks) (with_last t own at.before)
    ∙ put_on (own ++ t ∷ []) tasks (subst (IsInOrder ByKey) (sym (append_assoc own (t ∷ []) tasks)) order)
    ∙ append_assoc own (t ∷ []) tasks

-- tasks in order may be put where none is, and then are what stands there
pub may_put_first : (tasks : List Task) → IsInOrder ByKey tasks → MayPutAll [] tasks
may_put_first tasks order = may_put [] tasks tt order (each_of (λ t. task_at [] t.key ≡ None) (λ t. refl) tasks)

pub put_first : (tasks : List Task) → IsInOrder ByKey tasks → put_all [] tasks ≡ tasks
put_first tasks order = put_on [] tasks order

-- what the first task and those behind it keep
staying_first : (prec machine : ℕ) (t : Task) (rest : List Task) → staying_on prec (t ∷ rest) machine ≡ plus (staying_on prec (t ∷ []) machine) (staying_on prec rest machine)
staying_first prec machine t rest =
    ap (λ ts. total (filter (stays_against prec) ts)) (filter-append (is_on machine) (t ∷ []) rest)
    ∙ ap total (filter-append (stays_against prec) (filter (is_on machine) (t ∷ [])) (filter (is_on machine) rest))
    ∙ total-append (filter (stays_against prec) (filter (is_on machine) (t ∷ []))) (filter (stays_against prec) (filter (is_on machine) rest))

-- one more task takes what it needs
pub left_more : (prec machine : ℕ) (left next whole : Need) (tasks : List Task) (i : ℕ) (d : Task) → i < length tasks
    → next ≡ minus left (staying_on prec (get_or tasks i d ∷ []) machine) → minus left (staying_on prec (drop i tasks) machine) ≡ whole
    → minus next (staying_on prec (drop (i + 1) tasks) machine) ≡ whole
left_more prec machine left next whole tasks i d below is so =
    let t = get_or tasks i d in
    let rest = drop (i + 1) tasks in
    ap (λ (n : Need). minus n (staying_on prec rest machine)) is
    ∙ sym (left_by_both left (staying_on prec (t ∷ []) machine) (staying_on prec rest machine))
    ∙ ap (minus left) (sym (staying_first prec machine t rest))
    ∙ ap (λ (ts : List Task). minus left (staying_on prec ts machine)) (sym (drop_more tasks i d below))
    ∙ so

pub minus_nothing : (a : Need) → minus a nothing ≡ a
minus_nothing a = need_is _ _ (omega arith) (omega arith) (omega arith)
