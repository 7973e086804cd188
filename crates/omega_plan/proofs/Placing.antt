-- Tenants that take over a machine, and claims that are placed among them.
use Rattle.std.proofs.Common.{◌≡◌, ℕ, ◌<◌, ◌+◌, Bool, true, false, cond, List, [], ◌∷◌, Option, Some, None, length, get_or, take, inl, inr, refl, sym, ap, ap₂, ◌∙◌, subst, arith, if◌then◌else◌, ◌==◌}
use Rattle.std.specs.BTreeMap.{is_at}
use Rattle.std.specs.BTreeSet.{BTreeSet, Updates, contains}
use Rattle.std.specs.Ordering.{nat_cmp}
use Rattle.std.specs.List.{filter, AllByRecursion as Each}
use Rattle.std.proofs.lemmas.Bool.{lt-ltb, le-ltb, eq-eqb, ne_eqb, eqb-true, cases_order, both_ways}
use Rattle.std.proofs.lemmas.List.{take_more}
use Rattle.std.proofs.lemmas.Option.{none-some, same_Some}
use Rattle.omega_model.specs.Cell.{is_on, task_at, with_task, without}
use Rattle.omega_model.specs.Judge.{runs_on}
use Rattle.omega_model.specs.Keys.{same_key, key_lt, is_among}
use Rattle.omega_model.specs.Reply.{task_of}
use Rattle.omega_model.specs.declared.cells.Task.{Task}
use Rattle.omega_model.specs.declared.cells.TaskKey.{TaskKey}
use Rattle.omega_model.specs.declared.claims.Claim.{Claim}
use Rattle.omega_model.proofs.InOrder.{key_differs, key_same}
use Rattle.omega_model.proofs.Lists.{by_answer, each_filter, each_passes, each_both}
use Rattle.omega_running.specs.declared.orders.Order.TheVariants.{ByKey}
use Rattle.omega_running.specs.Order.{IsInOrder}
use Rattle.omega_running.proofs.Kept.{rises_filter}
use Rattle.omega_board.proofs.Claims.{absent_still}
use Rattle.omega_board.proofs.Parts.{found_on}
use Rattle.omega_board.proofs.Ranks.{each_here}
use Rattle.omega_board.proofs.Tasks.{found_still, with_ordered, without_more, without_ordered}
use Rattle.omega_board.proofs.Untouched.{among_each}
use Rattle.omega_plan.specs.Overlays.{tasks_with}
use Rattle.omega_plan.specs.Tenants.{AreBeside, GoesBeside, MayPutAll, MayTakeOver, either, is_whole, kept, put_all}
use Rattle.omega_plan.specs.declared.tenants.Tenants.{Tenants}
use Rattle.omega_plan.proofs.Besides.{filter_at, gone_among, neither, passing, with_other, with_own}

-- one more name of a task that goes
pub gone_more : (own next tasks : List Task) (keys : List TaskKey) (n : ℕ) (d : TaskKey) → n < length keys
    → own ≡ without (take n keys) tasks → next ≡ without (get_or keys n d ∷ []) own → next ≡ without (take (n + 1) keys) tasks
gone_more own next tasks keys n d below so now =
    let key = get_or keys n d in
    now ∙ ap (without (key ∷ [])) so ∙ sym (without_more (take n keys) key tasks)
    ∙ ap (λ ks. without ks tasks) (sym (take_more keys n d below))

-- of a task that is kept, the machine isn't whole
kept_some : (tenants : Tenants) (o : Option Task) (t : Task) → kept tenants o ≡ Some t → (o ≡ Some t) × (is_whole tenants t.machine ≡ false)
kept_some tenants None t is = absurd (none-some t is)
kept_some tenants (Some s) t is =
    by_answer (is_whole tenants s.machine)
    (λ w. absurd (none-some t (sym (ap (λ b. if b then None else Some s) w) ∙ is)))
    (λ w.
    let same : s ≡ t = same_Some s t (sym (ap (λ b. if b then None else Some s) w) ∙ is) in
    (ap Some same, ap (λ (x : Task). is_whole tenants x.machine) (sym same) ∙ w))

-- a task that isn't kept is on a whole machine
kept_none : (tenants : Tenants) (t : Task) → kept tenants (Some t) ≡ None → is_whole tenants t.machine ≡ true
kept_none tenants t is =
    by_answer (is_whole tenants t.machine)
    (λ w. w)
    (λ w. absurd (none-some t (sym is ∙ ap (λ b. if b then None else Some t) w)))

-- tasks that were put in stand in order
put_ordered : (own tasks : List Task) → IsInOrder ByKey own → MayPutAll own tasks → IsInOrder ByKey (put_all own tasks)
put_ordered own [] order may = order
put_ordered own (t ∷ tasks) order may = put_ordered (with_task t own) tasks (with_ordered t own may.0 order) may.1

-- each name's task is the one that was there, or the one that was put in
put_at : (own tasks : List Task) (key : TaskKey) → IsInOrder ByKey own → MayPutAll own tasks
    → task_at (put_all own tasks) key ≡ either (task_at own key) (task_at tasks key)
put_at own [] key order may = nothing_more (task_at own key)
  where
    nothing_more : (o : Option Task) → o ≡ either o None
    nothing_more None = refl
    nothing_more (Some t) = refl
put_at own (t ∷ tasks) key order may =
    put_at (with_task t own) tasks key (with_ordered t own may.0 order) may.1
    ∙ by_answer (same_key t.key key)
    (λ same.
    let absent : task_at own key ≡ None = subst (λ k. task_at own k ≡ None) (key_same t.key key same) may.0 in
    ap (λ o. either o (task_at tasks key)) (with_own t own key same)
    ∙ sym (ap₂ either absent (ap (λ b. cond b (Some t) (task_at tasks key)) same)))
    (λ other.
    ap (λ o. either o (task_at tasks key)) (with_other t own key may.0 order other)
    ∙ sym (ap (either (task_at own key)) (ap (λ b. cond b (Some t) (task_at tasks key)) other)))

-- tasks in order that aren't there may be put in
pub may_put : (own tasks : List Task) → IsInOrder ByKey own → IsInOrder ByKey tasks → Each (λ t. task_at own t.key ≡ None) tasks → MayPutAll own tasks
may_put own [] order rise absent = tt
may_put own (t ∷ tasks) order rise absent = (
  absent.0,
  may_put (with_task t own) tasks (with_ordered t own absent.0 order) rise.1
      (each_both (λ y. key_lt t.key y.key ≡ true) (λ y. task_at own y.key ≡ None) (λ y. task_at (with_task t own) y.key ≡ None)
      (λ y less none. with_other t own y.key absent.0 order (key_differs t.key y.key less) ∙ none) tasks rise.0 absent.1),
)

-- so tenants may take over a machine
pub may_take_over : (tenants : Tenants) (board tasks : List Task) (machine : ℕ) → AreBeside tenants board tasks → MayTakeOver tenants board machine
may_take_over tenants board tasks machine beside partly =
    may_put tenants.own.tasks (filter (is_on machine) board) beside.own_ordered (rises_filter (λ a b. key_lt a.key b.key) (is_on machine) board beside.board_ordered)
    (each_both (λ t. is_on machine t ≡ true) (λ t. task_at board t.key ≡ Some t) (λ t. task_at tenants.own.tasks t.key ≡ None)
    (λ t on here. away t on here (task_at tenants.own.tasks t.key) refl) (filter (is_on machine) board)
    (each_passes (is_on machine) board) (each_filter (λ t. task_at board t.key ≡ Some t) (is_on machine) board (each_here board beside.board_ordered)))
  where
    away : (t : Task) → is_on machine t ≡ true → task_at board t.key ≡ Some t → (o : Option Task) → task_at tenants.own.tasks t.key ≡ o → o ≡ None
    away t on here None is = refl
    away t on here (Some s) is =
        let none : kept tenants (Some t) ≡ None = ap (kept tenants) (sym here) ∙ beside.apart t.key s is in
        absurd (both_ways _ partly (ap (is_whole tenants) (sym (eqb-true t.machine machine on)) ∙ kept_none tenants t none))

-- one more number among some
one_added : (n m : ℕ) (b : Bool) → cond (is_at (nat_cmp n) m) true b ≡ cond (m == n) true b
one_added n m b =
    elim (cases_order n m) [
      | inl e ↦ rw (le-ltb n m (omega arith), eq-eqb n m e, eq-eqb m n (sym e)) refl
      | inr (inl less) ↦ rw (lt-ltb n m less, ne_eqb m n (λ d. omega arith)) refl
      | inr (inr more) ↦ rw (le-ltb n m (omega arith), ne_eqb n m (λ d. omega arith), ne_eqb m n (λ d. omega arith)) refl
    ]

-- once the board's tasks on a machine were taken over the same tasks run
module _ (tenants next : Tenants) (board : List Task) (machine : ℕ) (may : MayTakeOver tenants board machine) (partly : is_whole tenants machine ≡ false)
    (put : next.own.tasks ≡ put_all tenants.own.tasks (filter (is_on machine) board)) (updates : Updates nat_cmp tenants.whole next.whole machine true) where
  whole_now : (id : ℕ) → is_whole next id ≡ cond (id == machine) true (is_whole tenants id)
  whole_now id = updates.0 id ∙ one_added machine id (is_whole tenants id)

  pub is_whole_now : is_whole next machine ≡ true
  is_whole_now = whole_now machine ∙ ap (λ b. cond b true (is_whole tenants machine)) (eq-eqb machine machine refl)

  here_now : (t : Task) → is_on machine t ≡ true → is_whole next t.machine ≡ true
  here_now t on = ap (is_whole next) (eqb-true t.machine machine on) ∙ is_whole_now

  elsewhere_now : (t : Task) → is_on machine t ≡ false → is_whole next t.machine ≡ is_whole tenants t.machine
  elsewhere_now t off = whole_now t.machine ∙ ap (λ b. cond b true (is_whole tenants t.machine)) off

  -- of a name's task on the board, what is taken over and what is left
  moved_over : (o : Option Task) → kept tenants o ≡ either (passing (is_on machine) o) (kept next o)
  moved_over None = refl
  moved_over (Some t) =
      by_answer (is_on machine t)
      (λ on.
      ap (λ b. if b then None else Some t) (ap (is_whole tenants) (eqb-true t.machine machine on) ∙ partly)
      ∙ sym (ap (λ b. either (if b then Some t else None) (kept next (Some t))) on))
      (λ off.
      ap (λ b. if b then None else Some t) (sym (elsewhere_now t off))
      ∙ sym (ap (λ b. either (if b then Some t else None) (kept next (Some t))) off))

  still_none : (o : Option Task) → kept tenants o ≡ None → kept next o ≡ None
  still_none None is = refl
  still_none (Some t) is =
      by_answer (is_on machine t)
      (λ on. ap (λ b. if b then None else Some t) (here_now t on))
      (λ off. ap (λ b. if b then None else Some t) (elsewhere_now t off ∙ kept_none tenants t is))

  passed_none : (o : Option Task) (t : Task) → passing (is_on machine) o ≡ Some t → kept next o ≡ None
  passed_none None t is = absurd (none-some t is)
  passed_none (Some s) t is =
      by_answer (is_on machine s)
      (λ on. ap (λ b. if b then None else Some s) (here_now s on))
      (λ off. absurd (none-some t (sym (ap (λ b. if b then Some s else None) off) ∙ is)))

  put_there : (own_ordered : IsInOrder ByKey tenants.own.tasks) → IsInOrder ByKey board → (key : TaskKey)
      → task_at next.own.tasks key ≡ either (task_at tenants.own.tasks key) (passing (is_on machine) (task_at board key))
  put_there own_ordered board_ordered key =
      ap (λ ts. task_at ts key) put ∙ put_at tenants.own.tasks (filter (is_on machine) board) key own_ordered (may partly)
      ∙ ap (either (task_at tenants.own.tasks key)) (filter_at (is_on machine) board key board_ordered)

  pub taken_over : (tasks : List Task) → AreBeside tenants board tasks → AreBeside next board tasks
  taken_over tasks beside = record {
    ordered = beside.ordered;
    own_ordered = subst (IsInOrder ByKey) (sym put) (put_ordered tenants.own.tasks (filter (is_on machine) board) beside.own_ordered (may partly));
    board_ordered = beside.board_ordered;
    found = λ key.
        beside.found key ∙ joined (task_at tenants.own.tasks key) (task_at board key)
        ∙ sym (ap (λ o. either o (kept next (task_at board key))) (put_there beside.own_ordered beside.board_ordered key));
    apart = λ key task here.
        one_alone (task_at tenants.own.tasks key) (task_at board key) (beside.apart key) task (sym (put_there beside.own_ordered beside.board_ordered key) ∙ here);
  }
    where
      joined : (a b : Option Task) → either a (kept tenants b) ≡ either (either a (passing (is_on machine) b)) (kept next b)
      joined None b = moved_over b
      joined (Some t) b = refl

      one_alone : (a b : Option Task) → ((t : Task) → a ≡ Some t → kept tenants b ≡ None) → (task : Task) → either a (passing (is_on machine) b) ≡ Some task → kept next b ≡ None
      one_alone None b apart task here = passed_none b task here
      one_alone (Some t) b apart task here = still_none b (apart t refl)

-- tenants whose tasks are the same and whose machines are whole as before
pub beside_same : (tenants next : Tenants) (board tasks : List Task) → next.own.tasks ≡ tenants.own.tasks → next.whole ≡ tenants.whole → AreBeside tenants board tasks → AreBeside next board tasks
beside_same tenants next board tasks own whole beside = record {
  ordered = beside.ordered;
  own_ordered = subst (IsInOrder ByKey) (sym own) beside.own_ordered;
  board_ordered = beside.board_ordered;
  found = λ key.
      beside.found key
      ∙ ap₂ either (ap (λ ts. task_at ts key) (sym own)) (kept_same (task_at board key));
  apart = λ key task here. sym (kept_same (task_at board key)) ∙ beside.apart key task (ap (λ ts. task_at ts key) (sym own) ∙ here);
}
  where
    kept_same : (o : Option Task) → kept tenants o ≡ kept next o
    kept_same None = refl
    kept_same (Some t) = ap (λ (s : BTreeSet ℕ). if contains nat_cmp s t.machine then None else Some t) (sym whole)

-- a claim that is placed
module _ (tenants : Tenants) (board : List Task) (claim : Claim) (tasks : List Task) (goes : GoesBeside tenants board claim tasks) where
  abbrev pub own : List Task
  own = tenants.own.tasks

  -- its task is neither the tenants' nor the board's
  new : (task_at own claim.key ≡ None) × (kept tenants (task_at board claim.key) ≡ None)
  new = neither (task_at own claim.key) (kept tenants (task_at board claim.key)) (sym goes.absent ∙ goes.beside.found claim.key)

  pub own_absent : task_at (without claim.victims own) claim.key ≡ None
  own_absent = absent_still claim.victims own claim.key new.0

  -- there is no victim where there is none
  some_whole : (key : TaskKey) → is_among key claim.victims ≡ true → is_whole tenants claim.machine ≡ true
  some_whole key among = elim goes.whole [
    | inl none ↦ absurd (both_ways false refl (ap (is_among key) (sym none) ∙ among))
    | inr whole ↦ whole
  ]

  -- a victim isn't the board's
  victim_kept : (key : TaskKey) → is_among key claim.victims ≡ true → kept tenants (task_at board key) ≡ None
  victim_kept key among =
      let runs = found_on tasks claim.machine key goes.beside.ordered (among_each (λ k. runs_on tasks claim.machine k ≡ true) key claim.victims goes.stand among) in
      by (task_at own key) refl (kept tenants (task_at board key)) refl runs.0 runs.2 (sym runs.1 ∙ goes.beside.found key)
    where
      by : (a : Option Task) → task_at own key ≡ a → (b : Option Task) → kept tenants (task_at board key) ≡ b → (t : Task) → t.machine ≡ claim.machine
          → Some t ≡ either (task_at own key) (kept tenants (task_at board key)) → b ≡ None
      by (Some s) is b is_b t on found = sym is_b ∙ goes.beside.apart key s is
      by None is None is_b t on found = refl
      by None is (Some s) is_b t on found =
          let known = kept_some tenants (task_at board key) s is_b in
          let same : t ≡ s = same_Some t s (found ∙ ap₂ either is is_b) in
          absurd (both_ways _ known.1 (ap (is_whole tenants) (ap (λ (x : Task). x.machine) (sym same) ∙ on) ∙ some_whole key among))

  -- with the victims gone
  found_left : (key : TaskKey) → task_at (without claim.victims tasks) key ≡ either (task_at (without claim.victims own) key) (kept tenants (task_at board key))
  found_left key =
      by_answer (is_among key claim.victims)
      (λ among. gone_among claim.victims tasks key among ∙ sym (ap₂ either (gone_among claim.victims own key among) (victim_kept key among)))
      (λ stays.
      found_still claim.victims tasks key stays ∙ goes.beside.found key
      ∙ ap (λ o. either o (kept tenants (task_at board key))) (sym (found_still claim.victims own key stays)))

  apart_left : (key : TaskKey) (task : Task) → task_at (without claim.victims own) key ≡ Some task → kept tenants (task_at board key) ≡ None
  apart_left key task here =
      by_answer (is_among key claim.victims)
      (λ among. victim_kept key among)
      (λ stays. goes.beside.apart key task (sym (found_still claim.victims own key stays) ∙ here))

  left_ordered : IsInOrder ByKey (without claim.victims tasks)
  left_ordered = without_ordered claim.victims tasks goes.beside.ordered

  own_left : IsInOrder ByKey (without claim.victims own)
  own_left = without_ordered claim.victims own goes.beside.own_ordered

  gone_new : task_at (without claim.victims tasks) claim.key ≡ None
  gone_new = absent_still claim.victims tasks claim.key goes.absent

  placed_at : (key : TaskKey) → task_at (tasks_with tasks claim) key ≡ either (task_at (with_task (task_of claim) (without claim.victims own)) key) (kept tenants (task_at board key))
  placed_at key =
      let rest = without claim.victims tasks in
      by_answer (same_key claim.key key)
      (λ same.
      with_own (task_of claim) rest key same
      ∙ ap (λ o. either o (kept tenants (task_at board key))) (sym (with_own (task_of claim) (without claim.victims own) key same)))
      (λ other.
      with_other (task_of claim) rest key gone_new left_ordered other ∙ found_left key
      ∙ ap (λ o. either o (kept tenants (task_at board key))) (sym (with_other (task_of claim) (without claim.victims own) key own_absent own_left other)))

  placed_apart : (key : TaskKey) (task : Task) → task_at (with_task (task_of claim) (without claim.victims own)) key ≡ Some task → kept tenants (task_at board key) ≡ None
  placed_apart key task here =
      by_answer (same_key claim.key key)
      (λ same. subst (λ k. kept tenants (task_at board k) ≡ None) (key_same claim.key key same) new.1)
      (λ other. apart_left key task (sym (with_other (task_of claim) (without claim.victims own) key own_absent own_left other) ∙ here))

  pub placed_beside : (next : Tenants) → next.own.tasks ≡ with_task (task_of claim) (without claim.victims own) → next.whole ≡ tenants.whole → AreBeside next board (tasks_with tasks claim)
  placed_beside next put whole =
      beside_same (record tenants { own = record tenants.own { tasks = with_task (task_of claim) (without claim.victims own) } }) next board (tasks_with tasks claim) put whole (record {
        ordered = with_ordered (task_of claim) (without claim.victims tasks) gone_new left_ordered;
        own_ordered = with_ordered (task_of claim) (without claim.victims own) own_absent own_left;
        board_ordered = goes.beside.board_ordered;
        found = placed_at;
        apart = placed_apart;
      })
