-- The end that comes first by the times that are kept is the one that is due first.
use Rattle.std.proofs.Common.{◌≡◌, ◌<◌, ℕ, true, false, List, [], ◌∷◌, Option, Some, None, refl, sym, ap, ◌∙◌, inl, inr, arith}
use Rattle.std.specs.Prelude.{◌⊎◌, nat_lt, option_map, slice_get}
use Rattle.std.specs.BTreeSet.{BTreeSet}
use Rattle.std.specs.List.{filter_map, AllByRecursion as Each}
use Rattle.std.specs.Ordering.{is_gt, nat_cmp, ordering_then}
use Rattle.std.specs.declared.cmp.Ordering.{Ordering}
use Rattle.std.specs.declared.cmp.Ordering.TheVariants.{Less, Equal, Greater}
use Rattle.std.proofs.lemmas.Bool.{both_ways, cases_order, eq-eqb, le-ltb, ne_eqb}
use Rattle.std.proofs.lemmas.Option.{none-some, same_Some}
use Rattle.omega_feed.proofs.KeyOrder.{Facts, facts}
use Rattle.omega_feed.specs.Index.{key_cmp}
use Rattle.omega_free_laws.proofs.DueEnds.{each_runs}
use Rattle.omega_free_laws.proofs.LivesTimes.{found_holds}
use Rattle.omega_free_laws.specs.Lives.{DueEnd, end_at, end_of_task, ended, first_end, first_own_end, lives_of, placing}
use Rattle.omega_laws.proofs.Suited.{OfValue}
use Rattle.omega_laws.specs.VirtualTime.{Timed}
use Rattle.omega_model.proofs.InOrder.{key_same}
use Rattle.omega_model.proofs.Lists.{by_answer, each_both}
use Rattle.omega_model.specs.Cell.{task_at}
use Rattle.omega_model.specs.ExtraTasks.{first_extra}
use Rattle.omega_model.specs.Keys.{key_lt, same_key}
use Rattle.omega_model.specs.State.{state}
use Rattle.omega_model.specs.declared.cells.Task.{Task}
use Rattle.omega_model.specs.declared.cells.TaskKey.{TaskKey}
use Rattle.omega_model.specs.declared.entries.Entry.{Entry}
use Rattle.omega_model.specs.declared.rows.TraceTables.{TraceTables}
use Rattle.omega_running.proofs.Kept.{found_key}
use Rattle.omega_pieces.specs.Due.{AreAsBefore, AreQueued, ComesFirst, HasItsTime, IsFirstDue, IsFirstOf, KeepsEnds, SetsDue, due_at, end_cmp}
use Rattle.omega_pieces.proofs.LeastEnds.{NotBefore, least_is_own_end}

-- an end after which another comes is due before it, or at the same time and its task has no greater name
comes_before : (time other : ℕ) (key named : TaskKey) → is_gt (end_cmp (time, key) (other, named)) ≡ false
    → (time < other) ⊎ ((time ≡ other) × ((key_lt key named ≡ true) ⊎ (key ≡ named)))
comes_before time other key named low =
    elim (cases_order time other) [
      | inl e ↦
          let same : nat_cmp time other ≡ Equal = rw (le-ltb time other (omega arith), eq-eqb time other e) refl in
          inr (e, by_key (key_cmp key named) (facts key named) (ap (λ (o : Ordering). is_gt (ordering_then o (key_cmp key named))) (sym same) ∙ low))
      | inr (inl less) ↦ inl less
      | inr (inr more) ↦
          let above : nat_cmp time other ≡ Greater = rw (le-ltb time other (omega arith), ne_eqb time other (λ d. omega arith)) refl in
          absurd (both_ways _ (sym (ap (λ (o : Ordering). is_gt (ordering_then o (key_cmp key named))) above) ∙ low) refl)
    ] where
      by_key : (o : Ordering) → Facts o key named → is_gt o ≡ false → (key_lt key named ≡ true) ⊎ (key ≡ named)
      by_key Less f low = inl f.0
      by_key Equal f low = inr f
      by_key Greater f low = absurd (both_ways _ low refl)

none_first : (f : Task → Option DueEnd) (tasks : List Task) → Each (λ (task : Task). f task ≡ None) tasks → first_end (filter_map f tasks) ≡ None
none_first f [] each = refl
none_first f (task ∷ tasks) each = rw each.0 (none_first f tasks each.1)

module _ (trace : TraceTables) (history : List Entry) (times : List Timed) where
  -- a running task has its time
  each_has : (ends : List (TaskKey × ℕ)) → KeepsEnds trace history times ends → (task : Task) → task_at (state history).tasks task.key ≡ Some task
      → HasItsTime trace ends history times task
  each_has ends keeps task runs = found_holds (HasItsTime trace ends history times) (state history).tasks task.key task keeps.each runs

  -- an end has its task's name and machine
  end_is : (task : Task) (end : DueEnd) → end_of_task trace history times task ≡ Some end → (end.key ≡ task.key) × (end.machine ≡ task.machine)
  end_is task end is =
      by_answer (nat_lt task.key.index first_extra)
      (λ t. by_parts (placing history times task.key) (slice_get (lives_of trace task.key) (ended history task.key)) (rw t at is))
      (λ f. absurd (none-some end (rw f at is))) where
        by_parts : (placed : Option Timed) (life : Option ℕ) → end_at task placed life ≡ Some end → (end.key ≡ task.key) × (end.machine ≡ task.machine)
        by_parts None life is = absurd (none-some end is)
        by_parts (Some timed) None is = absurd (none-some end is)
        by_parts (Some timed) (Some life) is =
            let same = same_Some _ end is in (sym (ap (λ (it : DueEnd). it.key) same), sym (ap (λ (it : DueEnd). it.machine) same))

  one_end : (due other : DueEnd) → due.key ≡ other.key → due.machine ≡ other.machine → due.time ≡ other.time → due ≡ other
  one_end due other same_key same_machine same_time =
      ap (λ (key : TaskKey). let it : DueEnd = record { key = key; machine = due.machine; time = due.time } in it) same_key
      ∙ ap (λ (machine : ℕ). let it : DueEnd = record { key = other.key; machine = machine; time = due.time } in it) same_machine
      ∙ ap (λ (time : ℕ). let it : DueEnd = record { key = other.key; machine = other.machine; time = time } in it) same_time

  module _ (running : List Task) (ends : List (TaskKey × ℕ)) (are : running ≡ (state history).tasks) (keeps : KeepsEnds trace history times ends) where
    least_of : (due : DueEnd) → ComesFirst running ends due → (task : Task) → task.key ≡ due.key → task_at (state history).tasks task.key ≡ Some task
        → end_of_task trace history times task ≡ Some due → first_own_end trace history times ≡ Some due
    least_of due first task named runs is =
        least_is_own_end trace history times task due runs is (λ other runs_too. of_other other runs_too (end_of_task trace history times other) refl) where
          of_other : (other : Task) → task_at (state history).tasks other.key ≡ Some other → (its : Option DueEnd) → end_of_task trace history times other ≡ its
              → OfValue (NotBefore due) its
          of_other other runs_too None ends_so = tt
          of_other other runs_too (Some its) ends_so =
              let parts = end_is other its ends_so in
              let time : due_at ends other.key ≡ Some its.time = each_has ends keeps other runs_too ∙ ap (option_map (λ (it : DueEnd). it.time)) ends_so in
              elim (comes_before due.time its.time due.key other.key (first.first its.time other.key time)) [
                | inl less ↦ inl less
                | inr (same, inl less) ↦ inr (same, inl (ap (key_lt due.key) parts.0 ∙ less))
                | inr (same, inr equal) ↦
                    let one : other ≡ task = same_Some other task (sym runs_too ∙ ap (task_at (state history).tasks) (sym equal ∙ sym named) ∙ runs) in
                    inr (same, inr (same_Some due its (sym is ∙ ap (end_of_task trace history times) (sym one) ∙ ends_so)))
              ]

    some_is : (due : DueEnd) → ComesFirst running ends due → first_own_end trace history times ≡ Some due
    some_is due first =
        by_task (task_at (state history).tasks due.key) refl
        (sym (ap (λ (tasks : List Task). option_map (λ (task : Task). task.machine) (task_at tasks due.key)) are) ∙ first.runs) where
          by_end : (task : Task) → task.key ≡ due.key → task.machine ≡ due.machine → task_at (state history).tasks task.key ≡ Some task
              → (end : Option DueEnd) → end_of_task trace history times task ≡ end → option_map (λ (it : DueEnd). it.time) end ≡ Some due.time
              → first_own_end trace history times ≡ Some due
          by_end task named on runs None is has = absurd (none-some due.time has)
          by_end task named on runs (Some end) is has =
              let parts = end_is task end is in
              let same : end ≡ due = one_end end due (parts.0 ∙ named) (parts.1 ∙ on) (same_Some end.time due.time has) in
              least_of due first task named runs (is ∙ ap (λ (it : DueEnd). Some it) same)

          by_task : (found : Option Task) → task_at (state history).tasks due.key ≡ found → option_map (λ (task : Task). task.machine) found ≡ Some due.machine
              → first_own_end trace history times ≡ Some due
          by_task None is machine = absurd (none-some due.machine machine)
          by_task (Some task) is machine =
              let named : task.key ≡ due.key = found_key due.key (state history).tasks task is in
              let runs : task_at (state history).tasks task.key ≡ Some task = ap (task_at (state history).tasks) named ∙ is in
              let has : option_map (λ (end : DueEnd). end.time) (end_of_task trace history times task) ≡ Some due.time =
              sym (each_has ends keeps task runs) ∙ ap (due_at ends) named ∙ first.time in
              by_end task named (same_Some task.machine due.machine machine) runs (end_of_task trace history times task) refl has

    pub first_is : (result : Option DueEnd) → IsFirstDue running ends result → first_own_end trace history times ≡ result
    first_is None none =
        none_first (end_of_task trace history times) (state history).tasks
        (each_none (state history).tasks keeps.each) where
          each_none : (tasks : List Task) → Each (HasItsTime trace ends history times) tasks → Each (λ (task : Task). end_of_task trace history times task ≡ None) tasks
          each_none [] each = tt
          each_none (task ∷ tasks) each = (by_end (end_of_task trace history times task) (sym each.0 ∙ none task.key), each_none tasks each.1) where
            by_end : (end : Option DueEnd) → option_map (λ (it : DueEnd). it.time) end ≡ None → end ≡ None
            by_end None is = refl
            by_end (Some end) is = absurd (none-some end.time (sym is))
    first_is (Some due) first = some_is due first

-- the times of the tasks that run are as they were
pub keeps_as : (trace : TraceTables) (history : List Entry) (times : List Timed) (running : List Task) (old new : List (TaskKey × ℕ)) → running ≡ (state history).tasks
    → AreAsBefore running old new → KeepsEnds trace history times old → KeepsEnds trace history times new
keeps_as trace history times running old new are same keeps = record {
  within = keeps.within;
  each = each_both (λ (task : Task). task_at (state history).tasks task.key ≡ Some task) (HasItsTime trace old history times) (HasItsTime trace new history times)
      (λ task runs has. same task (ap (λ (tasks : List Task). task_at tasks task.key) are ∙ runs) ∙ has)
      (state history).tasks (each_runs history) keeps.each;
}

-- so they are once the time of a task that doesn't run is taken off
pub still_as : (running : List Task) (old mid new : List (TaskKey × ℕ)) (key : TaskKey) → task_at running key ≡ None → SetsDue mid new key None
    → AreAsBefore running old mid → AreAsBefore running old new
still_as running old mid new key none sets same task runs =
    by_answer (same_key key task.key)
    (λ t. absurd (none-some task (sym none ∙ ap (task_at running) (key_same key task.key t) ∙ runs)))
    (λ f. sets task.key ∙ rw f (same task runs))

-- no task has a time where the queue is empty
pub none_due : (times : List (TaskKey × ℕ)) (queue : BTreeSet (ℕ × TaskKey)) → AreQueued times queue → IsFirstOf queue None → (key : TaskKey) → due_at times key ≡ None
none_due times queue queued empty key = by_time (due_at times key) refl where
  by_time : (found : Option ℕ) → due_at times key ≡ found → due_at times key ≡ None
  by_time None is = is
  by_time (Some time) is = absurd (both_ways _ (empty time key) ((queued time key).1 is))
