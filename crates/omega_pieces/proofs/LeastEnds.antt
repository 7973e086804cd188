-- The end that is due first is the least by its time and its task's name: what a heap of ends has to find.
use Rattle.std.proofs.Common.{◌≡◌, ◌≤◌, ◌<◌, ℕ, ◌+◌, suc, true, List, [], ◌∷◌, Option, Some, None, refl, sym, ap, subst, ◌∙◌, inl, inr, arith}
use Rattle.std.specs.Prelude.{◌⊎◌, nat_lt, slice_get}
use Rattle.std.specs.List.{cons_option, filter_map, AllByRecursion as Each}
use Rattle.std.proofs.lemmas.Bool.{both_ways}
use Rattle.std.proofs.lemmas.Bool.Decides.{leb_tells}
use Rattle.std.proofs.lemmas.Option.{same_Some}
use Rattle.omega_laws.proofs.Suited.{OfValue, each_mapped}
use Rattle.omega_laws.specs.VirtualTime.{Timed}
use Rattle.omega_model.proofs.InOrder.{Rise, key_asym}
use Rattle.omega_model.proofs.Lists.{by_answer, each_both}
use Rattle.omega_model.proofs.RowEnds.{state_rises}
use Rattle.omega_model.specs.Cell.{task_at}
use Rattle.omega_model.specs.ExtraTasks.{first_extra}
use Rattle.omega_model.specs.Keys.{key_lt}
use Rattle.omega_model.specs.State.{state}
use Rattle.omega_model.specs.declared.cells.Task.{Task}
use Rattle.omega_model.specs.declared.entries.Entry.{Entry}
use Rattle.omega_model.specs.declared.rows.TraceTables.{TraceTables}
use Rattle.omega_free_laws.specs.Lives.{DueEnd, end_at, end_of_task, ended, first_end, lives_of, first_own_end, placing, sooner_end}
use Rattle.omega_free_laws.proofs.DueEnds.{each_runs, first_end_holds, none_end}
use Rattle.omega_free_laws.proofs.LivesTimes.{each_unmapped, found_holds}

-- an end is due before another, or at the same time and its task has a lesser name, or they are one
abbrev pub NotBefore : DueEnd → DueEnd → Type 0
NotBefore one other = (one.time < other.time) ⊎ ((one.time ≡ other.time) × ((key_lt one.key other.key ≡ true) ⊎ (one ≡ other)))

-- ends stand in order of name
abbrev EndsRise : List DueEnd → Type 0
EndsRise [] = Unit {0}
EndsRise (end ∷ ends) = Each (λ (other : DueEnd). key_lt end.key other.key ≡ true) ends × EndsRise ends

first_least : (ends : List DueEnd) (end : DueEnd) → EndsRise ends → first_end ends ≡ Some end → Each (NotBefore end) ends
first_least [] end rise is = absurd (cc)
first_least (one ∷ others) end rise is =
    subst (λ (it : DueEnd). Each (NotBefore it) (one ∷ others)) (same_Some (sooner_end one (first_end others)) end is)
    (chosen (first_end others) refl (λ other some. first_least others other rise.1 some)) where
      chosen : (found : Option DueEnd) → first_end others ≡ found → ((other : DueEnd) → first_end others ≡ Some other → Each (NotBefore other) others)
          → Each (NotBefore (sooner_end one found)) (one ∷ others)
      chosen None is_found later = subst (λ (rest : List DueEnd). Each (NotBefore one) (one ∷ rest)) (sym (none_end others is_found)) (inr (refl, inr refl), tt)
      chosen (Some other) is_found later =
          elim (leb_tells (suc other.time) one.time) [
            | inl less ↦
                let same : sooner_end one (Some other) ≡ other = rw less.0 refl in
                subst (λ (it : DueEnd). Each (NotBefore it) (one ∷ others)) (sym same) (inl less.1, later other is_found)
            | inr more ↦
                let same : sooner_end one (Some other) ≡ one = rw more.0 refl in
                let low : one.time ≤ other.time = let it = more.1 in omega (arith, it) in
                subst (λ (it : DueEnd). Each (NotBefore it) (one ∷ others)) (sym same) (
                  inr (refl, inr refl),
                  each_both (λ (it : DueEnd). key_lt one.key it.key ≡ true) (NotBefore other) (NotBefore one)
                      (λ it above after. passes_on low it above after) others rise.0 (later other is_found),
                )
          ] where
            split : (a b : ℕ) → a ≤ b → (a < b) ⊎ (a ≡ b)
            split a b less = grind (arith)

            by_split : (it : DueEnd) → key_lt one.key it.key ≡ true → (one.time < it.time) ⊎ (one.time ≡ it.time) → NotBefore one it
            by_split it above (inl less) = inl less
            by_split it above (inr same) = inr (same, inl above)

            passes_on : one.time ≤ other.time → (it : DueEnd) → key_lt one.key it.key ≡ true → NotBefore other it → NotBefore one it
            passes_on low it above (inl less) = by_split it above (split one.time it.time (omega (arith, low, less)))
            passes_on low it above (inr same) = by_split it above (split one.time it.time (let time = same.0 in omega (arith, low, time)))

-- of two ends neither of which is before the other
one_least : (one other : DueEnd) → NotBefore one other → NotBefore other one → one ≡ other
one_least one other (inl less) (inl more) = absurd (omega (arith, less, more))
one_least one other (inl less) (inr more) = absurd (let time = more.0 in omega (arith, less, time))
one_least one other (inr less) (inl more) = absurd (let time = less.0 in omega (arith, more, time))
one_least one other (inr (time, inr same)) after = same
one_least one other (inr (time, inl less)) (inr (again, inr same)) = sym same
one_least one other (inr (time, inl less)) (inr (again, inl more)) = absurd (both_ways _ (key_asym one.key other.key less) more)

module _ (trace : TraceTables) (history : List Entry) (times : List Timed) where
  ends : List DueEnd
  ends = filter_map (end_of_task trace history times) (state history).tasks

  -- an end has its task's name
  named_at : (P : DueEnd → Type 0) (task : Task) → ((end : DueEnd) → end.key ≡ task.key → P end) → (timed : Option Timed) (life : Option ℕ) → OfValue P (end_at task timed life)
  named_at P task holds None life = tt
  named_at P task holds (Some timed) None = tt
  named_at P task holds (Some timed) (Some life) = holds (record { key = task.key; machine = task.machine; time = timed.time + life }) refl

  named : (P : DueEnd → Type 0) (task : Task) → ((end : DueEnd) → end.key ≡ task.key → P end) → OfValue P (end_of_task trace history times task)
  named P task holds =
      by_answer (nat_lt task.key.index first_extra)
      (λ t. rw t (named_at P task holds (placing history times task.key) (slice_get (lives_of trace task.key) (ended history task.key))))
      (λ f. rw f tt)

  ends_rise : (tasks : List Task) → Rise tasks → EndsRise (filter_map (end_of_task trace history times) tasks)
  ends_rise [] rise = tt
  ends_rise (task ∷ tasks) rise = by_value (end_of_task trace history times task) (named (λ (end : DueEnd). end.key ≡ task.key) task (λ end same. same)) (ends_rise tasks rise.1) where
    by_value : (o : Option DueEnd) → OfValue (λ (end : DueEnd). end.key ≡ task.key) o → EndsRise (filter_map (end_of_task trace history times) tasks)
        → EndsRise (cons_option o (filter_map (end_of_task trace history times) tasks))
    by_value None same rest = rest
    by_value (Some end) same rest = (
      each_mapped (λ (other : Task). key_lt task.key other.key ≡ true) (λ (other : DueEnd). key_lt end.key other.key ≡ true) (end_of_task trace history times)
          (λ other less. named (λ (it : DueEnd). key_lt end.key it.key ≡ true) other
          (λ it its. ap (λ k. key_lt k it.key) same ∙ ap (key_lt task.key) its ∙ less)) tasks rise.0,
      rest,
    )

  -- an end of a running task before which no other is due is the one that is due first
  pub least_is_own_end : (task : Task) (end : DueEnd) → task_at (state history).tasks task.key ≡ Some task → end_of_task trace history times task ≡ Some end
      → ((other : Task) → task_at (state history).tasks other.key ≡ Some other → OfValue (NotBefore end) (end_of_task trace history times other))
      → first_own_end trace history times ≡ Some end
  least_is_own_end task end runs is least = by_first (first_end (filter_map (end_of_task trace history times) (state history).tasks)) refl where
    all : Each (NotBefore end) (filter_map (end_of_task trace history times) (state history).tasks)
    all = each_mapped (λ (other : Task). task_at (state history).tasks other.key ≡ Some other) (NotBefore end) (end_of_task trace history times) least
        (state history).tasks (each_runs history)

    -- what holds of each due end holds of this one
    of_this : (P : DueEnd → Type 0) → Each P (filter_map (end_of_task trace history times) (state history).tasks) → P end
    of_this P each =
        subst (OfValue P) is (found_holds (λ (it : Task). OfValue P (end_of_task trace history times it)) (state history).tasks task.key task
        (each_unmapped P (end_of_task trace history times) (state history).tasks each) runs)

    by_first : (found : Option DueEnd) → first_end (filter_map (end_of_task trace history times) (state history).tasks) ≡ found
        → first_end (filter_map (end_of_task trace history times) (state history).tasks) ≡ Some end
    by_first None none =
        absurd (of_this (λ it. ⊥) (subst (Each (λ (it : DueEnd). ⊥)) (sym (none_end (filter_map (end_of_task trace history times) (state history).tasks) none)) tt))
    by_first (Some first) found =
        let mine : NotBefore end first = first_end_holds (NotBefore end) (filter_map (end_of_task trace history times) (state history).tasks) first all found in
        let its : NotBefore first end = of_this (NotBefore first)
        (first_least (filter_map (end_of_task trace history times) (state history).tasks) first (ends_rise (state history).tasks (state_rises history)) found) in
        found ∙ ap (λ (it : DueEnd). Some it) (sym (one_least end first mine its))
