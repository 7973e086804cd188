-- The wishes for extra tasks: they are for their job, have the indexes of extras, and none is for a task of
-- another.
use Rattle.std.proofs.Common.{◌≡◌, ◌≤◌, ◌<◌, ◌+◌, ℕ, zero, suc, Bool, true, false, List, [], ◌∷◌, map, take, length, Option, Some, None, refl, subst, arith, ◌==◌}
use Rattle.std.specs.List.{filter, range_with_len, IsDistinct, AllByRecursion as Each}
use Rattle.std.proofs.lemmas.Bool.{and_parts, eqb-true, false_from_ne_true}
use Rattle.std.proofs.lemmas.Map.Keys.{IsDistinct-cons}
use Rattle.omega_model.proofs.Lists.{by_answer, each_passes}
use Rattle.omega_model.specs.Cell.{Cell}
use Rattle.omega_model.specs.ExtraTasks.{activities_of, extra_count, extra_wish, first_extra, free_indexes, running_extras, wanted_of, wishes_after, wishes_for_extras}
use Rattle.omega_model.specs.Keys.{same_key}
use Rattle.omega_model.specs.Wanted.{WantedTask}
use Rattle.omega_model.specs.declared.cells.TaskKey.{TaskKey}
use Rattle.omega_model.specs.declared.rows.TraceTables.{TraceTables}
use Rattle.omega_model.specs.declared.settings.Settings.{Settings}
use Rattle.omega_model.specs.declared.wishes.Wish.{Wish}

-- numbers that rise, none below this one
abbrev Climb : ℕ → List ℕ → Type 0
Climb low [] = Unit {0}
Climb low (n ∷ ns) = (low ≤ n) × Climb (n + 1) ns

climb_lower : (low from : ℕ) (ns : List ℕ) → low ≤ from → Climb from ns → Climb low ns
climb_lower low from [] below climb = tt
climb_lower low from (n ∷ ns) below climb = (let here : from ≤ n = climb.0 in omega (arith, below, here), climb.1)

climb_range : (start count : ℕ) → Climb start (range_with_len start count)
climb_range start zero = tt
climb_range start (suc count) = (omega arith, climb_range (start + 1) count)

climb_filter : (p : ℕ → Bool) (low : ℕ) (ns : List ℕ) → Climb low ns → Climb low (filter p ns)
climb_filter p low [] climb = tt
climb_filter p low (n ∷ ns) climb =
    let rest : Climb (n + 1) (filter p ns) = climb_filter p (n + 1) ns climb.1 in
    let here : low ≤ n = climb.0 in
    by_answer (p n) (λ t. rw t (here, rest)) (λ f. rw f (climb_lower low (n + 1) (filter p ns) (omega (arith, here)) rest))

climb_take : (count low : ℕ) (ns : List ℕ) → Climb low ns → Climb low (take count ns)
climb_take zero low ns climb = tt
climb_take (suc count) low [] climb = tt
climb_take (suc count) low (n ∷ ns) climb = (climb.0, climb_take count (n + 1) ns climb.1)

climb_free : (held : List ℕ) (count : ℕ) → Climb first_extra (free_indexes held count)
climb_free held count = climb_take count first_extra _ (climb_filter _ first_extra _ (climb_range first_extra (length held + count)))

-- a name is that of an extra of this job
abbrev pub IsExtraOf : ℕ → TaskKey → Type 0
IsExtraOf job key = (key.job ≡ job) × (first_extra ≤ key.index)

-- the names of some wishes
abbrev pub names_of : List Wish → List TaskKey
names_of wishes = map (λ (wish : Wish). wish.key) wishes

-- tasks with two indexes are two
pub index_differs : (a b : TaskKey) → a.index < b.index → same_key a b ≡ false
index_differs a b less = false_from_ne_true _ (λ same.
    let equal : a.index ≡ b.index = eqb-true _ _ (and_parts _ _ same).1 in omega (arith, less, equal))

module _ (trace : TraceTables) (model : WantedTask) where
  each_extra : (low : ℕ) (ns : List ℕ) → first_extra ≤ low → Climb low ns → Each (IsExtraOf model.key.job) (names_of (map (extra_wish trace model) ns))
  each_extra low [] high climb = tt
  each_extra low (n ∷ ns) high climb =
      let here : low ≤ n = climb.0 in ((refl, omega (arith, high, here)), each_extra (n + 1) ns (omega (arith, high, here)) climb.1)

  each_differs : (key : TaskKey) (low : ℕ) (ns : List ℕ) → key.index < low → Climb low ns
      → Each (λ other. same_key key other ≡ false) (names_of (map (extra_wish trace model) ns))
  each_differs key low [] below climb = tt
  each_differs key low (n ∷ ns) below climb =
      let here : low ≤ n = climb.0 in
      (index_differs key (extra_wish trace model n).key (omega (arith, below, here)), each_differs key (n + 1) ns (omega (arith, below, here)) climb.1)

  distinct_extras : (low : ℕ) (ns : List ℕ) → Climb low ns → IsDistinct same_key (names_of (map (extra_wish trace model) ns))
  unfolding IsDistinct
  distinct_extras low [] climb = tt
  distinct_extras low (n ∷ ns) climb =
      IsDistinct-cons same_key (extra_wish trace model n).key (names_of (map (extra_wish trace model) ns))
      (each_differs (extra_wish trace model n).key (n + 1) ns (omega arith) climb.1)
      (distinct_extras (n + 1) ns climb.1)

-- names of extras of one job, none of them twice
pub record AreExtrasOf (job : ℕ) (keys : List TaskKey) : Type 0 where
  pub each : Each (IsExtraOf job) keys
  pub distinct : IsDistinct same_key keys

none_are : (job : ℕ) → AreExtrasOf job []
unfolding IsDistinct
none_are job = record { each = tt; distinct = tt }

after_model : (settings : Settings) (trace : TraceTables) (cell : Cell) (asked : List WantedTask) (job : ℕ) (activities : Option ℕ) (models : List WantedTask)
    → Each (λ task. (task.key.job == job) ≡ true) models
    → AreExtrasOf job (names_of (wishes_after settings trace cell asked job activities models))
after_model settings trace cell asked job None models own = none_are job
after_model settings trace cell asked job (Some activities) [] own = none_are job
after_model settings trace cell asked job (Some activities) (model ∷ others) own =
    let held : List ℕ = map (λ task. task.key.index) (running_extras cell job) in
    let count : ℕ = extra_count settings cell job activities asked model.spec.need in
    let same : model.key.job ≡ job = eqb-true model.key.job job own.0 in
    subst (λ n. AreExtrasOf n (names_of (map (extra_wish trace model) (free_indexes held count)))) same
    (record {
      each = each_extra trace model first_extra (free_indexes held count) (omega arith) (climb_free held count);
      distinct = distinct_extras trace model first_extra (free_indexes held count) (climb_free held count);
    })

-- the wishes for a job's extras are for tasks of the job with the indexes of extras, and for none twice
pub extras_are : (settings : Settings) (trace : TraceTables) (cell : Cell) (asked : List WantedTask) (job : ℕ)
    → AreExtrasOf job (names_of (wishes_for_extras settings trace cell asked job))
extras_are settings trace cell asked job =
    after_model settings trace cell asked job (activities_of trace job) (wanted_of job asked)
    (each_passes (λ (task : WantedTask). task.key.job == job) asked)
