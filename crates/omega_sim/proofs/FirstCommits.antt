-- The first commits of jobs, with one more commit.
use Rattle.std.proofs.Common.{◌≡◌, ℕ, Bool, true, false, not, ◌==◌, ◌||◌, List, [], ◌∷◌, ◌++◌, Option, Some, None, refl, sym, ap, ◌∙◌, inl, inr, append-nil, is_some}
use Rattle.std.specs.Prelude.{option_map}
use Rattle.std.specs.Option.{option_or}
use Rattle.std.specs.List.{filter, filter_map, find, list_any, AllByRecursion as Each}
use Rattle.std.proofs.lemmas.Bool.{cases_eq, eq-eqb, ne_eqb}
use Rattle.std.proofs.lemmas.Grind.{fold-append}
use Rattle.std.proofs.lemmas.List.Elements.{filter_map-append}
use Rattle.std.proofs.lemmas.List.Folds.{find-append}
use Rattle.omega_feed.proofs.Cutting.{each_of_once}
use Rattle.omega_feed.proofs.JobList.{add_once, each_added}
use Rattle.omega_laws.specs.TimeReport.{is_job}
use Rattle.omega_model.proofs.Lists.{by_answer, each_map}
use Rattle.omega_model.specs.Feed.{each_once}
use Rattle.omega_sim.proofs.Asked.{IsIn, each_is_in}

-- a number stands among others without a third one exactly where it stands among all of them
any_past : (n m : ℕ) → (m == n) ≡ false → (ks : List ℕ)
    → list_any (λ k. k == n) (filter (λ k. not (k == m)) ks) ≡ list_any (λ k. k == n) ks
any_past n m other [] = refl
any_past n m other (k ∷ ks) =
    elim (cases_eq k m) [
      | inl same ↦
          let none : (k == n) ≡ false = ap (λ j. j == n) same ∙ other in
          rw (eq-eqb k m same, none) (any_past n m other ks)
      | inr differs ↦ rw (ne_eqb k m differs) (ap (λ (rest : Bool). (k == n) || rest) (any_past n m other ks))
    ]

-- a number stands among others, each once, exactly where it stands among them
any_once : (n : ℕ) (ns : List ℕ) → list_any (λ k. k == n) (each_once ns) ≡ list_any (λ k. k == n) ns
any_once n [] = refl
any_once n (m ∷ ns) =
    by_answer (m == n)
    (λ yes. rw yes refl)
    (λ no. rw no (any_past n m no (each_once ns) ∙ any_once n ns))

once_added : (ns : List ℕ) (n : ℕ) → each_once (ns ++ n ∷ []) ≡ add_once (each_once ns) n
once_added ns n =
    sym (each_added (ns ++ n ∷ [])) ∙ fold-append add_once [] ns (n ∷ []) ∙ ap (λ (once : List ℕ). add_once once n) (each_added ns)

filter_map_where : {X Y : Type 0} (f g : X → Option Y) (xs : List X) → Each (λ x. f x ≡ g x) xs → filter_map f xs ≡ filter_map g xs
filter_map_where f g [] each = refl
filter_map_where f g (x ∷ xs) each = rw (each.0, filter_map_where f g xs each.1) refl

is_some_mapped : {X Y : Type 0} (f : X → Y) (item : Option X) → is_some (option_map f item) ≡ is_some item
is_some_mapped f None = refl
is_some_mapped f (Some x) = refl

is_none : {X : Type 0} (item : Option X) → is_some item ≡ false → item ≡ None
is_none None absent = refl
is_none (Some x) absent = cc

module _ {X Y : Type 0} (key : X → Option ℕ) (told : ℕ → X → Y) where
  -- the first item of a job
  abbrev pub found : List X → ℕ → Option X
  found items job = find (λ item. is_job job (key item)) items

  -- what is told of each job by its first item
  abbrev pub all_told : List X → List Y
  all_told items = filter_map (λ job. option_map (told job) (found items job)) (each_once (filter_map key items))

  -- a job has an item exactly where it is the job of one
  any_found : (job : ℕ) (items : List X) → list_any (λ k. k == job) (filter_map key items) ≡ is_some (found items job)
  any_found job [] = refl
  any_found job (item ∷ items) = by_key (key item) refl (any_found job items) where
    by_key : (of : Option ℕ) → key item ≡ of → list_any (λ k. k == job) (filter_map key items) ≡ is_some (found items job)
        → list_any (λ k. k == job) (filter_map key (item ∷ items)) ≡ is_some (found (item ∷ items) job)
    by_key None is rest = rw is rest
    by_key (Some k) is rest = rw is (by_answer (k == job) (λ yes. rw yes refl) (λ no. rw no rest))

  -- an item behind others changes nothing of a job that has one among them
  stays : (items : List X) (item : X) (job : ℕ) → is_some (found items job) ≡ true
      → option_map (told job) (found (items ++ item ∷ []) job) ≡ option_map (told job) (found items job)
  stays items item job some =
      ap (option_map (told job)) (find-append (λ x. is_job job (key x)) items (item ∷ []) ∙ first (found items job) (found (item ∷ []) job) some) where
        first : (one other : Option X) → is_some one ≡ true → option_or one other ≡ one
        first (Some x) other some = refl
        first None other some = cc

  all_stay : (items : List X) (item : X)
      → filter_map (λ job. option_map (told job) (found (items ++ item ∷ []) job)) (each_once (filter_map key items)) ≡ all_told items
  all_stay items item =
      let jobs : List ℕ = filter_map key items in
      filter_map_where (λ job. option_map (told job) (found (items ++ item ∷ []) job)) (λ job. option_map (told job) (found items job))
      (each_once jobs)
      (each_map (IsIn jobs) _ (λ job is. stays items item job (sym (any_found job items) ∙ is))
      (each_once jobs) (each_of_once (IsIn jobs) jobs (each_is_in jobs)))

  -- an item of no job
  pub told_none : (items : List X) (item : X) → key item ≡ None → all_told (items ++ item ∷ []) ≡ all_told items ++ []
  told_none items item none =
      let same : filter_map key (items ++ item ∷ []) ≡ filter_map key items =
      filter_map-append key items (item ∷ []) ∙ rw none (append-nil (filter_map key items)) in
      ap (λ (jobs : List ℕ). filter_map (λ job. option_map (told job) (found (items ++ item ∷ []) job)) (each_once jobs)) same
      ∙ all_stay items item ∙ sym (append-nil (all_told items))

  module _ (items : List X) (item : X) (job : ℕ) (is : key item ≡ Some job) where
    jobs_grow : each_once (filter_map key (items ++ item ∷ [])) ≡ add_once (each_once (filter_map key items)) job
    jobs_grow =
        ap each_once (filter_map-append key items (item ∷ []) ∙ rw is refl) ∙ once_added (filter_map key items) job

    any_among : list_any (λ k. k == job) (each_once (filter_map key items)) ≡ is_some (found items job)
    any_among = any_once job (filter_map key items) ∙ any_found job items

    -- an item of a job that has one before it, whose time is known
    pub told_before : (time : X → ℕ) (known : Option ℕ) → known ≡ option_map time (found items job) → is_some known ≡ true
        → all_told (items ++ item ∷ []) ≡ all_told items ++ []
    told_before time known are there =
        let some : is_some (found items job) ≡ true = sym (is_some_mapped time (found items job)) ∙ ap is_some (sym are) ∙ there in
        let same : each_once (filter_map key (items ++ item ∷ [])) ≡ each_once (filter_map key items) = jobs_grow ∙ rw (any_among, some) refl in
        ap (filter_map (λ j. option_map (told j) (found (items ++ item ∷ []) j))) same
        ∙ all_stay items item ∙ sym (append-nil (all_told items))

    found_now : found items job ≡ None → found (items ++ item ∷ []) job ≡ Some item
    found_now none = find-append (λ x. is_job job (key x)) items (item ∷ []) ∙ rw (none, is, eq-eqb job job refl) refl

    -- the first item of a job, of which no time is known
    pub told_first : (time : X → ℕ) (known : Option ℕ) → known ≡ option_map time (found items job) → is_some known ≡ false
        → all_told (items ++ item ∷ []) ≡ all_told items ++ told job item ∷ []
    told_first time known are absent =
        let none : found items job ≡ None = is_none (found items job) (sym (is_some_mapped time (found items job)) ∙ ap is_some (sym are) ∙ absent) in
        let more : List ℕ = each_once (filter_map key items) in
        let grown : each_once (filter_map key (items ++ item ∷ [])) ≡ more ++ job ∷ [] = jobs_grow ∙ rw (any_among, none) refl in
        ap (filter_map (λ j. option_map (told j) (found (items ++ item ∷ []) j))) grown
        ∙ filter_map-append (λ j. option_map (told j) (found (items ++ item ∷ []) j)) more (job ∷ [])
        ∙ rw (all_stay items item, found_now none) refl
