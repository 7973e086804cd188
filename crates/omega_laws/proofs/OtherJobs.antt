-- A plan claims tasks of wishes, all of them or none in a gang, and its victims are of other jobs.
use Rattle.std.proofs.Common.{◌≡◌, ◌≤◌, ◌+◌, ℕ, Bool, true, false, ◌&&◌, List, [], ◌∷◌, length, map, take, Option, Some, None, refl, sym, ap, ap₂, subst, arith, ◌∙◌, ◌==◌, inl, inr, if◌then◌else◌}
use Rattle.std.specs.List.{filter, range_with_len, AllByRecursion as Each}
use Rattle.std.specs.Prelude.{option_map, ◌⊎◌}
use Rattle.std.proofs.lemmas.Bool.{eqb-true}
use Rattle.omega_model.specs.Cell.{Cell, by_rank, goes_before, is_on, put_by_rank}
use Rattle.omega_model.specs.Keys.{beginnings, is_among}
use Rattle.omega_model.specs.Plan.{after_planned, and_claims, candidates, claim_of, gives_way, goes_in, victims, whole_or_none}
use Rattle.omega_model.specs.Planning.{claim_as_is, claim_for_wish, claim_with_victims, claims_for_wishes, plan_for, suiting_from}
use Rattle.omega_model.specs.declared.cells.Machine.{Machine}
use Rattle.omega_model.specs.declared.cells.Task.{Task}
use Rattle.omega_model.specs.declared.cells.TaskKey.{TaskKey}
use Rattle.omega_model.specs.declared.claims.Claim.{Claim}
use Rattle.omega_model.specs.declared.claims.Mode.{Mode}
use Rattle.omega_model.specs.declared.claims.Mode.TheVariants.{Incremental, Gang}
use Rattle.omega_model.specs.declared.claims.Policy.{Policy}
use Rattle.omega_model.specs.declared.wishes.Wish.{Wish}
use Rattle.omega_model.proofs.Lists.{by_answer, each_map, each_of, each_passes, each_take}
use Rattle.omega_laws.specs.WholeCommits.{claimed, wished}
use Rattle.omega_laws.proofs.Suited.{OfValue, each_mapped, first_of, found, of_map, or_both}

module _ {X Y : Type 0} (P : Y → Type 0) where
  pub each_image : (f : X → Y) → (xs : List X) → Each (λ x. P (f x)) xs → Each P (map f xs)
  each_image f [] each = tt
  each_image f (x ∷ xs) each = (each.0, each_image f xs each.1)

module _ (P : Task → Type 0) where
  each_put : (task : Task) (tasks : List Task) → P task → Each P tasks → Each P (put_by_rank task tasks)
  each_put task [] is each = (is, tt)
  each_put task (other ∷ tasks) is each =
      by_answer (goes_before other task) (λ t. rw t (each.0, each_put task tasks is each.1)) (λ f. rw f (is, each))

  each_rank : (tasks : List Task) → Each P tasks → Each P (by_rank tasks)
  each_rank [] each = tt
  each_rank (task ∷ tasks) each = each_put task (by_rank tasks) each.0 (each_rank tasks each.1)

-- a task isn't of this job
abbrev pub IsOfOther : ℕ → TaskKey → Type 0
IsOfOther job key = (key.job == job) ≡ false

-- each of these tasks is of another job
abbrev pub AreOfOthers : ℕ → List TaskKey → Type 0
AreOfOthers job keys = Each (IsOfOther job) keys

-- a claim is for the task of a wish, and its victims are of other jobs
abbrev pub IsFor : Wish → Claim → Type 0
IsFor wish claim = (claim.key ≡ wish.key) × AreOfOthers claim.key.job claim.victims

gives_way_other : (id : ℕ) (wish : Wish) (task : Task) → (is_on id task && gives_way wish task) ≡ true → IsOfOther wish.key.job task.key
gives_way_other id wish task may =
    by_answer (task.key.job == wish.key.job)
    (λ t. by_answer (is_on id task) (λ on. let none : false ≡ true = rw (on, t) at may in absurd (cc)) (λ off. let none : false ≡ true = rw off at may in absurd (cc)))
    (λ f. f)

-- what may be evicted for a wish is of other jobs
candidates_others : (cell : Cell) (id : ℕ) (wish : Wish) → AreOfOthers wish.key.job (candidates cell id wish)
candidates_others cell id wish =
    let test : Task → Bool = λ task. is_on id task && gives_way wish task in
    each_image (IsOfOther wish.key.job) (λ (task : Task). task.key) (by_rank (filter test cell.tasks))
    (each_rank (λ task. IsOfOther wish.key.job task.key) (filter test cell.tasks)
    (each_map (λ task. test task ≡ true) (λ task. IsOfOther wish.key.job task.key) (gives_way_other id wish) (filter test cell.tasks)
    (each_passes test cell.tasks)))

victims_others : (cell : Cell) (id : ℕ) (wish : Wish) → OfValue (AreOfOthers wish.key.job) (victims cell id wish)
victims_others cell id wish =
    let keys : List TaskKey = candidates cell id wish in
    found (AreOfOthers wish.key.job) (λ some. goes_in cell wish some id) (beginnings keys)
    (each_image (AreOfOthers wish.key.job) (λ n. take n keys) (range_with_len 0 (length keys + 1))
    (each_of (λ n. AreOfOthers wish.key.job (take n keys))
    (λ n. each_take (IsOfOther wish.key.job) n keys (candidates_others cell id wish)) (range_with_len 0 (length keys + 1))))

-- the claim for a wish
pub claim_is_for : (cell : Cell) (start : ℕ) (preempts : Bool) (wish : Wish) → OfValue (IsFor wish) (claim_for_wish cell start preempts wish)
claim_is_for cell start preempts wish =
    let some : List Machine = suiting_from cell.machines wish start in
    let any : Machine → Type 0 = λ machine. Unit {0} in
    or_both (IsFor wish) (claim_as_is cell start wish) (if preempts then claim_with_victims cell start wish else None)
    (of_map any (IsFor wish) (λ (machine : Machine). claim_of wish [] machine.id) (λ machine is. (refl, tt)) _
    (found any (λ (machine : Machine). goes_in cell wish [] machine.id) some (each_of any (λ machine. tt) some)))
    (by_policy preempts (first_of (IsFor wish) _
    (each_mapped any (IsFor wish) (λ (machine : Machine). option_map (λ keys. claim_of wish keys machine.id) (victims cell machine.id wish))
    (λ machine is. of_map (AreOfOthers wish.key.job) (IsFor wish) (λ keys. claim_of wish keys machine.id) (λ keys others. (refl, others)) _
    (victims_others cell machine.id wish)) some (each_of any (λ machine. tt) some)))) where
      by_policy : (test : Bool) → OfValue (IsFor wish) (claim_with_victims cell start wish) → OfValue (IsFor wish) (if test then claim_with_victims cell start wish else None)
      by_policy true is = is
      by_policy false is = tt

-- of the claims for some wishes: each is of their job, with victims of others; they aren't more than the
-- wishes, and where they are as many they are for all in order
pub record AreFor (job : ℕ) (wishes : List Wish) (claims : List Claim) : Type 0 where
  pub each : Each (λ claim. (claim.key.job ≡ job) × AreOfOthers job claim.victims) claims
  pub no_more : length claims ≤ length wishes
  pub in_order : length claims ≡ length wishes → claimed claims ≡ wished wishes

claims_more : (job : ℕ) (wish : Wish) (wishes : List Wish) (one : Option Claim) (claims : List Claim) → wish.key.job ≡ job
    → OfValue (IsFor wish) one → AreFor job wishes claims → AreFor job (wish ∷ wishes) (and_claims one claims)
claims_more job wish wishes None claims own is are = record {
  each = are.each;
  no_more = let shorter : length claims ≤ length wishes = are.no_more in omega arith;
  in_order = λ same. let shorter : length claims ≤ length wishes = are.no_more in absurd (omega arith);
}
claims_more job wish wishes (Some claim) claims own is are =
    let its_job : claim.key.job ≡ job = ap (λ (key : TaskKey). key.job) is.0 ∙ own in
    record {
      each = ((its_job, subst (λ (n : ℕ). AreOfOthers n claim.victims) its_job is.1), are.each);
      no_more = let shorter : length claims ≤ length wishes = are.no_more in omega arith;
      in_order = λ same. let rest : length claims ≡ length wishes = omega arith in
          ap₂ (λ (key : TaskKey) (keys : List TaskKey). key ∷ keys) is.0 (are.in_order rest);
    }

claims_are_for : (job : ℕ) (cell : Cell) (start : ℕ) (preempts : Bool) (wishes : List Wish) → Each (λ wish. wish.key.job ≡ job) wishes
    → AreFor job wishes (claims_for_wishes cell start preempts wishes)
claims_are_for job cell start preempts [] own = record { each = tt; no_more = omega arith; in_order = λ same. refl }
claims_are_for job cell start preempts (wish ∷ wishes) own =
    claims_more job wish wishes (claim_for_wish cell start preempts wish) _ own.0 (claim_is_for cell start preempts wish)
    (claims_are_for job (after_planned cell (claim_for_wish cell start preempts wish)) start preempts wishes own.1)

-- a plan for the wishes of a job: each claim is of the job, with victims of others, and a gang is whole
pub record IsPlanFor (job : ℕ) (wishes : List Wish) (mode : Mode) (claims : List Claim) : Type 0 where
  pub each : Each (λ claim. (claim.key.job ≡ job) × AreOfOthers job claim.victims) claims
  pub whole : mode ≡ Gang → (claimed claims ≡ wished wishes) ⊎ (claims ≡ [])

pub plan_is_for : (job : ℕ) (cell : Cell) (wishes : List Wish) (start : ℕ) (policy : Policy) → Each (λ wish. wish.key.job ≡ job) wishes
    → IsPlanFor job wishes policy.mode (plan_for cell wishes start policy)
plan_is_for job cell wishes start policy own = by_mode policy.mode _ (claims_are_for job cell start policy.preempt wishes own) where
  by_mode : (mode : Mode) (claims : List Claim) → AreFor job wishes claims → IsPlanFor job wishes mode (whole_or_none mode (length wishes) claims)
  by_mode Incremental claims are = record { each = are.each; whole = λ same. absurd (cc) }
  by_mode Gang claims are =
      by_answer (length claims == length wishes)
      (λ t. rw t (record { each = are.each; whole = λ same. inl (are.in_order (eqb-true (length claims) (length wishes) t)) }))
      (λ f. rw f (record { each = tt; whole = λ same. inr refl }))

-- a task of another job isn't among tasks of a job
pub not_among : (job : ℕ) (key : TaskKey) (claims : List Claim) → IsOfOther job key → Each (λ claim. claim.key.job ≡ job) claims
    → is_among key (claimed claims) ≡ false
not_among job key [] other own = refl
not_among job key (claim ∷ claims) other own =
    let apart : (key.job == claim.key.job) ≡ false = subst (λ (n : ℕ). (key.job == n) ≡ false) (sym own.0) other in
    rw apart (not_among job key claims other own.1)
