-- The shortest beginning of the victims that stand which makes room.
use Rattle.std.proofs.Common.{◌≡◌, ℕ, zero, suc, ◌+◌, ◌-◌, ◌≤◌, Bool, true, false, not, ◌&&◌, ◌||◌, List, [], ◌∷◌, length, map, take, drop, Option, Some, refl, sym, ap, ◌∙◌, arith, ◌==◌, if◌then◌else◌, inl, inr}
use Rattle.std.specs.List.{find, list_any, range_with_len, AllByRecursion as Each}
use Rattle.std.specs.Option.{unwrap_or}
use Rattle.std.proofs.lemmas.Bool.{both_ways, and_parts, and_from, or_left, or_right, or_cases, or_parts, not-true, not_from_false}
use Rattle.std.proofs.lemmas.List.{take_all, take-append-drop}
use Rattle.std.proofs.lemmas.List.Folds.{list_any-append}
use Rattle.omega_model.specs.Keys.{same_key, is_among, beginnings}
use Rattle.omega_model.specs.Cell.{Cell}
use Rattle.omega_model.specs.Judge.{runs_on, standing_victims, has_rival, makes_room, evicted_for, free_without}
use Rattle.omega_model.specs.Jobs.{stays_of_job}
use Rattle.omega_model.specs.Need.{fits}
use Rattle.omega_model.specs.declared.cells.TaskKey.{TaskKey}
use Rattle.omega_model.specs.declared.cells.Task.{Task}
use Rattle.omega_model.specs.declared.claims.Claim.{Claim}
use Rattle.omega_board.proofs.Standing.{AreStanding, later_apart}
use Rattle.omega_model.proofs.Lists.{by_answer, each_map, each_both, each_drop}
use Rattle.omega_model.proofs.InOrder.{key_same}

-- the first of the beginnings of at least this length that passes a test
abbrev pub first_from : (List TaskKey → Bool) → List TaskKey → ℕ → Option (List TaskKey)
first_from p keys n = find p (map (λ m. take m keys) (range_with_len n (length keys + 1 - n)))

pub first_from_start : (p : List TaskKey → Bool) (keys : List TaskKey) → first_from p keys 0 ≡ find p (beginnings keys)
first_from_start p keys =
    let whole : length keys + 1 - 0 ≡ length keys + 1 = omega arith in
    ap (λ k. find p (map (λ m. take m keys) (range_with_len 0 k))) whole

-- a beginning passes or not
pub first_here : (p : List TaskKey → Bool) (keys : List TaskKey) (n : ℕ) → n ≤ length keys
    → first_from p keys n ≡ (if p (take n keys) then Some (take n keys) else first_from p keys (n + 1))
first_here p keys n within =
    let one : length keys + 1 - n ≡ suc (length keys + 1 - (n + 1)) = omega (arith, within) in
    ap (λ k. find p (map (λ m. take m keys) (range_with_len n k))) one

-- the first that passes, where the whole does
pub record IsFirst (p : List TaskKey → Bool) (keys : List TaskKey) (from : ℕ) : Type 0 where
  pub count : ℕ
  pub is : first_from p keys from ≡ Some (take count keys)
  pub passes : p (take count keys) ≡ true

pub is_first : (p : List TaskKey → Bool) (keys : List TaskKey) → p keys ≡ true → (left from : ℕ) → from + left ≡ length keys → IsFirst p keys from
is_first p keys whole zero from sum =
    let passes : p (take from keys) ≡ true = ap p (take_all from keys (omega (arith, sum))) ∙ whole in
    record { count = from; is = first_here p keys from (omega (arith, sum)) ∙ rw passes refl; passes = passes }
is_first p keys whole (suc left) from sum =
    let rest = is_first p keys whole left (from + 1) (omega (arith, sum)) in
    by_answer (p (take from keys))
    (λ t. record { count = from; is = first_here p keys from (omega (arith, sum)) ∙ rw t refl; passes = t })
    (λ f. record { count = rest.count; is = first_here p keys from (omega (arith, sum)) ∙ rw f rest.is; passes = rest.passes })

-- what a claim that is placed evicts
pub record IsBeginning (cell : Cell) (claim : Claim) : Type 0 where
  pub count : ℕ
  pub is : evicted_for cell claim ≡ take count (standing_victims cell.tasks claim)
  pub room : makes_room cell claim (take count (standing_victims cell.tasks claim)) ≡ true

pub beginning : (cell : Cell) (claim : Claim) → makes_room cell claim (standing_victims cell.tasks claim) ≡ true → IsBeginning cell claim
beginning cell claim room =
    let standing = standing_victims cell.tasks claim in
    let first = is_first (makes_room cell claim) standing room (length standing) 0 (omega arith) in
    record {
      count = first.count;
      is = ap (λ o. unwrap_or o []) (sym (first_from_start (makes_room cell claim) standing) ∙ first.is);
      room = first.passes;
    }

-- one that was found is what is evicted
pub evicted_here : (cell : Cell) (claim : Claim) (n : ℕ) → n ≤ length (standing_victims cell.tasks claim)
    → first_from (makes_room cell claim) (standing_victims cell.tasks claim) n ≡ find (makes_room cell claim) (beginnings (standing_victims cell.tasks claim))
    → makes_room cell claim (take n (standing_victims cell.tasks claim)) ≡ true → take n (standing_victims cell.tasks claim) ≡ evicted_for cell claim
evicted_here cell claim n within so room =
    let standing = standing_victims cell.tasks claim in
    let here : first_from (makes_room cell claim) standing n ≡ Some (take n standing) =
    first_here (makes_room cell claim) standing n within ∙ ap (λ b. if b then Some (take n standing) else first_from (makes_room cell claim) standing (n + 1)) room in
    ap (λ o. unwrap_or o []) (sym here ∙ so)

-- one that wasn't leaves the search
pub evicted_later : (cell : Cell) (claim : Claim) (n : ℕ) → n ≤ length (standing_victims cell.tasks claim)
    → first_from (makes_room cell claim) (standing_victims cell.tasks claim) n ≡ find (makes_room cell claim) (beginnings (standing_victims cell.tasks claim))
    → makes_room cell claim (take n (standing_victims cell.tasks claim)) ≡ false
    → first_from (makes_room cell claim) (standing_victims cell.tasks claim) (n + 1) ≡ find (makes_room cell claim) (beginnings (standing_victims cell.tasks claim))
evicted_later cell claim n within so none =
    let standing = standing_victims cell.tasks claim in
    sym (first_here (makes_room cell claim) standing n within ∙ ap (λ b. if b then Some (take n standing) else first_from (makes_room cell claim) standing (n + 1)) none) ∙ so

any_case : {X : Type 0} (p : X → Bool) (G : Type 0) (xs : List X) → list_any p xs ≡ true → Each (λ x. p x ≡ true → G) xs → G
any_case p G [] any each = absurd (both_ways false refl any)
any_case p G (x ∷ xs) any each =
    elim (or_cases (p x) (list_any p xs) any) [
      | inl h ↦ each.0 h
      | inr h ↦ any_case p G xs h each.1
    ]

each_not : {X : Type 0} (p : X → Bool) (xs : List X) → list_any p xs ≡ false → Each (λ x. p x ≡ false) xs
each_not p [] none = tt
each_not p (x ∷ xs) none = let parts = or_parts (p x) (list_any p xs) none in (parts.0, each_not p xs parts.1)

pub any_more : {X : Type 0} (p q : X → Bool) → ((x : X) → p x ≡ true → q x ≡ true) → (xs : List X) → list_any p xs ≡ true → list_any q xs ≡ true
any_more p q more [] any = any
any_more p q more (x ∷ xs) any =
    elim (or_cases (p x) (list_any p xs) any) [
      | inl h ↦ or_left (q x) (list_any q xs) (more x h)
      | inr h ↦ or_right (q x) (list_any q xs) (any_more p q more xs h)
    ]

-- two answers of which each follows from the other
pub same_answer : (a b : Bool) → (a ≡ true → b ≡ true) → (b ≡ true → a ≡ true) → a ≡ b
same_answer true b there back = sym (there refl)
same_answer false true there back = back refl
same_answer false false there back = refl

-- whether a name is of this job
abbrev pub is_named_of : ℕ → TaskKey → Bool
is_named_of job key = key.job == job

-- a task of the job on the machine that all victims would rid of it, stays there while the first stop exactly
-- where a later one is of the job
pub rivals_later : (tasks : List Task) (id job : ℕ) (keys : List TaskKey) (n : ℕ) → AreStanding tasks id keys → list_any (stays_of_job job id keys) tasks ≡ false
    → list_any (stays_of_job job id (take n keys)) tasks ≡ list_any (is_named_of job) (drop n keys)
rivals_later tasks id job keys n standing none = same_answer _ _ there back
  where
    p : Task → Bool
    p = stays_of_job job id (take n keys)

    split : (key : TaskKey) → is_among key keys ≡ (is_among key (take n keys) || is_among key (drop n keys))
    split key = ap (is_among key) (sym (take-append-drop n keys)) ∙ list_any-append (same_key key) (take n keys) (drop n keys)

    there : list_any p tasks ≡ true → list_any (is_named_of job) (drop n keys) ≡ true
    there any =
        any_case p (list_any (is_named_of job) (drop n keys) ≡ true) tasks any
        (each_map (λ t. stays_of_job job id keys t ≡ false) (λ t. p t ≡ true → list_any (is_named_of job) (drop n keys) ≡ true)
        (λ t gone stays.
        let parts = and_parts _ _ stays in
        let on = and_parts _ _ parts.1 in
        let first : is_among t.key (take n keys) ≡ false = not-true _ on.1 in
        let among : is_among t.key keys ≡ true =
        by_answer (is_among t.key keys) (λ h. h) (λ h. absurd (both_ways _ gone (and_from _ _ parts.0 (and_from _ _ on.0 (not_from_false _ h))))) in
        let later : is_among t.key (drop n keys) ≡ true = sym (split t.key ∙ ap (λ b. b || is_among t.key (drop n keys)) first) ∙ among in
        any_more (same_key t.key) (is_named_of job) (λ k same. ap (λ (x : TaskKey). x.job == job) (sym (key_same t.key k same)) ∙ parts.0) (drop n keys) later)
        tasks (each_not (stays_of_job job id keys) tasks none))

    back : list_any (is_named_of job) (drop n keys) ≡ true → list_any p tasks ≡ true
    back any =
        any_case (is_named_of job) (list_any p tasks ≡ true) (drop n keys) any
        (each_both (λ key. runs_on tasks id key ≡ true) (λ key. is_among key (take n keys) ≡ false) (λ key. is_named_of job key ≡ true → list_any p tasks ≡ true)
        (λ key runs apart own.
        any_more (λ t. t.machine == id && same_key t.key key) p
        (λ t hit.
        let parts = and_parts _ _ hit in
        let same : t.key ≡ key = key_same t.key key parts.1 in
        and_from _ _ (ap (λ (k : TaskKey). k.job == job) same ∙ own)
        (and_from _ _ parts.0 (not_from_false _ (ap (λ (k : TaskKey). is_among k (take n keys)) same ∙ apart))))
        tasks runs)
        (drop n keys) (each_drop (λ key. runs_on tasks id key ≡ true) n keys standing.runs) (later_apart n keys standing.once))

-- the test of a beginning: enough is free, and none of the job is spared where the claim must be alone
pub makes_room_is : (cell : Cell) (claim : Claim) (n : ℕ) → makes_room cell claim (standing_victims cell.tasks claim) ≡ true
    → AreStanding cell.tasks claim.machine (standing_victims cell.tasks claim)
    → (fits claim.spec.need (free_without cell claim (take n (standing_victims cell.tasks claim)))
    && not (claim.spec.differ && list_any (is_named_of claim.key.job) (drop n (standing_victims cell.tasks claim))))
    ≡ makes_room cell claim (take n (standing_victims cell.tasks claim))
makes_room_is cell claim n room standing =
    let keys = standing_victims cell.tasks claim in
    let alone : has_rival cell claim keys ≡ false = not-true _ (and_parts _ _ room).1 in
    let same : (claim.spec.differ && list_any (is_named_of claim.key.job) (drop n keys)) ≡ has_rival cell claim (take n keys) =
    by_answer claim.spec.differ
    (λ t.
    let none : list_any (stays_of_job claim.key.job claim.machine keys) cell.tasks ≡ false = ap (λ b. b && list_any (stays_of_job claim.key.job claim.machine keys) cell.tasks) (sym t) ∙ alone in
    ap (λ b. claim.spec.differ && b) (sym (rivals_later cell.tasks claim.machine claim.key.job keys n standing none)))
    (λ f. ap (λ b. b && list_any (is_named_of claim.key.job) (drop n keys)) f ∙ sym (ap (λ b. b && list_any (stays_of_job claim.key.job claim.machine (take n keys)) cell.tasks) f)) in
    ap (λ b. fits claim.spec.need (free_without cell claim (take n keys)) && not b) same
