-- Walking wishes along outcomes in their order leaves what comparing each with each would leave.
use Rattle.std.proofs.Common.{◌≡◌, Bool, true, false, not, cond, List, [], ◌∷◌, map, length, refl, sym, ap, ◌∙◌, subst, arith}
use Rattle.std.specs.List.{filter, items_where_true, IsDistinct, AllByRecursion as Each}
use Rattle.std.specs.List.Retain.{IsFiltered, ReturnsInTurn}
use Rattle.std.proofs.lemmas.Map.Keys.{IsDistinct-head, IsDistinct-tail, IsDistinct-cons}
use Rattle.omega_model.proofs.Lists.{by_answer}
use Rattle.omega_model.specs.Keys.{same_key}
use Rattle.omega_model.specs.Touches.{is_placed}
use Rattle.omega_model.specs.Work.{places_wish}
use Rattle.omega_model.specs.declared.cells.TaskKey.{TaskKey}
use Rattle.omega_model.specs.declared.claims.Outcome.{Outcome}
use Rattle.omega_model.specs.declared.wishes.Wish.{Wish}
use Rattle.omega_desk.specs.Walks.{are_wished, stays, met_after, walked}
use Rattle.omega_model.proofs.InOrder.{key_same, same_key-sym}

-- the names of wishes
abbrev pub names : List Wish → List TaskKey
names wishes = map (λ (wish : Wish). wish.key) wishes

-- no wish is for this task
abbrev pub DifferFrom : TaskKey → List Wish → Type 0
DifferFrom key wishes = Each (λ other. same_key key other ≡ false) (names wishes)

-- an outcome for another task doesn't place a wish
other_task : (outcome : Outcome) (outcomes : List Outcome) (wish : Wish) → same_key outcome.key wish.key ≡ false
    → places_wish (outcome ∷ outcomes) wish ≡ places_wish outcomes wish
other_task outcome outcomes wish apart = by_answer (is_placed outcome.verdict) (λ t. rw (t, apart) refl) (λ f. rw f refl)

-- outcomes for other tasks place no wish
unplaced : (outcomes : List Outcome) (wishes : List Wish) (wish : Wish) → are_wished outcomes wishes ≡ true
    → DifferFrom wish.key wishes → places_wish outcomes wish ≡ false
unfolding are_wished
unplaced [] wishes wish answers differ = refl
unplaced (outcome ∷ outcomes) [] wish answers differ = absurd (cc)
unplaced (outcome ∷ outcomes) (other ∷ wishes) wish answers differ =
    by_answer (same_key outcome.key other.key)
    (λ same.
    other_task outcome outcomes wish (ap (λ k. same_key k wish.key) (key_same outcome.key other.key same) ∙ same_key-sym wish.key other.key differ.0)
    ∙ unplaced outcomes wishes wish (rw same at answers) differ.1)
    (λ apart. unplaced (outcome ∷ outcomes) wishes wish (rw apart at answers) differ.1)

-- the wishes that outcomes leave
abbrev left_by : List Outcome → List Wish → List Wish
left_by outcomes wishes = filter (λ wish. not (places_wish outcomes wish)) wishes

-- an outcome for another task takes no wish away
passed_over : (outcome : Outcome) (outcomes : List Outcome) (wishes : List Wish) → DifferFrom outcome.key wishes
    → left_by (outcome ∷ outcomes) wishes ≡ left_by outcomes wishes
passed_over outcome outcomes [] differ = refl
passed_over outcome outcomes (wish ∷ wishes) differ =
    let test = other_task outcome outcomes wish differ.0 in
    let rest = passed_over outcome outcomes wishes differ.1 in
    λ i. cond (not (test i)) (wish ∷ rest i) (rest i)

-- the outcome for a wish decides on it
decided : (outcome : Outcome) (outcomes : List Outcome) (wish : Wish) → same_key outcome.key wish.key ≡ true
    → places_wish outcomes wish ≡ false → places_wish (outcome ∷ outcomes) wish ≡ is_placed outcome.verdict
decided outcome outcomes wish same later = by_answer (is_placed outcome.verdict) (λ t. rw (t, same) refl) (λ f. rw f later)

pub walked_leaves : (outcomes : List Outcome) (wishes : List Wish) → IsDistinct same_key (names wishes)
    → are_wished outcomes wishes ≡ true → walked outcomes wishes ≡ filter (λ wish. not (places_wish outcomes wish)) wishes
unfolding are_wished walked
walked_leaves outcomes [] distinct answers = refl
walked_leaves [] (wish ∷ wishes) distinct answers =
    ap (λ ws. wish ∷ ws) (walked_leaves [] wishes (IsDistinct-tail same_key wish.key (names wishes) distinct) refl)
walked_leaves (outcome ∷ outcomes) (wish ∷ wishes) distinct answers =
    let differ : DifferFrom wish.key wishes = IsDistinct-head same_key wish.key (names wishes) distinct in
    let rest : IsDistinct same_key (names wishes) = IsDistinct-tail same_key wish.key (names wishes) distinct in
    let all = outcome ∷ outcomes in
    by_answer (same_key outcome.key wish.key)
    (λ same.
    let stay = not (is_placed outcome.verdict) in
    let here : are_wished outcomes wishes ≡ true = rw same at answers in
    let step : walked all (wish ∷ wishes) ≡ cond stay (wish ∷ walked outcomes wishes) (walked outcomes wishes) = rw same refl in
    let over : left_by all wishes ≡ left_by outcomes wishes =
    passed_over outcome outcomes wishes (subst (λ k. DifferFrom k wishes) (sym (key_same outcome.key wish.key same)) differ) in
    let test = decided outcome outcomes wish same (unplaced outcomes wishes wish here differ) in
    step
    ∙ ap (λ ws. cond stay (wish ∷ ws) ws) (walked_leaves outcomes wishes rest here ∙ sym over)
    ∙ ap (λ b. cond (not b) (wish ∷ left_by all wishes) (left_by all wishes)) (sym test))
    (λ apart.
    let here : are_wished all wishes ≡ true = rw apart at answers in
    let step : walked all (wish ∷ wishes) ≡ wish ∷ walked all wishes = rw apart refl in
    step
    ∙ ap (λ ws. wish ∷ ws) (walked_leaves all wishes rest here)
    ∙ ap (λ b. cond (not b) (wish ∷ left_by all wishes) (left_by all wishes)) (sym (unplaced all wishes wish here differ)))

-- what differs from a name still does when some go
differ_still : (test : Wish → Bool) (wishes : List Wish) (key : TaskKey) → DifferFrom key wishes → DifferFrom key (filter test wishes)
differ_still test [] key differ = tt
differ_still test (wish ∷ wishes) key differ =
    by_answer (test wish)
    (λ t. rw t (differ.0, differ_still test wishes key differ.1))
    (λ f. rw f (differ_still test wishes key differ.1))

-- wishes for distinct tasks are so when some go
pub distinct_still : (test : Wish → Bool) (wishes : List Wish) → IsDistinct same_key (names wishes) → IsDistinct same_key (names (filter test wishes))
distinct_still test [] distinct = distinct
distinct_still test (wish ∷ wishes) distinct =
    let rest = distinct_still test wishes (IsDistinct-tail same_key wish.key (names wishes) distinct) in
    by_answer (test wish)
    (λ t. rw t (IsDistinct-cons same_key wish.key (names (filter test wishes)) (differ_still test wishes wish.key (IsDistinct-head same_key wish.key (names wishes) distinct)) rest))
    (λ f. rw f rest)

-- the first of the items that are chosen
chosen : (b : Bool) (bs : List Bool) (wish : Wish) (wishes : List Wish)
    → items_where_true (b ∷ bs) (wish ∷ wishes) ≡ cond b (wish ∷ items_where_true bs wishes) (items_where_true bs wishes)
chosen true bs wish wishes = refl
chosen false bs wish wishes = refl

module _ {F : Type 0} (R : F → Wish → Bool → F → Type 0) (ahead : F → List Outcome)
    (says : (f : F) (wish : Wish) (b : Bool) (g : F) → R f wish b g → (b ≡ stays (ahead f) wish) × (ahead g ≡ met_after (ahead f) wish)) where
  in_turn : (f : F) (bs : List Bool) (wishes : List Wish) (g : F) → length bs ≡ length wishes → ReturnsInTurn R f bs wishes g
      → items_where_true bs wishes ≡ walked (ahead f) wishes
  unfolding walked
  in_turn f [] [] g even turns = refl
  in_turn f [] (wish ∷ wishes) g even turns = absurd (cc)
  in_turn f (b ∷ bs) [] g even turns = absurd (cc)
  in_turn f (b ∷ bs) (wish ∷ wishes) g even turns =
      let said = says f wish b turns.0 turns.1 in
      let later = in_turn turns.0 bs wishes g (omega (arith, even)) turns.2 ∙ ap (λ o. walked o wishes) said.1 in
      chosen b bs wish wishes ∙ (λ i. cond (said.0 i) (wish ∷ later i) (later i))

  -- what `retain` keeps by a test that walks along outcomes
  pub walked_along : (f : F) (wishes kept : List Wish) → IsFiltered R f wishes kept → kept ≡ walked (ahead f) wishes
  walked_along f wishes kept filtered = filtered.4 ∙ in_turn f filtered.0 wishes filtered.1 filtered.2 filtered.3
