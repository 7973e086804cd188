-- The claim for a wish goes in with all of its victims.
use Rattle.std.proofs.Common.{◌≡◌, ◌+◌, ◌-◌, ◌<◌, ◌≤◌, ◌&&◌, ℕ, zero, suc, Bool, true, false, List, [], ◌∷◌, length, map, take, Option, Some, None, arith, refl, sym, ap, subst, ◌∙◌, if◌then◌else◌}
use Rattle.std.specs.List.{find, filter_map, range_with_len, cons_option}
use Rattle.std.specs.Prelude.{IfSome, option_map}
use Rattle.std.specs.Option.{unwrap_or}
use Rattle.std.proofs.lemmas.Bool.{and_parts}
use Rattle.std.proofs.lemmas.List.{length-take-le, take-take}
use Rattle.std.proofs.lemmas.Option.{none-some, same_Some}
use Rattle.omega_model.specs.Cell.{Cell}
use Rattle.omega_model.specs.Judge.{evicted_for, makes_room, would_be_placed}
use Rattle.omega_model.specs.Keys.{beginnings}
use Rattle.omega_model.specs.Plan.{candidates, claim_of, first_item, goes_in, or_else, victims}
use Rattle.omega_model.specs.Planning.{claim_as_is, claim_for_wish, claim_with_victims, suiting_from}
use Rattle.omega_model.specs.declared.cells.Machine.{Machine}
use Rattle.omega_model.specs.declared.cells.TaskKey.{TaskKey}
use Rattle.omega_model.specs.declared.claims.Claim.{Claim}
use Rattle.omega_model.specs.declared.wishes.Wish.{Wish}
use Rattle.omega_model.proofs.Lists.{by_answer}
use Rattle.omega_running.specs.Order.{IsInOrder}
use Rattle.omega_running.specs.declared.orders.Order.TheVariants.{ByKey}
use Rattle.omega_board.proofs.Placed.{is_placed-Placed}
use Rattle.omega_plan.specs.Overlays.{GoesInWhole}
use Rattle.omega_plan.proofs.Candidates.{AreCandidates, are_candidates}
use Rattle.omega_plan.proofs.Fewest.{all_stand, first_candidates, goes_with, may_go, victims_by_room}

-- what is found among the beginnings of some names, from one of so many on, is found among its own
record IsAgain (p q : List TaskKey → Bool) (keys found : List TaskKey) (from count : ℕ) : Type 0 where
  number : ℕ
  after : from ≤ number
  within : number < from + count
  is : found ≡ take number keys
  passes : p found ≡ true
  again : find q (map (λ n. take n found) (range_with_len from (number + 1 - from))) ≡ Some found

found_again : (p q : List TaskKey → Bool) (keys found : List TaskKey) → ((some : List TaskKey) → p found ≡ true → p some ≡ q some) → (from count : ℕ)
    → find p (map (λ n. take n keys) (range_with_len from count)) ≡ Some found → IsAgain p q keys found from count
found_again p q keys found same from zero is = absurd (none-some found is)
found_again p q keys found same from (suc count) is =
    by_answer (p (take from keys))
    (λ t.
    let here : take from keys ≡ found = same_Some _ _ (rw t at is) in
    let passes : p found ≡ true = ap p (sym here) ∙ t in
    let own : take from found ≡ found = ap (take from) (sym here) ∙ take-take from from keys (omega arith) ∙ here in
    let passed : q (take from found) ≡ true = ap q own ∙ sym (same found passes) ∙ passes in
    let one : from + 1 - from ≡ 1 = omega arith in
    record {
      number = from;
      after = omega arith;
      within = omega arith;
      is = sym here;
      passes = passes;
      again = ap (λ n. find q (map (λ n. take n found) (range_with_len from n))) one ∙ rw passed (ap Some own);
    })
    (λ f.
    let later = found_again p q keys found same (from + 1) count (rw f at is) in
    let after : from + 1 ≤ later.number = later.after in
    let own : take from found ≡ take from keys = ap (take from) later.is ∙ take-take from later.number keys (omega (arith, after)) in
    let failed : q (take from found) ≡ false = sym (same (take from found) later.passes) ∙ ap p own ∙ f in
    let more : later.number + 1 - from ≡ suc (later.number + 1 - (from + 1)) = omega (arith, after) in
    record {
      number = later.number;
      after = omega (arith, after);
      within = omega (arith, later.within);
      is = later.is;
      passes = later.passes;
      again = ap (λ n. find q (map (λ n. take n found) (range_with_len from n))) more ∙ rw failed later.again;
    })

-- a claim that would be placed does so with what it evicts
whole_where : (cell : Cell) (claim : Claim) → would_be_placed cell claim ≡ true → evicted_for cell claim ≡ claim.victims → GoesInWhole cell claim
whole_where cell claim placed all =
    let verdict = is_placed-Placed _ placed in
    λ i. record { verdict = verdict i; evicted = (ap (λ b. if b then evicted_for cell claim else []) placed ∙ all) i }

-- one without victims evicts none
none_evicted : (cell : Cell) (wish : Wish) (id : ℕ) → evicted_for cell (claim_of wish [] id) ≡ []
none_evicted cell wish id = by_answer (makes_room cell (claim_of wish [] id) []) (λ t. rw t refl) (λ f. rw f refl)

whole_as_is : (cell : Cell) (wish : Wish) (id : ℕ) → would_be_placed cell (claim_of wish [] id) ≡ true → GoesInWhole cell (claim_of wish [] id)
whole_as_is cell wish id placed = whole_where cell (claim_of wish [] id) placed (none_evicted cell wish id)

-- nor does one with the fewest victims keep any
whole_with : (cell : Cell) (wish : Wish) (id : ℕ) (keys : List TaskKey) → IsInOrder ByKey cell.tasks → victims cell id wish ≡ Some keys
    → would_be_placed cell (claim_of wish keys id) ≡ true → GoesInWhole cell (claim_of wish keys id)
whole_with cell wish id keys order found placed =
    let all = candidates cell id wish in
    let are = are_candidates cell id wish order in
    let room : List TaskKey → Bool = makes_room cell (claim_of wish keys id) in
    let found_so : find (goes_with cell id wish all) (beginnings all) ≡ Some keys = sym (victims_by_room cell id wish all are refl) ∙ found in
    let again = found_again (goes_with cell id wish all) room all keys
    (λ some goes. ap (λ b. b && room some) (and_parts (may_go cell id wish) (makes_room cell (claim_of wish all id) keys) goes).0) 0 (length all + 1) found_so in
    let within : again.number ≤ length all = omega (arith, again.within) in
    let long : length keys ≡ again.number = ap length again.is ∙ length-take-le again.number all within in
    let own : AreCandidates cell id wish keys = subst (AreCandidates cell id wish) (sym again.is) (first_candidates cell id wish again.number all are) in
    let many : again.number + 1 - 0 ≡ length keys + 1 = omega (arith, long) in
    let among : find room (beginnings keys) ≡ Some keys =
    ap (λ n. find room (map (λ m. take m keys) (range_with_len 0 n))) (sym many) ∙ again.again in
    whole_where cell (claim_of wish keys id) placed
    (ap (λ ks. unwrap_or (find room (beginnings ks)) []) (all_stand cell id wish keys own) ∙ ap (λ o. unwrap_or o []) among)

-- a claim, if there is one, goes in whole
found_whole : (cell : Cell) (wish : Wish) (ms : List Machine) → IfSome (option_map (λ (m : Machine). claim_of wish [] m.id) (find (λ (m : Machine). goes_in cell wish [] m.id) ms)) (GoesInWhole cell)
found_whole cell wish [] = tt
found_whole cell wish (m ∷ ms) =
    by_answer (goes_in cell wish [] m.id) (λ t. rw t (whole_as_is cell wish m.id t)) (λ f. rw f (found_whole cell wish ms))

passes_there : {X : Type 0} (p : X → Bool) (xs : List X) (x : X) → find p xs ≡ Some x → p x ≡ true
passes_there p [] x is = absurd (none-some x is)
passes_there p (y ∷ ys) x is =
    by_answer (p y)
    (λ t. ap p (sym (same_Some y x (rw t at is))) ∙ t)
    (λ f. passes_there p ys x (rw f at is))

first_whole : (cell : Cell) (wish : Wish) → IsInOrder ByKey cell.tasks → (ms : List Machine)
    → IfSome (first_item (filter_map (λ (m : Machine). option_map (λ keys. claim_of wish keys m.id) (victims cell m.id wish)) ms)) (GoesInWhole cell)
first_whole cell wish order [] = tt
first_whole cell wish order (m ∷ ms) = by (victims cell m.id wish) refl (first_whole cell wish order ms)
  where
    by : (o : Option (List TaskKey)) → victims cell m.id wish ≡ o
        → IfSome (first_item (filter_map (λ (o : Machine). option_map (λ keys. claim_of wish keys o.id) (victims cell o.id wish)) ms)) (GoesInWhole cell)
        → IfSome (first_item (cons_option (option_map (λ keys. claim_of wish keys m.id) o) (filter_map (λ (m : Machine). option_map (λ keys. claim_of wish keys m.id) (victims cell m.id wish)) ms))) (GoesInWhole cell)
    by None is later = later
    by (Some keys) is later = whole_with cell wish m.id keys order is (passes_there (λ some. goes_in cell wish some m.id) (beginnings (candidates cell m.id wish)) keys is)

either_whole : (cell : Cell) (one other : Option Claim) → IfSome one (GoesInWhole cell) → IfSome other (GoesInWhole cell) → IfSome (or_else one other) (GoesInWhole cell)
either_whole cell None other first second = second
either_whole cell (Some claim) other first second = first

pub planned_whole : (cell : Cell) (start : ℕ) (preempts : Bool) (wish : Wish) (claim : Option Claim) → IsInOrder ByKey cell.tasks → claim ≡ claim_for_wish cell start preempts wish
    → IfSome claim (GoesInWhole cell)
planned_whole cell start preempts wish claim order is =
    subst (λ (o : Option Claim). IfSome o (GoesInWhole cell)) (sym is)
    (either_whole cell (claim_as_is cell start wish) (if preempts then claim_with_victims cell start wish else None)
    (found_whole cell wish (suiting_from cell.machines wish start))
    (by preempts))
  where
    by : (b : Bool) → IfSome (if b then claim_with_victims cell start wish else None) (GoesInWhole cell)
    by false = tt
    by true = first_whole cell wish order (suiting_from cell.machines wish start)
