-- What a claim changes for the wishes of its kind.
use Rattle.std.proofs.Common.{◌≡◌, ◌+◌, ℕ, Bool, true, false, not, ◌&&◌, List, [], length, nat_eq, slice_get, take, Option, Some, None, is_some, refl, sym, ap, subst, ◌∙◌, ◌==◌}
use Rattle.std.specs.List.{IsDistinct, range_with_len}
use Rattle.std.specs.Prelude.{option_map}
use Rattle.std.proofs.lemmas.Bool.{and_from, and_parts, both_ways, eqb-true, false_from_ne_true}
use Rattle.std.proofs.lemmas.Option.{same_Some}
use Rattle.omega_model.specs.Cell.{Cell, machine_at, task_at}
use Rattle.omega_model.specs.Judge.{is_up, judge_fine, makes_room, would_be_placed}
use Rattle.omega_model.specs.Machines.{numbers_of}
use Rattle.omega_model.specs.Plan.{candidates, claim_of, victims}
use Rattle.omega_model.specs.Planning.{suits}
use Rattle.omega_model.specs.Reply.{after_claim}
use Rattle.omega_model.specs.declared.cells.Machine.{Machine}
use Rattle.omega_model.specs.declared.cells.Task.{Task}
use Rattle.omega_model.specs.declared.cells.TaskKey.{TaskKey}
use Rattle.omega_model.specs.declared.claims.Claim.{Claim}
use Rattle.omega_model.specs.declared.wishes.Wish.{Wish}
use Rattle.omega_model.proofs.Lists.{beginning_found, by_answer}
use Rattle.omega_running.specs.Order.{IsInOrder}
use Rattle.omega_running.specs.declared.orders.Order.TheVariants.{ByKey}
use Rattle.omega_board.proofs.Numbered.{machine_there}
use Rattle.omega_plan.specs.Kinds.{IsFull, StaysFull, has_room}
use Rattle.omega_plan.specs.Trying.{Takes, Yields, claim_on, takes}
use Rattle.omega_plan.proofs.Candidates.{are_candidates, candidates_least}
use Rattle.omega_plan.proofs.Elsewhere.{candidates_same, on_other, room_same}
use Rattle.omega_plan.proofs.Fewest.{goes_where_room, goes_with, none_mapped, room_for_all, victims_by_room}

-- a task that doesn't run is no obstacle
but_for_none : (a b : Bool) (o : Option Task) → o ≡ None → ((a && not (is_some o)) && b) ≡ (a && b)
but_for_none a b o none = ap (λ x. (a && not (is_some x)) && b) none ∙ by a
  where
    by : (x : Bool) → ((x && true) && b) ≡ (x && b)
    by true = refl
    by false = refl

module _ (cell : Cell) (wish : Wish) (absent : task_at cell.tasks wish.key ≡ None) where
  -- a machine takes a wish exactly where it has room
  pub takes_is : (machine : Machine) → takes cell wish machine ≡ has_room cell wish [] machine
  takes_is machine =
      ap (λ b. suits wish machine.attrs && b)
      (goes_where_room cell machine.id wish [] (record { runs = tt; lower = tt; once = tt })
      ∙ but_for_none (is_up (machine_at cell.machines machine.id)) (makes_room cell (claim_of wish [] machine.id) []) (task_at cell.tasks wish.key) absent)

  some_victims : (id : ℕ) → IsInOrder ByKey cell.tasks
      → is_some (victims cell id wish) ≡ (is_up (machine_at cell.machines id) && makes_room cell (claim_of wish [] id) (candidates cell id wish))
  some_victims id order =
      let keys = candidates cell id wish in
      let test : List TaskKey → Bool = goes_with cell id wish keys in
      let by_room = victims_by_room cell id wish keys (are_candidates cell id wish order) refl in
      ap is_some by_room
      ∙ by_answer (test keys)
      (λ t. ap is_some (beginning_found test keys t).1.0 ∙ sym t)
      (λ f. ap is_some (none_mapped test (λ n. take n keys)
      (λ n. false_from_ne_true _ (λ h.
      let parts = and_parts _ _ h in both_ways _ f (and_from _ _ parts.0 (room_for_all cell (claim_of wish keys id) n keys parts.1))))
      (range_with_len 0 (length keys + 1))) ∙ sym f)
      ∙ but_for_none (is_up (machine_at cell.machines id)) (makes_room cell (claim_of wish [] id) keys) (task_at cell.tasks wish.key) absent

  -- and evictions make room where there is room without all that may be evicted
  pub yields_is : IsInOrder ByKey cell.tasks → (machine : Machine) → is_some (claim_on cell wish machine) ≡ has_room cell wish (candidates cell machine.id wish) machine
  yields_is order machine =
      by_answer (suits wish machine.attrs)
      (λ t. rw t (mapped (victims cell machine.id wish) ∙ some_victims machine.id order))
      (λ f. rw f refl)
    where
      mapped : (o : Option (List TaskKey)) → is_some (option_map (λ keys. claim_of wish keys machine.id) o) ≡ is_some o
      mapped None = refl
      mapped (Some keys) = refl

  -- for a wish of the least precedence they make room where there is room as it is
  pub yields_least : IsInOrder ByKey cell.tasks → wish.spec.prec ≡ 0 → (machine : Machine) → is_some (claim_on cell wish machine) ≡ takes cell wish machine
  yields_least order least machine =
      yields_is order machine ∙ ap (λ keys. has_room cell wish keys machine) (candidates_least cell machine.id wish least) ∙ sym (takes_is machine)

  pub takes_where_full : (i : ℕ) → IsFull cell wish i → Takes cell wish i false
  takes_where_full i full machine at = takes_is machine ∙ full machine at

  pub full_where_taken : (i : ℕ) → Takes cell wish i false → IsFull cell wish i
  full_where_taken i taken machine at = sym (takes_is machine) ∙ taken machine at

  pub yields_where_full : IsInOrder ByKey cell.tasks → (i : ℕ) → StaysFull cell wish i → Yields cell wish i false
  yields_where_full order i full machine at = yields_is order machine ∙ full machine at

  pub full_where_yielded : IsInOrder ByKey cell.tasks → (i : ℕ) → Yields cell wish i false → StaysFull cell wish i
  full_where_yielded order i yielded machine at = sym (yields_is order machine) ∙ yielded machine at

-- where there is room as it is, there is room without those that may be evicted
pub room_emptied : (cell : Cell) (wish : Wish) (machine : Machine) → has_room cell wish [] machine ≡ true → has_room cell wish (candidates cell machine.id wish) machine ≡ true
room_emptied cell wish machine room =
    let parts = and_parts _ _ room in
    let up = and_parts _ _ parts.1 in
    and_from _ _ parts.0 (and_from _ _ up.0 (room_for_all cell (claim_of wish [] machine.id) 0 (candidates cell machine.id wish) up.1))

pub full_as_is : (cell : Cell) (wish : Wish) (i : ℕ) → StaysFull cell wish i → IsFull cell wish i
full_as_is cell wish i stays machine at = false_from_ne_true _ (λ room. both_ways _ (stays machine at) (room_emptied cell wish machine room))

module _ (cell : Cell) (wish : Wish) (claim : Claim) (order : IsInOrder ByKey cell.tasks) (distinct : IsDistinct nat_eq (numbers_of cell.machines))
    (placed : would_be_placed cell claim ≡ true) (place : ℕ) (chosen : Machine) (there : slice_get cell.machines place ≡ Some chosen)
    (on : claim.machine ≡ chosen.id) where
  abbrev after : Cell
  after = after_claim cell (claim, judge_fine cell claim)

  -- a machine of the claim's number is the claim's
  is_chosen : (i : ℕ) (machine : Machine) → slice_get cell.machines i ≡ Some machine → (claim.machine == machine.id) ≡ true → chosen ≡ machine
  is_chosen i machine at same =
      let number : chosen.id ≡ machine.id = sym on ∙ eqb-true _ _ same in
      same_Some _ _ (sym (machine_there cell.machines place chosen distinct there) ∙ ap (machine_at cell.machines) number ∙ machine_there cell.machines i machine distinct at)

  elsewhere : (gone : List TaskKey) (machine : Machine) → (claim.machine == machine.id) ≡ false → has_room after wish gone machine ≡ has_room cell wish gone machine
  elsewhere gone machine differ =
      ap (λ b. suits wish machine.attrs && (is_up (machine_at cell.machines machine.id) && b))
      (room_same cell after wish machine.id gone refl (on_other cell claim machine.id order placed differ))

  -- machines without room stay so, once a claim is placed on one that had room
  pub full_still : has_room cell wish [] chosen ≡ true → (i : ℕ) → IsFull cell wish i → IsFull after wish i
  full_still room i full machine at =
      by_answer (claim.machine == machine.id)
      (λ t. absurd (both_ways _ (full machine at) (subst (λ (m : Machine). has_room cell wish [] m ≡ true) (is_chosen i machine at t) room)))
      (λ f. elsewhere [] machine f ∙ full machine at)

  pub stays_full_still : has_room cell wish (candidates cell chosen.id wish) chosen ≡ true → (i : ℕ) → StaysFull cell wish i → StaysFull after wish i
  stays_full_still room i full machine at =
      by_answer (claim.machine == machine.id)
      (λ t. absurd (both_ways _ (full machine at) (subst (λ (m : Machine). has_room cell wish (candidates cell m.id wish) m ≡ true) (is_chosen i machine at t) room)))
      (λ f.
      ap (λ keys. has_room after wish keys machine) (candidates_same cell after wish machine.id (on_other cell claim machine.id order placed f))
      ∙ elsewhere (candidates cell machine.id wish) machine f ∙ full machine at)
