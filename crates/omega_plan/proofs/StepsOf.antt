-- What comes of a wish, by what the searches found.
use Rattle.std.proofs.Common.{Bor, ◌≡◌, ◌<◌, ◌≤◌, ℕ, zero, suc, Bool, true, false, List, [], ◌∷◌, length, nat_eq, slice_get, Option, Some, None, is_some, arith, refl, sym, ap, ◌∙◌, if◌then◌else◌}
use Rattle.std.specs.List.{IsDistinct, find, cons_option, filter_map}
use Rattle.std.specs.Prelude.{option_map}
use Rattle.std.proofs.lemmas.Bool.{both_ways, false_from_ne_true}
use Rattle.omega_model.specs.Cell.{Cell, task_at}
use Rattle.omega_model.specs.Judge.{judge_fine, would_be_placed}
use Rattle.omega_model.specs.Keys.{beginnings}
use Rattle.omega_model.specs.Machines.{numbers_of}
use Rattle.omega_model.specs.Plan.{candidates, claim_of, first_item, goes_in, or_else, victims}
use Rattle.omega_model.specs.Planning.{claim_as_is, claim_for_wish, claim_with_victims, suiting_from}
use Rattle.omega_model.specs.Reply.{after_claim}
use Rattle.omega_model.specs.declared.cells.Machine.{Machine}
use Rattle.omega_model.specs.declared.cells.Task.{Task}
use Rattle.omega_model.specs.declared.cells.TaskKey.{TaskKey}
use Rattle.omega_model.specs.declared.claims.Claim.{Claim}
use Rattle.omega_model.specs.declared.wishes.Wish.{Wish}
use Rattle.omega_running.specs.Order.{IsInOrder}
use Rattle.omega_running.specs.declared.orders.Order.TheVariants.{ByKey}
use Rattle.omega_board.proofs.Placed.{is_placed-Placed, placeable_fine}
use Rattle.omega_fit.specs.Wrapped.{IsFirst, positions_from}
use Rattle.omega_fit.proofs.Found.{first_follows}
use Rattle.omega_plan.specs.Kinds.{IsFull, Serves, StaysFull, has_room}
use Rattle.omega_plan.specs.Steps.{IsStep}
use Rattle.omega_plan.specs.Trying.{AreVictimsAt, IsClaimAt, IsFirstToTake, IsFirstToYield, Takes, Yields, claim_on, takes}
use Rattle.omega_plan.specs.declared.progress.Progress.{Progress}
use Rattle.omega_plan.proofs.AsIs.{as_is_found, as_is_none}
use Rattle.omega_plan.proofs.Begins.{begins_still, begins_where_found}
use Rattle.omega_plan.proofs.FirstYields.{yield_found, yield_none}
use Rattle.omega_plan.proofs.KindsOf.{full_as_is, full_still, full_where_taken, full_where_yielded, room_emptied, stays_full_still, takes_is, yields_is, yields_least}
use Rattle.omega_plan.proofs.Planned.{planned_goes}

-- a machine stands at each place of the list
machine_there : (machines : List Machine) (place : ℕ) → place < length machines → (machine : Machine) × (slice_get machines place ≡ Some machine)
machine_there [] place below = absurd (omega arith)
machine_there (machine ∷ machines) zero below = (machine, refl)
machine_there (machine ∷ machines) (suc place) below = machine_there machines place (omega arith)

-- the first to take a wish takes it
taken_there : (cell : Cell) (wish : Wish) (start place : ℕ) (machine : Machine) → IsFirstToTake cell wish start (Some place) → slice_get cell.machines place ≡ Some machine
    → takes cell wish machine ≡ true
unfolding IsFirstToTake IsFirst
taken_there cell wish start place machine first at = first.taken machine at

yielded_there : (cell : Cell) (wish : Wish) (start place : ℕ) (machine : Machine) → IsFirstToYield cell wish start (Some place) → slice_get cell.machines place ≡ Some machine
    → is_some (claim_on cell wish machine) ≡ true
unfolding IsFirstToYield IsFirst
yielded_there cell wish start place machine first at = first.taken machine at

module _ (cell : Cell) (wish : Wish) (progress : Progress) (serves : Serves cell wish progress) where
  -- a wish whose task runs gets no claim
  nowhere_running : is_some (task_at cell.tasks wish.key) ≡ true → (keys : List TaskKey) (id : ℕ) → goes_in cell wish keys id ≡ false
  nowhere_running runs keys id = false_from_ne_true _ (λ goes.
      both_ways _ (ap is_some (placeable_fine cell (claim_of wish keys id) (is_placed-Placed _ goes)).absent) runs)

  none_as_is : (test : Machine → Bool) → ((m : Machine) → test m ≡ false) → (ms : List Machine) → find test ms ≡ None
  none_as_is test none [] = refl
  none_as_is test none (m ∷ ms) = let out : test m ≡ false = none m in rw out (none_as_is test none ms)

  none_with : (f : Machine → Option Claim) → ((m : Machine) → f m ≡ None) → (ms : List Machine) → first_item (filter_map f ms) ≡ None
  none_with f none [] = refl
  none_with f none (m ∷ ms) = ap (λ o. first_item (cons_option o (filter_map f ms))) (none m) ∙ none_with f none ms

  none_of : (test : List TaskKey → Bool) → ((keys : List TaskKey) → test keys ≡ false) → (xs : List (List TaskKey)) → find test xs ≡ None
  none_of test none [] = refl
  none_of test none (x ∷ xs) = let out : test x ≡ false = none x in rw out (none_of test none xs)

  no_claim : (preempts : Bool) → claim_as_is cell progress.start wish ≡ None → claim_with_victims cell progress.start wish ≡ None
      → claim_for_wish cell progress.start preempts wish ≡ None
  no_claim true as_is with_victims = ap (λ o. or_else o (claim_with_victims cell progress.start wish)) as_is ∙ with_victims
  no_claim false as_is with_victims = ap (λ o. or_else o None) as_is

  pub step_running : (preempts : Bool) → is_some (task_at cell.tasks wish.key) ≡ true → IsStep cell wish preempts progress (record { claim = None; progress = progress })
  step_running preempts runs = record {
    claim = sym (no_claim preempts
        (ap (option_map (λ (m : Machine). claim_of wish [] m.id))
        (none_as_is (λ m. goes_in cell wish [] m.id) (λ m. nowhere_running runs [] m.id) (suiting_from cell.machines wish progress.start)))
        (none_with (λ (m : Machine). option_map (λ keys. claim_of wish keys m.id) (victims cell m.id wish))
        (λ m. ap (option_map (λ keys. claim_of wish keys m.id)) (none_of (λ keys. goes_in cell wish keys m.id) (λ keys. nowhere_running runs keys m.id) (beginnings (candidates cell m.id wish))))
        (suiting_from cell.machines wish progress.start)));
    start = refl;
    serves = serves;
  }

  -- a wish that nothing takes, where none is evicted
  pub step_full : IsFirstToTake cell wish progress.start None → IsStep cell wish false progress (record { claim = None; progress = progress })
  step_full full = record {
    claim = sym (ap (λ o. or_else o None) (sym (as_is_none cell progress.start wish full)));
    start = refl;
    serves = serves;
  }

  -- nor for one of the least precedence, to which no task gives way
  pub step_least : IsInOrder ByKey cell.tasks → task_at cell.tasks wish.key ≡ None → wish.spec.prec ≡ 0 → IsFirstToTake cell wish progress.start None → (preempts : Bool)
      → IsStep cell wish preempts progress (record { claim = None; progress = progress })
  unfolding IsFirstToTake IsFirstToYield
  step_least order absent least full preempts = record {
    claim = sym (no_claim preempts (sym (as_is_none cell progress.start wish full))
        (yield_none cell progress.start wish
        (first_follows (Takes cell wish) (Yields cell wish) (positions_from progress.start (length cell.machines)) None full
        (λ i b taken machine at. yields_least cell wish absent order least machine ∙ taken machine at))));
    start = refl;
    serves = serves;
  }

  -- and where evictions make no room
  pub step_stays_full : IsInOrder ByKey cell.tasks → task_at cell.tasks wish.key ≡ None → IsFirstToTake cell wish progress.start None → IsFirstToYield cell wish progress.start None
      → IsStep cell wish true progress (record { claim = None; progress = record progress { evicting = None } })
  unfolding IsFirstToYield
  step_stays_full order absent full stays = record {
    claim = sym (no_claim true (sym (as_is_none cell progress.start wish full)) (yield_none cell progress.start wish stays));
    start = refl;
    serves = record {
      start = serves.start;
      as_is = serves.as_is;
      evicting = begins_where_found (StaysFull cell wish) (Yields cell wish) progress.start (length cell.machines) None (λ place is. absurd (cc))
          (full_where_yielded cell wish absent order) stays;
    };
  }

  -- once nothing takes a wish, a search begins nowhere
  pub serves_full : task_at cell.tasks wish.key ≡ None → IsFirstToTake cell wish progress.start None → Serves cell wish (record progress { as_is = None })
  unfolding IsFirstToTake
  serves_full absent full = record {
    start = serves.start;
    as_is = begins_where_found (IsFull cell wish) (Takes cell wish) progress.start (length cell.machines) None (λ place is. absurd (cc)) (full_where_taken cell wish absent) full;
    evicting = serves.evicting;
  }

  module _ (order : IsInOrder ByKey cell.tasks) (distinct : IsDistinct nat_eq (numbers_of cell.machines)) (absent : task_at cell.tasks wish.key ≡ None)
      (preempts : Bool) (place : ℕ) (below : place < length cell.machines) (claim : Claim) where
    there : (machine : Machine) × (slice_get cell.machines place ≡ Some machine)
    there = machine_there cell.machines place below

    abbrev after : Cell
    after = after_claim cell (claim, judge_fine cell claim)

    same_place : (other : ℕ) → Some place ≡ Some other → other ≤ length cell.machines
    same_place other is = let same : place ≡ other = cc in omega (arith, same, below)

    -- a wish that a machine takes as it is
    pub step_as_is : IsFirstToTake cell wish progress.start (Some place) → IsClaimAt cell wish place [] claim
        → IsStep cell wish preempts progress (record { claim = Some claim; progress = record progress { as_is = Some place } })
    unfolding IsFirstToTake
    step_as_is first is =
        let machine = there.0 in
        let own : claim ≡ claim_of wish [] machine.id = is machine there.1 in
        let planned : Some claim ≡ claim_for_wish cell progress.start preempts wish =
        ap (λ o. or_else o (if preempts then claim_with_victims cell progress.start wish else None))
        (ap Some own ∙ as_is_found cell progress.start wish place machine first there.1) in
        let goes : would_be_placed cell claim ≡ true = planned_goes cell progress.start preempts wish claim planned in
        let room : has_room cell wish [] machine ≡ true = sym (takes_is cell wish absent machine) ∙ taken_there cell wish progress.start place machine first there.1 in
        let on : claim.machine ≡ machine.id = ap (λ (c : Claim). c.machine) own in
        record {
          claim = planned;
          start = refl;
          serves = record {
            start = serves.start;
            as_is = begins_where_found (IsFull after wish) (Takes cell wish) progress.start (length cell.machines) (Some place) same_place
                (λ i taken. full_still cell wish claim order distinct goes place machine there.1 on room i (full_where_taken cell wish absent i taken)) first;
            evicting = begins_still (StaysFull cell wish) (StaysFull after wish) progress.start (length cell.machines) progress.evicting
                (stays_full_still cell wish claim order distinct goes place machine there.1 on (room_emptied cell wish machine room)) serves.evicting;
          };
        }

    -- one for which tasks are evicted
    pub step_evicting : IsFirstToTake cell wish progress.start None → IsFirstToYield cell wish progress.start (Some place) → (keys : List TaskKey)
        → AreVictimsAt cell wish place (Some keys) → IsClaimAt cell wish place keys claim
        → IsStep cell wish true progress (record { claim = Some claim; progress = record progress { as_is = Some place; evicting = Some place } })
    unfolding IsFirstToYield
    step_evicting full first keys are is =
        let machine = there.0 in
        let own : claim ≡ claim_of wish keys machine.id = is machine there.1 in
        let with_victims : claim_with_victims cell progress.start wish ≡ Some claim =
        yield_found cell progress.start wish place machine first there.1 ∙ are machine there.1 ∙ ap Some (sym own) in
        let planned : Some claim ≡ claim_for_wish cell progress.start true wish =
        sym (ap (λ o. or_else o (claim_with_victims cell progress.start wish)) (sym (as_is_none cell progress.start wish full)) ∙ with_victims) in
        let goes : would_be_placed cell claim ≡ true = planned_goes cell progress.start true wish claim planned in
        let room : has_room cell wish (candidates cell machine.id wish) machine ≡ true =
        sym (yields_is cell wish absent order machine) ∙ yielded_there cell wish progress.start place machine first there.1 in
        let on : claim.machine ≡ machine.id = ap (λ (c : Claim). c.machine) own in
        let still = λ (i : ℕ) (yielded : Yields cell wish i false). stays_full_still cell wish claim order distinct goes place machine there.1 on room i (full_where_yielded cell wish absent order i yielded) in
        record {
          claim = planned;
          start = refl;
          serves = record {
            start = serves.start;
            as_is = begins_where_found (IsFull after wish) (Yields cell wish) progress.start (length cell.machines) (Some place) same_place
                (λ i yielded. full_as_is after wish i (still i yielded)) first;
            evicting = begins_where_found (StaysFull after wish) (Yields cell wish) progress.start (length cell.machines) (Some place) same_place still first;
          };
        }

-- a task that was looked up
pub found_now : (o : Option (Bor Task)) → is_some (option_map (λ (t : Bor Task). t.now) o) ≡ is_some o
found_now None = refl
found_now (Some t) = refl

pub absent_now : (o : Option (Bor Task)) → is_some o ≡ false → option_map (λ (t : Bor Task). t.now) o ≡ None
absent_now None none = refl
absent_now (Some t) none = absurd (both_ways true none refl)
