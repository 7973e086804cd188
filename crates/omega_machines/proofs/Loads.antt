-- Sums over the machines of a table.
use Rattle.std.proofs.Common.{◌≡◌, ℕ, zero, suc, ◌+◌, ◌-◌, ◌*◌, ◌≤◌, Bool, false, List, [], ◌∷◌, ◌++◌, map, set, length, take, drop, slice_get, Some, sym, ap, ◌∙◌, subst, arith, if◌then◌else◌}
use Rattle.std.specs.BTreeMap.{BTreeMap}
use Rattle.std.specs.List.{All}
use Rattle.std.proofs.lemmas.List.{take-append-drop, drop_all}
use Rattle.std.proofs.lemmas.List.Elements.{All-head, All-tail}
use Rattle.std.proofs.lemmas.Option.{none-some, same_Some}
use Rattle.omega_model.specs.ExtraTasks.{sum_of}
use Rattle.omega_model.specs.Fields.{greatest, greatest_quantity}
use Rattle.omega_model.specs.Limits.{most_machines}
use Rattle.omega_model.specs.Need.{Fits, nothing, plus, minus}
use Rattle.omega_model.specs.declared.cells.Need.{Need}
use Rattle.omega_machines.specs.Load.{AreSummed, AreWords, IsInWords, less, load_of, load_of_all, replaced}
use Rattle.omega_machines.specs.Places.{IsKept}
use Rattle.omega_machines.specs.Table.{MachineState, machines_of, IsBounded, IsTable, used, used_if_up, cap_if_up, used_by_all, capacity_of_all}
use Rattle.omega_machines.specs.declared.load.Load.{Load}
use Rattle.omega_model.proofs.Amounts.{need_is, plus-nothing, plus-assoc}
use Rattle.omega_model.proofs.Lists.{by_answer}
use Rattle.omega_machines.proofs.Finding.{placed_still}
use Rattle.omega_machines.proofs.Rewriting.{IsRewritten}

-- the sum of an amount over all states of a table
abbrev sum_by : (MachineState → Need) → List MachineState → Need
sum_by f table = sum_of (map f table)

-- a state goes into the sum in the place of another
sum_set : (f : MachineState → Need) (table : List MachineState) (i : ℕ) (state next : MachineState) → slice_get table i ≡ Some state
    → plus (minus (sum_by f table) (f state)) (f next) ≡ sum_by f (set table i next)
sum_set f [] i state next at = absurd (none-some _ at)
sum_set f (s ∷ ss) zero state next at =
    let same : f s ≡ f state = ap f (same_Some _ _ at) in
    let cpu : (f s).cpu ≡ (f state).cpu = ap (λ (n : Need). n.cpu) same in
    let mem : (f s).mem ≡ (f state).mem = ap (λ (n : Need). n.mem) same in
    let disk : (f s).disk ≡ (f state).disk = ap (λ (n : Need). n.disk) same in
    need_is _ _ (omega (arith, cpu)) (omega (arith, mem)) (omega (arith, disk))
sum_set f (s ∷ ss) (suc i) state next at =
    let rest = sum_set f ss i state next at in
    let within : Fits (f state) (sum_by f ss) = in_sum f ss i state at in
    let cpu : (sum_by f ss).cpu - (f state).cpu + (f next).cpu ≡ (sum_by f (set ss i next)).cpu = ap (λ (n : Need). n.cpu) rest in
    let mem : (sum_by f ss).mem - (f state).mem + (f next).mem ≡ (sum_by f (set ss i next)).mem = ap (λ (n : Need). n.mem) rest in
    let disk : (sum_by f ss).disk - (f state).disk + (f next).disk ≡ (sum_by f (set ss i next)).disk = ap (λ (n : Need). n.disk) rest in
    let cpu_in : (f state).cpu ≤ (sum_by f ss).cpu = within.0 in
    let mem_in : (f state).mem ≤ (sum_by f ss).mem = within.1.0 in
    let disk_in : (f state).disk ≤ (sum_by f ss).disk = within.1.1 in
    need_is _ _ (omega (arith, cpu, cpu_in)) (omega (arith, mem, mem_in)) (omega (arith, disk, disk_in))
  where
    -- no term is more than the sum
    in_sum : (f : MachineState → Need) (table : List MachineState) (i : ℕ) (state : MachineState) → slice_get table i ≡ Some state → Fits (f state) (sum_by f table)
    in_sum f [] i state at = absurd (none-some _ at)
    in_sum f (x ∷ xs) zero state at = subst (λ (y : MachineState). Fits (f y) (sum_by f (x ∷ xs))) (same_Some _ _ at) (omega arith, (omega arith, omega arith))
    in_sum f (x ∷ xs) (suc i) state at =
        let rest = in_sum f xs i state at in
        let cpu : (f state).cpu ≤ (sum_by f xs).cpu = rest.0 in
        let mem : (f state).mem ≤ (sum_by f xs).mem = rest.1.0 in
        let disk : (f state).disk ≤ (sum_by f xs).disk = rest.1.1 in
        (omega (arith, cpu), (omega (arith, mem), omega (arith, disk)))

-- an amount of each component is at most so many times the greatest quantity
record IsBelow (need : Need) (count : ℕ) : Type 0 where
  cpu : need.cpu ≤ count * greatest_quantity
  mem : need.mem ≤ count * greatest_quantity
  disk : need.disk ≤ count * greatest_quantity

sum_below : (f : MachineState → Need) → ((state : MachineState) → IsBounded state → Fits (f state) greatest) → (table : List MachineState) → All IsBounded table
    → IsBelow (sum_by f table) (length table)
sum_below f bound [] each = record { cpu = omega arith; mem = omega arith; disk = omega arith }
sum_below f bound (s ∷ ss) each =
    let here = bound s (All-head IsBounded s ss each) in
    let rest = sum_below f bound ss (All-tail IsBounded s ss each) in
    let cpu : (f s).cpu ≤ 1000000000000 = here.0 in
    let mem : (f s).mem ≤ 1000000000000 = here.1.0 in
    let disk : (f s).disk ≤ 1000000000000 = here.1.1 in
    let cpus : (sum_by f ss).cpu ≤ length ss * 1000000000000 = rest.cpu in
    let mems : (sum_by f ss).mem ≤ length ss * 1000000000000 = rest.mem in
    let disks : (sum_by f ss).disk ≤ length ss * 1000000000000 = rest.disk in
    record { cpu = omega (arith, cpu, cpus); mem = omega (arith, mem, mems); disk = omega (arith, disk, disks) }

used_bound : (state : MachineState) → IsBounded state → Fits (used_if_up state) greatest
used_bound state bounded =
    let cap : Fits state.machine.cap greatest = bounded.cap in
    by_answer state.machine.up
    (λ up. subst (λ (b : Bool). Fits (if b then used state else nothing) greatest) (sym up) (omega (arith, cap.0), (omega (arith, cap.1.0), omega (arith, cap.1.1))))
    (λ down. subst (λ (b : Bool). Fits (if b then used state else nothing) greatest) (sym down) (omega arith, (omega arith, omega arith)))

cap_bound : (state : MachineState) → IsBounded state → Fits (cap_if_up state) greatest
cap_bound state bounded =
    by_answer state.machine.up
    (λ up. subst (λ (b : Bool). Fits (if b then state.machine.cap else nothing) greatest) (sym up) bounded.cap)
    (λ down. subst (λ (b : Bool). Fits (if b then state.machine.cap else nothing) greatest) (sym down) (omega arith, (omega arith, omega arith)))

words_below : (need : Need) (count : ℕ) → count ≤ most_machines → IsBelow need count → AreWords need
words_below need count few below =
    let cpu : need.cpu ≤ count * 1000000000000 = below.cpu in
    let mem : need.mem ≤ count * 1000000000000 = below.mem in
    let disk : need.disk ≤ count * 1000000000000 = below.disk in
    record { cpu = omega (arith, few, cpu); mem = omega (arith, few, mem); disk = omega (arith, few, disk) }

-- the load of a table fits 64 bits
load_in_words : (table : List MachineState) → IsTable table → IsInWords (load_of_all table)
load_in_words table held = record {
  used = words_below _ (length table) held.few (sum_below used_if_up used_bound table held.bounded);
  capacity = words_below _ (length table) held.few (sum_below cap_if_up cap_bound table held.bounded);
}

-- the load of a table in which one state is replaced
load_set : (table : List MachineState) (i : ℕ) (state next : MachineState) → slice_get table i ≡ Some state
    → replaced (load_of_all table) (load_of state) (load_of next) ≡ load_of_all (set table i next)
load_set table i state next at = λ j. record {
  used = sum_set used_if_up table i state next at j;
  capacity = sum_set cap_if_up table i state next at j;
}

-- a state that adds as much as the one before it leaves the load
pub load_kept : (table : List MachineState) (i : ℕ) (state next : MachineState) → slice_get table i ≡ Some state → load_of next ≡ load_of state
    → load_of_all (set table i next) ≡ load_of_all table
load_kept [] i state next at same = absurd (none-some _ at)
load_kept (s ∷ ss) zero state next at same =
    let here : load_of next ≡ load_of s = same ∙ ap load_of (sym (same_Some _ _ at)) in
    λ j. record { used = plus (here j).used (used_by_all ss); capacity = plus (here j).capacity (capacity_of_all ss) }
load_kept (s ∷ ss) (suc i) state next at same =
    let rest = load_kept ss i state next at same in
    λ j. record { used = plus (used_if_up s) (rest j).used; capacity = plus (cap_if_up s) (rest j).capacity }

-- a new machine, which isn't up, adds nothing
load_more : (table : List MachineState) (state : MachineState) → state.machine.up ≡ false → load_of_all (table ++ state ∷ []) ≡ load_of_all table
load_more [] state down = λ j. record {
  used = (ap (λ (b : Bool). plus (if b then used state else nothing) nothing) down ∙ plus-nothing nothing) j;
  capacity = (ap (λ (b : Bool). plus (if b then state.machine.cap else nothing) nothing) down ∙ plus-nothing nothing) j;
}
load_more (s ∷ ss) state down =
    let rest = load_more ss state down in
    λ j. record { used = plus (used_if_up s) (rest j).used; capacity = plus (cap_if_up s) (rest j).capacity }

-- the load computed for a state that is written anew fits, and is that of the states
module _ (places : BTreeMap ℕ ℕ) (states table : List MachineState) (place : ℕ) (state next : MachineState) (load before after : Load)
    (kept : IsKept places states load) (at : slice_get states place ≡ Some state) (was : before ≡ load_of state) (is : after ≡ load_of next)
    (rewritten : IsRewritten states place next table) where
  load_is : replaced load before after ≡ load_of_all (set states place next)
  load_is = (λ i. replaced (kept.summed.sum i) (was i) (is i)) ∙ load_set states place state next at

  pub load_fits : IsInWords (replaced load before after)
  load_fits = subst IsInWords (sym load_is) (load_in_words (set states place next) rewritten.held)

  pub kept_anew : (now : Load) → now ≡ replaced load before after → IsKept places (set states place next) now
  kept_anew now computed = record {
    placed = placed_still places (machines_of states) (machines_of (set states place next)) rewritten.numbers kept.placed;
    summed = record { table = rewritten.held; sum = computed ∙ load_is };
  }

-- and where the new state adds as much as the old one the load stays
pub kept_same : (places : BTreeMap ℕ ℕ) (states table : List MachineState) (place : ℕ) (state next : MachineState) (load : Load) → IsKept places states load
    → slice_get states place ≡ Some state → load_of next ≡ load_of state → IsRewritten states place next table → IsKept places (set states place next) load
kept_same places states table place state next load kept at same rewritten = record {
  placed = placed_still places (machines_of states) (machines_of (set states place next)) rewritten.numbers kept.placed;
  summed = record { table = rewritten.held; sum = kept.summed.sum ∙ sym (load_kept states place state next at same) };
}

-- a new machine, which isn't up, leaves the load
pub summed_more : (states next : List MachineState) (state : MachineState) (load : Load) → AreSummed states load → state.machine.up ≡ false
    → next ≡ states ++ state ∷ [] → IsTable next → AreSummed next load
summed_more states next state load summed down is held = record {
  table = held;
  sum = summed.sum ∙ sym (ap load_of_all is ∙ load_more states state down);
}

-- of a sum of some machines and others that of the others is left
less_rest : (first rest : List MachineState) → less (load_of_all (first ++ rest)) (load_of_all rest) ≡ load_of_all first
less_rest first rest = λ j. record { used = sum_rest used_if_up first j; capacity = sum_rest cap_if_up first j }
  where
    sum_both : (f : MachineState → Need) (xs : List MachineState) → sum_by f (xs ++ rest) ≡ plus (sum_by f xs) (sum_by f rest)
    sum_both f [] = sym (plus-nothing (sum_by f rest))
    sum_both f (x ∷ xs) = ap (plus (f x)) (sum_both f xs) ∙ sym (plus-assoc (f x) (sum_by f xs) (sum_by f rest))

    sum_rest : (f : MachineState → Need) (xs : List MachineState) → minus (sum_by f (xs ++ rest)) (sum_by f rest) ≡ sum_by f xs
    sum_rest f xs =
        ap (λ (n : Need). minus n (sum_by f rest)) (sum_both f xs)
        ∙ need_is (minus (plus (sum_by f xs) (sum_by f rest)) (sum_by f rest)) (sum_by f xs) (omega arith) (omega arith) (omega arith)

-- the first machines have what is left when the others go
pub summed_first : (states next : List MachineState) (n : ℕ) (load now : Load) → AreSummed states load → next ≡ take n states
    → now ≡ less load (load_of_all (drop n states)) → IsTable next → AreSummed next now
summed_first states next n load now summed is computed held = record {
  table = held;
  sum = computed
      ∙ ap (λ (l : Load). less l (load_of_all (drop n states))) (summed.sum ∙ ap load_of_all (sym (take-append-drop n states)))
      ∙ less_rest (take n states) (drop n states)
      ∙ ap load_of_all (sym is);
}

-- one more machine that leaves
less_next : (load : Load) (table : List MachineState) (i : ℕ) (state : MachineState) → slice_get table i ≡ Some state
    → less (less load (load_of state)) (load_of_all (drop (suc i) table)) ≡ less load (load_of_all (drop i table))
less_next load [] i state at = absurd (none-some _ at)
less_next load (s ∷ ss) zero state at =
    ap (λ (t : MachineState). less (less load (load_of t)) (load_of_all ss)) (sym (same_Some _ _ at))
    ∙ (λ j. record {
      used = need_is (minus (minus load.used (used_if_up s)) (used_by_all ss)) (minus load.used (plus (used_if_up s) (used_by_all ss))) (omega arith) (omega arith) (omega arith) j;
      capacity = need_is (minus (minus load.capacity (cap_if_up s)) (capacity_of_all ss)) (minus load.capacity (plus (cap_if_up s) (capacity_of_all ss))) (omega arith) (omega arith) (omega arith) j;
    })
less_next load (s ∷ ss) (suc i) state at = less_next load ss i state at

pub less_one : (load : Load) (states : List MachineState) (i : ℕ) (state : MachineState) → slice_get states i ≡ Some state
    → less (less load (load_of state)) (load_of_all (drop (i + 1) states)) ≡ less load (load_of_all (drop i states))
less_one load states i state at =
    let next : i + 1 ≡ suc i = omega arith in
    ap (λ n. less (less load (load_of state)) (load_of_all (drop n states))) next
    ∙ less_next load states i state at

-- where none is left nothing goes
pub less_none : (load : Load) (table : List MachineState) (i : ℕ) → length table ≤ i → less load (load_of_all (drop i table)) ≡ load
less_none load table i past =
    ap (λ (t : List MachineState). less load (load_of_all t)) (drop_all i table past)
    ∙ (λ j. record { used = need_is (minus load.used nothing) load.used (omega arith) (omega arith) (omega arith) j; capacity = need_is (minus load.capacity nothing) load.capacity (omega arith) (omega arith) (omega arith) j })
