-- Where a machine stands in a table, and what is said of it there.
use Rattle.std.proofs.Common.{◌≡◌, inl, inr, ℕ, zero, suc, ◌+◌, ◌<◌, nat_lt, Bor, Option, is_some, Bool, true, false, true≢false, cond, not, List, [], ◌∷◌, map, length, get_or, slice_get, position, Some, None, IsTrue, IsSomeAnd, refl, sym, ap, ◌∙◌, arith, if◌then◌else◌, ◌==◌}
use Rattle.std.specs.BTreeMap as tree
use Rattle.std.specs.BTreeMap.{BTreeMap}
use Rattle.std.specs.List.{position_or_len}
use Rattle.std.specs.Option.{option_map, option_map_or, option_and_then}
use Rattle.std.specs.Ordering.{nat_cmp}
use Rattle.std.specs.Slice.{IsItemAt}
use Rattle.std.proofs.lemmas.Bool.{eqb-true, eq-eqb, ltb-true, ltb-false, lt-ltb, le-ltb}
use Rattle.std.proofs.lemmas.List.{length-map}
use Rattle.std.proofs.lemmas.List.Folds.{find_at}
use Rattle.std.proofs.lemmas.List.Sums.{passes_at_first}
use Rattle.std.proofs.lemmas.Option.{cond_some, none-some, same_Some, slice_get-get_or, slice_get_past, slice_get_within, get_or_from_slice_get}
use Rattle.omega_model.specs.Applying.{ListsOrHasRoom}
use Rattle.omega_model.specs.Limits.{most_machines}
use Rattle.omega_model.specs.Machines.{is_listed, numbers_of}
use Rattle.omega_model.specs.Need.{nothing}
use Rattle.omega_model.specs.declared.cells.Need.{Need}
use Rattle.omega_model.specs.declared.cells.Machine.{Machine}
use Rattle.omega_machines.specs.Places.{ArePlaced}
use Rattle.omega_machines.specs.Table.{MachineState, machines_of, state_at, used, use_at, free_at, seq_at}
use Rattle.omega_model.proofs.Lists.{by_answer}

module _ {A B : Type 0} (f : A → B) (p : B → Bool) where
  position_or_len-map : (xs : List A) → position_or_len p (map f xs) ≡ position_or_len (λ x. p (f x)) xs
  position_or_len-map [] = refl
  position_or_len-map (x ∷ xs) = ap (λ n. cond (not (p (f x))) (1 + n) 0) (position_or_len-map xs)

  -- a position is the same in the list before a map
  pub position-map : (xs : List A) → position p (map f xs) ≡ position (λ x. p (f x)) xs
  position-map xs = rw (position_or_len-map xs, length-map xs f) refl

-- a table has room for a machine where the list of its machines has
pub has_room : (table : List MachineState) (id : ℕ) → is_listed id (machines_of table) ≡ false → ListsOrHasRoom (machines_of table) id → length table < most_machines
has_room table id absent (inl few) =
    let long : length (machines_of table) ≡ length table = length-map table (λ (s : MachineState). s.machine) in
    omega (arith, few, long)
has_room table id absent (inr listed) = absurd (true≢false (sym listed ∙ absent))

module _ (id : ℕ) where
  abbrev named : Machine → Bool
  named machine = machine.id == id

  -- where a number has a position it stands there
  first_at : (machines : List Machine) → position_or_len named machines < length machines → slice_get (numbers_of machines) (position_or_len named machines) ≡ Some id
  first_at [] within = absurd (omega (arith, within))
  first_at (m ∷ ms) within =
      by_answer (m.id == id)
      (λ t. rw t (ap Some (eqb-true _ _ t)))
      (λ f.
      let inside = rw f at within in
      let next : 1 + position_or_len named ms ≡ suc (position_or_len named ms) = omega arith in
      rw f (ap (slice_get (numbers_of (m ∷ ms))) next ∙ first_at ms (omega (arith, inside))))

  -- and where it stands it has one
  placed_within : (machines : List Machine) (place : ℕ) → slice_get (numbers_of machines) place ≡ Some id → position_or_len named machines < length machines
  placed_within [] place at = absurd (none-some _ at)
  placed_within (m ∷ ms) zero at = let own : (m.id == id) ≡ true = eq-eqb _ _ (same_Some _ _ at) in rw own (omega arith)
  placed_within (m ∷ ms) (suc place) at =
      let rest = placed_within ms place at in
      by_answer (m.id == id) (λ t. rw t (omega arith)) (λ f. rw f (omega (arith, rest)))

  listed_within : (machines : List Machine) → nat_lt (position_or_len named machines) (length machines) ≡ is_listed id machines
  listed_within [] = refl
  listed_within (m ∷ ms) = by_answer (m.id == id) (λ t. rw t (lt-ltb _ _ (omega arith))) (λ f. rw f (one_on (position_or_len named ms) (length ms) ∙ listed_within ms))
    where
      one_on : (a b : ℕ) → nat_lt (1 + a) (suc b) ≡ nat_lt a b
      one_on a b =
          by_answer (nat_lt a b)
          (λ t. let less = ltb-true _ _ t in lt-ltb (1 + a) (suc b) (omega (arith, less)) ∙ sym t)
          (λ f. let past = ltb-false _ _ f in le-ltb (1 + a) (suc b) (omega (arith, past)) ∙ sym f)

  -- a number has a position where it is listed
  pub listed_position : (machines : List Machine) → is_some (position (λ machine. machine.id == id) machines) ≡ is_listed id machines
  listed_position machines = some_if (nat_lt (position_or_len named machines) (length machines)) ∙ listed_within machines
    where
      some_if : (b : Bool) → is_some (cond b (Some (position_or_len named machines)) None) ≡ b
      some_if true = refl
      some_if false = refl

  -- the map finds the position of a number
  pub found_position : (places : BTreeMap ℕ ℕ) (machines : List Machine) → ArePlaced places machines → tree.get nat_cmp places id ≡ position (λ machine. machine.id == id) machines
  found_position places machines placed =
      by_answer (nat_lt (position_or_len named machines) (length machines))
      (λ t. rw t ((placed id (position_or_len named machines)).1 (first_at machines (ltb-true _ _ t))))
      (λ f. rw f (by (tree.get nat_cmp places id) refl f))
    where
      by : (o : Option ℕ) → tree.get nat_cmp places id ≡ o → nat_lt (position_or_len named machines) (length machines) ≡ false → o ≡ None
      by None is f = refl
      by (Some place) is f =
          let past = ltb-false _ _ f in
          let within = placed_within machines place ((placed id place).0 is) in
          absurd (omega (arith, past, within))

-- the machine of a number stands at a place in this state
pub record Stands (table : List MachineState) (id place : ℕ) (state : MachineState) : Type 0 where
  pub at : slice_get table place ≡ Some state
  pub numbered : state.machine.id ≡ id
  pub found : state_at table id ≡ Some state

-- the state at the position of a number is that of its machine
pub stands : (states table : List MachineState) (id place : ℕ) (state : MachineState) → states ≡ table
    → position (λ machine. machine.id == id) (machines_of table) ≡ Some place → slice_get states place ≡ Some state → Stands table id place state
stands states table id place state seen placed row =
    let test : MachineState → Bool = λ other. other.machine.id == id in
    let at : slice_get table place ≡ Some state = ap (λ t. slice_get t place) (sym seen) ∙ row in
    let within : place < length table = slice_get_within table place state at in
    let moved = sym (position-map (λ (other : MachineState). other.machine) (λ machine. machine.id == id) table) ∙ placed in
    let first : position_or_len test table ≡ place = (cond_some _ _ _ moved).1 in
    let passes : test (get_or table place state) ≡ true = ap (λ n. test (get_or table n state)) (sym first) ∙ passes_at_first test table state (omega (arith, within, first)) in
    record {
      at = at;
      numbered = eqb-true _ _ (ap test (sym (get_or_from_slice_get table place state state at)) ∙ passes);
      found = find_at test table ∙ ap (slice_get table) first ∙ at;
    }

-- the position of a number is one of the list
pub within_states : (states table : List MachineState) (id place : ℕ) → states ≡ table → position (λ machine. machine.id == id) (machines_of table) ≡ Some place → place < length states
within_states states table id place seen placed =
    let test : MachineState → Bool = λ other. other.machine.id == id in
    let moved = sym (position-map (λ (other : MachineState). other.machine) (λ machine. machine.id == id) table) ∙ placed in
    let parts = cond_some _ _ _ moved in
    let within : position_or_len test table < length table = ltb-true _ _ parts.0 in
    let first : position_or_len test table ≡ place = parts.1 in
    let long : length states ≡ length table = ap length seen in
    omega (arith, within, first, long)

-- and has a state
pub state_there : (states table : List MachineState) (id place : ℕ) (state : MachineState) → states ≡ table → position (λ machine. machine.id == id) (machines_of table) ≡ Some place
    → state ≡ get_or states place state → slice_get states place ≡ Some state
state_there states table id place state seen placed is =
    slice_get-get_or states place state (within_states states table id place seen placed) ∙ ap Some (sym is)

-- so is a place at which a number stands
pub within_numbers : (states table : List MachineState) (id place : ℕ) → states ≡ table → slice_get (numbers_of (machines_of table)) place ≡ Some id → place < length states
within_numbers states table id place seen there =
    let within = slice_get_within (numbers_of (machines_of table)) place id there in
    let long : length (numbers_of (machines_of table)) ≡ length (machines_of table) = length-map (machines_of table) (λ (m : Machine). m.id) in
    let all : length (machines_of table) ≡ length table = length-map table (λ (s : MachineState). s.machine) in
    let same : length states ≡ length table = ap length seen in
    omega (arith, within, long, all, same)

pub state_numbered : (states table : List MachineState) (id place : ℕ) (state : MachineState) → states ≡ table → slice_get (numbers_of (machines_of table)) place ≡ Some id
    → state ≡ get_or states place state → slice_get states place ≡ Some state
state_numbered states table id place state seen there is =
    slice_get-get_or states place state (within_numbers states table id place seen there) ∙ ap Some (sym is)

-- a state that is lent from a place stands there
pub lent_at : (states : List MachineState) (place : ℕ) (lent : Option (Bor MachineState)) → IsItemAt states place lent → option_map (λ (state : Bor MachineState). state.now) lent ≡ slice_get states place
lent_at states place None at = sym (slice_get_past states place (ltb-false _ _ (sym at.0)))
lent_at states place (Some state) at = let within = ltb-true _ _ (sym at.0) in ap Some at.1 ∙ sym (slice_get-get_or states place state.now within)

-- what is at the position of a number is what is found of it
pub state_found : (states table : List MachineState) (id : ℕ) (found : Option ℕ) → states ≡ table → found ≡ position (λ machine. machine.id == id) (machines_of table)
    → option_and_then (λ place. slice_get states place) found ≡ state_at table id
state_found states table id found seen is =
    let test : MachineState → Bool = λ other. other.machine.id == id in
    rw (is ∙ position-map (λ (other : MachineState). other.machine) (λ machine. machine.id == id) table, seen, find_at test table)
    (by_answer (nat_lt (position_or_len test table) (length table))
    (λ t. rw t refl)
    (λ f. rw f (sym (slice_get_past table (position_or_len test table) (ltb-false _ _ f)))))

module _ (table : List MachineState) (id : ℕ) where
  -- a machine with something free on it is listed
  pub listed_from_free : (P : Need → Type 0) → IsSomeAnd (free_at table id) P → IsTrue (is_listed id (machines_of table))
  listed_from_free P h = by table h
    where
      by : (t : List MachineState) → IsSomeAnd (free_at t id) P → is_listed id (machines_of t) ≡ true
      by [] g = absurd g
      by (s ∷ ss) g = by_answer (s.machine.id == id) (λ t. rw t refl) (λ f. rw f (by ss (rw f at g)))

  module _ (place : ℕ) (state : MachineState) (here : Stands table id place state) where
    -- its state says what is in use
    pub use_there : use_at table id ≡ used state
    use_there = ap (λ o. option_map_or used o nothing) here.found

    -- and its sequence number
    pub seq_there : seq_at table id ≡ state.seq
    seq_there = ap (λ o. option_map_or (λ (s : MachineState). s.seq) o 0) here.found

    -- and, while it is up, what is free
    pub free_there : (P : Need → Type 0) → IsSomeAnd (free_at table id) P → (state.machine.up ≡ true) × P state.free
    free_there P h =
        let g : IsSomeAnd (if state.machine.up then Some state.free else None) P = rw here.found at h in
        by_answer state.machine.up (λ t. (t, rw t at g)) (λ f. absurd (rw f at g))
