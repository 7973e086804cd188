-- The map from numbers to places, as machines come, change and leave.
use Rattle.std.proofs.Common.{◌≡◌, ℕ, zero, suc, ◌+◌, ◌<◌, ◌≤◌, false, nat_eq, List, [], ◌∷◌, ◌++◌, Some, None, length, take, slice_get, position, refl, ap, sym, ◌∙◌, ◌⊎◌, inl, inr, arith, ◌==◌}
use Rattle.std.specs.BTreeMap as tree
use Rattle.std.specs.BTreeMap.{BTreeMap}
use Rattle.std.specs.List.{IsDistinct}
use Rattle.std.specs.Map.{lookup}
use Rattle.std.specs.Option.{option_map}
use Rattle.std.specs.Ordering.{nat_cmp}
use Rattle.std.proofs.lemmas.Bool.{ne_eqb, le-ltb, lt-ltb, cases_eq, cases_order}
use Rattle.std.proofs.lemmas.List.{map-append, length-map, take-map}
use Rattle.std.proofs.lemmas.List.Elements.{All-nil}
use Rattle.std.proofs.lemmas.Option.{none-some, same_Some, slice_get_within}
use Rattle.omega_model.specs.Machines.{numbers_of}
use Rattle.omega_model.specs.declared.cells.Machine.{Machine}
use Rattle.omega_machines.specs.Load.{load_of_all}
use Rattle.omega_machines.specs.Places.{ArePlaced, IsKept}
use Rattle.omega_machines.specs.Table.{MachineState, machines_of, IsBounded}
use Rattle.omega_machines.proofs.Places.{found_position}

-- where the numbers stay the places do
pub placed_still : (places : BTreeMap ℕ ℕ) (machines next : List Machine) → numbers_of next ≡ numbers_of machines → ArePlaced places machines → ArePlaced places next
placed_still places machines next same placed id place =
    (λ is. ap (λ ns. slice_get ns place) same ∙ (placed id place).0 is, λ at. (placed id place).1 (sym (ap (λ ns. slice_get ns place) same) ∙ at))

no_numbers : IsDistinct nat_eq []
unfolding IsDistinct
no_numbers = tt

-- the table without machines
pub kept_none : (places : BTreeMap ℕ ℕ) → tree.IsEmpty places → IsKept places [] (load_of_all [])
kept_none places empty = record {
  placed = λ id place. (
    λ is. absurd (none-some _ (sym (ap (λ (entries : List (ℕ × ℕ)). lookup (tree.is_at (nat_cmp id)) entries) empty) ∙ is)),
    λ at. absurd (none-some _ at),
  );
  summed = record {
    table = record { few = omega arith; distinct = no_numbers; bounded = All-nil IsBounded };
    sum = refl;
  };
}

-- in a tree by number two numbers that differ stand apart
pub apart : (a b : ℕ) → (a ≡ b → ⊥) → tree.is_at (nat_cmp a) b ≡ false
apart a b ne =
    elim (cases_order a b) [
      | inl e ↦ absurd (ne e)
      | inr (inl less) ↦ rw (lt-ltb a b less) refl
      | inr (inr more) ↦ rw (le-ltb a b (omega arith), ne_eqb a b ne) refl
    ]

kept_at : (numbers : List ℕ) (new id place : ℕ) → slice_get numbers place ≡ Some id → slice_get (numbers ++ new ∷ []) place ≡ Some id
kept_at [] new id place at = absurd (none-some _ at)
kept_at (n ∷ ns) new id zero at = at
kept_at (n ∷ ns) new id (suc place) at = kept_at ns new id place at

new_at : (numbers : List ℕ) (new : ℕ) → slice_get (numbers ++ new ∷ []) (length numbers) ≡ Some new
new_at [] new = refl
new_at (n ∷ ns) new = new_at ns new

which_at : (numbers : List ℕ) (new id place : ℕ) → slice_get (numbers ++ new ∷ []) place ≡ Some id → (slice_get numbers place ≡ Some id) ⊎ ((place ≡ length numbers) × (new ≡ id))
which_at [] new id zero at = inr (refl, same_Some _ _ at)
which_at [] new id (suc place) at = absurd (none-some _ at)
which_at (n ∷ ns) new id zero at = inl at
which_at (n ∷ ns) new id (suc place) at = elim (which_at ns new id place at) [ inl e ↦ inl e | inr e ↦ inr (ap suc e.0, e.1) ]

numbers_more : (states : List MachineState) (state : MachineState) → numbers_of (machines_of (states ++ state ∷ [])) ≡ numbers_of (machines_of states) ++ state.machine.id ∷ []
numbers_more states state =
    ap numbers_of (map-append (λ (s : MachineState). s.machine) states (state ∷ [])) ∙ map-append _ (machines_of states) _

numbers_long : (states : List MachineState) → length (numbers_of (machines_of states)) ≡ length states
numbers_long states = length-map (machines_of states) (λ (m : Machine). m.id) ∙ length-map states (λ (s : MachineState). s.machine)

pub numbers_at : (states : List MachineState) (i : ℕ) (state : MachineState) → slice_get states i ≡ Some state → slice_get (numbers_of (machines_of states)) i ≡ Some state.machine.id
numbers_at [] i state at = absurd (none-some _ at)
numbers_at (s ∷ ss) zero state at = ap (λ o. option_map (λ (t : MachineState). t.machine.id) o) at
numbers_at (s ∷ ss) (suc i) state at = numbers_at ss i state at

take_at : (n : ℕ) (numbers : List ℕ) (place : ℕ) → place < n → slice_get (take n numbers) place ≡ slice_get numbers place
take_at zero numbers place low = absurd (omega (arith, low))
take_at (suc n) [] place low = refl
take_at (suc n) (x ∷ xs) zero low = refl
take_at (suc n) (x ∷ xs) (suc place) low = take_at n xs place (omega (arith, low))

taken_low : (n : ℕ) (numbers : List ℕ) (place id : ℕ) → slice_get (take n numbers) place ≡ Some id → place < n
taken_low zero numbers place id at = absurd (none-some _ at)
taken_low (suc n) [] place id at = absurd (none-some _ at)
taken_low (suc n) (x ∷ xs) zero id at = omega arith
taken_low (suc n) (x ∷ xs) (suc place) id at = let rest = taken_low n xs place id at in omega (arith, rest)

-- a new machine stands at the end
pub placed_more : (places more : BTreeMap ℕ ℕ) (states : List MachineState) (state : MachineState) (n : ℕ) → ArePlaced places (machines_of states)
    → position (λ machine. machine.id == state.machine.id) (machines_of states) ≡ None → n ≡ length states
    → tree.Updates nat_cmp places more state.machine.id (Some n)
    → ArePlaced more (machines_of (states ++ state ∷ []))
placed_more places more states state n placed none end u id place =
    let new = state.machine.id in
    let numbers = numbers_of (machines_of states) in
    let absent : tree.get nat_cmp places new ≡ None = found_position new places (machines_of states) placed ∙ none in
    let last : n ≡ length numbers = end ∙ sym (numbers_long states) in
    let to : slice_get (numbers ++ new ∷ []) place ≡ Some id → slice_get (numbers_of (machines_of (states ++ state ∷ []))) place ≡ Some id = λ at. ap (λ ns. slice_get ns place) (numbers_more states state) ∙ at in
    let back : slice_get (numbers_of (machines_of (states ++ state ∷ []))) place ≡ Some id → slice_get (numbers ++ new ∷ []) place ≡ Some id = λ at. sym (ap (λ ns. slice_get ns place) (numbers_more states state)) ∙ at in
    elim (cases_eq new id) [
      | inl same ↦ (
        λ is.
            let one : n ≡ place = same_Some _ _ (sym u.1 ∙ ap (λ z. tree.get nat_cmp more z) same ∙ is) in
            to (ap (slice_get (numbers ++ new ∷ [])) (sym one ∙ last) ∙ new_at numbers new ∙ ap Some same),
        λ at. elim (which_at numbers new id place (back at)) [
          | inl e ↦ absurd (none-some _ (sym absent ∙ ap (λ z. tree.get nat_cmp places z) same ∙ (placed id place).1 e))
          | inr e ↦ ap (λ z. tree.get nat_cmp more z) (sym same) ∙ u.1 ∙ ap Some (last ∙ sym e.0)
        ],
      )
      | inr ne ↦ (
        λ is. to (kept_at numbers new id place ((placed id place).0 (sym (u.2 id (apart new id ne)) ∙ is))),
        λ at. elim (which_at numbers new id place (back at)) [
          | inl e ↦ u.2 id (apart new id ne) ∙ (placed id place).1 e
          | inr e ↦ absurd (ne e.1)
        ],
      )
    ]

-- the map once the machines from a place up to another have left it
pub record LeftBetween (places : BTreeMap ℕ ℕ) (states : List MachineState) (from to : ℕ) : Type 0 where
  pub found : (id place : ℕ) → tree.get nat_cmp places id ≡ Some place → (slice_get (numbers_of (machines_of states)) place ≡ Some id) × ((place < from) ⊎ (to ≤ place))
  pub finds : (id place : ℕ) → slice_get (numbers_of (machines_of states)) place ≡ Some id → (place < from) ⊎ (to ≤ place) → tree.get nat_cmp places id ≡ Some place

pub left_none : (places : BTreeMap ℕ ℕ) (states : List MachineState) (from : ℕ) → ArePlaced places (machines_of states) → LeftBetween places states from from
left_none places states from placed = record {
  found = λ id place is. ((placed id place).0 is, side place);
  finds = λ id place at _. (placed id place).1 at;
}
  where
    side : (place : ℕ) → (place < from) ⊎ (from ≤ place)
    side place = elim (cases_order place from) [ inl e ↦ inr (omega (arith, e)) | inr (inl less) ↦ inl less | inr (inr more) ↦ inr (omega (arith, more)) ]

module _ (first places : BTreeMap ℕ ℕ) (states : List MachineState) (from i : ℕ) (placed : ArePlaced first (machines_of states)) (left : LeftBetween places states from i) where
  -- one more machine has left it
  pub left_more : (state : MachineState) (fewer : BTreeMap ℕ ℕ) → from ≤ i → slice_get states i ≡ Some state → tree.Updates nat_cmp places fewer state.machine.id None → LeftBetween fewer states from (i + 1)
  left_more state fewer past at u = record {
    found = λ id place is. found id place is;
    finds = λ id place there side. u.2 id (apart new id (other id place there side)) ∙ left.finds id place there (before place side);
  }
    where
      new : ℕ
      new = state.machine.id

      here : slice_get (numbers_of (machines_of states)) i ≡ Some state.machine.id
      here = numbers_at states i state at

      before : (place : ℕ) → (place < from) ⊎ (i + 1 ≤ place) → (place < from) ⊎ (i ≤ place)
      before place side = elim side [ inl low ↦ inl low | inr high ↦ inr (omega (arith, high)) ]

      other : (id place : ℕ) → slice_get (numbers_of (machines_of states)) place ≡ Some id → (place < from) ⊎ (i + 1 ≤ place) → state.machine.id ≡ id → ⊥
      other id place there side same =
          let one : place ≡ i = same_Some _ _ (sym ((placed id place).1 there) ∙ (placed id i).1 (here ∙ ap Some same)) in
          elim side [ inl low ↦ absurd (omega (arith, low, one, past)) | inr high ↦ absurd (omega (arith, high, one)) ]

      found : (id place : ℕ) → tree.get nat_cmp fewer id ≡ Some place → (slice_get (numbers_of (machines_of states)) place ≡ Some id) × ((place < from) ⊎ (i + 1 ≤ place))
      found id place is =
          elim (cases_eq state.machine.id id) [
            | inl same ↦ absurd (none-some _ (sym u.1 ∙ ap (λ z. tree.get nat_cmp fewer z) same ∙ is))
            | inr ne ↦
                let was = left.found id place (sym (u.2 id (apart state.machine.id id ne)) ∙ is) in (
                  was.0,
                  elim was.1 [
                    | inl low ↦ inl low
                    | inr high ↦ elim (cases_eq i place) [
                      | inl one ↦ absurd (ne (same_Some _ _ (sym here ∙ ap (slice_get (numbers_of (machines_of states))) one ∙ was.0)))
                      | inr apart ↦ inr (omega (arith, high, apart))
                    ]
                  ],
                )
          ]

  -- and once all have, it gives the places of the first ones
  pub left_first : length states ≤ i → ArePlaced places (machines_of (take from states))
  left_first end id place = (
    λ is.
        let was = left.found id place is in
        elim was.1 [
          | inl low ↦ ap (λ ns. slice_get ns place) first_numbers ∙ take_at from (numbers_of (machines_of states)) place low ∙ was.0
          | inr high ↦
              let within = slice_get_within (numbers_of (machines_of states)) place id was.0 in
              absurd (omega (arith, high, end, within, numbers_long states))
        ],
    λ at.
        let taken = sym (ap (λ ns. slice_get ns place) first_numbers) ∙ at in
        let low = taken_low from (numbers_of (machines_of states)) place id taken in
        left.finds id place (sym (take_at from (numbers_of (machines_of states)) place low) ∙ taken) (inl low),
  )
    where
      first_numbers : numbers_of (machines_of (take from states)) ≡ take from (numbers_of (machines_of states))
      first_numbers = ap numbers_of (sym (take-map (λ (s : MachineState). s.machine) from states)) ∙ sym (take-map (λ (m : Machine). m.id) from (machines_of states))
