-- The reading of the tables in their order: one more table.
use Rattle.std.proofs.Common.{◌≡◌, ◌≢◌, ◌∙◌, ◌+◌, ◌<◌, ◌≤◌, ◌⊎◌, ◌++◌, ℕ, zero, suc, List, [], ◌∷◌, Option, Some, None, take, drop, get_or, refl, sym, ap, subst, arith, inl, inr}
use Rattle.std.specs.Prelude.{IfSome}
use Rattle.std.specs.List.{fold}
use Rattle.std.proofs.lemmas.List.{take_more, drop_more, take-append-drop}
use Rattle.std.proofs.lemmas.Grind.{fold-append}
use Rattle.omega_io.specs.Edge.{Tells}
use Rattle.omega_model.specs.Trace.{trace_of, tables_in_order, place_of, with_rows, no_rows}
use Rattle.omega_model.specs.Refusals.{first_refusal, refusal_among, table_refusal, trace_refusal}
use Rattle.omega_model.proofs.FirstRefusal.{among_push, among_stop, tables_first, rows_last}
use Rattle.omega_model.specs.declared.rows.Table.{Table}
use Rattle.omega_model.specs.declared.rows.Table.TheVariants.{MachineEvents, MachineAttributes, TaskEvents, TaskConstraints, MapreduceJobs, MachineDisk}
use Rattle.omega_model.specs.declared.results.Status.{Status}
use Rattle.omega_model.specs.declared.rows.TraceTables.{TraceTables}
use Rattle.omega_tables.specs.Reading.{CameTo, ComesFirst, Names, StoppedIn, StopsAt, StopsRows}
use Rattle.omega_tables.specs.Taking.{Gathers, IsOfAll}
use Rattle.omega_tables.specs.declared.gathered.Gathered.{Gathered}
use Rattle.omega_tables.specs.declared.refusal.ReadRefusal.{ReadRefusal}
use Rattle.omega_tables.specs.declared.refusal.ReadRefusal.TheVariants.{Fault, TooLong, BadRow, TooMany, NoMemory}

-- the table at a place in the order
abbrev pub table_at : ℕ → Table
table_at place = get_or tables_in_order place MachineEvents

place_at : (i : ℕ) → i < 6 → place_of (table_at i) ≡ i
place_at zero h = refl
place_at (suc zero) h = refl
place_at (suc (suc zero)) h = refl
place_at (suc (suc (suc zero))) h = refl
place_at (suc (suc (suc (suc zero)))) h = refl
place_at (suc (suc (suc (suc (suc zero))))) h = refl
place_at (suc (suc (suc (suc (suc (suc i)))))) h = absurd (omega (arith, h))

at_place : (t : Table) → table_at (place_of t) ≡ t
at_place MachineEvents = refl
at_place MachineAttributes = refl
at_place TaskEvents = refl
at_place TaskConstraints = refl
at_place MapreduceJobs = refl
at_place MachineDisk = refl

same_or_other : (n m : ℕ) → (n ≡ m) ⊎ (n ≢ m)
same_or_other zero zero = inl refl
same_or_other zero (suc m) = inr (λ e. absurd (omega (arith, e)))
same_or_other (suc n) zero = inr (λ e. absurd (omega (arith, e)))
same_or_other (suc n) (suc m) = elim (same_or_other n m) [ inl e ↦ inl (ap suc e) | inr d ↦ inr (λ e. d (omega (arith, e))) ]

-- another place is that of another table
elsewhere : (t : Table) (i : ℕ) → i < 6 → place_of t ≢ i → t ≢ table_at i
elsewhere t i h other = λ e. other (ap place_of e ∙ place_at i h)

-- what is told of the table that is read next
told_here : (first now : Table → Option (List ℕ)) (i : ℕ) (bytes : Table → List ℕ) → i < 6
    → ((t : Table) → i ≤ place_of t → now t ≡ first t) → Tells first bytes → now (table_at i) ≡ Some (bytes (table_at i))
told_here first now i bytes h left told = left (table_at i) (omega (arith, place_at i h)) ∙ told (table_at i)

pub none_more : (first now : Table → Option (List ℕ)) (i : ℕ) (bytes : Table → List ℕ) → i < 6
    → ((t : Table) → i ≤ place_of t → now t ≡ first t) → Tells first bytes → refusal_among (take i tables_in_order) bytes ≡ None
    → IfSome (now (table_at i)) (λ b. table_refusal (table_at i) b ≡ None) → refusal_among (take (i + 1) tables_in_order) bytes ≡ None
none_more first now i bytes h left told before this =
    let here = told_here first now i bytes h left told in
    ap (λ (ts : List Table). refusal_among ts bytes) (take_more tables_in_order i MachineEvents h)
    ∙ among_push (take i tables_in_order) (table_at i) bytes before (rw here at this)

pub trace_more : (first now : Table → Option (List ℕ)) (i : ℕ) (bytes : Table → List ℕ) (gathered more : Gathered) → i < 6
    → ((t : Table) → i ≤ place_of t → now t ≡ first t) → Tells first bytes
    → Gathers gathered (fold (λ rows table. with_rows table (bytes table) rows) no_rows (take i tables_in_order))
    → ((trace : TraceTables) → Gathers gathered trace → IfSome (now (table_at i)) (λ b. Gathers more (with_rows (table_at i) b trace)))
    → Gathers more (fold (λ rows table. with_rows table (bytes table) rows) no_rows (take (i + 1) tables_in_order))
trace_more first now i bytes gathered more h left told before this =
    let here = told_here first now i bytes h left told in
    let f : TraceTables → Table → TraceTables = λ rows table. with_rows table (bytes table) rows in
    let trace = fold f no_rows (take i tables_in_order) in
    let added : Gathers more (with_rows (table_at i) (bytes (table_at i)) trace) = rw here at (this trace before) in
    let same : with_rows (table_at i) (bytes (table_at i)) trace ≡ fold f no_rows (take (i + 1) tables_in_order) =
    sym (fold-append f no_rows (take i tables_in_order) (table_at i ∷ []))
    ∙ sym (ap (fold f no_rows) (take_more tables_in_order i MachineEvents h)) in
    subst (Gathers more) same added

pub done_more : (first now next : Table → Option (List ℕ)) (i : ℕ) → i < 6
    → ((t : Table) → place_of t < i → IfSome (first t) (λ b. now t ≡ Some []))
    → ((t : Table) → i ≤ place_of t → now t ≡ first t)
    → IfSome (now (table_at i)) (λ b. next (table_at i) ≡ Some [])
    → ((t : Table) → t ≢ table_at i → next t ≡ now t)
    → (t : Table) → place_of t < i + 1 → IfSome (first t) (λ b. next t ≡ Some [])
done_more first now next i h done left this others t below =
    elim (same_or_other (place_of t) i) [
      | inl e ↦
          let same : table_at i ≡ t = ap table_at (sym e) ∙ at_place t in
          rw (left t (omega arith)) at (rw same at this)
      | inr d ↦ rw (others t (elsewhere t i h d)) (done t (omega arith))
    ]

-- what is as it was from a place on is so from the next place on, where only the table at this place changes
pub left_more : {A : Type 0} (first now next : Table → A) (i : ℕ) → i < 6
    → ((t : Table) → i ≤ place_of t → now t ≡ first t)
    → ((t : Table) → t ≢ table_at i → next t ≡ now t)
    → (t : Table) → i + 1 ≤ place_of t → next t ≡ first t
left_more first now next i h left others t above =
    others t (elsewhere t i h (λ e. absurd (omega (arith, e, above)))) ∙ left t (omega (arith, above))

pub later_more : (first now next : Table → ℕ) (i : ℕ) → i < 6
    → ((t : Table) → first t ≤ now t) → now (table_at i) ≤ next (table_at i)
    → ((t : Table) → t ≢ table_at i → next t ≡ now t) → (t : Table) → first t ≤ next t
later_more first now next i h before this others t =
    elim (same_or_other (place_of t) i) [
      | inl e ↦
          let same : table_at i ≡ t = ap table_at (sym e) ∙ at_place t in
          let there : now t ≤ next t = rw same at this in
          omega (arith, before t, there)
      | inr d ↦ rw (others t (elsewhere t i h d)) (before t)
    ]

-- the tables before a place, the one there, and those behind
split_at : (i : ℕ) → i < 6 → tables_in_order ≡ take i tables_in_order ++ table_at i ∷ drop (i + 1) tables_in_order
split_at i h =
    sym (take-append-drop i tables_in_order) ∙ ap (λ (ts : List Table). take i tables_in_order ++ ts) (drop_more tables_in_order i MachineEvents h)

whole : (i : ℕ) (bytes : Table → List ℕ) → i < 6 → refusal_among (take i tables_in_order) bytes ≡ None
    → (refusal : Status) → table_refusal (table_at i) (bytes (table_at i)) ≡ Some refusal → first_refusal bytes ≡ Some refusal
whole i bytes h before refusal stops = tables_first bytes refusal (
    ap (λ (ts : List Table). refusal_among ts bytes) (split_at i h)
    ∙ among_stop (take i tables_in_order) (table_at i) (drop (i + 1) tables_in_order) bytes refusal before stops)

-- the refusal of the table at this place comes first where none of those before it is refused
comes_first : (i : ℕ) (bytes : Table → List ℕ) → i < 6 → refusal_among (take i tables_in_order) bytes ≡ None
    → (refusal : ReadRefusal) → StopsAt (table_at i) (bytes (table_at i)) refusal → ComesFirst bytes refusal
comes_first i bytes h before (Fault table) stops = rw (stops, place_at i h) before
comes_first i bytes h before (TooLong table) stops = whole i bytes h before _ stops
comes_first i bytes h before (BadRow table row column cause) stops = whole i bytes h before _ stops
comes_first i bytes h before (TooMany kind number) stops = whole i bytes h before _ stops
comes_first i bytes h before NoMemory stops = tt

pub stops_first : (first now : Table → Option (List ℕ)) (i : ℕ) (bytes : Table → List ℕ) (refusal : ReadRefusal) → i < 6
    → ((t : Table) → i ≤ place_of t → now t ≡ first t) → Tells first bytes → refusal_among (take i tables_in_order) bytes ≡ None
    → IfSome (now (table_at i)) (λ b. StopsAt (table_at i) b refusal) → ComesFirst bytes refusal
stops_first first now i bytes refusal h left told before this =
    let here = told_here first now i bytes h left told in
    comes_first i bytes h before refusal (rw here at this)

-- the refusal of all rows together comes first where no table is refused
pub stops_last : (bytes : Table → List ℕ) (trace : TraceTables) (refusal : ReadRefusal) → refusal_among tables_in_order bytes ≡ None
    → trace ≡ trace_of bytes → StopsRows trace refusal → ComesFirst bytes refusal
stops_last bytes trace (Fault _) none same stops = elim stops [ ]
stops_last bytes trace (TooLong _) none same stops = elim stops [ ]
stops_last bytes trace (BadRow _ _ _ _) none same stops = elim stops [ ]
stops_last bytes trace (TooMany kind number) none same stops = rows_last bytes _ none (ap trace_refusal (sym same) ∙ stops)
stops_last bytes trace NoMemory none same stops = tt

-- where only the table at a place changes, the reading came to this place
pub came_to : (first now next : Table → Option (List ℕ)) (count held then : Table → ℕ) (i : ℕ) → i < 6
    → ((t : Table) → place_of t < i → IfSome (first t) (λ b. now t ≡ Some []))
    → ((t : Table) → i ≤ place_of t → now t ≡ first t) → ((t : Table) → i ≤ place_of t → held t ≡ count t)
    → ((t : Table) → t ≢ table_at i → next t ≡ now t) → ((t : Table) → t ≢ table_at i → then t ≡ held t)
    → CameTo i first next count then
came_to first now next count held then i h done left same others other_counts = record {
  before = λ t below. rw (others t (elsewhere t i h (λ e. absurd (omega (arith, e, below))))) (done t below);
  rests = λ t above. left_more first now next i h left others t (omega (arith, above));
  counts = λ t above. left_more count held then i h same other_counts t (omega (arith, above));
}

-- the reading stopped in the table at the place that it came to
pub stopped_in : (first next : Table → Option (List ℕ)) (count then : Table → ℕ) (i : ℕ) (refusal : ReadRefusal) → i < 6
    → CameTo i first next count then → Names (table_at i) refusal → StoppedIn first next count then refusal
stopped_in first next count then i (Fault table) h came is = rw (is, place_at i h) came
stopped_in first next count then i (TooLong table) h came is = rw (is, place_at i h) came
stopped_in first next count then i (BadRow table row column cause) h came is = rw (is, place_at i h) came
stopped_in first next count then i (TooMany kind number) h came is = elim is [ ]
stopped_in first next count then i NoMemory h came is = (i, came)

-- rows are looked at together once all tables were read
pub stopped_behind : (first next : Table → Option (List ℕ)) (count then : Table → ℕ) (refusal : ReadRefusal)
    → CameTo 6 first next count then → IsOfAll refusal → StoppedIn first next count then refusal
stopped_behind first next count then (Fault _) came stops = elim stops [ ]
stopped_behind first next count then (TooLong _) came stops = elim stops [ ]
stopped_behind first next count then (BadRow _ _ _ _) came stops = elim stops [ ]
stopped_behind first next count then (TooMany kind number) came stops = came
stopped_behind first next count then NoMemory came stops = (6, came)

-- the place of each table is one of the six
pub place_below : (t : Table) → place_of t < 6
place_below MachineEvents = omega arith
place_below MachineAttributes = omega arith
place_below TaskEvents = omega arith
place_below TaskConstraints = omega arith
place_below MapreduceJobs = omega arith
place_below MachineDisk = omega arith
