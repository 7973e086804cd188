-- The records that a reader gives one after the other are those that `records` lists.
use Rattle.std.proofs.Common.{◌≡◌, ◌≤◌, ◌+◌, ◌-◌, ◌++◌, ℕ, zero, suc, List, [], ◌∷◌, length, Option, Some, None, refl, ap, arith, ◌∙◌, true, false, Bool, append-nil}
use Rattle.csv.specs.Machine.{Read, next_record, step, is_end, ends_at_end, fields_after, field_after}
use Rattle.csv.specs.Reading.{Reached, records, records_from}
use Rattle.csv.specs.declared.parser.Config.{Config}
use Rattle.csv.specs.declared.parser.State.{State}
use Rattle.csv.specs.declared.parser.State.TheVariants as st

-- a read leaves fewer than m bytes
abbrev pub Falls : ℕ → Option Read → Type 0
Falls m None = Unit {0}
Falls m (Some p) = suc (length p.2) ≤ m

falls_more : (n : ℕ) (r : Option Read) → Falls n r → Falls (suc n) r
falls_more n None h = tt
falls_more n (Some p) h = omega (arith, h)

falls_end : (cfg : Config) (s2 : State) (f : List (List ℕ)) (p : List ℕ) (b : Bool) → ends_at_end s2 ≡ b → Falls 1 (next_record cfg s2 f p [])
unfolding next_record
falls_end cfg s2 f p true e = rw e (omega arith)
falls_end cfg s2 f p false e = rw e tt

-- a byte ends the record, or the rest decides
falls_step : (cfg : Config) (s : State) (fields : List (List ℕ)) (field : List ℕ) (c : ℕ) (xs : List ℕ)
    → Falls (suc (length xs)) (next_record cfg (step cfg s c).0 (fields_after (step cfg s c).1 fields field) (field_after (step cfg s c).1 c field) xs)
    → (b : Bool) → is_end (step cfg s c).1 ≡ b → Falls (suc (length xs)) (next_record cfg s fields field (c ∷ xs))
unfolding next_record
falls_step cfg s fields field c xs h true e = rw e (omega arith)
falls_step cfg s fields field c xs h false e = rw e h

-- with at least one byte, the read leaves fewer bytes
falls : (cfg : Config) (xs : List ℕ) (s : State) (fields : List (List ℕ)) (field : List ℕ) (c : ℕ)
    → Falls (suc (length xs)) (next_record cfg s fields field (c ∷ xs))
falls cfg [] s fields field c = falls_step cfg s fields field c [] (falls_end cfg _ _ _ (ends_at_end (step cfg s c).0) refl) (is_end (step cfg s c).1) refl
falls cfg (d ∷ xs) s fields field c =
    falls_step cfg s fields field c (d ∷ xs) (falls_more _ _ (falls cfg xs (step cfg s c).0 (fields_after (step cfg s c).1 fields field) (field_after (step cfg s c).1 c field) d)) (is_end (step cfg s c).1) refl

falls_of : (m : ℕ) (r : Option Read) (p : Read) → r ≡ Some p → Falls m r → suc (length p.2) ≤ m
falls_of m None p e h = cc e
falls_of m (Some q) p e h = let same : q ≡ p = cc e in rw (← same) h

-- a read at the end of the text leaves the state of a new record
ended : (cfg : Config) (s : State) (p : Read) (b : Bool) → ends_at_end s ≡ b → next_record cfg s [] [] [] ≡ Some p → (p.1 ≡ st.StartRecord) × (p.2 ≡ [])
unfolding next_record
ended cfg s p true e h =
    let last : Read = ([] ∷ [], st.StartRecord, []) in
    let found : Some last ≡ Some p = rw e at h in
    let same : last ≡ p = cc found in
    rw (← same) (refl, refl)
ended cfg s p false e h = cc (rw e at h)

-- there is at most one record for each byte, and one at the end of the text
counted : (cfg : Config) (rows : List (List (List ℕ))) (s : State) (xs : List ℕ) (s2 : State) (ys : List ℕ)
    → Reached cfg s xs rows s2 ys → length rows ≤ suc (length xs)
unfolding Reached next_record
counted cfg [] s xs s2 ys h = omega arith
counted cfg (r ∷ []) s xs s2 ys h = omega arith
counted cfg (r ∷ q ∷ rows) s [] s2 ys h =
    let at_end = ended cfg s h.0 (ends_at_end s) refl h.1 in
    cc (rw (at_end.0, at_end.1) at h.3.1)
counted cfg (r ∷ q ∷ rows) s (c ∷ xs) s2 ys h =
    let less : suc (length h.0.2) ≤ suc (length xs) = falls_of _ _ h.0 h.1 (falls cfg xs s [] [] c) in
    let more = counted cfg (q ∷ rows) h.0.1 h.0.2 s2 ys h.3 in
    omega (arith, less, more)

-- with enough fuel, the list begins with the records read and goes on from where they end
listed : (cfg : Config) (n : ℕ) (rows : List (List (List ℕ))) (s : State) (xs : List ℕ) (s2 : State) (ys : List ℕ) (m : ℕ)
    → n ≡ length rows + m → Reached cfg s xs rows s2 ys → records_from cfg n s xs ≡ rows ++ records_from cfg m s2 ys
unfolding records_from Reached
listed cfg n [] s xs s2 ys m e h = let same : n ≡ m = omega arith in rw (same, h.0, h.1) refl
listed cfg zero (r ∷ rows) s xs s2 ys m e h = absurd (omega (arith, e))
listed cfg (suc n) (r ∷ rows) s xs s2 ys m e h =
    rw (h.1, h.2) (ap (λ (rs : List (List (List ℕ))). h.0.0 ∷ rs) (listed cfg n rows h.0.1 h.0.2 s2 ys m (omega (arith, e)) h.3))

-- the records read so far are the first of the text, and others follow
pub begins : (cfg : Config) (xs : List ℕ) (rows : List (List (List ℕ))) (s2 : State) (ys : List ℕ) → Reached cfg st.StartRecord xs rows s2 ys
    → (others : List (List (List ℕ))) × (records cfg xs ≡ rows ++ others)
begins cfg xs rows s2 ys h =
    let some = counted cfg rows st.StartRecord xs s2 ys h in
    (records_from cfg (length xs + 1 - length rows) s2 ys, listed cfg (length xs + 1) rows st.StartRecord xs s2 ys (length xs + 1 - length rows) (omega (arith, some)) h)

none_left : (cfg : Config) (m : ℕ) (s : State) (ys : List ℕ) → next_record cfg s [] [] ys ≡ None → records_from cfg m s ys ≡ []
unfolding records_from
none_left cfg zero s ys h = refl
none_left cfg (suc m) s ys h = rw h refl

-- where no record follows, the records read are all of the text
pub are_all : (cfg : Config) (xs : List ℕ) (rows : List (List (List ℕ))) (s2 : State) (ys : List ℕ) → Reached cfg st.StartRecord xs rows s2 ys
    → next_record cfg s2 [] [] ys ≡ None → records cfg xs ≡ rows
are_all cfg xs rows s2 ys h last =
    let some = counted cfg rows st.StartRecord xs s2 ys h in
    let split = listed cfg (length xs + 1) rows st.StartRecord xs s2 ys (length xs + 1 - length rows) (omega (arith, some)) h in
    split ∙ rw (none_left cfg (length xs + 1 - length rows) s2 ys last) (append-nil rows)
