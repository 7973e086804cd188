-- What the order of two names of tasks says of their tests.
use Rattle.std.proofs.Common.{◌≡◌, ◌<◌, true, false, refl, ap, sym, ◌∙◌, inl, inr, arith, subst}
use Rattle.std.specs.declared.cmp.Ordering.{Ordering}
use Rattle.std.specs.declared.cmp.Ordering.TheVariants.{Less, Equal, Greater}
use Rattle.std.proofs.lemmas.Bool.{both_ways, cases_Bool, cases_order, eq-eqb, le-ltb, lt-ltb, ne_eqb}
use Rattle.omega_model.proofs.InOrder.{key_asym}
use Rattle.omega_model.specs.Keys.{same_key, key_lt}
use Rattle.omega_model.specs.declared.cells.TaskKey.{TaskKey}
use Rattle.omega_feed.specs.Index.{key_cmp}

-- what the order of two keys says of their tests
abbrev pub Facts : Ordering → TaskKey → TaskKey → Type 0
Facts Less a b = (key_lt a b ≡ true) × (key_lt b a ≡ false) × (same_key b a ≡ false) × (same_key a b ≡ false)
Facts Equal a b = a ≡ b
Facts Greater a b = (key_lt a b ≡ false) × (key_lt b a ≡ true) × (same_key b a ≡ false) × (same_key a b ≡ false)

one_key : (a b : TaskKey) → a.job ≡ b.job → a.index ≡ b.index → a ≡ b
one_key a b p q =
    ap (λ j. let key : TaskKey = record { job = j; index = a.index } in key) p
    ∙ ap (λ i. let key : TaskKey = record { job = b.job; index = i } in key) q

at_facts : (a b : TaskKey) (o : Ordering) → key_cmp a b ≡ o → Facts o a b → Facts (key_cmp a b) a b
at_facts a b o is f = let P : Ordering → Type 0 = λ z. Facts z a b in subst P (sym is) f

pub by_job : (a b : TaskKey) → a.job < b.job → (key_cmp a b ≡ Less) × (key_cmp b a ≡ Greater) × (key_lt a b ≡ true) × (key_lt b a ≡ false) × (same_key b a ≡ false) × (same_key a b ≡ false)
by_job a b less =
    let p = lt-ltb a.job b.job less in
    let q = le-ltb b.job a.job (omega arith) in
    let n = ne_eqb b.job a.job (λ d. omega arith) in
    let m = ne_eqb a.job b.job (λ d. omega arith) in
    (rw p refl, rw (q, n) refl, rw p refl, rw (q, n) refl, rw n refl, rw m refl)

by_index : (a b : TaskKey) → a.job ≡ b.job → a.index < b.index → (key_cmp a b ≡ Less) × (key_cmp b a ≡ Greater) × (key_lt a b ≡ true) × (key_lt b a ≡ false) × (same_key b a ≡ false) × (same_key a b ≡ false)
by_index a b e less =
    let s = le-ltb a.job b.job (omega arith) in
    let t = le-ltb b.job a.job (omega arith) in
    let u = eq-eqb a.job b.job e in
    let v = eq-eqb b.job a.job (sym e) in
    let p = lt-ltb a.index b.index less in
    let q = le-ltb b.index a.index (omega arith) in
    let n = ne_eqb b.index a.index (λ d. omega arith) in
    let m = ne_eqb a.index b.index (λ d. omega arith) in
    (rw (s, u, p) refl, rw (t, v, q, n) refl, rw (s, u, p) refl, rw (t, v, q) refl, rw (v, n) refl, rw (u, m) refl)

pub facts : (a b : TaskKey) → Facts (key_cmp a b) a b
facts a b =
    elim (cases_order a.job b.job) [
      | inl e ↦ elim (cases_order a.index b.index) [
        | inl d ↦ at_facts a b Equal (rw (le-ltb a.job b.job (omega arith), eq-eqb a.job b.job e, le-ltb a.index b.index (omega arith), eq-eqb a.index b.index d) refl) (one_key a b e d)
        | inr (inl less) ↦ let f = by_index a b e less in at_facts a b Less f.0 (f.2, f.3, f.4, f.5)
        | inr (inr more) ↦ let f = by_index b a (sym e) more in at_facts a b Greater f.1 (f.3, f.2, f.5, f.4)
      ]
      | inr (inl less) ↦ let f = by_job a b less in at_facts a b Less f.0 (f.2, f.3, f.4, f.5)
      | inr (inr more) ↦ let f = by_job b a more in at_facts a b Greater f.1 (f.3, f.2, f.5, f.4)
    ]

pub as_facts : (a b : TaskKey) (o : Ordering) → key_cmp a b ≡ o → Facts o a b
as_facts a b o is = let P : Ordering → Type 0 = λ z. Facts z a b in subst P is (facts a b)

pub key_irrefl : (a : TaskKey) → key_lt a a ≡ false
key_irrefl a = elim (cases_Bool (key_lt a a)) [ inl e ↦ key_asym a a e | inr e ↦ e ]

-- a key is greater than one that stands before it
pub greater : (a b : TaskKey) → key_lt a b ≡ true → key_cmp b a ≡ Greater
greater a b less = go (key_cmp b a) (facts b a) where
  go : (o : Ordering) → Facts o b a → o ≡ Greater
  go Less f = absurd (both_ways _ f.1 less)
  go Equal f = absurd (both_ways _ (key_irrefl a) (subst (λ (k : TaskKey). key_lt a k ≡ true) f less))
  go Greater f = refl
