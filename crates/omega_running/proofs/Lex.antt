-- Orders by a number first, and by a second test where the numbers are equal.
use Rattle.std.proofs.Common.{◌≡◌, ℕ, ◌<◌, ◌≤◌, Bool, true, false, ◌||◌, ◌&&◌, not, eqb, ltb, refl, sym, ◌∙◌, inl, inr, arith}
use Rattle.std.proofs.lemmas.Bool.{lt-ltb, le-ltb, eq-eqb, ne_eqb, ltb-true, eqb-true, and_parts, or_cases, both_ways, cases_order, or_left, or_right}

abbrev pub lex : ℕ → ℕ → Bool → Bool
lex a b rest = ltb a b || (eqb a b && rest)

pub lex_lt : (a b : ℕ) (rest : Bool) → a < b → lex a b rest ≡ true
lex_lt a b rest p = rw (lt-ltb a b p) refl

pub lex_same : (a b : ℕ) (rest : Bool) → a ≡ b → lex a b rest ≡ rest
lex_same a b rest e = rw (le-ltb a b (omega arith), eq-eqb a b e) refl

pub lex_gt : (a b : ℕ) (rest : Bool) → b < a → lex a b rest ≡ false
lex_gt a b rest p = rw (le-ltb a b (omega arith), ne_eqb a b (omega arith)) refl

pub lex_asym : (a b : ℕ) (r s : Bool) → (r ≡ true → s ≡ false) → lex a b r ≡ true → lex b a s ≡ false
lex_asym a b r s f p =
    elim (cases_order a b) [
      | inl e ↦ lex_same b a s (sym e) ∙ f (sym (lex_same a b r e) ∙ p)
      | inr (inl less) ↦ lex_gt b a s less
      | inr (inr more) ↦ absurd (both_ways _ (lex_gt a b r more) p)
    ]

pub lex_link : (a b c : ℕ) (r s t : Bool) → (r ≡ true → (s || t) ≡ true) → lex a b r ≡ true → (lex a c s || lex c b t) ≡ true
lex_link a b c r s t f p =
    elim (cases_order a b) [
      | inl e ↦ elim (cases_order a c) [
        | inl d ↦ rw (lex_same a c s d, lex_same c b t (sym d ∙ e)) (f (sym (lex_same a b r e) ∙ p))
        | inr (inl less) ↦ or_left _ _ (lex_lt a c s less)
        | inr (inr more) ↦ or_right _ _ (lex_lt c b t (omega arith))
      ]
      | inr (inl low) ↦ elim (cases_order a c) [
        | inl d ↦ or_right _ _ (lex_lt c b t (omega arith))
        | inr (inl less) ↦ or_left _ _ (lex_lt a c s less)
        | inr (inr more) ↦ or_right _ _ (lex_lt c b t (omega arith))
      ]
      | inr (inr high) ↦ absurd (both_ways _ (lex_gt a b r high) p)
    ]

-- one stands before the other exactly where they differ
pub lex_apart : (a b : ℕ) (r s q : Bool) → (r || s) ≡ not q → (lex a b r || lex b a s) ≡ not (eqb a b && q)
lex_apart a b r s q f =
    elim (cases_order a b) [
      | inl e ↦ rw (lex_same a b r e, lex_same b a s (sym e), eq-eqb a b e) f
      | inr (inl less) ↦ rw (lex_lt a b r less, ne_eqb a b (omega arith)) refl
      | inr (inr more) ↦ rw (lex_gt a b r more, lex_lt b a s more, ne_eqb a b (omega arith)) refl
    ]

pub lt_link : (a b c : ℕ) → ltb a b ≡ true → (ltb a c || ltb c b) ≡ true
lt_link a b c p =
    let h : a < b = ltb-true a b p in
    elim (cases_order a c) [
      | inl d ↦ or_right _ _ (lt-ltb c b (omega arith))
      | inr (inl less) ↦ or_left _ _ (lt-ltb a c less)
      | inr (inr more) ↦ or_right _ _ (lt-ltb c b (omega arith))
    ]

pub lt_apart : (a b : ℕ) → (ltb a b || ltb b a) ≡ not (eqb a b)
lt_apart a b =
    elim (cases_order a b) [
      | inl e ↦ rw (le-ltb a b (omega arith), le-ltb b a (omega arith), eq-eqb a b e) refl
      | inr (inl less) ↦ rw (lt-ltb a b less, ne_eqb a b (omega arith)) refl
      | inr (inr more) ↦ rw (le-ltb a b (omega arith), lt-ltb b a more, ne_eqb a b (omega arith)) refl
    ]

-- what an order by a number says of the number
pub lex_rises : (a b : ℕ) (rest : Bool) → lex a b rest ≡ true → a ≤ b
lex_rises a b rest p =
    elim (or_cases (ltb a b) (eqb a b && rest) p) [
      | inl e ↦ let h : a < b = ltb-true a b e in omega arith
      | inr e ↦ let h : a ≡ b = eqb-true a b (and_parts _ _ e).0 in omega arith
    ]

pub lex_trans : (a b c : ℕ) (r s t : Bool) → (r ≡ true → s ≡ true → t ≡ true) → lex a b r ≡ true → lex b c s ≡ true → lex a c t ≡ true
lex_trans a b c r s t f p q =
    let ab = lex_rises a b r p in
    let bc = lex_rises b c s q in
    elim (cases_order a c) [
      | inl e ↦
          let same : a ≡ b = omega arith in
          let then' : b ≡ c = omega arith in
          lex_same a c t e ∙ f (sym (lex_same a b r same) ∙ p) (sym (lex_same b c s then') ∙ q)
      | inr (inl less) ↦ lex_lt a c t less
      | inr (inr more) ↦ absurd (omega arith)
    ]

pub lt_trans : (a b c : ℕ) (rest : Bool) → ltb a b ≡ true → lex b c rest ≡ true → ltb a c ≡ true
lt_trans a b c rest p q =
    let h : a < b = ltb-true a b p in
    let k : b ≤ c = lex_rises b c rest q in
    lt-ltb a c (omega arith)

pub trans_lt : (a b c : ℕ) (rest : Bool) → lex a b rest ≡ true → ltb b c ≡ true → ltb a c ≡ true
trans_lt a b c rest p q =
    let h : a ≤ b = lex_rises a b rest p in
    let k : b < c = ltb-true b c q in
    lt-ltb a c (omega arith)
