-- How often machines were touched.
use Rattle.std.proofs.Common.{◌≡◌, ℕ, ◌+◌, ◌<◌, true, false, ◌||◌, List, [], ◌∷◌, length, get_or, take, Option, Some, None, is_some, IsTrue, refl, sym, ap, ◌∙◌, subst, arith, if◌then◌else◌, ◌==◌, ◌⊎◌, inl, inr}
use Rattle.std.specs.List.{zip}
use Rattle.std.specs.List.Sorted.{IsStrictlyIncreasing}
use Rattle.std.specs.Option.{option_map, option_map_or}
use Rattle.std.proofs.Math.Bool.{or-false}
use Rattle.std.proofs.lemmas.Bool.{both_ways, eqb-true, eq-eqb}
use Rattle.std.proofs.lemmas.List.Folds.{list_any_more}
use Rattle.omega_model.specs.Machines.{is_listed}
use Rattle.omega_machines.specs.declared.MachineState.{MachineState}
use Rattle.omega_machines.specs.Table.{machines_of, state_at, seq_at, change_state, touched}
use Rattle.omega_machines.proofs.Laws.{listed_state, state_changed, others_unchanged}
use Rattle.omega_board.specs.Numbers.{is_among}
use Rattle.omega_board.proofs.Numbers.{not_before}
use Rattle.omega_model.proofs.Lists.{by_answer}

-- a touch counts on its machine and on no other
pub seq_touched : (table : List MachineState) (id other : ℕ) → IsTrue (is_listed id (machines_of table)) → seq_at (change_state id touched table) other ≡ seq_at table other + (if id == other then 1 else 0)
seq_touched table id other listed =
    by_answer (id == other)
    (λ t. rw t (subst (λ n. seq_at (change_state id touched table) n ≡ seq_at table n + 1) (eqb-true _ _ t) own))
    (λ f. rw f (ap (λ o. option_map_or (λ (s : MachineState). s.seq) o 0) (others_unchanged id touched (λ s. refl) table other (λ same. both_ways _ f (eq-eqb _ _ (sym same)))) ∙ omega arith))
  where
    by : (o : Option MachineState) → is_some o ≡ true → option_map_or (λ s. s.seq) (option_map touched o) 0 ≡ option_map_or (λ s. s.seq) o 0 + 1
    by None e = absurd (both_ways false refl e)
    by (Some s) e = refl

    own : seq_at (change_state id touched table) id ≡ seq_at table id + 1
    own = ap (λ o. option_map_or (λ (s : MachineState). s.seq) o 0) (state_changed id touched (λ s. refl) table) ∙ by (state_at table id) (sym (listed_state table id) ∙ listed)

-- nothing is left of pairs where one of the lists is at its end
pub zipped_out : {X Y : Type 0} (xs : List X) (ys : List Y) → (xs ≡ []) ⊎ (ys ≡ []) → zip xs ys ≡ []
zipped_out [] ys e = refl
zipped_out (x ∷ xs) [] e = refl
zipped_out (x ∷ xs) (y ∷ ys) (inl e) = absurd (cc)
zipped_out (x ∷ xs) (y ∷ ys) (inr e) = absurd (cc)

-- a count of some machines so far, each once: one more is counted
pub counted_more : (start now : ℕ → ℕ) (ids : List ℕ) (i d : ℕ) → IsStrictlyIncreasing ids → i < length ids → ((id : ℕ) → now id ≡ start id + (if is_among (take i ids) id then 1 else 0))
    → (id : ℕ) → now id + (if get_or ids i d == id then 1 else 0) ≡ start id + (if is_among (take (i + 1) ids) id then 1 else 0)
counted_more start now ids i d rises within so id =
    by_answer (get_or ids i d == id)
    (λ own.
    let first : is_among (take i ids) id ≡ false = subst (λ n. is_among (take i ids) n ≡ false) (eqb-true _ _ own) (not_before ids i d rises within) in
    let was : now id ≡ start id + 0 = rw first at (so id) in
    let will : is_among (take (i + 1) ids) id ≡ true = more ∙ rw (first, own) refl in
    rw (own, will) (omega (arith, was)))
    (λ other.
    let will : is_among (take (i + 1) ids) id ≡ is_among (take i ids) id = more ∙ rw other (or-false _) in
    rw (other, will) (omega (arith, so id)))
  where
    more : is_among (take (i + 1) ids) id ≡ (is_among (take i ids) id || get_or ids i d == id)
    more = list_any_more (λ n. n == id) ids i d within
