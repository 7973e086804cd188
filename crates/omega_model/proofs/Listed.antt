-- The list of machines, when one is changed or a new one is appended.
use Rattle.std.proofs.Common.{◌≡◌, ℕ, Bool, true, false, nat_eq, List, [], ◌∷◌, ◌++◌, Option, Some, refl, sym, ap, subst, ◌∙◌, ◌==◌}
use Rattle.std.specs.Cmp.{nat_eq_equiv}
use Rattle.std.specs.List.{list_any, IsDistinct, AllByRecursion as Each}
use Rattle.std.proofs.lemmas.Bool.{both_ways, eqb-true, eq-eqb, or_parts}
use Rattle.std.proofs.lemmas.List.{map-append}
use Rattle.std.proofs.lemmas.Map.Keys.{IsDistinct-head, IsDistinct-tail, IsDistinct-push}
use Rattle.omega_model.specs.Cell.{machine_at}
use Rattle.omega_model.specs.Judge.{is_up}
use Rattle.omega_model.specs.Machines.{numbers_of, change, is_listed, new_machine, ensured}
use Rattle.omega_model.specs.declared.cells.Machine.{Machine}
use Rattle.omega_model.proofs.Lists.{by_answer, each_append}

-- whether the machine of this number is up
abbrev pub up_at : List Machine → ℕ → Bool
up_at machines id = is_up (machine_at machines id)

-- the only machine of a number is the one that is found
others_not : (id : ℕ) (found : Machine) (ms : List Machine) → Each (λ n. nat_eq id n ≡ false) (numbers_of ms) → Each (λ m. (m.id == id) ≡ true → Some found ≡ Some m) ms
others_not id found [] differ = tt
others_not id found (m ∷ ms) differ =
    (λ same. absurd (both_ways _ differ.0 (eq-eqb _ _ (sym (eqb-true _ _ same)))), others_not id found ms differ.1)

pub only_machine : (ms : List Machine) (id : ℕ) (found : Option Machine) → IsDistinct nat_eq (numbers_of ms) → machine_at ms id ≡ found
    → Each (λ m. (m.id == id) ≡ true → found ≡ Some m) ms
only_machine [] id found distinct is = tt
only_machine (m ∷ ms) id found distinct is = by_answer (m.id == id)
    (λ t.
    let first : Some m ≡ found = rw t at is in
    let differ : Each (λ n. nat_eq id n ≡ false) (numbers_of ms) =
    subst (λ k. Each (λ n. nat_eq k n ≡ false) (numbers_of ms)) (eqb-true _ _ t) (IsDistinct-head nat_eq m.id (numbers_of ms) distinct) in
    (λ same. sym first, subst (λ o. Each (λ x. (x.id == id) ≡ true → o ≡ Some x) ms) first (others_not id m ms differ)))
    (λ f. (λ same. absurd (both_ways _ f same), only_machine ms id found (IsDistinct-tail nat_eq m.id (numbers_of ms) distinct) (rw f at is)))

module _ (id : ℕ) (f : Machine → Machine) (keeps : (m : Machine) → (f m).id ≡ m.id) where
  -- a change keeps the numbers
  pub numbers_changed : (ms : List Machine) → numbers_of (change id f ms) ≡ numbers_of ms
  numbers_changed [] = refl
  numbers_changed (m ∷ ms) = by_answer (m.id == id)
      (λ t. rw t (λ i. keeps m i ∷ numbers_changed ms i))
      (λ t. rw t (ap (λ ns. m.id ∷ ns) (numbers_changed ms)))

  -- the machine that a search finds after a change is up, where it was and the change lets it be
  pub up_changed : ((m : Machine) → m.up ≡ true → (f m).up ≡ true) → (ms : List Machine) (n : ℕ) → up_at ms n ≡ true → up_at (change id f ms) n ≡ true
  up_changed lets [] n up = up
  up_changed lets (m ∷ ms) n up = by_answer (m.id == id)
      (λ t. rw t (by_answer (m.id == n)
      (λ here. let there : ((f m).id == n) ≡ true = ap (λ k. k == n) (keeps m) ∙ here in rw there (lets m (rw here at up)))
      (λ past. let still : ((f m).id == n) ≡ false = ap (λ k. k == n) (keeps m) ∙ past in rw still (up_changed lets ms n (rw past at up)))))
      (λ t. rw t (by_answer (m.id == n)
      (λ here. rw here (rw here at up))
      (λ past. rw past (up_changed lets ms n (rw past at up)))))

  -- and so is a machine of another number
  pub up_unchanged : (ms : List Machine) (n : ℕ) → (n == id) ≡ false → up_at ms n ≡ true → up_at (change id f ms) n ≡ true
  up_unchanged [] n other up = up
  up_unchanged (m ∷ ms) n other up = by_answer (m.id == id)
      (λ t.
      let past : (m.id == n) ≡ false = by_answer (m.id == n) (λ here. absurd (both_ways _ other (eq-eqb _ _ (sym (eqb-true _ _ here) ∙ eqb-true _ _ t)))) (λ e. e) in
      let still : ((f m).id == n) ≡ false = ap (λ k. k == n) (keeps m) ∙ past in
      rw (t, still) (up_unchanged ms n other (rw past at up)))
      (λ t. rw t (by_answer (m.id == n)
      (λ here. rw here (rw here at up))
      (λ past. rw past (up_unchanged ms n other (rw past at up)))))

  -- what holds of the machines after one was changed
  pub each_changed : (P Q : Machine → Type 0) → ((m : Machine) → (m.id == id) ≡ true → P m → Q (f m)) → ((m : Machine) → (m.id == id) ≡ false → P m → Q m)
      → (ms : List Machine) → Each P ms → Each Q (change id f ms)
  each_changed P Q own other [] each = tt
  each_changed P Q own other (m ∷ ms) each =
      let rest = each_changed P Q own other ms each.1 in
      by_answer (m.id == id)
      (λ t. rw t (own m t each.0, rest))
      (λ t. rw t (other m t each.0, rest))

-- a machine that is up is listed
pub listed_up : (ms : List Machine) (id : ℕ) → up_at ms id ≡ true → is_listed id ms ≡ true
listed_up [] id up = absurd (both_ways _ refl up)
listed_up (m ∷ ms) id up = by_answer (m.id == id)
    (λ t. rw t refl)
    (λ f. rw f (listed_up ms id (rw f at up)))

-- a machine that is up is so behind which another is appended
up_appended : (ms more : List Machine) (id : ℕ) → up_at ms id ≡ true → up_at (ms ++ more) id ≡ true
up_appended [] more id up = absurd (both_ways _ refl up)
up_appended (m ∷ ms) more id up = by_answer (m.id == id)
    (λ t. rw t (rw t at up))
    (λ f. rw f (up_appended ms more id (rw f at up)))

pub up_ensured : (id : ℕ) (ms : List Machine) (n : ℕ) → up_at ms n ≡ true → up_at (ensured id ms) n ≡ true
up_ensured id ms n up = by_answer (is_listed id ms)
    (λ t. rw t up)
    (λ f. rw f (up_appended ms (new_machine id ∷ []) n up))

unlisted_number : (id : ℕ) (ms : List Machine) → is_listed id ms ≡ false → list_any (nat_eq id) (numbers_of ms) ≡ false
unlisted_number id [] absent = refl
unlisted_number id (m ∷ ms) absent =
    let parts = or_parts (m.id == id) (is_listed id ms) absent in
    let here : nat_eq id m.id ≡ false = by_answer (nat_eq id m.id) (λ t. absurd (both_ways _ parts.0 (eq-eqb _ _ (sym (eqb-true _ _ t))))) (λ e. e) in
    rw here (unlisted_number id ms parts.1)

pub numbers_ensured : (id : ℕ) (ms : List Machine) → IsDistinct nat_eq (numbers_of ms) → IsDistinct nat_eq (numbers_of (ensured id ms))
numbers_ensured id ms distinct = by_answer (is_listed id ms)
    (λ t. rw t distinct)
    (λ f. rw f (subst (IsDistinct nat_eq) (sym (map-append (λ (m : Machine). m.id) ms (new_machine id ∷ [])))
    (IsDistinct-push nat_eq_equiv (numbers_of ms) id distinct (unlisted_number id ms f))))

-- what holds of each machine, and of a new one where it isn't listed
pub each_ensured : (P : Machine → Type 0) (id : ℕ) (ms : List Machine) → (is_listed id ms ≡ false → P (new_machine id)) → Each P ms → Each P (ensured id ms)
each_ensured P id ms new each = by_answer (is_listed id ms)
    (λ t. rw t each)
    (λ f. rw f (each_append P ms (new_machine id ∷ []) each (new f, tt)))
