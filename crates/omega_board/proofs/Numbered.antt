-- Machines that are listed under distinct numbers.
use Rattle.std.proofs.Common.{◌≡◌, ℕ, zero, suc, Bool, true, false, nat_eq, List, [], ◌∷◌, slice_get, Some, refl, sym, ap, subst, ◌==◌}
use Rattle.std.specs.List.{filter, IsDistinct, AllByRecursion as Each}
use Rattle.std.proofs.lemmas.Bool.{both_ways, eqb-true, eq-eqb, false_from_ne_true}
use Rattle.std.proofs.lemmas.Map.Keys.{IsDistinct-head, IsDistinct-tail, IsDistinct-cons}
use Rattle.std.proofs.lemmas.Option.{none-some, same_Some}
use Rattle.omega_model.specs.Cell.{machine_at}
use Rattle.omega_model.specs.Machines.{is_listed, numbers_of}
use Rattle.omega_model.specs.declared.cells.Machine.{Machine}
use Rattle.omega_model.proofs.Lists.{by_answer}
use Rattle.omega_board.proofs.Places.{each_get}

-- numbers differ either way
pub differ_back : (a b : ℕ) → (a == b) ≡ false → (b == a) ≡ false
differ_back a b differ = false_from_ne_true _ (λ t. both_ways _ differ (eq-eqb _ _ (sym (eqb-true _ _ t))))

-- machines of other numbers than this one
abbrev pub Others : ℕ → List Machine → Type 0
Others id rows = Each (λ row. (row.id == id) ≡ false) rows

pub others_of : (id : ℕ) (rows : List Machine) → Each (λ n. nat_eq id n ≡ false) (numbers_of rows) → Others id rows
others_of id [] differ = tt
others_of id (row ∷ rows) differ = (differ_back id row.id differ.0, others_of id rows differ.1)

-- the first of distinct machines and those behind it
pub others_behind : (row : Machine) (rows : List Machine) → IsDistinct nat_eq (numbers_of (row ∷ rows)) → Others row.id rows
others_behind row rows distinct = others_of row.id rows (IsDistinct-head nat_eq row.id (numbers_of rows) distinct)

-- no machine behind the one of a number has the number
pub unlisted_behind : (id : ℕ) (rows : List Machine) → Each (λ n. nat_eq id n ≡ false) (numbers_of rows) → is_listed id rows ≡ false
unlisted_behind id [] differ = refl
unlisted_behind id (row ∷ rows) differ =
    let here : (row.id == id) ≡ false = differ_back id row.id differ.0 in
    rw here (unlisted_behind id rows differ.1)

-- some of distinct machines are distinct
pub distinct_kept : (p : Machine → Bool) (rows : List Machine) → IsDistinct nat_eq (numbers_of rows) → IsDistinct nat_eq (numbers_of (filter p rows))
distinct_kept p [] distinct = distinct
distinct_kept p (row ∷ rows) distinct =
    let rest = distinct_kept p rows (IsDistinct-tail nat_eq row.id (numbers_of rows) distinct) in
    by_answer (p row)
    (λ t. subst (λ ns. IsDistinct nat_eq (numbers_of ns)) (sym (kept t)) (IsDistinct-cons nat_eq row.id (numbers_of (filter p rows)) (fewer rows (IsDistinct-head nat_eq row.id (numbers_of rows) distinct)) rest))
    (λ f. rw f rest)
  where
    kept : p row ≡ true → filter p (row ∷ rows) ≡ row ∷ filter p rows
    kept t = rw t refl

    fewer : (rs : List Machine) → Each (λ n. nat_eq row.id n ≡ false) (numbers_of rs) → Each (λ n. nat_eq row.id n ≡ false) (numbers_of (filter p rs))
    fewer [] all = tt
    fewer (r ∷ rs) all = by_answer (p r) (λ t. rw t (all.0, fewer rs all.1)) (λ f. rw f (fewer rs all.1))

-- the machine at a place is found under its number
pub machine_there : (rows : List Machine) (place : ℕ) (row : Machine) → IsDistinct nat_eq (numbers_of rows) → slice_get rows place ≡ Some row → machine_at rows row.id ≡ Some row
machine_there [] place row distinct at = absurd (none-some row at)
machine_there (m ∷ ms) zero row distinct at =
    let same : m ≡ row = same_Some m row at in
    let here : (m.id == row.id) ≡ true = eq-eqb _ _ (ap (λ (r : Machine). r.id) same) in
    rw here (ap Some same)
machine_there (m ∷ ms) (suc place) row distinct at =
    let other : (m.id == row.id) ≡ false = differ_back row.id m.id (each_get (λ (r : Machine). (r.id == m.id) ≡ false) ms place row (others_behind m ms distinct) at) in
    rw other (machine_there ms place row (IsDistinct-tail nat_eq m.id (numbers_of ms) distinct) at)
