-- The rows of parts, put in place of what machines had.
use Rattle.std.proofs.Common.{◌≡◌, ℕ, suc, ◌+◌, Bool, true, false, nat_eq, List, [], ◌∷◌, ◌++◌, map, slice_get, Some, refl, sym, ap, ap₂, ◌∙◌, subst, arith, ◌==◌, if◌then◌else◌}
use Rattle.std.specs.List.{filter, flat_map, fold, enumerate_from, IsDistinct, AllByRecursion as Each}
use Rattle.std.proofs.lemmas.Bool.{both_ways, eqb-true, eq-eqb, false_from_ne_true}
use Rattle.std.proofs.lemmas.Map.Keys.{IsDistinct-head, IsDistinct-tail}
use Rattle.omega_model.specs.Cell.{Cell}
use Rattle.omega_model.specs.Machines.{is_listed, numbers_of, change, ensured, new_machine}
use Rattle.omega_model.specs.declared.cells.Machine.{Machine}
use Rattle.omega_model.specs.declared.delta.Part.{Part}
use Rattle.omega_machines.specs.declared.MachineState.{MachineState}
use Rattle.omega_machines.specs.Table.{machines_of, ensured_states}
use Rattle.omega_machines.proofs.Laws.{machines_ensured}
use Rattle.omega_board.specs.Parts.{part_in, ChangedAlone}
use Rattle.omega_board.specs.Putting.{listed_parts}
use Rattle.omega_board.proofs.Numbered.{Others, differ_back, others_behind, others_of}
use Rattle.omega_model.proofs.Lists.{by_answer, each_filter}

-- a list that is made to list machines
abbrev pub listing : List Machine → List Machine → List Machine
listing before rows = fold (λ machines row. ensured row.id machines) before rows

-- and one in which rows are put
abbrev pub putting : List Machine → List Machine → List Machine
putting before rows = fold (λ machines row. change row.id (λ _. row) machines) before rows

-- machines of other numbers leave a machine at the front
listing_skips : (first : Machine) (before rows : List Machine) → Others first.id rows → listing (first ∷ before) rows ≡ first ∷ listing before rows
listing_skips first before [] others = refl
listing_skips first before (row ∷ rows) others =
    let other : (first.id == row.id) ≡ false = differ_back row.id first.id others.0 in
    let one : ensured row.id (first ∷ before) ≡ first ∷ ensured row.id before =
    by_answer (is_listed row.id before) (λ t. rw (other, t) refl) (λ f. rw (other, f) refl) in
    ap (λ ms. listing ms rows) one ∙ listing_skips first (ensured row.id before) rows others.1

putting_skips : (first : Machine) (before rows : List Machine) → Others first.id rows → putting (first ∷ before) rows ≡ first ∷ putting before rows
putting_skips first before [] others = refl
putting_skips first before (row ∷ rows) others =
    let other : (first.id == row.id) ≡ false = differ_back row.id first.id others.0 in
    let one : change row.id (λ _. row) (first ∷ before) ≡ first ∷ change row.id (λ _. row) before = rw other refl in
    ap (λ ms. putting ms rows) one ∙ putting_skips first (change row.id (λ _. row) before) rows others.1

-- a row put on the first machine
put_first : (first row : Machine) (rows : List Machine) → first.id ≡ row.id → Others row.id rows → change row.id (λ _. row) (first ∷ rows) ≡ row ∷ rows
put_first first row rows same others =
    let here : (first.id == row.id) ≡ true = eq-eqb _ _ same in
    rw here (ap (λ ms. row ∷ ms) (unchanged rows others))
  where
    unchanged : (rs : List Machine) → Others row.id rs → change row.id (λ _. row) rs ≡ rs
    unchanged [] os = refl
    unchanged (r ∷ rs) os = rw os.0 (ap (λ ms. r ∷ ms) (unchanged rs os.1))

-- where the rows that changed are put on machines made to list them, the machines are the target's
pub rows_put : (changed : ℕ → Bool) (before next : List Machine) → ChangedAlone changed before next → IsDistinct nat_eq (numbers_of next)
    → (numbers_of (listing before (filter (λ row. changed row.id) next)) ≡ numbers_of next)
    × (putting (listing before (filter (λ row. changed row.id) next)) (filter (λ row. changed row.id) next) ≡ next)
rows_put changed [] [] alone distinct = (refl, refl)
rows_put changed (m ∷ ms) [] alone distinct = absurd alone
rows_put changed [] (n ∷ ns) alone distinct =
    let kept : List Machine = filter (λ row. changed row.id) ns in
    let rest = rows_put changed [] ns alone.1 (IsDistinct-tail nat_eq n.id (numbers_of ns) distinct) in
    let others : Others n.id kept = each_filter (λ row. (row.id == n.id) ≡ false) (λ row. changed row.id) ns (others_behind n ns distinct) in
    let first : listing [] (n ∷ kept) ≡ new_machine n.id ∷ listing [] kept = listing_skips (new_machine n.id) [] kept others in
    let differ : Others n.id (listing [] kept) = others_of n.id (listing [] kept) (subst (Each (λ k. nat_eq n.id k ≡ false)) (sym rest.0) (IsDistinct-head nat_eq n.id (numbers_of ns) distinct)) in
    rw alone.0 (
      ap numbers_of first ∙ ap (λ ks. n.id ∷ ks) rest.0,
      ap (λ rows. putting rows (n ∷ kept)) first
          ∙ ap (λ rows. putting rows kept) (put_first (new_machine n.id) n (listing [] kept) refl differ)
          ∙ putting_skips n (listing [] kept) kept others ∙ ap (λ rows. n ∷ rows) rest.1,
    )
rows_put changed (m ∷ ms) (n ∷ ns) alone distinct =
    let kept : List Machine = filter (λ row. changed row.id) ns in
    let same : n.id ≡ m.id = alone.0.0 in
    let rest = rows_put changed ms ns alone.1 (IsDistinct-tail nat_eq n.id (numbers_of ns) distinct) in
    let others : Others n.id kept = each_filter (λ row. (row.id == n.id) ≡ false) (λ row. changed row.id) ns (others_behind n ns distinct) in
    let others_too : Others m.id kept = subst (λ k. Others k kept) same others in
    let first : listing (m ∷ ms) kept ≡ m ∷ listing ms kept = listing_skips m ms kept others_too in
    by_answer (changed n.id)
    (λ t.
    let listed : (m.id == n.id) ≡ true = eq-eqb _ _ (sym same) in
    let stays : ensured n.id (m ∷ ms) ≡ m ∷ ms = rw listed refl in
    let all : listing (m ∷ ms) (n ∷ kept) ≡ m ∷ listing ms kept = ap (λ rows. listing rows kept) stays ∙ first in
    let differ : Others n.id (listing ms kept) = others_of n.id (listing ms kept) (subst (Each (λ k. nat_eq n.id k ≡ false)) (sym rest.0) (IsDistinct-head nat_eq n.id (numbers_of ns) distinct)) in
    subst (λ rows. (numbers_of (listing (m ∷ ms) rows) ≡ numbers_of (n ∷ ns)) × (putting (listing (m ∷ ms) rows) rows ≡ n ∷ ns)) (sym (kept_first t)) (
      ap numbers_of all ∙ ap₂ (λ k ks. k ∷ ks) (sym same) rest.0,
      ap (λ rows. putting rows (n ∷ kept)) all
          ∙ ap (λ rows. putting rows kept) (put_first m n (listing ms kept) (sym same) differ)
          ∙ putting_skips n (listing ms kept) kept others ∙ ap (λ rows. n ∷ rows) rest.1,
    ))
    (λ f.
    subst (λ rows. (numbers_of (listing (m ∷ ms) rows) ≡ numbers_of (n ∷ ns)) × (putting (listing (m ∷ ms) rows) rows ≡ n ∷ ns)) (sym (kept_later f)) (
      ap numbers_of first ∙ ap₂ (λ k ks. k ∷ ks) (sym same) rest.0,
      ap (λ rows. putting rows kept) first ∙ putting_skips m (listing ms kept) kept others_too ∙ ap₂ (λ (r : Machine) rs. r ∷ rs) (sym (alone.0.1 f)) rest.1,
    ))
  where
    kept_first : changed n.id ≡ true → filter (λ row. changed row.id) (n ∷ ns) ≡ n ∷ filter (λ row. changed row.id) ns
    kept_first t = rw t refl

    kept_later : changed n.id ≡ false → filter (λ row. changed row.id) (n ∷ ns) ≡ filter (λ row. changed row.id) ns
    kept_later f = rw f refl

-- the last sequence number that rows give a machine is that of its row
pub seq_kept : (seqs : ℕ → ℕ) (id : ℕ) (rows : List Machine) (seq : ℕ)
    → fold (λ n row. if row.id == id then seqs row.id else n) seq rows ≡ (if is_listed id rows then seqs id else seq)
seq_kept seqs id [] seq = refl
seq_kept seqs id (row ∷ rows) seq =
    by_answer (row.id == id)
    (λ t.
    let same : seqs row.id ≡ seqs id = ap seqs (eqb-true _ _ t) in
    rw t (seq_kept seqs id rows (seqs row.id) ∙ by_answer (is_listed id rows) (λ h. rw h refl) (λ h. rw h same)))
    (λ f. rw f (seq_kept seqs id rows seq))

-- a machine that changed is among those that did, and no other
pub listed_still : (changed : ℕ → Bool) (id : ℕ) → changed id ≡ true → (rows : List Machine) → is_listed id rows ≡ true → is_listed id (filter (λ row. changed row.id) rows) ≡ true
listed_still changed id is [] listed = listed
listed_still changed id is (row ∷ rows) listed =
    by_answer (row.id == id)
    (λ t. let kept : changed row.id ≡ true = ap changed (eqb-true _ _ t) ∙ is in rw (kept, t) refl)
    (λ f.
    let rest = listed_still changed id is rows (rw f at listed) in
    by_answer (changed row.id) (λ k. rw (k, f) rest) (λ k. rw k rest))

pub unlisted_still : (changed : ℕ → Bool) (id : ℕ) → changed id ≡ false → (rows : List Machine) → is_listed id (filter (λ row. changed row.id) rows) ≡ false
unlisted_still changed id isnt [] = refl
unlisted_still changed id isnt (row ∷ rows) =
    let rest = unlisted_still changed id isnt rows in
    by_answer (changed row.id)
    (λ k.
    let other : (row.id == id) ≡ false = false_from_ne_true _ (λ t. both_ways _ isnt (ap changed (sym (eqb-true _ _ t)) ∙ k)) in
    rw (k, other) rest)
    (λ k. rw k rest)

-- the machines of a table that lists the machines of parts
pub listed_machines : (table : List MachineState) (parts : List Part) → machines_of (listed_parts table parts) ≡ fold (λ machines part. ensured part.machine.id machines) (machines_of table) parts
listed_machines table [] = refl
listed_machines table (part ∷ parts) =
    listed_machines (ensured_states part.machine.id table) parts
    ∙ ap (λ ms. fold (λ (machines : List Machine) (p : Part). ensured p.machine.id machines) ms parts) (machines_ensured part.machine.id table)

module _ (changed : ℕ → Bool) (next : Cell) (seqs : ℕ → ℕ) where
  -- the parts of the rows from a position on
  abbrev pub parts_from : ℕ → List Machine → List Part
  parts_from n rows = map (part_in next seqs) (filter (λ (place, row). changed row.id) (enumerate_from n rows))

  -- what is made of each part is made of each row
  pub parts_flat : {X : Type 0} (f : Part → List X) (h : Machine → List X) → ((place : ℕ) (row : Machine) → f (part_in next seqs (place, row)) ≡ h row)
      → (n : ℕ) (rows : List Machine) → flat_map f (parts_from n rows) ≡ flat_map h (filter (λ row. changed row.id) rows)
  parts_flat f h same n [] = refl
  parts_flat f h same n (row ∷ rows) =
      let rest = parts_flat f h same (n + 1) rows in
      by_answer (changed row.id) (λ t. rw t (ap₂ (λ a b. a ++ b) (same n row) rest)) (λ t. rw t rest)

  pub parts_fold : {S : Type 0} (f : S → Part → S) (h : S → Machine → S) → ((s : S) (place : ℕ) (row : Machine) → f s (part_in next seqs (place, row)) ≡ h s row)
      → (n : ℕ) (rows : List Machine) (s : S) → fold f s (parts_from n rows) ≡ fold h s (filter (λ row. changed row.id) rows)
  parts_fold f h same n [] s = refl
  parts_fold f h same n (row ∷ rows) s =
      by_answer (changed row.id)
      (λ t.
      rw t (
      parts_fold f h same (n + 1) rows (f s (part_in next seqs (n, row)))
      ∙ ap (λ z. fold h z (filter (λ r. changed r.id) rows)) (same s n row)))
      (λ t. rw t (parts_fold f h same (n + 1) rows s))

  -- what holds of the part of each row holds of the parts
  pub parts_each : (P : Part → Type 0) (n : ℕ) (rows : List Machine) → ((i : ℕ) (row : Machine) → slice_get rows i ≡ Some row → P (part_in next seqs (n + i, row))) → Each P (parts_from n rows)
  parts_each P n [] each = tt
  parts_each P n (row ∷ rows) each =
      let first : P (part_in next seqs (n, row)) = let same : n + 0 ≡ n = omega arith in subst (λ k. P (part_in next seqs (k, row))) same (each 0 row refl) in
      let rest : Each P (parts_from (n + 1) rows) =
      parts_each P (n + 1) rows (λ i r at. let later : n + suc i ≡ (n + 1) + i = omega arith in subst (λ k. P (part_in next seqs (k, r))) later (each (suc i) r at)) in
      by_answer (changed row.id) (λ t. rw t (first, rest)) (λ t. rw t rest)
