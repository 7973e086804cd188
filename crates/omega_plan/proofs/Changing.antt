-- What entries change in a cell: the machines that they touch, and the tasks on them.
use Rattle.std.proofs.Common.{◌≡◌, ℕ, ◌+◌, inl, inr, Bool, true, false, ◌||◌, List, [], ◌∷◌, ◌++◌, IsTrue, refl, sym, ap, ◌∙◌, subst, arith, append_assoc, ◌==◌, if◌then◌else◌}
use Rattle.std.specs.List.{filter, fold, list_any, zip}
use Rattle.std.proofs.lemmas.Bool.{both_ways, eqb-true, eq-eqb, false_from_ne_true, or_left, or_right, or_cases, or_parts}
use Rattle.std.proofs.lemmas.List.Folds.{list_any-append}
use Rattle.omega_model.specs.Applying.{MayApply}
use Rattle.omega_model.specs.Cell.{Cell, empty_cell, machine_at, is_on}
use Rattle.omega_model.specs.Judge.{is_up}
use Rattle.omega_model.specs.Keys.{same_key}
use Rattle.omega_model.specs.Legal.{Sound}
use Rattle.omega_model.specs.Machines.{is_listed, change, ensured, new_machine, added, updated, removed, attr_set, attr_deleted}
use Rattle.omega_model.specs.State.{state, step, machines_after}
use Rattle.omega_model.specs.Touches.{touches, seq}
use Rattle.omega_model.specs.declared.cells.Machine.{Machine}
use Rattle.omega_model.specs.declared.cells.Task.{Task}
use Rattle.omega_model.specs.declared.entries.Entry.{Entry}
use Rattle.omega_model.specs.declared.entries.Entry.TheVariants.{Round, MachineAdd, MachineUpdate, MachineRemove, AttrSet, AttrDelete, End, Commit}
use Rattle.omega_model.proofs.Growing.{state_push}
use Rattle.omega_model.proofs.Lists.{by_answer, each_of_all, each_found}
use Rattle.omega_running.specs.declared.orders.Order.TheVariants.{ByKey}
use Rattle.omega_running.specs.Order.{IsInOrder}
use Rattle.omega_board.specs.Parts.{ChangedAlone}
use Rattle.omega_board.proofs.Commits.{up_listed, placed_listed}
use Rattle.omega_board.proofs.Histories.{seq_push}
use Rattle.omega_board.proofs.Ranks.{ending}
use Rattle.omega_plan.proofs.Applied.{MayAll, applied_sound, applied_held}
use Rattle.omega_board.proofs.Untouched.{tasks_untouched}

-- a list and itself
pub alone_same : (changed : ℕ → Bool) (rows : List Machine) → ChangedAlone changed rows rows
alone_same changed [] = tt
alone_same changed (row ∷ rows) = ((refl, λ _. refl), alone_same changed rows)

-- one change after another
alone_trans : (first second both : ℕ → Bool) → ((id : ℕ) → first id ≡ true → both id ≡ true) → ((id : ℕ) → second id ≡ true → both id ≡ true) → (old mid new : List Machine)
    → ChangedAlone first old mid → ChangedAlone second mid new → ChangedAlone both old new
alone_trans first second both more too [] [] [] one two = tt
alone_trans first second both more too [] [] (n ∷ ns) one two = (too n.id two.0, alone_trans first second both more too [] [] ns tt two.1)
alone_trans first second both more too [] (k ∷ ks) [] one two = absurd two
alone_trans first second both more too [] (k ∷ ks) (n ∷ ns) one two =
    (ap both two.0.0 ∙ more k.id one.0, alone_trans first second both more too [] ks ns one.1 two.1)
alone_trans first second both more too (m ∷ ms) [] new one two = absurd one
alone_trans first second both more too (m ∷ ms) (k ∷ ks) [] one two = absurd two
alone_trans first second both more too (m ∷ ms) (k ∷ ks) (n ∷ ns) one two = (
  (
    two.0.0 ∙ one.0.0,
    λ fresh.
        two.0.1 (false_from_ne_true _ (λ t. both_ways _ fresh (too n.id t)))
        ∙ one.0.1 (false_from_ne_true _ (λ t. both_ways _ fresh (ap both two.0.0 ∙ more k.id t))),
  ),
  alone_trans first second both more too ms ks ns one.1 two.1,
)

-- the same where more may change
pub alone_more : (changed more : ℕ → Bool) → ((id : ℕ) → changed id ≡ true → more id ≡ true) → (old new : List Machine) → ChangedAlone changed old new → ChangedAlone more old new
alone_more changed more also old new alone = alone_trans changed changed more also also old new new alone (alone_same changed new)

module _ (machine : ℕ) (f : Machine → Machine) (keeps : (m : Machine) → (f m).id ≡ m.id) where
  alone_changed : (rows : List Machine) → ChangedAlone (λ id. machine == id) rows (change machine f rows)
  alone_changed [] = tt
  alone_changed (m ∷ ms) =
      by_answer (m.id == machine)
      (λ t. rw t ((keeps m, λ fresh. absurd (both_ways _ fresh (eq-eqb _ _ (sym (keeps m ∙ eqb-true _ _ t))))), alone_changed ms))
      (λ e. rw e ((refl, λ _. refl), alone_changed ms))

  alone_pushed : (rows : List Machine) → ChangedAlone (λ id. machine == id) rows (rows ++ new_machine machine ∷ [])
  alone_pushed [] = (eq-eqb machine machine refl, tt)
  alone_pushed (m ∷ ms) = ((refl, λ _. refl), alone_pushed ms)

  alone_ensured : (rows : List Machine) → ChangedAlone (λ id. machine == id) rows (ensured machine rows)
  alone_ensured rows = by_answer (is_listed machine rows) (λ t. rw t (alone_same (λ id. machine == id) rows)) (λ e. rw e (alone_pushed rows))

  -- a machine is changed, listed first where it isn't
  alone_touched : (rows : List Machine) → ChangedAlone (λ id. machine == id) rows (change machine f (ensured machine rows))
  alone_touched rows =
      alone_trans (λ id. machine == id) (λ id. machine == id) (λ id. machine == id) (λ id t. t) (λ id t. t) rows (ensured machine rows) (change machine f (ensured machine rows))
      (alone_ensured rows) (alone_changed (ensured machine rows))

  -- and is listed then
  lists_ensured : (rows : List Machine) → is_listed machine (ensured machine rows) ≡ true
  lists_ensured rows =
      by_answer (is_listed machine rows)
      (λ t. rw (t, t) refl)
      (λ e. rw e (list_any-append (λ m. m.id == machine) rows (new_machine machine ∷ []) ∙ or_right (is_listed machine rows) _ (or_left _ _ (eq-eqb machine machine refl))))

  lists_changed : (rows : List Machine) → is_listed machine rows ≡ true → is_listed machine (change machine f rows) ≡ true
  lists_changed [] listed = listed
  lists_changed (m ∷ ms) listed =
      by_answer (m.id == machine)
      (λ t. rw t (or_left _ _ (ap (λ n. n == machine) (keeps m) ∙ t)))
      (λ e. rw (e, e) (lists_changed ms (rw e at listed)))

  lists_touched : (id : ℕ) → (machine == id) ≡ true → (rows : List Machine) → is_listed id (change machine f (ensured machine rows)) ≡ true
  lists_touched id same rows =
      subst (λ n. is_listed n (change machine f (ensured machine rows)) ≡ true) (eqb-true _ _ same) (lists_changed (ensured machine rows) (lists_ensured rows))

-- an entry changes the machines that it touches alone
pub rows_step : (rows : List Machine) (entry : Entry) → ChangedAlone (λ id. touches id entry) rows (machines_after rows entry)
rows_step rows (Round number) = alone_same _ rows
rows_step rows (MachineAdd machine cap) = alone_touched machine (added cap) (λ m. refl) rows
rows_step rows (MachineUpdate machine cap) = alone_touched machine (updated cap) (λ m. refl) rows
rows_step rows (MachineRemove machine) = alone_touched machine removed (λ m. refl) rows
rows_step rows (AttrSet machine name value) = alone_touched machine (attr_set name value) (λ m. refl) rows
rows_step rows (AttrDelete machine name) = alone_touched machine (attr_deleted name) (λ m. refl) rows
rows_step rows (End key machine) = alone_same _ rows
rows_step rows (Commit scheduler seen txn reply) = alone_same _ rows

-- and those are listed then
lists_step : (cell : Cell) (entry : Entry) (seqs : ℕ → ℕ) → Sound cell → MayApply cell seqs entry → (id : ℕ) → touches id entry ≡ true → is_listed id (machines_after cell.machines entry) ≡ true
lists_step cell (Round number) seqs sound may id touched = absurd (both_ways false refl touched)
lists_step cell (MachineAdd machine cap) seqs sound may id touched = lists_touched machine (added cap) (λ m. refl) id touched cell.machines
lists_step cell (MachineUpdate machine cap) seqs sound may id touched = lists_touched machine (updated cap) (λ m. refl) id touched cell.machines
lists_step cell (MachineRemove machine) seqs sound may id touched = lists_touched machine removed (λ m. refl) id touched cell.machines
lists_step cell (AttrSet machine name value) seqs sound may id touched = lists_touched machine (attr_set name value) (λ m. refl) id touched cell.machines
lists_step cell (AttrDelete machine name) seqs sound may id touched = lists_touched machine (attr_deleted name) (λ m. refl) id touched cell.machines
lists_step cell (End key machine) seqs sound may id touched =
    let it = ending cell.tasks key machine may.ends in
    let up = (each_found (λ (t : Task). IsTrue (is_up (machine_at cell.machines t.machine))) (λ (t : Task). same_key t.key key) cell.tasks it.task
    (each_of_all (λ (t : Task). IsTrue (is_up (machine_at cell.machines t.machine))) cell.tasks sound.placed) it.found).0 in
    let same : it.task.machine ≡ id = it.on ∙ eqb-true _ _ touched in
    up_listed cell.machines id (subst (λ n. is_up (machine_at cell.machines n) ≡ true) same up)
lists_step cell (Commit scheduler seen txn reply) seqs sound may id touched = placed_listed cell (zip txn.claims reply) id may.places touched

-- from one cell to another these machines changed alone, and are listed
pub record Went (changed : ℕ → Bool) (old new : Cell) : Type 0 where
  pub rows : ChangedAlone changed old.machines new.machines
  pub tasks : (id : ℕ) → changed id ≡ false → filter (is_on id) new.tasks ≡ filter (is_on id) old.tasks
  pub listed : (id : ℕ) → changed id ≡ true → is_listed id new.machines ≡ true

went_step : (cell : Cell) (entry : Entry) (seqs : ℕ → ℕ) → Sound cell → IsInOrder ByKey cell.tasks → MayApply cell seqs entry → Went (λ id. touches id entry) cell (step cell entry)
went_step cell entry seqs sound order may = record {
  rows = rows_step cell.machines entry;
  tasks = λ id away. tasks_untouched cell entry order may.places id away;
  listed = lists_step cell entry seqs sound may;
}

-- a machine that is listed stays so
lists_still : (changed : ℕ → Bool) (id : ℕ) (old new : List Machine) → ChangedAlone changed old new → is_listed id old ≡ true → is_listed id new ≡ true
lists_still changed id [] new alone listed = absurd (both_ways false refl listed)
lists_still changed id (m ∷ ms) [] alone listed = absurd alone
lists_still changed id (m ∷ ms) (n ∷ ns) alone listed =
    elim (or_cases (m.id == id) (is_listed id ms) listed) [
      | inl t ↦ or_left _ _ (ap (λ k. k == id) alone.0.0 ∙ t)
      | inr t ↦ or_right (n.id == id) _ (lists_still changed id ms ns alone.1 t)
    ]

went_on : (first second : ℕ → Bool) (old mid new : Cell) → Went first old mid → Went second mid new → Went (λ id. first id || second id) old new
went_on first second old mid new one two = record {
  rows = alone_trans first second (λ id. first id || second id) (λ id t. or_left _ _ t) (λ id t. or_right (first id) _ t) old.machines mid.machines new.machines one.rows two.rows;
  tasks = λ id away. let parts = or_parts _ _ away in two.tasks id parts.1 ∙ one.tasks id parts.0;
  listed = λ id touched.
      elim (or_cases (first id) (second id) touched) [
        | inl t ↦ lists_still second id mid.machines new.machines two.rows (one.listed id t)
        | inr t ↦ two.listed id t
      ];
}

may_join : (cell : Cell) (front back : List Entry) → MayAll cell front → MayAll (fold step cell front) back → MayAll cell (front ++ back)
may_join cell [] back one two = two
may_join cell (entry ∷ front) back one two = (one.0, may_join (step cell entry) front back one.1 two)

-- entries that may be applied change what they touch alone
pub went_all : (before later : List Entry) → MayAll empty_cell before → MayAll (state before) later → Went (λ id. list_any (touches id) later) (state before) (fold step (state before) later)
went_all before [] may_before may = record { rows = alone_same _ (state before).machines; tasks = λ id away. refl; listed = λ id touched. absurd (both_ways false refl touched) }
went_all before (entry ∷ later) may_before may =
    let first = went_step (state before) entry may.0.0 (applied_sound before may_before) (applied_held before may_before).ordered may.0.1 in
    let stepped : state (before ++ entry ∷ []) ≡ step (state before) entry = state_push before entry in
    let rest = went_all (before ++ entry ∷ []) later (may_join empty_cell before (entry ∷ []) may_before (may.0, tt)) (subst (λ (c : Cell). MayAll c later) (sym stepped) may.1) in
    went_on (λ id. touches id entry) (λ id. list_any (touches id) later) (state before) (step (state before) entry) (fold step (step (state before) entry) later) first
    (subst (λ (c : Cell). Went (λ id. list_any (touches id) later) c (fold step c later)) stepped rest)

-- entries that don't touch a machine leave its sequence number
pub seq_still : (before later : List Entry) (id : ℕ) → list_any (touches id) later ≡ false → seq (before ++ later) id ≡ seq before id
seq_still before [] id away = ap (λ h. seq h id) (append-nil before)
  where
    append-nil : (xs : List Entry) → xs ++ [] ≡ xs
    append-nil [] = refl
    append-nil (x ∷ xs) = ap (λ ys. x ∷ ys) (append-nil xs)
seq_still before (entry ∷ later) id away =
    let parts = or_parts _ _ away in
    let one : seq (before ++ entry ∷ []) id ≡ seq before id + 0 = seq_push before entry id ∙ ap (λ (b : Bool). seq before id + (if b then 1 else 0)) parts.0 in
    let rest = seq_still (before ++ entry ∷ []) later id parts.1 in
    ap (λ h. seq h id) (sym (append_assoc before (entry ∷ []) later)) ∙ rest ∙ one ∙ omega arith
