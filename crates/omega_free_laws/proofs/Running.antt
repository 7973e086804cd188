-- What stays of each running task while entries are appended, and of the commit that placed it.
use Rattle.std.proofs.Common.{◌≡◌, ◌<◌, ℕ, zero, suc, Bool, true, false, List, [], ◌∷◌, ◌++◌, Option, Some, None, length, map, refl, sym, ap, subst, ◌∙◌, inl, inr, arith, filter, append-nil, append_assoc, length-append}
use Rattle.std.specs.Prelude.{◌⊎◌, ◌||◌, ◌&&◌, ◌==◌, slice_get}
use Rattle.std.specs.List.{fold, last_or, list_any, zip, AllByRecursion as Each}
use Rattle.std.proofs.lemmas.Bool.{eq-eqb}
use Rattle.std.proofs.lemmas.List.Elements.{filter-append}
use Rattle.std.proofs.lemmas.List.Folds.{list_any-append}
use Rattle.std.proofs.lemmas.Option.{same_Some}
use Rattle.omega_model.proofs.Growing.{state_push}
use Rattle.omega_model.proofs.InOrder.{key_differs, key_itself, key_same, same_key-sym}
use Rattle.omega_model.proofs.Lists.{by_answer, each_append, each_both, each_filter, each_map, each_passes}
use Rattle.omega_model.proofs.RowEnds.{EndInTurn, end_task}
use Rattle.omega_model.specs.Cell.{Cell, task_at, without}
use Rattle.omega_model.specs.Keys.{key_lt, same_key}
use Rattle.omega_model.specs.Reply.{admits, task_of, tasks_after_claim}
use Rattle.omega_model.specs.State.{goes_on, state, tasks_after}
use Rattle.omega_model.specs.declared.cells.Task.{Task}
use Rattle.omega_model.specs.declared.cells.TaskKey.{TaskKey}
use Rattle.omega_model.specs.declared.claims.Claim.{Claim}
use Rattle.omega_model.specs.declared.claims.Judgement.{Judgement}
use Rattle.omega_model.specs.declared.claims.Txn.{Txn}
use Rattle.omega_model.specs.declared.entries.Entry.{Entry}
use Rattle.omega_model.specs.declared.entries.Entry.TheVariants.{Round as RoundEntry, MachineAdd, MachineUpdate, MachineRemove, AttrSet, AttrDelete, End, Commit}
use Rattle.omega_laws.proofs.Places.{get_seam}
use Rattle.omega_laws.specs.VirtualTime.{Timed}
use Rattle.omega_free_laws.specs.Lives.{did_place, places_task, placing}
use Rattle.omega_free_laws.proofs.DueEnds.{each_runs}

-- an entry that neither ends a task by its name nor places one
abbrev pub is_plain : Entry → Bool
is_plain (End key machine) = false
is_plain (Commit by seen txn reply) = false
is_plain _ = true

-- each commit with a time stands in the history
abbrev pub AreWithin : List Entry → List Timed → Type 0
AreWithin history times = Each (λ (timed : Timed). timed.place < length history) times

-- ---- places of lists

pub get_before : {X : Type 0} (xs ys : List X) (i : ℕ) → i < length xs → slice_get (xs ++ ys) i ≡ slice_get xs i
get_before [] ys i less = absurd (omega (arith, less))
get_before (x ∷ xs) ys zero less = refl
get_before (x ∷ xs) ys (suc i) less = get_before xs ys i (omega (arith, less))

filter_same : {X : Type 0} (p q : X → Bool) (xs : List X) → Each (λ x. p x ≡ q x) xs → filter p xs ≡ filter q xs
filter_same p q [] same = refl
filter_same p q (x ∷ xs) same =
    by_answer (q x)
    (λ t. rw (same.0, t) (ap (λ (rest : List _). x ∷ rest) (filter_same p q xs same.1)))
    (λ f. rw (same.0, f) (filter_same p q xs same.1))

last_or-end : {X : Type 0} (other : Option X) (xs : List X) (x : X) → last_or other (xs ++ x ∷ []) ≡ Some x
last_or-end other [] x = refl
last_or-end other (y ∷ xs) x = last_or-end (Some y) xs x

-- ---- the commit that placed a task last

pub placing_same : (history : List Entry) (times : List Timed) (entry : Entry) (key : TaskKey) → AreWithin history times
    → placing (history ++ entry ∷ []) times key ≡ placing history times key
placing_same history times entry key within =
    ap (last_or None)
    (filter_same (λ (timed : Timed). did_place key (slice_get (history ++ entry ∷ []) timed.place)) (λ (timed : Timed). did_place key (slice_get history timed.place)) times
    (each_map (λ (timed : Timed). timed.place < length history)
    (λ (timed : Timed). did_place key (slice_get (history ++ entry ∷ []) timed.place) ≡ did_place key (slice_get history timed.place))
    (λ timed less. ap (did_place key) (get_before history (entry ∷ []) timed.place less)) times within))

placing_of : (history : List Entry) (times : List Timed) (timed : Timed) (key : TaskKey)
    → placing history (times ++ timed ∷ []) key
    ≡ last_or None (filter (λ (it : Timed). did_place key (slice_get history it.place)) times ++ filter (λ (it : Timed). did_place key (slice_get history it.place)) (timed ∷ []))
placing_of history times timed key =
    ap (last_or None) (filter-append (λ (it : Timed). did_place key (slice_get history it.place)) times (timed ∷ []))

pub placing_new : (history : List Entry) (times : List Timed) (entry : Entry) (timed : Timed) (key : TaskKey) → timed.place ≡ length history
    → places_task key entry ≡ true → placing (history ++ entry ∷ []) (times ++ timed ∷ []) key ≡ Some timed
placing_new history times entry timed key at places =
    let here : did_place key (slice_get (history ++ entry ∷ []) timed.place) ≡ true =
    ap (λ (n : ℕ). did_place key (slice_get (history ++ entry ∷ []) n)) at ∙ ap (did_place key) (get_seam history entry []) ∙ places in
    placing_of (history ++ entry ∷ []) times timed key ∙ rw here (last_or-end None (filter (λ (it : Timed). did_place key (slice_get (history ++ entry ∷ []) it.place)) times) timed)

pub placing_old : (history : List Entry) (times : List Timed) (entry : Entry) (timed : Timed) (key : TaskKey) → AreWithin history times
    → timed.place ≡ length history → places_task key entry ≡ false
    → placing (history ++ entry ∷ []) (times ++ timed ∷ []) key ≡ placing history times key
placing_old history times entry timed key within at places =
    let here : did_place key (slice_get (history ++ entry ∷ []) timed.place) ≡ false =
    ap (λ (n : ℕ). did_place key (slice_get (history ++ entry ∷ []) n)) at ∙ ap (did_place key) (get_seam history entry []) ∙ places in
    placing_of (history ++ entry ∷ []) times timed key
    ∙ rw here (ap (last_or None) (append-nil (filter (λ (it : Timed). did_place key (slice_get (history ++ entry ∷ []) it.place)) times)))
    ∙ placing_same history times entry key within

pub within_push : (history : List Entry) (times : List Timed) (entry : Entry) → AreWithin history times → AreWithin (history ++ entry ∷ []) times
within_push history times entry within =
    let more = length-append history (entry ∷ []) in
    each_map (λ (timed : Timed). timed.place < length history) (λ (timed : Timed). timed.place < length (history ++ entry ∷ []))
    (λ timed less. omega (arith, less, more)) times within

-- ---- running tasks

fewer_plain : (Q : Task → Type 0) (tasks : List Task) (entry : Entry) → is_plain entry ≡ true → Each Q tasks → Each Q (tasks_after tasks entry)
fewer_plain Q tasks (RoundEntry number) plain each = each
fewer_plain Q tasks (MachineAdd machine cap) plain each = each_filter Q _ tasks each
fewer_plain Q tasks (MachineUpdate machine cap) plain each = each_filter Q _ tasks each
fewer_plain Q tasks (MachineRemove machine) plain each = each_filter Q _ tasks each
fewer_plain Q tasks (AttrSet machine name value) plain each = each
fewer_plain Q tasks (AttrDelete machine name) plain each = each
fewer_plain Q tasks (End key machine) plain each = absurd (cc)
fewer_plain Q tasks (Commit by seen txn reply) plain each = absurd (cc)

-- whether one of some answered claims placed a task
abbrev placed_by : List (Claim × Judgement) → TaskKey → Bool
placed_by decided key = list_any (λ (it : Claim × Judgement). admits it.1 && same_key it.0.key key) decided

-- a task ran before these claims and none of them placed it, or one of them did
abbrev Status : (Task → Type 0) → List (Claim × Judgement) → Task → Type 0
Status Old decided task = (Old task × (placed_by decided task.key ≡ false)) ⊎ (placed_by decided task.key ≡ true)

module _ (Old : Task → Type 0) where
  status_more : (decided : List (Claim × Judgement)) (one : Claim × Judgement) (task : Task) → (admits one.1 && same_key one.0.key task.key) ≡ false
      → Status Old decided task → Status Old (decided ++ one ∷ []) task
  status_more decided one task none (inl old) =
      inl (old.0, list_any-append (λ (it : Claim × Judgement). admits it.1 && same_key it.0.key task.key) decided (one ∷ []) ∙ rw (old.1, none) refl)
  status_more decided one task none (inr placed) =
      inr (list_any-append (λ (it : Claim × Judgement). admits it.1 && same_key it.0.key task.key) decided (one ∷ []) ∙ rw placed refl)

  status_new : (decided : List (Claim × Judgement)) (one : Claim × Judgement) → admits one.1 ≡ true → Status Old (decided ++ one ∷ []) (task_of one.0)
  status_new decided one placed =
      let itself : same_key one.0.key one.0.key ≡ true = key_itself one.0.key in
      inr (list_any-append (λ (it : Claim × Judgement). admits it.1 && same_key it.0.key one.0.key) decided (one ∷ []) ∙ by_first (placed_by decided one.0.key) itself) where
        by_first : (first : Bool) → same_key one.0.key one.0.key ≡ true → (first || ((admits one.1 && same_key one.0.key one.0.key) || false)) ≡ true
        by_first true itself = refl
        by_first false itself = rw (placed, itself) refl

  one_status : (decided : List (Claim × Judgement)) (claim : Claim) (judgement : Judgement) (tasks : List Task) → Each (Status Old decided) tasks
      → Each (Status Old (decided ++ (claim, judgement) ∷ [])) (tasks_after_claim tasks (claim, judgement))
  one_status decided claim judgement tasks each =
      by_answer (admits judgement)
      (λ t.
      let rest : List Task = without judgement.evicted tasks in
      let there : Each (Status Old decided) rest = each_filter (Status Old decided) _ tasks each in
      rw t (each_append (Status Old (decided ++ (claim, judgement) ∷ [])) (filter (λ (o : Task). key_lt o.key claim.key) rest) (task_of claim ∷ filter (λ (o : Task). key_lt claim.key o.key) rest)
      (each_both (λ (o : Task). key_lt o.key claim.key ≡ true) (Status Old decided) (Status Old (decided ++ (claim, judgement) ∷ []))
      (λ o less old. status_more decided (claim, judgement) o (let other = same_key-sym o.key claim.key (key_differs o.key claim.key less) in rw (t, other) refl) old)
      (filter (λ (o : Task). key_lt o.key claim.key) rest) (each_passes (λ (o : Task). key_lt o.key claim.key) rest) (each_filter (Status Old decided) _ rest there)) (
        status_new decided (claim, judgement) t,
        each_both (λ (o : Task). key_lt claim.key o.key ≡ true) (Status Old decided) (Status Old (decided ++ (claim, judgement) ∷ []))
            (λ o more old. status_more decided (claim, judgement) o (let other = key_differs claim.key o.key more in rw (t, other) refl) old)
            (filter (λ (o : Task). key_lt claim.key o.key) rest) (each_passes (λ (o : Task). key_lt claim.key o.key) rest) (each_filter (Status Old decided) _ rest there),
      )))
      (λ f. rw f (each_map (Status Old decided) (Status Old (decided ++ (claim, judgement) ∷ []))
      (λ o old. status_more decided (claim, judgement) o (rw f refl) old) tasks each))

  claims_status : (decided later : List (Claim × Judgement)) (tasks : List Task) → Each (Status Old decided) tasks
      → Each (Status Old (decided ++ later)) (fold tasks_after_claim tasks later)
  claims_status decided [] tasks each = subst (λ (all : List (Claim × Judgement)). Each (Status Old all) tasks) (sym (append-nil decided)) each
  claims_status decided ((claim, judgement) ∷ later) tasks each =
      subst (λ (all : List (Claim × Judgement)). Each (Status Old all) (fold tasks_after_claim (tasks_after_claim tasks (claim, judgement)) later))
      (append_assoc decided ((claim, judgement) ∷ []) later)
      (claims_status (decided ++ (claim, judgement) ∷ []) later (tasks_after_claim tasks (claim, judgement)) (one_status decided claim judgement tasks each))

-- ---- what holds of each running task

-- a task runs after a history
abbrev pub Runs : List Entry → Task → Type 0
Runs history task = task_at (state history).tasks task.key ≡ Some task

-- what is said of running tasks stays: with each plain entry, with each end of another task, and with each commit that
-- doesn't place the task; and it holds of a task that a commit places
pub record Stays (T : List Entry → List Timed → Task → Type 0) (May : Timed → Type 0) : Type 0 where
  pub plain : (history : List Entry) (times : List Timed) (entry : Entry) (task : Task) → AreWithin history times → is_plain entry ≡ true
      → Runs (history ++ entry ∷ []) task → T history times task → T (history ++ entry ∷ []) times task
  pub other : (history : List Entry) (times : List Timed) (key : TaskKey) (machine : ℕ) (task : Task) → AreWithin history times → same_key key task.key ≡ false
      → Runs (history ++ End key machine ∷ []) task → T history times task → T (history ++ End key machine ∷ []) times task
  pub kept : (history : List Entry) (times : List Timed) (by seen : ℕ) (txn : Txn) (reply : List Judgement) (timed : Timed) (task : Task) → AreWithin history times
      → timed.place ≡ length history → places_task task.key (Commit by seen txn reply) ≡ false → Runs (history ++ Commit by seen txn reply ∷ []) task
      → T history times task → T (history ++ Commit by seen txn reply ∷ []) (times ++ timed ∷ []) task
  pub placed : (history : List Entry) (times : List Timed) (by seen : ℕ) (txn : Txn) (reply : List Judgement) (timed : Timed) (task : Task) → AreWithin history times
      → timed.place ≡ length history → May timed → places_task task.key (Commit by seen txn reply) ≡ true → Runs (history ++ Commit by seen txn reply ∷ []) task
      → T (history ++ Commit by seen txn reply ∷ []) (times ++ timed ∷ []) task

module _ (T : List Entry → List Timed → Task → Type 0) (May : Timed → Type 0) (stays : Stays T May) where
  -- it holds of each running task
  abbrev pub EachRunning : List Entry → List Timed → Type 0
  EachRunning history times = AreWithin history times × Each (T history times) (state history).tasks

  all_new : (history : List Entry) (times : List Timed) (Q : Task → Type 0) → ((task : Task) → Runs history task → Q task → T history times task)
      → Each Q (state history).tasks → Each (T history times) (state history).tasks
  all_new history times Q gives each = each_both (Runs history) Q (T history times) gives (state history).tasks (each_runs history) each

  pub plain_step : (history : List Entry) (times : List Timed) (entry : Entry) → is_plain entry ≡ true → EachRunning history times → EachRunning (history ++ entry ∷ []) times
  plain_step history times entry plain each = (
    within_push history times entry each.0,
    all_new (history ++ entry ∷ []) times (T history times) (λ task runs old. stays.plain history times entry task each.0 plain runs old)
        (subst (λ (cell : Cell). Each (T history times) cell.tasks) (sym (state_push history entry)) (fewer_plain (T history times) (state history).tasks entry plain each.1)),
  )

  -- a task that goes on isn't the one that ends
  goes_on_other : (history : List Entry) (ending task : Task) → Runs history ending → Runs history task → goes_on ending.key ending.machine task ≡ true
      → same_key ending.key task.key ≡ false
  goes_on_other history ending task runs_ending runs goes =
      by_answer (same_key task.key ending.key)
      (λ t.
      let same_name : task.key ≡ ending.key = key_same task.key ending.key t in
      let same : task ≡ ending = same_Some task ending (sym runs ∙ ap (task_at (state history).tasks) same_name ∙ runs_ending) in
      let machine : (task.machine == ending.machine) ≡ true = eq-eqb task.machine ending.machine (ap (λ (it : Task). it.machine) same) in
      absurd (let clash = rw (t, machine) at goes in cc))
      (λ f. same_key-sym task.key ending.key f)

  pub end_step : (history : List Entry) (times : List Timed) (task : Task) → Runs history task → EachRunning history times → EachRunning (history ++ end_task task ∷ []) times
  end_step history times ending runs each =
      let goes : Task → Bool = goes_on ending.key ending.machine in
      let left : Each (λ (task : Task). same_key ending.key task.key ≡ false) (filter goes (state history).tasks) =
      each_both (Runs history) (λ (task : Task). goes task ≡ true) (λ (task : Task). same_key ending.key task.key ≡ false)
      (λ task runs_too on. goes_on_other history ending task runs runs_too on) (filter goes (state history).tasks)
      (each_filter (Runs history) goes (state history).tasks (each_runs history)) (each_passes goes (state history).tasks) in (
        within_push history times (end_task ending) each.0,
        all_new (history ++ end_task ending ∷ []) times (λ (task : Task). (same_key ending.key task.key ≡ false) × T history times task)
            (λ task runs_too both. stays.other history times ending.key ending.machine task each.0 both.0 runs_too both.1)
            (subst (λ (cell : Cell). Each (λ (task : Task). (same_key ending.key task.key ≡ false) × T history times task) cell.tasks) (sym (state_push history (end_task ending)))
            (each_both (λ (task : Task). same_key ending.key task.key ≡ false) (T history times) (λ (task : Task). (same_key ending.key task.key ≡ false) × T history times task)
            (λ task other old. (other, old)) (filter goes (state history).tasks) left (each_filter (T history times) goes (state history).tasks each.1))),
      )

  pub ends_step : (history : List Entry) (times : List Timed) (some : List Task) → EndInTurn history some → EachRunning history times
      → EachRunning (history ++ map end_task some) times
  ends_step history times [] turn each = subst (λ (h : List Entry). EachRunning h times) (sym (append-nil history)) each
  ends_step history times (task ∷ some) turn each =
      subst (λ (h : List Entry). EachRunning h times) (append_assoc history (end_task task ∷ []) (map end_task some))
      (ends_step (history ++ end_task task ∷ []) times some turn.1 (end_step history times task turn.0 each))

  pub commit_step : (history : List Entry) (times : List Timed) (by seen : ℕ) (txn : Txn) (reply : List Judgement) (timed : Timed)
      → timed.place ≡ length history → May timed → EachRunning history times
      → EachRunning (history ++ Commit by seen txn reply ∷ []) (times ++ timed ∷ [])
  commit_step history times by seen txn reply timed at may each =
      let entry : Entry = Commit by seen txn reply in
      let more = length-append history (entry ∷ []) in
      let statuses : Each (Status (T history times) (zip txn.claims reply)) (fold tasks_after_claim (state history).tasks (zip txn.claims reply)) =
      claims_status (T history times) [] (zip txn.claims reply) (state history).tasks
      (each_map (T history times) (Status (T history times) []) (λ task old. inl (old, refl)) (state history).tasks each.1) in (
        each_append (λ (it : Timed). it.place < length (history ++ entry ∷ [])) times (timed ∷ []) (within_push history times entry each.0) (omega (arith, at, more), tt),
        all_new (history ++ entry ∷ []) (times ++ timed ∷ []) (Status (T history times) (zip txn.claims reply))
            (λ task runs status. by_status task runs status)
            (subst (λ (cell : Cell). Each (Status (T history times) (zip txn.claims reply)) cell.tasks) (sym (state_push history entry)) statuses),
      ) where
        by_status : (task : Task) → Runs (history ++ Commit by seen txn reply ∷ []) task → Status (T history times) (zip txn.claims reply) task
            → T (history ++ Commit by seen txn reply ∷ []) (times ++ timed ∷ []) task
        by_status task runs (inl old) = stays.kept history times by seen txn reply timed task each.0 at old.1 runs old.0
        by_status task runs (inr new) = stays.placed history times by seen txn reply timed task each.0 at may new runs
