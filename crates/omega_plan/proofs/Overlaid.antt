-- An overlay with one more claim, and without claims.
use Rattle.std.proofs.Common.{◌≡◌, ℕ, Bool, true, not, IsTrue, List, [], ◌∷◌, ◌++◌, ◌⊎◌, Option, Some, None, length, refl, sym, ap, ap₂, ◌∙◌, subst, arith, if◌then◌else◌, ◌==◌}
use Rattle.std.specs.BTreeMap.{is_at}
use Rattle.std.specs.Ordering.{nat_cmp}
use Rattle.std.specs.List.{filter, fold, list_any}
use Rattle.std.proofs.lemmas.Bool.{eq-eqb, eqb-true, or_parts}
use Rattle.std.proofs.lemmas.List.{length-map}
use Rattle.std.proofs.lemmas.Option.{none-some}
use Rattle.std.proofs.lemmas.List.Elements.{All-from_recursion, recursion_from_All}
use Rattle.std.proofs.lemmas.List.Folds.{list_any-append}
use Rattle.std.proofs.lemmas.List.Sums.{fold-append}
use Rattle.omega_model.specs.Cell.{Cell, is_on, machine_at, rest_on, task_at, total, use_on, with_task, without}
use Rattle.omega_model.specs.Judge.{capacity_of, free_without, is_up, judge_fine, runs_on}
use Rattle.omega_model.specs.Keys.{is_among}
use Rattle.omega_model.specs.Legal.{Sound}
use Rattle.omega_model.specs.Need.{Fits, fits, minus, nothing, plus}
use Rattle.omega_model.specs.Reply.{after_claim, task_of, tasks_after_claim, tasks_placed}
use Rattle.omega_model.specs.declared.cells.Machine.{Machine}
use Rattle.omega_model.specs.declared.cells.Need.{Need}
use Rattle.omega_model.specs.declared.cells.Task.{Task}
use Rattle.omega_model.specs.declared.cells.TaskKey.{TaskKey}
use Rattle.omega_model.specs.declared.claims.Claim.{Claim}
use Rattle.omega_model.specs.declared.claims.Judgement.{Judgement}
use Rattle.omega_model.specs.declared.claims.Verdict.TheVariants.{Placed}
use Rattle.omega_model.proofs.Amounts.{fits_beside, fits_tested, fits_trans, plus-nothing, rest_is, share, total_some}
use Rattle.omega_model.proofs.Listed.{only_machine}
use Rattle.omega_model.proofs.Lists.{by_answer, each_both, filter_turned, each_filter, all_of_each, each_of_all}
use Rattle.omega_machines.specs.Table.{machines_of}
use Rattle.omega_running.specs.declared.orders.Order.TheVariants.{ByKey}
use Rattle.omega_running.specs.Order.{IsInOrder}
use Rattle.omega_board.specs.Board.{BoardState, cell_of}
use Rattle.omega_board.proofs.Claims.{absent_still}
use Rattle.omega_board.proofs.Parts.{not_refused}
use Rattle.omega_board.proofs.Placed.{placed_so}
use Rattle.omega_board.proofs.Places.{each_place}
use Rattle.omega_board.proofs.Sounds.{names_distinct}
use Rattle.omega_board.proofs.Tasks.{without_ordered}
use Rattle.omega_model.proofs.InOrder.{each_with}
use Rattle.omega_board.proofs.Untouched.{claim_local}
use Rattle.omega_board.proofs.Uses.{total-with}
use Rattle.omega_board.specs.Numbers as numbers
use Rattle.omega_plan.specs.Beside.{IsOverlay, IsPlacedBeside}
use Rattle.omega_plan.specs.Indexes.{MayTell, TellAll}
use Rattle.omega_plan.specs.Telling.{freed_on}
use Rattle.omega_plan.specs.declared.indexes.Indexes.{Indexes}
use Rattle.omega_plan.proofs.Changing.{alone_same}
use Rattle.omega_plan.specs.Overlays.{GoesInWhole, OverlayState, cell_after, tasks_claimed, tasks_with}
use Rattle.omega_plan.specs.Tenants.{AreBeside, GoesBeside, either, is_whole, kept}
use Rattle.omega_plan.specs.declared.tenants.Tenants.{Tenants}

-- some of the tasks use no more
use_fewer : (p : Task → Bool) (tasks : List Task) (id : ℕ) → Fits (use_on (filter p tasks) id) (use_on tasks id)
use_fewer p tasks id =
    subst (λ ts. Fits (total ts) (use_on tasks id)) (filter_turned p (is_on id) tasks) (total_some p (filter (is_on id) tasks))

-- a sound cell is sound once a claim is placed
sound_placed : (cell : Cell) (claim : Claim) (evicted : List TaskKey) → Sound cell → IsInOrder ByKey cell.tasks → judge_fine cell claim ≡ record { verdict = Placed; evicted = evicted }
    → Sound (record { machines = cell.machines; tasks = tasks_placed cell.tasks claim evicted })
sound_placed cell claim evicted sound order judged =
    let known = placed_so cell claim evicted judged in
    let left = without evicted cell.tasks in
    let up : is_up (machine_at cell.machines claim.machine) ≡ true = not_refused (is_up (machine_at cell.machines claim.machine)) known.up in
    let IsUp : Task → Type 0 = λ t. IsTrue (is_up (machine_at cell.machines t.machine)) in
    record {
      keys = names_distinct (tasks_placed cell.tasks claim evicted) (claim_local cell claim evicted order judged).ordered;
      placed = all_of_each IsUp (tasks_placed cell.tasks claim evicted)
          (each_with IsUp (task_of claim) left up (each_filter IsUp (λ t. not (is_among t.key evicted)) cell.tasks (each_of_all IsUp cell.tasks sound.placed)));
      numbers = sound.numbers;
      within = All-from_recursion (λ (m : Machine). Fits (use_on (tasks_placed cell.tasks claim evicted) m.id) m.cap) cell.machines
          (each_both (λ (m : Machine). Fits (use_on cell.tasks m.id) m.cap) (λ (m : Machine). (m.id == claim.machine) ≡ true → machine_at cell.machines claim.machine ≡ Some m)
          (λ (m : Machine). Fits (use_on (tasks_placed cell.tasks claim evicted) m.id) m.cap)
          (fitting (absent_still evicted cell.tasks claim.key known.absent) known.fits) cell.machines
          (recursion_from_All (λ (m : Machine). Fits (use_on cell.tasks m.id) m.cap) cell.machines sound.within)
          (only_machine cell.machines claim.machine (machine_at cell.machines claim.machine) sound.numbers refl));
    }
  where
    fitting : task_at (without evicted cell.tasks) claim.key ≡ None → fits claim.spec.need (free_without cell claim evicted) ≡ true → (m : Machine) → Fits (use_on cell.tasks m.id) m.cap
        → ((m.id == claim.machine) ≡ true → machine_at cell.machines claim.machine ≡ Some m) → Fits (use_on (tasks_placed cell.tasks claim evicted) m.id) m.cap
    fitting absent room m old found =
        let task = task_of claim in
        let left = without evicted cell.tasks in
        let before : Fits (use_on left m.id) m.cap = fits_trans _ _ _ (use_fewer (λ t. not (is_among t.key evicted)) cell.tasks m.id) old in
        let sum : use_on (with_task task left) m.id ≡ plus (share (is_on m.id) task) (use_on left m.id) =
        total-with (is_on m.id) task left absent (without_ordered evicted cell.tasks order) in
        subst (λ (n : Need). Fits n m.cap) (sym sum)
        (by_answer (is_on m.id task)
        (λ here.
        let own : claim.machine ≡ m.id = eqb-true _ _ here in
        let cap : capacity_of (machine_at cell.machines claim.machine) ≡ m.cap = ap capacity_of (found (eq-eqb _ _ (sym own))) in
        let rest : rest_on cell.tasks claim.machine evicted ≡ use_on left m.id = ap (λ n. rest_on cell.tasks n evicted) own ∙ rest_is cell.tasks m.id evicted in
        let free : free_without cell claim evicted ≡ minus m.cap (use_on left m.id) = ap₂ minus cap rest in
        let fit : Fits claim.spec.need (free_without cell claim evicted) = fits_tested _ _ room in
        subst (λ b. Fits (plus (if b then claim.spec.need else nothing) (use_on left m.id)) m.cap) (sym here)
        (fits_beside claim.spec.need (use_on left m.id) m.cap (subst (Fits claim.spec.need) free fit) before))
        (λ other.
        subst (λ b. Fits (plus (if b then claim.spec.need else nothing) (use_on left m.id)) m.cap) (sym other)
        (subst (λ (n : Need). Fits n m.cap) (sym (plus-nothing (use_on left m.id))) before)))

-- nothing is beside a board without claims
pub beside_none : (tenants : Tenants) (board : List Task) → tenants.own.tasks ≡ [] → tenants.whole.keys ≡ [] → IsInOrder ByKey board → AreBeside tenants board board
beside_none tenants board own whole order = record {
  ordered = order;
  own_ordered = subst (IsInOrder ByKey) (sym own) tt;
  board_ordered = order;
  found = λ key. all_kept (task_at board key) ∙ sym (ap (λ ts. either (task_at ts key) (kept tenants (task_at board key))) own);
  apart = λ key task here. absurd (none-some task (ap (λ ts. task_at ts key) (sym own) ∙ here));
}
  where
    all_kept : (o : Option Task) → o ≡ kept tenants o
    all_kept None = refl
    all_kept (Some t) = sym (ap (λ ns. if list_any (is_at (nat_cmp t.machine)) ns then None else Some t) whole)

pub overlay_none : (tenants : Tenants) (running : List Task) (machines : List ℕ) (board : BoardState) (claims : List Claim) → running ≡ board.tasks → tenants.own.tasks ≡ [] → tenants.whole.keys ≡ []
    → claims ≡ [] → Sound (cell_of board) → IsInOrder ByKey board.tasks → IsOverlay tenants running machines (record { board = board; claims = claims })
overlay_none tenants running machines board claims run own whole none sound order =
    subst (λ (cs : List Claim). IsOverlay tenants running machines (record { board = board; claims = cs })) (sym none) (record {
      run = run;
      beside = subst (λ ts. AreBeside tenants ts board.tasks) (sym run) (beside_none tenants board.tasks own whole order);
      sound = sound;
      elsewhere = λ id out. refl;
    })

-- a claim that goes in beside a board
module _ (overlay : OverlayState) (claim : Claim) (goes_in : GoesInWhole (cell_after overlay) claim) where
  pub goes_beside : (tenants : Tenants) (running : List Task) → AreBeside tenants running (tasks_claimed overlay) → (claim.victims ≡ []) ⊎ (is_whole tenants claim.machine ≡ true)
      → GoesBeside tenants running claim (tasks_claimed overlay)
  goes_beside tenants running beside whole =
      let known = placed_so (cell_after overlay) claim claim.victims goes_in in
      record {
        beside = beside;
        absent = known.absent;
        stand = each_place (λ k. runs_on (tasks_claimed overlay) claim.machine k ≡ true) claim.victims (λ place key is. (known.stand place key is).0);
        whole = whole;
      }

  pub placed_claim : (tenants : Tenants) (running : List Task) → running ≡ overlay.board.tasks → IsInOrder ByKey (tasks_claimed overlay) → AreBeside tenants running (tasks_with (tasks_claimed overlay) claim)
      → IsPlacedBeside overlay.board tenants claim (tasks_claimed overlay)
  placed_claim tenants running run order beside =
      let known = placed_so (cell_after overlay) claim claim.victims goes_in in
      record {
        ordered = order;
        absent = known.absent;
        elsewhere = (claim_local (cell_after overlay) claim claim.victims order goes_in).elsewhere;
        beside = subst (λ ts. AreBeside tenants ts (tasks_with (tasks_claimed overlay) claim)) run beside;
      }

  -- the tasks with one more claim
  pub one_claimed : (claims : List Claim) → claims ≡ overlay.claims ++ claim ∷ [] → tasks_claimed (record { board = overlay.board; claims = claims }) ≡ tasks_with (tasks_claimed overlay) claim
  one_claimed claims more =
      ap (fold tasks_with overlay.board.tasks) more ∙ fold-append tasks_with overlay.board.tasks overlay.claims (claim ∷ [])

  pub cell_claimed : (claims : List Claim) → claims ≡ overlay.claims ++ claim ∷ []
      → cell_after (record { board = overlay.board; claims = claims }) ≡ after_claim (cell_after overlay) (claim, judge_fine (cell_after overlay) claim)
  cell_claimed claims more =
      ap (λ (ts : List Task). record { machines = machines_of overlay.board.table; tasks = ts })
      (one_claimed claims more ∙ ap (λ (j : Judgement). tasks_after_claim (tasks_claimed overlay) (claim, j)) (sym goes_in))

  pub overlay_more : (old tenants : Tenants) (running : List Task) (before machines : List ℕ) (claims : List Claim) → IsOverlay old running before overlay
      → claims ≡ overlay.claims ++ claim ∷ [] → machines ≡ before ++ claim.machine ∷ [] → AreBeside tenants running (tasks_with (tasks_claimed overlay) claim)
      → IsOverlay tenants running machines (record { board = overlay.board; claims = claims })
  overlay_more old tenants running before machines claims so more noted beside =
      let tasks : tasks_claimed (record { board = overlay.board; claims = claims }) ≡ tasks_with (tasks_claimed overlay) claim = one_claimed claims more in
      let local = claim_local (cell_after overlay) claim claim.victims so.beside.ordered goes_in in
      record {
        run = so.run;
        beside = subst (AreBeside tenants running) (sym tasks) beside;
        sound = subst (λ ts. Sound (record { machines = machines_of overlay.board.table; tasks = ts })) (sym tasks)
            (sound_placed (cell_after overlay) claim claim.victims so.sound so.beside.ordered goes_in);
        elsewhere = λ id out.
            let parts = or_parts _ _ (sym (list_any-append (λ machine. machine == id) before (claim.machine ∷ [])) ∙ ap (list_any (λ machine. machine == id)) (sym noted) ∙ out) in
            ap (filter (is_on id)) tasks ∙ local.elsewhere id (or_parts _ _ parts.1).0 ∙ so.elsewhere id parts.0;
      }

-- once the claims are taken back, indexes may be told of their machines
pub may_tell_back : (tenants : Tenants) (running : List Task) (machines shown : List ℕ) (overlay : OverlayState) → IsOverlay tenants running machines overlay → shown ≡ machines
    → (indexes : Indexes) → TellAll (cell_after overlay) indexes → MayTell (numbers.is_among shown) overlay.board indexes
may_tell_back tenants running machines shown overlay so same indexes tell =
    let rows = machines_of overlay.board.table in
    let long : length indexes.index.free ≡ length rows = ap length tell.free ∙ length-map rows (freed_on 0 (tasks_claimed overlay)) in
    subst (λ ids. MayTell (numbers.is_among ids) overlay.board indexes) (sym same) (record {
      before = cell_after overlay;
      tell = tell;
      goes = record { rows = alone_same _ rows; tasks = λ id out. sym (so.elsewhere id out) };
      room = omega (arith, long);
    })
