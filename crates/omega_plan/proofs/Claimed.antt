-- Claims beside a board, and what indexes are told of them.
use Rattle.std.proofs.Common.{◌≡◌, ℕ, zero, suc, ◌+◌, Bool, true, false, cond, ◌||◌, ◌&&◌, nat_eq, List, [], ◌∷◌, Option, Some, None, get_or, slice_get, map, set, position, refl, sym, ap, ap₂, ◌∙◌, subst, arith, if◌then◌else◌, ◌==◌}
use Rattle.std.specs.List.{IsDistinct, position_or_len}
use Rattle.std.specs.Prelude.{option_map}
use Rattle.std.proofs.lemmas.Bool.{eq-eqb, eqb-true, le-leb, or_parts}
use Rattle.std.proofs.lemmas.Option.{cond_some, none-some, same_Some}
use Rattle.omega_model.specs.Cell.{is_on, task_at, total, with_task, without}
use Rattle.omega_model.specs.Need.{minus, nothing, plus}
use Rattle.omega_model.specs.Reply.{task_of}
use Rattle.omega_model.specs.declared.cells.Machine.{Machine}
use Rattle.omega_model.specs.declared.cells.Need.{Need}
use Rattle.omega_model.specs.declared.cells.Task.{Task}
use Rattle.omega_model.specs.declared.claims.Claim.{Claim}
use Rattle.omega_model.proofs.Amounts.{need_is, share}
use Rattle.omega_model.proofs.Lists.{by_answer, filter_and}
use Rattle.omega_running.specs.Staying.{staying_on, stays_against}
use Rattle.omega_running.specs.declared.orders.Order.TheVariants.{ByKey}
use Rattle.omega_running.specs.Order.{IsInOrder}
use Rattle.omega_machines.specs.declared.MachineState.{MachineState}
use Rattle.omega_machines.specs.Table.{machines_of}
use Rattle.omega_model.specs.Machines.{is_listed, numbers_of}
use Rattle.omega_board.specs.Board.{BoardState}
use Rattle.omega_board.proofs.Claims.{without_none}
use Rattle.omega_board.proofs.Uses.{total-with}
use Rattle.omega_plan.specs.Beside.{IsPlacedBeside}
use Rattle.omega_plan.specs.Overlays.{tasks_with}
use Rattle.omega_plan.specs.Telling.{TellsBut, freed_of, freed_on, taken_by}
use Rattle.omega_plan.specs.declared.tenants.Tenants.{Tenants}
use Rattle.omega_plan.proofs.Tells.{tells_unlisted, tells_while, told_all, told_at}

-- what is left when one more has taken its need
less_by : (cap need rest : Need) → minus cap (plus need rest) ≡ minus (minus cap rest) need
less_by cap need rest = need_is _ _ (omega arith) (omega arith) (omega arith)

-- one more task on a machine takes its need off what is free there
pub freed_less : (tasks : List Task) (t : Task) (m : Machine) → task_at tasks t.key ≡ None → IsInOrder ByKey tasks → is_on m.id t ≡ true
    → freed_on 0 (with_task t tasks) m ≡ option_map (taken_by t.spec) (freed_on 0 tasks m)
freed_less tasks t m absent order on =
    by_answer m.up
    (λ up.
    ap (λ b. if b then Some (minus m.cap (staying_on 0 (with_task t tasks) m.id)) else None) up
    ∙ ap Some left
    ∙ sym (ap (λ b. option_map (taken_by t.spec) (if b then Some (minus m.cap (staying_on 0 tasks m.id)) else None)) up))
    (λ down.
    ap (λ b. if b then Some (minus m.cap (staying_on 0 (with_task t tasks) m.id)) else None) down
    ∙ sym (ap (λ b. option_map (taken_by t.spec) (if b then Some (minus m.cap (staying_on 0 tasks m.id)) else None)) down))
  where
    own : share (λ x. stays_against 0 x && is_on m.id x) t ≡ t.spec.need
    own = ap₂ (λ (a c : Bool). cond (a && c) t.spec.need nothing) (le-leb 0 t.spec.prec (omega arith)) on

    one_more : staying_on 0 (with_task t tasks) m.id ≡ plus t.spec.need (staying_on 0 tasks m.id)
    one_more =
        ap total (filter_and (stays_against 0) (is_on m.id) (with_task t tasks))
        ∙ total-with (λ x. stays_against 0 x && is_on m.id x) t tasks absent order
        ∙ ap₂ plus own (ap total (sym (filter_and (stays_against 0) (is_on m.id) tasks)))

    left : minus m.cap (staying_on 0 (with_task t tasks) m.id) ≡ taken_by t.spec (minus m.cap (staying_on 0 tasks m.id))
    left = ap (minus m.cap) one_more ∙ less_by m.cap t.spec.need (staying_on 0 tasks m.id)

-- what stands at a place of a list of values
get_mapped : {X Y : Type 0} (f : X → Y) (xs : List X) (place : ℕ) (x : X) (d : Y) → slice_get xs place ≡ Some x → get_or (map f xs) place d ≡ f x
get_mapped f [] place x d is = absurd (none-some x is)
get_mapped f (y ∷ ys) zero x d is = ap f (same_Some y x is)
get_mapped f (y ∷ ys) (suc place) x d is = get_mapped f ys place x d is

-- what stands at the first place that passes passes
at_position : {X : Type 0} (p : X → Bool) (xs : List X) (place : ℕ) (x : X) → position_or_len p xs ≡ place → slice_get xs place ≡ Some x → p x ≡ true
at_position p [] place x found is = absurd (none-some x is)
at_position p (y ∷ ys) place x found is =
    by_answer (p y)
    (λ t.
    let here : 0 ≡ place = rw t at found in
    let same : y ≡ x = same_Some y x (subst (λ n. slice_get (y ∷ ys) n ≡ Some x) (sym here) is) in
    ap p (sym same) ∙ t)
    (λ f.
    let behind : 1 + position_or_len p ys ≡ place = rw f at found in
    let next : suc (position_or_len p ys) ≡ place = omega (arith, behind) in
    at_position p ys (position_or_len p ys) x refl (subst (λ n. slice_get (y ∷ ys) n ≡ Some x) (sym next) is))

module _ (board : BoardState) (tenants : Tenants) (claim : Claim) (tasks : List Task) (placed : IsPlacedBeside board tenants claim tasks)
    (frees : List (Option Need)) (so : frees ≡ freed_of 0 (record { machines = machines_of board.table; tasks = tasks })) where
  -- an index tells all but what a claim changed
  told_else : TellsBut (λ n. claim.machine == n || false) 0 (tasks_with tasks claim) frees (machines_of board.table)
  told_else =
      subst (λ fs. TellsBut (λ n. claim.machine == n || false) 0 (tasks_with tasks claim) fs (machines_of board.table)) (sym so)
      (tells_while (λ n. claim.machine == n || false) 0 tasks (tasks_with tasks claim) (λ id out. placed.elsewhere id (or_parts _ _ out).0) (machines_of board.table))

  -- where it has no victims
  pub taken_there : (place : ℕ) (at : Option Need) (value : Option Need) → claim.victims ≡ [] → at ≡ get_or frees place None → value ≡ option_map (taken_by claim.spec) at
      → (m : Machine) → slice_get (machines_of board.table) place ≡ Some m → m.id ≡ claim.machine → value ≡ freed_on 0 (tasks_with tasks claim) m
  taken_there place at value none at_is is m here same =
      is
      ∙ ap (option_map (taken_by claim.spec)) (at_is ∙ ap (λ fs. get_or fs place None) so ∙ get_mapped (freed_on 0 tasks) (machines_of board.table) place m None here)
      ∙ sym (freed_less tasks (task_of claim) m placed.absent placed.ordered (eq-eqb claim.machine m.id (sym same)))
      ∙ ap (λ ts. freed_on 0 (with_task (task_of claim) ts) m) (sym (without_none tasks))
      ∙ ap (λ ks. freed_on 0 (with_task (task_of claim) (without ks tasks)) m) (sym none)

  -- once its machine is told too
  pub claim_told : (shown : List MachineState) (after : List (Option Need)) (place : ℕ) (value : Option Need) → shown ≡ board.table → IsDistinct nat_eq (numbers_of (machines_of board.table))
      → Some place ≡ position (λ machine. machine.id == claim.machine) (machines_of shown)
      → ((m : Machine) → slice_get (machines_of board.table) place ≡ Some m → m.id ≡ claim.machine → value ≡ freed_on 0 (tasks_with tasks claim) m)
      → after ≡ set frees place value → after ≡ freed_of 0 (record { machines = machines_of board.table; tasks = tasks_with tasks claim })
  claim_told shown after place value same distinct found is written =
      let at = cond_some _ _ _ (sym (subst (λ t. Some place ≡ position (λ machine. machine.id == claim.machine) (machines_of t)) same found)) in
      told_all 0 (tasks_with tasks claim) after (machines_of board.table)
      (told_at (λ id. false) 0 (tasks_with tasks claim) claim.machine board.table shown frees after place value same distinct found
      (λ m here. is m here (eqb-true m.id claim.machine (at_position (λ machine. machine.id == claim.machine) (machines_of board.table) place m at.1 here)))
      written told_else)

  -- or where its machine isn't listed
  pub claim_unlisted : is_listed claim.machine (machines_of board.table) ≡ false → frees ≡ freed_of 0 (record { machines = machines_of board.table; tasks = tasks_with tasks claim })
  claim_unlisted absent =
      told_all 0 (tasks_with tasks claim) frees (machines_of board.table)
      (tells_unlisted (λ id. false) 0 (tasks_with tasks claim) claim.machine frees (machines_of board.table) absent told_else)
