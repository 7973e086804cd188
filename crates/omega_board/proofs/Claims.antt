-- A claim that would be placed can be placed, once what it evicts has stopped.
use Rattle.std.proofs.Common.{◌≡◌, ℕ, ◌<◌, true, false, not, ◌&&◌, inl, inr, List, [], ◌∷◌, length, get_or, take, Some, None, is_some, IsTrue, IsSomeAnd, refl, sym, ap, ap₂, ◌∙◌, subst, arith, ◌==◌}
use Rattle.std.specs.Option.{option_map, option_and_then}
use Rattle.std.proofs.lemmas.Bool.{and_parts, both_ways, or_cases}
use Rattle.std.proofs.lemmas.Option.{slice_get-get_or}
use Rattle.omega_model.specs.Need.{Fits, minus}
use Rattle.omega_model.specs.Keys.{same_key, is_among}
use Rattle.omega_model.specs.Cell.{Cell, machine_at, task_at, without, use_on, rest_on}
use Rattle.omega_model.specs.Judge.{is_up, capacity_of, runs_on}
use Rattle.omega_model.specs.declared.cells.Need.{Need}
use Rattle.omega_model.specs.declared.cells.TaskKey.{TaskKey}
use Rattle.omega_model.specs.declared.cells.Task.{Task}
use Rattle.omega_model.specs.declared.claims.Claim.{Claim}
use Rattle.omega_machines.specs.declared.MachineState.{MachineState}
use Rattle.omega_machines.specs.Table.{machines_of, free_if_up, free_at}
use Rattle.omega_machines.proofs.Laws.{machine_of_state}
use Rattle.omega_board.specs.Board.{IsBoard}
use Rattle.omega_board.specs.Putting.{HasRoomFor}
use Rattle.omega_board.proofs.Tasks.{found_still}
use Rattle.omega_board.proofs.Boards.{in_use, state_up}
use Rattle.omega_board.proofs.Parts.{not_refused}
use Rattle.omega_board.proofs.Placed.{IsPlaced}
use Rattle.omega_model.proofs.Amounts.{fits_tested, rest_is}
use Rattle.omega_model.proofs.Lists.{by_answer, find_none, filter_every, each_of, each_filter, each_absent}

-- nothing goes
pub without_none : (tasks : List Task) → without [] tasks ≡ tasks
without_none tasks = filter_every (λ task. not (is_among task.key [])) tasks (each_of _ (λ task. refl) tasks)

-- a task that doesn't run doesn't when others stopped
pub absent_still : (keys : List TaskKey) (tasks : List Task) (key : TaskKey) → task_at tasks key ≡ None → task_at (without keys tasks) key ≡ None
absent_still keys tasks key none =
    find_none (λ y. same_key y.key key) (without keys tasks)
    (each_filter (λ y. same_key y.key key ≡ false) (λ y. not (is_among y.key keys)) tasks (each_absent (λ y. same_key y.key key) tasks none))

-- a task that runs on a machine runs
runs_there : (tasks : List Task) (id : ℕ) (key : TaskKey) → runs_on tasks id key ≡ true → IsTrue (is_some (task_at tasks key))
runs_there [] id key runs = absurd (both_ways false refl runs)
runs_there (t ∷ tasks) id key runs =
    by_answer (same_key t.key key)
    (λ same. rw same refl)
    (λ other. rw other (elim (or_cases (t.machine == id && same_key t.key key) (runs_on tasks id key) runs) [
      | inl here ↦ absurd (both_ways _ other (and_parts _ _ here).1)
      | inr behind ↦ runs_there tasks id key behind
    ]))

module _ (cell : Cell) (claim : Claim) (evicted : List TaskKey) (known : IsPlaced cell claim evicted) where
  -- each task that is evicted runs until it is its turn
  pub evicted_runs : (i : ℕ) (key : TaskKey) → i < length evicted → get_or evicted i key ≡ key → IsTrue (is_some (task_at (without (take i evicted) cell.tasks) key))
  evicted_runs i key below is =
      let there = known.stand i key (slice_get-get_or evicted i key below ∙ ap Some is) in
      ap is_some (found_still (take i evicted) cell.tasks key there.1) ∙ runs_there cell.tasks claim.machine key there.0

  -- then there is room for the task
  pub claim_fits : (after : Cell) → after.machines ≡ cell.machines → after.tasks ≡ without evicted cell.tasks
      → HasRoomFor after (record { key = claim.key; machine = claim.machine; spec = claim.spec })
  claim_fits after machines left =
      let machine = ap (λ ms. machine_at ms claim.machine) machines in
      let amount : use_on after.tasks claim.machine ≡ rest_on cell.tasks claim.machine evicted =
      ap (λ ts. use_on ts claim.machine) left ∙ sym (rest_is cell.tasks claim.machine evicted) in
      record {
        up = ap is_up machine ∙ not_refused (is_up (machine_at cell.machines claim.machine)) known.up;
        fits = subst (Fits claim.spec.need) (sym (ap₂ minus (ap capacity_of machine) amount)) (fits_tested _ _ known.fits);
      }

-- a machine on which there is room for a task has so much free
pub room_free : (table : List MachineState) (tasks : List Task) → IsBoard table tasks → (task : Task) → HasRoomFor (record { machines = machines_of table; tasks = tasks }) task
    → IsSomeAnd (free_at table task.machine) (λ free. Fits task.spec.need free)
room_free table tasks kept task room =
    let known = state_up table task.machine room.up in
    let counted = (in_use table tasks kept task.machine known.0 known.1).1 in
    let free : free_at table task.machine ≡ Some known.0.free = ap (option_and_then free_if_up) known.1 ∙ rw known.2 refl in
    let cap : capacity_of (machine_at (machines_of table) task.machine) ≡ known.0.machine.cap =
    ap capacity_of (machine_of_state table task.machine ∙ ap (option_map (λ (s : MachineState). s.machine)) known.1) in
    let fits : Fits task.spec.need (minus known.0.machine.cap (use_on tasks task.machine)) =
    subst (λ n. Fits task.spec.need (minus n (use_on tasks task.machine))) cap room.fits in
    subst (λ o. IsSomeAnd o (λ free. Fits task.spec.need free)) (sym free) (
      omega (arith, fits.0, ap (λ (n : Need). n.cpu) counted),
      (omega (arith, fits.1.0, ap (λ (n : Need). n.mem) counted), omega (arith, fits.1.1, ap (λ (n : Need). n.disk) counted)),
    )
