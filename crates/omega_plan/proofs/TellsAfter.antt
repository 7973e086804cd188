-- What an index tells once a cell has changed.
use Rattle.std.proofs.Common.{◌≡◌, ◌≤◌, ◌+◌, ℕ, Bool, false, List, [], ◌∷◌, ◌++◌, length, drop, Option, refl, sym, ap, ◌∙◌, subst, arith}
use Rattle.std.specs.List.{filter}
use Rattle.std.proofs.Math.Bool.{or-false}
use Rattle.std.proofs.lemmas.Bool.{both_ways, or_parts}
use Rattle.std.proofs.lemmas.List.{length-append, length-map}
use Rattle.omega_model.specs.Applying.{PlacesInOrder}
use Rattle.omega_model.specs.Cell.{Cell, is_on}
use Rattle.omega_model.specs.Machines.{is_listed, change, ensured, new_machine, added, updated, removed, attr_set, attr_deleted}
use Rattle.omega_model.specs.State.{step, machines_after}
use Rattle.omega_model.specs.Touches.{is_touched_by}
use Rattle.omega_model.specs.declared.cells.Machine.{Machine}
use Rattle.omega_model.specs.declared.cells.Need.{Need}
use Rattle.omega_model.specs.declared.cells.Task.{Task}
use Rattle.omega_model.specs.declared.claims.Claim.{Claim}
use Rattle.omega_model.specs.declared.entries.Entry.{Entry}
use Rattle.omega_model.specs.declared.entries.Entry.TheVariants.{Round, MachineAdd, MachineUpdate, MachineRemove, AttrSet, AttrDelete, End, Commit}
use Rattle.omega_machines.specs.Table.{machines_of}
use Rattle.omega_running.specs.declared.orders.Order.TheVariants.{ByKey}
use Rattle.omega_running.specs.Order.{IsInOrder}
use Rattle.omega_board.specs.Board.{BoardState, cell_of}
use Rattle.omega_board.specs.Numbers.{is_among}
use Rattle.omega_board.specs.Parts.{ChangedAlone}
use Rattle.omega_board.proofs.Untouched.{tasks_untouched}
use Rattle.omega_plan.specs.Beside.{IsPlacedBeside}
use Rattle.omega_plan.specs.Indexes.{MayTell}
use Rattle.omega_plan.specs.Levels.{GoesTo, LevelsTellBut, NearPlaced, TellsLate, is_behind, no_number}
use Rattle.omega_plan.specs.Overlays.{tasks_with}
use Rattle.omega_plan.specs.Telling.{freed_of, freed_on, is_this_or, TellsBut, placed}
use Rattle.omega_plan.specs.declared.indexes.Indexes.{Indexes}
use Rattle.omega_plan.specs.declared.levels.Level.{Level}
use Rattle.omega_plan.specs.declared.tenants.Tenants.{Tenants}
use Rattle.omega_plan.proofs.Changing.{alone_same, rows_step}
use Rattle.omega_plan.proofs.Tells.{freed_same, tells_placed, tells_while}
use Rattle.omega_model.proofs.Lists.{by_answer, each_map}

-- once machines have changed, and the tasks on them, an index with a place for each tells of those that didn't
-- change and of which it told before
tells_on : (changed early late : ℕ → Bool) (prec : ℕ) → ((id : ℕ) → late id ≡ false → (changed id ≡ false) × (early id ≡ false)) → (old new : List Task)
    → ((id : ℕ) → changed id ≡ false → filter (is_on id) new ≡ filter (is_on id) old) → (frees : List (Option Need)) (before after : List Machine) → ChangedAlone changed before after
    → TellsBut early prec old (placed before frees) before → TellsBut late prec new (placed after frees) after
tells_on changed early late prec fewer old new same [] [] [] alone told = tt
tells_on changed early late prec fewer old new same [] [] (n ∷ ns) alone told =
    (λ fresh. absurd (both_ways _ (fewer n.id fresh).0 alone.0), tells_on changed early late prec fewer old new same [] [] ns alone.1 told)
tells_on changed early late prec fewer old new same [] (m ∷ ms) [] alone told = absurd alone
tells_on changed early late prec fewer old new same [] (m ∷ ms) (n ∷ ns) alone told = (
  λ fresh.
      let known = fewer n.id fresh in
      let row : n ≡ m = alone.0.1 known.0 in
      told.0 (ap (λ (r : Machine). early r.id) (sym row) ∙ known.1)
      ∙ freed_same prec m old new (same m.id (ap (λ (r : Machine). changed r.id) (sym row) ∙ known.0)) ∙ ap (freed_on prec new) (sym row),
  tells_on changed early late prec fewer old new same [] ms ns alone.1 told.1,
)
tells_on changed early late prec fewer old new same (f ∷ fs) [] after alone told = absurd told
tells_on changed early late prec fewer old new same (f ∷ fs) (m ∷ ms) [] alone told = absurd alone
tells_on changed early late prec fewer old new same (f ∷ fs) (m ∷ ms) (n ∷ ns) alone told = (
  λ fresh.
      let known = fewer n.id fresh in
      let row : n ≡ m = alone.0.1 known.0 in
      told.0 (ap (λ (r : Machine). early r.id) (sym row) ∙ known.1)
      ∙ freed_same prec m old new (same m.id (ap (λ (r : Machine). changed r.id) (sym row) ∙ known.0)) ∙ ap (freed_on prec new) (sym row),
  tells_on changed early late prec fewer old new same fs ms ns alone.1 told.1,
)

-- an index that tells all of a cell
pub tells_whole : (stale : ℕ → Bool) (prec : ℕ) (cell : Cell) (frees : List (Option Need)) → frees ≡ freed_of prec cell → TellsBut stale prec cell.tasks (placed cell.machines frees) cell.machines
tells_whole stale prec cell frees is =
    tells_placed stale prec cell.tasks frees cell.machines
    (subst (λ fs. TellsBut stale prec cell.tasks fs cell.machines) (sym is) (tells_while stale prec cell.tasks cell.tasks (λ id out. refl) cell.machines))

-- a level once a cell has gone to another
pub late_goes : (changed : ℕ → Bool) (old new : Cell) (noted : List ℕ) (level : Level) → GoesTo changed old new → TellsLate no_number old noted level → TellsLate changed new noted level
late_goes changed old new noted level goes late = record {
  within = late.within;
  told = tells_on changed (is_behind level.told noted no_number) (is_behind level.told noted changed) level.prec
      (λ id out. let parts = or_parts _ _ out in (parts.1, or-false (is_among (drop level.told noted) id) ∙ parts.0))
      old.tasks new.tasks goes.tasks level.index.free old.machines new.machines goes.rows late.told;
}

-- what may be told of machines tells all else
module _ (changed : ℕ → Bool) (board : BoardState) (indexes : Indexes) (may : MayTell changed board indexes) where
  pub near_told : NearPlaced changed board indexes.index
  near_told = record {
    room = may.room;
    told = tells_on changed no_number changed 0 (λ id out. (out, refl)) may.before.tasks board.tasks may.goes.tasks indexes.index.free may.before.machines (machines_of board.table) may.goes.rows
        (tells_whole no_number 0 may.before indexes.index.free may.tell.free);
  }

  pub levels_near : LevelsTellBut changed (cell_of board) indexes.levels
  levels_near =
      each_map (TellsLate no_number may.before indexes.levels.changed.items) (TellsLate changed (cell_of board) indexes.levels.changed.items)
      (λ level late. late_goes changed may.before (cell_of board) indexes.levels.changed.items level may.goes late) indexes.levels.standing.items may.tell.levels

-- an entry changes what it touches
pub goes_step : (cell : Cell) (entry : Entry) → IsInOrder ByKey cell.tasks → PlacesInOrder cell entry → GoesTo (is_touched_by entry) cell (step cell entry)
goes_step cell entry order places = record { rows = rows_step cell.machines entry; tasks = tasks_untouched cell entry order places }

-- and a claim its machine
pub goes_claim : (board : BoardState) (tenants : Tenants) (claim : Claim) (tasks : List Task) → IsPlacedBeside board tenants claim tasks
    → GoesTo (is_this_or claim.machine no_number) (record { machines = machines_of board.table; tasks = tasks }) (record { machines = machines_of board.table; tasks = tasks_with tasks claim })
goes_claim board tenants claim tasks placed = record { rows = alone_same _ (machines_of board.table); tasks = λ id out. placed.elsewhere id (or_parts _ _ out).0 }

-- an entry brings one more machine at most
few_changed : (id : ℕ) (f : Machine → Machine) (ms : List Machine) → length (change id f (ensured id ms)) ≤ length ms + 1
few_changed id f ms =
    let long : length (change id f (ensured id ms)) ≡ length (ensured id ms) = length-map (ensured id ms) _ in
    by_answer (is_listed id ms)
    (λ t. let same : ensured id ms ≡ ms = rw t refl in omega (arith, long, ap length same))
    (λ f'.
    let more : ensured id ms ≡ ms ++ new_machine id ∷ [] = rw f' refl in
    omega (arith, long, ap length more, length-append ms (new_machine id ∷ [])))

pub few_after : (ms : List Machine) (entry : Entry) → length (machines_after ms entry) ≤ length ms + 1
few_after ms (Round number) = omega arith
few_after ms (MachineAdd machine cap) = few_changed machine (added cap) ms
few_after ms (MachineUpdate machine cap) = few_changed machine (updated cap) ms
few_after ms (MachineRemove machine) = few_changed machine removed ms
few_after ms (AttrSet machine name value) = few_changed machine (attr_set name value) ms
few_after ms (AttrDelete machine name) = few_changed machine (attr_deleted name) ms
few_after ms (End key machine) = omega arith
few_after ms (Commit scheduler seen txn reply) = omega arith
