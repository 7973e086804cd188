-- Levels that are told when they are asked for, and the machines that are noted until then.
use Rattle.std.proofs.Common.{◌≡◌, ◌+◌, ◌||◌, ◌==◌, ℕ, Bool, true, false, List, [], ◌∷◌, ◌++◌, length, drop, sym, ap, ap₂, ◌∙◌, subst, arith, if◌then◌else◌}
use Rattle.std.specs.List.{list_any, remove, AllByRecursion as Each}
use Rattle.std.proofs.lemmas.Bool.{or_parts}
use Rattle.std.proofs.lemmas.List.{drop-append-le, length-append}
use Rattle.std.proofs.lemmas.List.Folds.{list_any-append}
use Rattle.omega_model.specs.Cell.{Cell}
use Rattle.omega_model.proofs.Lists.{each_append, each_map}
use Rattle.omega_plan.specs.Levels.{LevelsTellBut, Tells, TellsLate, is_behind, no_number}
use Rattle.omega_plan.specs.Telling.{is_this_or, placed}
use Rattle.omega_plan.specs.declared.levels.Level.{Level}
use Rattle.omega_plan.specs.declared.levels.Levels.{Levels}
use Rattle.omega_plan.proofs.Tells.{tells_where}
use Rattle.omega_plan.proofs.TellsAfter.{tells_whole}

-- levels tell as much where as much is left out
pub levels_where : (s t : ℕ → Bool) → ((id : ℕ) → t id ≡ false → s id ≡ false) → (cell : Cell) (levels : Levels) → LevelsTellBut s cell levels → LevelsTellBut t cell levels
levels_where s t fewer cell levels tell =
    let noted = levels.changed.items in
    each_map (TellsLate s cell noted) (TellsLate t cell noted)
    (λ level late. record {
      within = late.within;
      told = tells_where (is_behind level.told noted s) (is_behind level.told noted t)
          (λ id out. let parts = or_parts _ _ out in ap₂ (λ (a b : Bool). a || b) parts.0 (fewer id parts.1))
          level.prec cell.tasks (placed cell.machines level.index.free) cell.machines late.told;
    }) levels.standing.items tell

-- a machine that is left out may be noted instead
late_noted : (machine : ℕ) (stale : ℕ → Bool) (cell : Cell) (noted more : List ℕ) (level : Level) → more ≡ noted ++ machine ∷ [] → TellsLate (is_this_or machine stale) cell noted level
    → TellsLate stale cell more level
late_noted machine stale cell noted more level is late =
    let long : length more ≡ length noted + 1 = ap length is ∙ length-append noted (machine ∷ []) in
    let behind : drop level.told more ≡ drop level.told noted ++ machine ∷ [] = ap (drop level.told) is ∙ drop-append-le level.told noted (machine ∷ []) late.within in
    record {
      within = omega (arith, late.within, long);
      told = tells_where (is_behind level.told noted (is_this_or machine stale)) (is_behind level.told more stale)
          (λ id out.
          let parts = or_parts _ _ out in
          let both = or_parts _ _ (sym (list_any-append (λ other. other == id) (drop level.told noted) (machine ∷ [])) ∙ ap (list_any (λ other. other == id)) (sym behind) ∙ parts.0) in
          ap₂ (λ (a b : Bool). a || b) both.0 (ap₂ (λ (a b : Bool). a || b) (or_parts _ _ both.1).0 parts.1))
          level.prec cell.tasks (placed cell.machines level.index.free) cell.machines late.told;
    }

pub levels_noted : (machine : ℕ) (stale : ℕ → Bool) (cell : Cell) (levels : Levels) (more : List ℕ) → more ≡ levels.changed.items ++ machine ∷ [] → LevelsTellBut (is_this_or machine stale) cell levels
    → Each (TellsLate stale cell more) levels.standing.items
levels_noted machine stale cell levels more is tell =
    each_map (TellsLate (is_this_or machine stale) cell levels.changed.items) (TellsLate stale cell more)
    (λ level late. late_noted machine stale cell levels.changed.items more level is late) levels.standing.items tell

-- a level that tells all was told of all that is noted
pub late_whole : (cell : Cell) (noted : List ℕ) (level : Level) → level.told ≡ length noted → Tells cell level → TellsLate no_number cell noted level
late_whole cell noted level is tells = record {
  within = omega (arith, is);
  told = tells_whole (is_behind level.told noted no_number) level.prec cell level.index.free tells;
}

-- what holds of each holds of those behind the first
pub each_rest : {X : Type 0} (P : X → Type 0) (xs : List X) → Each P xs → Each P (remove xs 0)
each_rest P [] each = tt
each_rest P (x ∷ xs) each = each.1

-- and once one more was put behind them, if it was
pub each_pushed : {X : Type 0} (P : X → Type 0) (xs more : List X) (x : X) (b : Bool) → more ≡ (if b then xs ++ x ∷ [] else xs) → P x → Each P xs → Each P more
each_pushed P xs more x true is here each = subst (Each P) (sym is) (each_append P xs (x ∷ []) each (here, tt))
each_pushed P xs more x false is here each = subst (Each P) (sym is) each
