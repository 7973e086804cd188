-- What is asked of the victims that stand, one after the other.
use Rattle.std.proofs.Common.{◌≡◌, ℕ, true, nat_le, List, [], ◌∷◌, ◌++◌, Some, None, is_some, refl, sym, ap, ◌∙◌, if◌then◌else◌}
use Rattle.std.specs.List.{find}
use Rattle.std.specs.Option.{option_or}
use Rattle.std.proofs.lemmas.Bool.{and_parts, not-true}
use Rattle.omega_model.specs.Fields.{greatest}
use Rattle.omega_model.specs.Need.{Fits, plus}
use Rattle.omega_model.specs.Cell.{task_at}
use Rattle.omega_model.specs.Judge.{withstands}
use Rattle.omega_model.specs.declared.cells.Need.{Need}
use Rattle.omega_model.specs.declared.cells.Task.{Task}
use Rattle.omega_model.specs.declared.cells.TaskKey.{TaskKey}
use Rattle.omega_machines.specs.Table.{free_at}
use Rattle.omega_board.specs.declared.judging.StandingVictims.{StandingVictims}
use Rattle.omega_board.specs.Board.{BoardState, IsBoard}
use Rattle.omega_board.proofs.Parts.{IsFreed, freed_none, freed_push, freed_bounded, withstands_push}
use Rattle.omega_board.proofs.Standing.{stands_behind}

-- what is told of victims that stand: the first that withstands this precedence, and what is free once they are off the machine
abbrev pub IsTold : BoardState → ℕ → ℕ → List TaskKey → StandingVictims → Type 0
IsTold board id prec keys told = (told.withstands ≡ find (withstands board.tasks prec) keys) × IsFreed board id keys told.free

module _ (board : BoardState) (kept : IsBoard board.table board.tasks) (id : ℕ) (free : Need) (at : free_at board.table id ≡ Some free) (prec : ℕ) where
  pub told_none : IsTold board id prec [] (record { withstands = None; free = free })
  told_none = (refl, freed_none board kept id free at)

  module _ (keys : List TaskKey) (key : TaskKey) (task : Task) (found : task_at board.tasks key ≡ Some task) (behind : true ≡ stands_behind board.tasks id keys key) (told : StandingVictims) (so : IsTold board id prec keys told) where
    freed : IsFreed board id (keys ++ key ∷ []) (plus told.free task.spec.need)
    freed =
        let parts = and_parts _ _ (sym behind) in
        freed_push board kept id keys key task parts.0 found (not-true _ parts.1) told.free so.1

    -- with one more victim that stands behind them
    pub told_more : IsTold board id prec (keys ++ key ∷ []) (record { withstands = option_or told.withstands (if nat_le prec task.spec.prec then Some task.key else None); free = plus told.free task.spec.need })
    told_more =
        (ap (λ first. option_or first (if nat_le prec task.spec.prec then Some task.key else None)) so.0 ∙ withstands_push board.tasks prec keys key task kept.ordered found, freed)

    -- which stays within what a machine has
    pub told_fits : Fits (plus told.free task.spec.need) greatest
    told_fits = freed_bounded board kept id (keys ++ key ∷ []) (plus told.free task.spec.need) (ap is_some at) freed
