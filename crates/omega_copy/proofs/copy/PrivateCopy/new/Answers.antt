use Rattle.std.proofs.Common.{◌≡◌, [], take, sym, ap, ◌∙◌, subst, arith}
use Rattle.omega_model.specs.Cell.{Cell}
use Rattle.omega_model.specs.State.{state}
use Rattle.omega_board.specs.Board.{cell_of}
use Rattle.omega_plan.specs.Levels.{LevelsTell}
use Rattle.omega_plan.specs.Telling.{freed_of}
use Rattle.omega_copy.proofs.copy.PrivateCopy.new.Goals as goal

pub returns-clause-seen : goal.returns-clause-seen
returns-clause-seen c = let are = c.new-2.ensures [] in omega (arith, are.within)

pub invariant_of-result : goal.invariant_of-result
invariant_of-result c =
    let are = c.new-2.ensures [] in
    let none : c.new-2.result.seen ≡ 0 = omega (arith, are.within) in
    let same : state (take c.new-2.result.seen []) ≡ cell_of c.new.result = ap (λ n. state (take n [])) none ∙ sym (ap cell_of c.new.ensures) in
    record {
      free = are.free ∙ ap (freed_of 0) same;
      levels = subst (λ (cell : Cell). LevelsTell cell c.new-2.result.levels) same are.levels;
    }
