use Rattle.std.proofs.Common.{List, Result, Ok, Err, ◌≡◌, sym, subst}
use Rattle.std.specs.Result.{OnOk, OnErr}
use Rattle.omega_model.specs.declared.list.NoMemory.{NoMemory}
use Rattle.omega_machines.specs.declared.MachineState.{MachineState}
use Rattle.omega_machines.specs.Table.{IsTable, ensured_states}
use Rattle.omega_board.specs.Board.{IsBoard}
use Rattle.omega_board.proofs.Boards.{ensured_board}
use Rattle.omega_board.proofs.board.Board.list.Goals as goal

pub invariant_of-self : goal.invariant_of-self
invariant_of-self c = by c.ensure.result c.ensure.ensures.ok c.ensure.ensures.err
  where
    next : List MachineState
    next = c.ensure.new.self

    by : (r : Result (Unit {0}) NoMemory) → OnOk r (next ≡ ensured_states c.args.id c.self.inside.table) → OnErr r (next ≡ c.self.inside.table) → IsBoard next c.self.inside.running.tasks
    by (Ok u) ok err =
        subst (λ table. IsBoard table c.self.inside.running.tasks) (sym ok)
        (ensured_board _ _ c.self.invariant c.args.id (subst IsTable ok c.ensure.ensures.table))
    by (Err e) ok err = subst (λ table. IsBoard table c.self.inside.running.tasks) (sym err) c.self.invariant
