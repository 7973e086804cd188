use Rattle.std.proofs.Common.{◌≡◌, ◌++◌, map, take, drop}
use Rattle.omega_model.specs.Reply.{withdrawn_for}
use Rattle.omega_cell.proofs.deciding.withdraw.Given as goal

abbrev pub invariant-loop-judgement : goal.invariant-loop-judgement
invariant-loop-judgement l =
    l.judgement-items ≡ map (withdrawn_for l.place) (take l.judgement-index l.fn.judgements.items) ++ drop l.judgement-index l.fn.judgements.items
